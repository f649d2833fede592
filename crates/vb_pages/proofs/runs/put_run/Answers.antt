use Rattle.std.proofs.Common.{sym, ◌∙◌}
use Rattle.vb_pages.proofs.Same.{same_tables}
use Rattle.vb_pages.proofs.runs.put_run.Goals as goal

pub returns-in-Err-clause-err : goal.returns-in-Err-clause-err
returns-in-Err-clause-err c =
    let old = c.args.entries.now.entries in
    same_tables old c.put_back.new.entries.entries c.len.ensures.ordered c.len-in-Err.ensures.ordered (λ q. c.put_back.ensures q ∙ sym (c.in-Err.ensures.noted q))
