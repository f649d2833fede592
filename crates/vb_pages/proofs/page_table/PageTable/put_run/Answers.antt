use Rattle.std.proofs.Common.{OnOk, subst}
use Rattle.vb_pages.specs.Tables.{PutsRun}
use Rattle.vb_pages.proofs.RunLoops.{on_ok, PutsRun-from}
use Rattle.vb_pages.proofs.page_table.PageTable.put_run.Goals as goal

pub returns-clause-ok : goal.returns-clause-ok
returns-clause-ok c =
    let new = c.put_run.new.entries.entries in
    subst (λ old. OnOk c.put_run.result (PutsRun old new c.args.slot c.args.first c.args.run.items)) c.self.view_is
    (on_ok c.put_run.result (PutsRun-from c.self.inside.entries.entries new c.args.slot c.args.first c.args.run.items) c.put_run.ensures.ok)
