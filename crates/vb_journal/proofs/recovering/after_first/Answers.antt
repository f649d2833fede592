use Rattle.std.proofs.Common.{◌∙◌, sym}
use Rattle.vb_journal.proofs.HeadReads.{unsealed-differs}
use Rattle.vb_journal.proofs.recovering.after_first.Goals as goal

pub invariant_of-result : goal.invariant_of-result
invariant_of-result c = record {
  good = λ h is. (c.read_head-read.ensures.spelled h is).1;
  differ = λ kept found is. unsealed-differs c.args.page.now kept found (sym c.read_head-read.ensures.read ∙ is);
}
