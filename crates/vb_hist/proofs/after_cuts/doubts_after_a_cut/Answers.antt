use Rattle.vb_hist.proofs.Followed.{doubt-above, doubt-cut, publication-after_cut}
use Rattle.vb_hist.proofs.after_cuts.doubts_after_a_cut.Goals as goal

pub returns-clause-doubt : goal.returns-clause-doubt
returns-clause-doubt c = doubt-cut

pub returns-clause-above : goal.returns-clause-above
returns-clause-above c = λ o history doubt legal behind is. let a = doubt-above o history doubt legal behind is in (a.0, a.1.1)

pub returns-clause-publication : goal.returns-clause-publication
returns-clause-publication c = λ o history epoch doubt limits legal behind is not. publication-after_cut o history epoch doubt limits legal behind is not
