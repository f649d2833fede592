use Rattle.std.proofs.Common.{inr}
use Rattle.vb_hist.proofs.Followed.{folder-cut, legal_cut-marks, legal_cut-not_below, marks-cut}
use Rattle.vb_hist.proofs.after_cuts.marks_after_a_cut.Goals as goal

pub returns-clause-marks : goal.returns-clause-marks
returns-clause-marks c = λ o history epoch limits legal frozen above. marks-cut o history epoch limits legal frozen (inr above)

pub returns-clause-legal : goal.returns-clause-legal
returns-clause-legal c = legal_cut-marks

pub returns-clause-folder : goal.returns-clause-folder
returns-clause-folder c = folder-cut

pub returns-clause-not_below : goal.returns-clause-not_below
returns-clause-not_below c = legal_cut-not_below
