use Rattle.vb_hist.specs.Legal.{marks_of}
use Rattle.vb_hist.specs.Openings.{opening_of}
use Rattle.vb_hist.proofs.Going.{continued, folder_at-on, goes_on, goes_on-legal, published_tree-on, surviving-on}
use Rattle.std.proofs.Common.{◌++◌}
use Rattle.vb_hist.proofs.going_on.histories_go_on.Goals as goal

pub returns-clause-legal : goal.returns-clause-legal
returns-clause-legal c = goes_on-legal

pub returns-clause-survives : goal.returns-clause-survives
returns-clause-survives c = λ o history later whole. surviving-on o.start history later whole

pub returns-clause-folder : goal.returns-clause-folder
returns-clause-folder c = λ o history later disk_faults link_faults makes whole. (continued o history later disk_faults link_faults makes whole).folder

pub returns-clause-marks : goal.returns-clause-marks
returns-clause-marks c = λ o history later disk_faults link_faults makes whole.
    goes_on (marks_of o history).doubt (marks_of (opening_of o history disk_faults link_faults) later) (marks_of o (history ++ later))
    (continued o history later disk_faults link_faults makes whole).marks

pub returns-clause-folder_at : goal.returns-clause-folder_at
returns-clause-folder_at c = folder_at-on

pub returns-clause-published_tree : goal.returns-clause-published_tree
returns-clause-published_tree c = published_tree-on
