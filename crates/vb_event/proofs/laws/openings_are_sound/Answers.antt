use Rattle.vb_event.proofs.Opened.{opened-recovers, opened-shown, opened-sound}
use Rattle.vb_event.proofs.laws.openings_are_sound.Goals as goal

pub returns-clause-history : goal.returns-clause-history
returns-clause-history c = opened-sound

pub returns-clause-cloud : goal.returns-clause-cloud
returns-clause-cloud c = opened-shown

pub returns-clause-tree : goal.returns-clause-tree
returns-clause-tree c = opened-recovers
