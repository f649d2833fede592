use Rattle.vb_event.proofs.Counts.{sound-as}
use Rattle.vb_event.proofs.laws.counts_of_faults_may_be_lower.Goals as goal

pub returns : goal.returns
returns c = sound-as
