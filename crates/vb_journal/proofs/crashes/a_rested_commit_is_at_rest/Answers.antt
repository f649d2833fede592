use Rattle.vb_journal.proofs.Resting.{IsAtRest-rested}
use Rattle.vb_journal.proofs.crashes.a_rested_commit_is_at_rest.Goals as goal

pub returns : goal.returns
returns c head epoch images homes journal d can is = IsAtRest-rested head epoch images homes journal d can.images_are is
