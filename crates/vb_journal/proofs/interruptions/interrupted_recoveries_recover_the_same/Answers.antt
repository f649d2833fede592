use Rattle.vb_journal.proofs.Interrupted.{interrupted}
use Rattle.vb_journal.proofs.interruptions.interrupted_recoveries_recover_the_same.Goals as goal

pub returns : goal.returns
returns c begun interruptions are = interrupted begun interruptions are
