use Rattle.vb_journal.proofs.AfterRecoveries.{EachRecovers-known}
use Rattle.vb_journal.proofs.Interrupted.{steady}
use Rattle.vb_journal.proofs.interruptions.each_crash_of_a_recovery_recovers.Goals as goal

pub returns-clause-may : goal.returns-clause-may
returns-clause-may c stage begun d new is crash = EachRecovers-known stage begun d is new crash

pub returns-clause-same : goal.returns-clause-same
returns-clause-same c stage begun d new is going crash = steady stage begun d new is going crash

pub returns-clause-settled : goal.returns-clause-settled
returns-clause-settled c d new crash place = (crash.each place).alone
