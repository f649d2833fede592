use Rattle.vb_commit.proofs.WayLaws.{run-known}
use Rattle.vb_commit.proofs.laws.each_run_of_a_commit_stays_known.Goals as goal

pub returns : goal.returns
returns c source homes journal plan s last d end events is known run = run-known source homes journal plan s last d end events is known run
