use Rattle.vb_event.proofs.Runs.{promise-passed, promise-run, sound-run}
use Rattle.vb_event.proofs.laws.runs_keep_the_promise.Goals as goal

pub returns-clause-sound : goal.returns-clause-sound
returns-clause-sound c = sound-run

pub returns-clause-promise : goal.returns-clause-promise
returns-clause-promise c = promise-run

pub returns-clause-moments : goal.returns-clause-moments
returns-clause-moments c = promise-passed
