use Rattle.vb_journal.proofs.ChoicesOf.{choices-crashed}
use Rattle.vb_store.proofs.OneOfThem.{RecoversOneOf-fewer}
use Rattle.vb_store.proofs.StepsBeside.{IsBeside-damaged, IsBeside-failed, IsBeside-next}
use Rattle.vb_store.proofs.beside.a_recovery_goes_on_beside_damage.Goals as goal

pub returns-clause-begins : goal.returns-clause-begins
returns-clause-begins c views made d recovers = record { known = tt; recovers = recovers }

pub returns-clause-damage : goal.returns-clause-damage
returns-clause-damage c = IsBeside-damaged

pub returns-clause-call : goal.returns-clause-call
returns-clause-call c = IsBeside-next

pub returns-clause-failed : goal.returns-clause-failed
returns-clause-failed c = IsBeside-failed

pub returns-clause-crash : goal.returns-clause-crash
returns-clause-crash c views made view d new is crash = RecoversOneOf-fewer views made new d (choices-crashed d new crash) is.recovers

pub returns-clause-refused : goal.returns-clause-refused
returns-clause-refused c views made why d is = is.known
