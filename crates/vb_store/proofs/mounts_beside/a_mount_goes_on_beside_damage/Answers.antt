use Rattle.vb_store.proofs.PhasesBeside.{mount-begins, mount-crashed, mount-kept, mount-recovers, mount-refused}
use Rattle.vb_store.proofs.mounts_beside.a_mount_goes_on_beside_damage.Goals as goal

pub returns-clause-begins : goal.returns-clause-begins
returns-clause-begins c = mount-begins

pub returns-clause-damage : goal.returns-clause-damage
returns-clause-damage c = mount-kept

pub returns-clause-recovers : goal.returns-clause-recovers
returns-clause-recovers c = mount-recovers

pub returns-clause-crash : goal.returns-clause-crash
returns-clause-crash c = mount-crashed

pub returns-clause-ready : goal.returns-clause-ready
returns-clause-ready c = λ views made ready d is. is

pub returns-clause-refused : goal.returns-clause-refused
returns-clause-refused c = mount-refused
