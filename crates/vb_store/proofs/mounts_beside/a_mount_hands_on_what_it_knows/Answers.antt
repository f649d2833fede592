use Rattle.vb_store.proofs.PhasesBeside.{mount-ended, mount-homes, mount-image, mount-view}
use Rattle.vb_store.proofs.mounts_beside.a_mount_hands_on_what_it_knows.Goals as goal

pub returns-clause-homes : goal.returns-clause-homes
returns-clause-homes c = mount-homes

pub returns-clause-ended : goal.returns-clause-ended
returns-clause-ended c = mount-ended

pub returns-clause-image : goal.returns-clause-image
returns-clause-image c = mount-image

pub returns-clause-view : goal.returns-clause-view
returns-clause-view c = mount-view
