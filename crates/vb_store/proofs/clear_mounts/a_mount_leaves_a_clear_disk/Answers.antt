use Rattle.vb_store.proofs.ClearMounts.{IsClear-moments, IsClear-mounting}
use Rattle.vb_store.proofs.clear_mounts.a_mount_leaves_a_clear_disk.Goals as goal

pub returns-clause-stage : goal.returns-clause-stage
returns-clause-stage c = IsClear-mounting

pub returns-clause-moments : goal.returns-clause-moments
returns-clause-moments c = IsClear-moments
