use Rattle.vb_store.proofs.CrashesOfClear.{IsClear-crashed}
use Rattle.vb_store.proofs.clear_disks.a_crash_leaves_a_clear_disk.Goals as goal

pub returns : goal.returns
returns c = IsClear-crashed
