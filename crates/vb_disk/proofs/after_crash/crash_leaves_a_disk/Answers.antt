use Rattle.vb_disk.proofs.CrashedDisks.{IsDiskState-crashed}
use Rattle.vb_disk.proofs.after_crash.crash_leaves_a_disk.Goals as goal

pub returns : goal.returns
returns c = IsDiskState-crashed
