use Rattle.vb_store.proofs.CrashesOfMounts.{metadata-recovering}
use Rattle.vb_store.proofs.recovered_stores.each_crash_of_a_mount_leaves_the_metadata.Goals as goal

pub returns : goal.returns
returns c = metadata-recovering
