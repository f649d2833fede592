use Rattle.std.proofs.Common.{◌≤◌}
use Rattle.vb_store.specs.Mounts.{blocks_of_mount, mount_phase}
use Rattle.vb_folder.proofs.tests.mounted_on.Given as goal

abbrev pub invariant-steps : goal.invariant-steps
invariant-steps g l = blocks_of_mount (mount_phase l.mount) ≤ g.D.Disk.seen l.mount.disk
