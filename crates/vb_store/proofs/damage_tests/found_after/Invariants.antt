use Rattle.std.proofs.Common.{◌≤◌}
use Rattle.vb_disk.specs.Memory.{state_of}
use Rattle.vb_store.specs.Mounts.{blocks_of_mount, mount_phase}
use Rattle.vb_store.proofs.damage_tests.found_after.Given as goal

abbrev pub invariant-steps : goal.invariant-steps
invariant-steps l = blocks_of_mount (mount_phase l.mount) ≤ (state_of l.mount.disk).size
