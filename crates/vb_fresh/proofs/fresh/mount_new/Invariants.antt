use Rattle.vb_store.specs.MountFalls.{most_mount_calls}
use Rattle.vb_store.specs.Mounts.{mount_phase}
use Rattle.vb_fresh.proofs.NewMounts.{IsNewMount}
use Rattle.vb_fresh.proofs.fresh.mount_new.Given as goal

abbrev pub invariant-steps : goal.invariant-steps
invariant-steps l = IsNewMount l.fn.id l.blocks l.nodes (mount_phase l.mount) l.mount.disk

abbrev pub decreases-steps : goal.decreases-steps
decreases-steps l = most_mount_calls (mount_phase l.mount)
