-- How the view that a cloud shows goes on.
use Rattle.std.specs.Prelude.{◌≡◌, ◌≤◌}
use Rattle.vb_cloud.specs.Machine.{CloudState}

-- the shown epoch didn't fall, and where it is the same, so is the view
pub record RisesTo (before after : CloudState) : Type 0 where
  pub never_falls : before.epoch ≤ after.epoch
  pub same_view : after.epoch ≡ before.epoch → after.tree ≡ before.tree
