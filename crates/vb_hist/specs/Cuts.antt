-- What a cut makes of marks.
use Rattle.std.specs.Prelude.{◌≡◌, ℕ, ◌<◌, IfSome, Some, None}
use Rattle.vb_tree.specs.declared.tree.Limits.{Limits}
use Rattle.vb_hist.specs.declared.entry.Stage.TheVariants.{Rested}
use Rattle.vb_hist.specs.declared.marks.Marks.{Marks}
use Rattle.vb_hist.specs.Legal.{waiting_view}

-- the marks after a cut to this epoch in a store of these limits: the epoch is the last, no commit is on, its view stands
-- where it is above the published epoch, which stays, and the limits are the cut's
pub record IsCutBack (before : Marks) (epoch : ℕ) (limits : Limits) (after : Marks) : Type 0 where
  pub last : after.last ≡ epoch
  pub stage : after.stage ≡ Rested
  pub standing : after.standing ≡ waiting_view epoch before.published
  pub published : after.published ≡ before.published
  pub limits_are : after.limits ≡ limits

-- which doubt outlives a cut to this epoch: one below the epoch, and none comes where none was; of a later one nothing is
-- left but an older doubt, which is below the epoch
pub record HasDoubtBelow (before : Marks) (epoch : ℕ) (after : Marks) : Type 0 where
  pub stays : (doubt : ℕ) → before.doubt ≡ Some doubt → doubt < epoch → after.doubt ≡ Some doubt
  pub none : before.doubt ≡ None → after.doubt ≡ None
  pub below : IfSome after.doubt (λ doubt. doubt < epoch)
