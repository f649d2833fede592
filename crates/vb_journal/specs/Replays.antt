-- The part of a commit that a recovery makes.
use Rattle.std.specs.Prelude.{Bool, true, false}
use Rattle.vb_journal.specs.declared.commit_stage.Stage.{Stage}
use Rattle.vb_journal.specs.declared.commit_stage.Stage.TheVariants.{Journal, Opening, Homes, Closing, Rested}

-- whether images are taken home, or heads closed
abbrev pub is_late : Stage → Bool
is_late (Journal next) = false
is_late (Opening turn) = false
is_late (Homes next) = true
is_late (Closing turn) = true
is_late Rested = false
