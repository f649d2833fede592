-- When a call of an object of the outside may fail.
use Rattle.std.specs.Prelude.{ℕ, ◌≤◌, ◌<◌, Option, unwrap_or, IsSome, Result, IsErrOf}
use Rattle.vb_cause.specs.Faults.{HasRisen}

-- the count of faults never falls, and this error comes only where it rose in this call
pub record HasCause {T E : Type 0} (error : E) (before after : ℕ) (result : Result T E) : Type 0 where
  pub kept : before ≤ after
  pub failed : IsErrOf result error → HasRisen before after

-- how many failures may still come, where that is told
abbrev pub left_of : Option ℕ → ℕ
left_of left = unwrap_or left 0

-- where it was told how many failures may still come, it still is; they became no more, and fewer where this call
-- answered this error. So with none left it doesn't come.
pub record UsesFailures {T E : Type 0} (error : E) (before after : Option ℕ) (result : Result T E) : Type 0 where
  pub told : IsSome before → IsSome after
  pub kept : IsSome before → left_of after ≤ left_of before
  pub used : IsSome before → IsErrOf result error → left_of after < left_of before
