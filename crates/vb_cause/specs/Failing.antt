-- Calls that are to fail, in the order in which they were listed.
use Rattle.std.specs.Prelude.{ℕ, ◌-◌, nat_lt, ◌==◌, if◌then◌else◌, List, [], ◌∷◌, ◌++◌, map, Option, Some, None}
use Rattle.std.specs.List.{filter}
use Rattle.vb_cause.specs.declared.failures.Failure.{Failure}

-- how the next call fails: the first that is listed for it counts
abbrev pub due_of : {T : Type 0} → List (Failure T) → Option T
due_of [] = None
due_of (f ∷ fs) = if f.nth == 1 then Some f.how else due_of fs

-- one call nearer
abbrev pub nearer : {T : Type 0} → Failure T → Failure T
nearer f = record { nth = f.nth - 1; how = f.how }

-- after a call: those that were listed for it are used up, and the others are one call nearer
abbrev pub passed : {T : Type 0} → List (Failure T) → List (Failure T)
passed fs = map nearer (filter (λ f. nat_lt 1 f.nth) fs)

-- with one more at the end; a call 0 is none
abbrev pub with_failure : {T : Type 0} → List (Failure T) → ℕ → T → List (Failure T)
with_failure fs nth how = if nth == 0 then fs else fs ++ record { nth = nth; how = how } ∷ []
