-- Steps that may find a line at fault.
use Rattle.std.specs.Prelude.{Bool, true, false, Option, Some, None, Result, Ok, Err}
use Rattle.vb_script.specs.declared.error.LineKind.{LineKind}

-- why a line isn't read: it is wrong, or it is a valid `schedule` line, which isn't read yet
pub data Fault : Type 0 where
  Wrong : (kind : LineKind) → Fault
  NotYet : Fault

infixl 10 ◌>>=◌
-- the next step, where nothing is at fault so far
abbrev pub ◌>>=◌ : {A B : Type 0} → Result A Fault → (A → Result B Fault) → Result B Fault
(Ok value) >>= step = step value
(Err fault) >>= step = Err fault

-- the value, and this kind of wrong line where there is none
abbrev pub or_wrong : {A : Type 0} → LineKind → Option A → Result A Fault
or_wrong kind None = Err (Wrong kind)
or_wrong kind (Some value) = Ok value

-- what comes next where the test holds, and else this kind of wrong line
abbrev pub provided : {A : Type 0} → LineKind → Bool → Result A Fault → Result A Fault
provided kind true next = next
provided kind false next = Err (Wrong kind)
