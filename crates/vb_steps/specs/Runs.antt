-- Whole runs of a machine over a disk that tells, in which calls may fail.
use Rattle.std.specs.Prelude.{◌≡◌, List, [], ◌∷◌}
use Rattle.vb_disk.specs.States.{DiskState}
use Rattle.vb_steps.specs.declared.due.Got.{Got}
use Rattle.vb_steps.specs.Calls.{Call, MayFailTo, after, answer_of}

-- what came of a step: its call was made, or it failed and left this
pub data Event : Type 0 where
  Made : Event
  Lost : (left : DiskState) → Event

-- these events lead a machine, that has this call due at each stage and goes on so, from a stage and a disk to others
abbrev pub IsRun : {S : Type 0} → (S → Call) → (S → Got → S) → S → DiskState → List Event → S → DiskState → Type 0
IsRun call next s d [] t e = (t ≡ s) × (e ≡ d)
IsRun call next s d (Made ∷ events) t e = IsRun call next (next s (answer_of d (call s))) (after d (call s)) events t e
IsRun call next s d (Lost left ∷ events) t e = MayFailTo (call s) d left × IsRun call next s left events t e
