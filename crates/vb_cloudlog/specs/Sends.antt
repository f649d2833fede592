-- What an append leaves of a log.
use Rattle.std.specs.Prelude.{◌≡◌, ℕ, Bool, true, false, if◌then◌else◌, List, ◌++◌, take, Option, Some, Result, Ok, Err}
use Rattle.vb_cause.specs.Faults.{counted}
use Rattle.vb_disk.specs.declared.log_file.LogError.{LogError}
use Rattle.vb_disk.specs.declared.log_file.LogError.TheVariants.{Failed, Memory}
use Rattle.vb_link.specs.declared.link_error.LinkError.{LinkError}
use Rattle.vb_link.specs.declared.link_error.LinkError.TheVariants as link
use Rattle.vb_msg.specs.declared.message.Msg.{Msg}
use Rattle.vb_msg.specs.declared.message.Msg.TheVariants.{Claim, Begin, Object, Part, Seal, Enter, Keep, Publish}

-- the frame stands behind the bytes of the log, or some front of it where the append or the sync failed, or none of it for
-- want of memory
abbrev pub AppendsTo : List ℕ → List ℕ → Option (List ℕ) → Result (Unit {0}) LogError → Type 0
AppendsTo all frame told (Ok done) = told ≡ Some (all ++ frame)
AppendsTo all frame told (Err Failed) = (kept : ℕ) × (told ≡ Some (all ++ take kept frame))
AppendsTo all frame told (Err Memory) = told ≡ Some all

-- whether the frame of a message has to last before its answer
abbrev pub has_to_last : Msg → Bool
has_to_last (Claim id) = false
has_to_last (Begin epoch) = false
has_to_last Object = false
has_to_last (Part bytes) = false
has_to_last Seal = false
has_to_last (Enter path kind) = false
has_to_last (Keep path origin) = false
has_to_last (Publish epoch) = true

-- the calls of a log after a frame was appended: one more, and two where it has to last
abbrev pub calls_after : Bool → ℕ → ℕ
calls_after lasts calls = if lasts then counted (counted calls) else counted calls

-- the calls of the log in a send that needs no load: the append and the sync where it is Ok, and none where the machine
-- refuses the message
abbrev pub CallsForSend : Msg → ℕ → ℕ → Result (Unit {0}) LinkError → Type 0
CallsForSend m calls calls' (Ok done) = calls' ≡ calls_after (has_to_last m) calls
CallsForSend m calls calls' (Err (link.Refused refusal)) = calls' ≡ calls
CallsForSend m calls calls' (Err link.Failed) = Unit {0}
CallsForSend m calls calls' (Err link.Memory) = Unit {0}
