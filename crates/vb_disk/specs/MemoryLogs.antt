-- What a log in memory holds, and which of its calls fail.
use Rattle.std.specs.Prelude.{◌≡◌, ◌↔◌, ℕ, if◌then◌else◌, List, length, take, Option, Some, None, is_some, IsSome, Result, Ok, Err, IsErrOf}
use Rattle.vb_cause.specs.declared.failures.Failure.{Failure}
use Rattle.vb_disk.specs.declared.log_file.LogError.{LogError}
use Rattle.vb_disk.specs.declared.log_file.LogError.TheVariants.{Failed, Memory}
use Rattle.vb_disk.specs.declared.memory_log.MemoryLog.{MemoryLog}
use Rattle.vb_cause.specs.Failing.{due_of, passed}
use Rattle.vb_cause.specs.Faults.{counted}

-- the bytes
abbrev pub bytes_of : MemoryLog → List ℕ
bytes_of m = m.bytes.items

-- the calls that are to fail. A failure says how many bytes an append adds all the same.
abbrev pub log_failures_of : MemoryLog → List (Failure ℕ)
log_failures_of m = m.fails

-- how often a call failed
abbrev pub log_faults_of : MemoryLog → ℕ
log_faults_of m = m.faults

-- how many of its calls were made
abbrev pub log_calls_of : MemoryLog → ℕ
log_calls_of m = m.calls

-- how many failures may still come
abbrev pub log_failures_left_of : MemoryLog → Option ℕ
log_failures_left_of m = Some (length (log_failures_of m))

-- the same bytes, failures and faults
pub record IsLogUntouched (old new : MemoryLog) : Type 0 where
  pub bytes : bytes_of new ≡ bytes_of old
  pub failures : log_failures_of new ≡ log_failures_of old
  pub faults : log_faults_of new ≡ log_faults_of old

-- a call passed: it answered Failed exactly where it was listed, and was then counted
pub record LogFailsAsListed {T : Type 0} (old new : MemoryLog) (result : Result T LogError) : Type 0 where
  pub failed : IsErrOf result Failed ↔ IsSome (due_of (log_failures_of old))
  pub listed : log_failures_of new ≡ passed (log_failures_of old)
  pub faults : log_faults_of new ≡ (if is_some (due_of (log_failures_of old)) then counted (log_faults_of old) else log_faults_of old)

-- the fact holds, unless memory ran out
abbrev pub UnlessNoMemory : {T : Type 0} → Result T LogError → Type 0 → Type 0
UnlessNoMemory (Ok x) fact = fact
UnlessNoMemory (Err Failed) fact = fact
UnlessNoMemory (Err Memory) fact = Unit {0}

-- what an append adds: all, or where it fails its first bytes
abbrev pub appended_part : Option ℕ → List ℕ → List ℕ
appended_part None bytes = bytes
appended_part (Some kept) bytes = take kept bytes
