-- What a disk in memory tells of itself, and which of its calls fail.
use Rattle.std.specs.Prelude.{◌≡◌, ◌↔◌, ℕ, Bool, true, if◌then◌else◌, List, length, Option, Some, None, is_some, IsSome, Result, IsErrOf}
use Rattle.vb_disk.specs.declared.disk_error.DiskError.{DiskError}
use Rattle.vb_disk.specs.declared.disk_error.DiskError.TheVariants.{Failed}
use Rattle.vb_cause.specs.declared.failures.Failure.{Failure}
use Rattle.vb_disk.specs.declared.memory_disk.MemoryDisk.{MemoryDisk}
use Rattle.vb_cause.specs.Failing.{due_of, passed}
use Rattle.vb_disk.specs.Sparse.{state_from}
use Rattle.vb_cause.specs.Faults.{counted}
use Rattle.vb_disk.specs.States.{DiskState}

-- the told state
abbrev pub state_of : MemoryDisk → DiskState
state_of m = state_from m.table.size m.table.cells m.writes m.resizes m.synced_at

-- the calls that are to fail. A failure says whether a write is made all the same.
abbrev pub failures_of : MemoryDisk → List (Failure Bool)
failures_of m = m.fails

-- whether a write is made: where it doesn't fail, or fails after it was made
abbrev pub is_made : Option Bool → Bool
is_made None = true
is_made (Some after) = after

-- how often a call failed
abbrev pub faults_of : MemoryDisk → ℕ
faults_of m = m.faults

-- how many of its calls were made
abbrev pub calls_of : MemoryDisk → ℕ
calls_of m = m.calls

-- how many failures may still come
abbrev pub failures_left_of : MemoryDisk → Option ℕ
failures_left_of m = Some (length (failures_of m))

-- the same state, failures and faults
pub record IsUntouched (old new : MemoryDisk) : Type 0 where
  pub state : state_of new ≡ state_of old
  pub failures : failures_of new ≡ failures_of old
  pub faults : faults_of new ≡ faults_of old

-- a call passed: it answered Failed exactly where it was listed, and was then counted
pub record FailsAsListed {T : Type 0} (old new : MemoryDisk) (result : Result T DiskError) : Type 0 where
  pub failed : IsErrOf result Failed ↔ IsSome (due_of (failures_of old))
  pub listed : failures_of new ≡ passed (failures_of old)
  pub faults : faults_of new ≡ (if is_some (due_of (failures_of old)) then counted (faults_of old) else faults_of old)
