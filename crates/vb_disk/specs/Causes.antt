-- When a call of a device may fail.
use Rattle.std.specs.Prelude.{Result, Ok, Err}
use Rattle.vb_disk.specs.declared.disk_error.DiskError.{DiskError}
use Rattle.vb_disk.specs.declared.disk_error.DiskError.TheVariants.{Failed, Memory}
pub use Rattle.vb_cause.specs.Causes.{HasCause, UsesFailures, left_of}

-- the fact holds, unless memory ran out
abbrev pub UnlessMemory : {T : Type 0} → Result T DiskError → Type 0 → Type 0
UnlessMemory (Ok x) fact = fact
UnlessMemory (Err Failed) fact = fact
UnlessMemory (Err Memory) fact = Unit {0}
