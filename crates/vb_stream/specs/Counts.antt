-- How reads and writes are counted: one that fails raises one count, by exactly one or to its end, and leaves each other
-- count as it was.
use Rattle.std.specs.Prelude.{ℕ, Result, Ok, Err}
use Rattle.vb_cause.specs.Faults.{counted}
use Rattle.vb_stream.specs.declared.source.SourceFault.{SourceFault}
use Rattle.vb_stream.specs.declared.sink.SinkError.{SinkError}
use Rattle.vb_stream.specs.declared.sink.SinkError.TheVariants as sink
use Rattle.vb_stream.specs.declared.whole.ReadError.{ReadError}
use Rattle.vb_stream.specs.declared.whole.ReadError.TheVariants as reads

-- a source's faults after a read: one more where it failed
abbrev pub faults_after_read : {A : Type 0} → ℕ → Result A SourceFault → ℕ
faults_after_read faults (Ok taken) = faults
faults_after_read faults (Err fault) = counted faults

-- a source's faults after many reads: one more where they ended at one that failed
abbrev pub faults_after_reads : {A : Type 0} → ℕ → Result A ReadError → ℕ
faults_after_reads faults (Ok got) = faults
faults_after_reads faults (Err reads.Fault) = counted faults
faults_after_reads faults (Err reads.Memory) = faults

-- a sink's faults after a write, or after many that end at the first error: one more where one failed
abbrev pub faults_after_write : {A : Type 0} → ℕ → Result A SinkError → ℕ
faults_after_write faults (Ok taken) = faults
faults_after_write faults (Err sink.Failed) = counted faults
faults_after_write faults (Err sink.Memory) = faults

-- a sink's shortages likewise: one more where a write found no memory
abbrev pub shortages_after_write : {A : Type 0} → ℕ → Result A SinkError → ℕ
shortages_after_write shortages (Ok taken) = shortages
shortages_after_write shortages (Err sink.Failed) = shortages
shortages_after_write shortages (Err sink.Memory) = counted shortages
