-- Sources and sinks in memory, as contracts see them.
use Rattle.std.specs.Prelude.{ℕ, Bool, true, false, List, ◌++◌, drop, Result, Ok, Err}
use Rattle.vb_cause.specs.Faults.{counted}
use Rattle.vb_cause.specs.Failing.{passed}
use Rattle.vb_cause.specs.declared.failures.Failure.{Failure}
use Rattle.vb_stream.specs.declared.source.SourceFault.{SourceFault}
use Rattle.vb_stream.specs.declared.sink.SinkError.{SinkError}
use Rattle.vb_stream.specs.declared.sink.SinkError.TheVariants.{Failed, Memory}

-- a source: the bytes that are left, the calls that are to fail, the count of faults, and whether the last read failed
pub record SourceView : Type 0 where
  pub left : List ℕ
  pub listed : List (Failure (Unit {0}))
  pub faults : ℕ
  pub stopped : Bool

-- a sink: the bytes that were written, the calls that are to fail, the counts of faults and of shortages, and whether
-- the last write ended in an error
pub record SinkView : Type 0 where
  pub written : List ℕ
  pub listed : List (Failure (Unit {0}))
  pub faults : ℕ
  pub shortages : ℕ
  pub stopped : Bool

-- a source after a read: the listed calls come one call nearer; what was read is gone, or the failure was counted
abbrev pub after_read : SourceView → Result ℕ SourceFault → SourceView
after_read source (Ok n) = record source { left = drop n source.left; listed = passed source.listed; stopped = false }
after_read source (Err fault) = record source { listed = passed source.listed; faults = counted source.faults; stopped = true }

-- a sink after the write of a piece: the listed calls come one call nearer; the whole piece was written, or the failure
-- or the want of memory was counted
abbrev pub after_write : SinkView → List ℕ → Result ℕ SinkError → SinkView
after_write sink piece (Ok n) = record sink { written = sink.written ++ piece; listed = passed sink.listed; stopped = false }
after_write sink piece (Err Failed) = record sink { listed = passed sink.listed; faults = counted sink.faults; stopped = true }
after_write sink piece (Err Memory) = record sink { listed = passed sink.listed; shortages = counted sink.shortages; stopped = true }
