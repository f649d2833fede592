-- what was written so far, and what is left, is the whole text
use Rattle.std.proofs.Common.{◌≡◌, ℕ, List, length, Some, None}
use Rattle.vb_stream.proofs.Writing.{HasWritten}
use Rattle.vb_stream.proofs.whole.write_whole.Given as goal

abbrev pub invariant-loop-rest : goal.invariant-loop-rest
invariant-loop-rest g l = record {
  written : (before : List ℕ) → g.O.Sink.written l.fn.sink ≡ Some before → HasWritten before l.text (g.O.Sink.written l.sink) l.rest;
  untold : g.O.Sink.written l.fn.sink ≡ None → g.O.Sink.written l.sink ≡ None;
  faults : g.O.Sink.faults l.sink ≡ g.O.Sink.faults l.fn.sink;
  shortages : g.O.Sink.shortages l.sink ≡ g.O.Sink.shortages l.fn.sink;
}

abbrev pub decreases-loop-rest : goal.decreases-loop-rest
decreases-loop-rest g l = length l.rest
