-- what was got so far is the front of what was left
use Rattle.std.proofs.Common.{◌≡◌, ℕ, ◌≤◌, ◌-◌, List, length, Some, None}
use Rattle.vb_stream.specs.Streams.{HasGot}
use Rattle.vb_stream.proofs.whole.read_front.Given as goal

abbrev pub invariant-loop-buffer : goal.invariant-loop-buffer
invariant-loop-buffer g l = record {
  front : (bytes : List ℕ) → g.S.Source.left l.fn.source ≡ Some bytes → HasGot bytes l.got (g.S.Source.left l.source);
  untold : g.S.Source.left l.fn.source ≡ None → g.S.Source.left l.source ≡ None;
  short : length l.got ≤ l.most;
  faults : g.S.Source.faults l.source ≡ g.S.Source.faults l.fn.source;
}

abbrev pub decreases-loop-buffer : goal.decreases-loop-buffer
decreases-loop-buffer g l = l.most - length l.got
