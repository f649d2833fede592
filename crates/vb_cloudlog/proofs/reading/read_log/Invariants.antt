-- the reader was fed the bytes before the place
use Rattle.std.proofs.Common.{◌≡◌, ℕ, ◌≤◌, ◌<◌, ◌-◌, List, length, take, Some, None}
use Rattle.vb_cloudlog.specs.Replays.{replay_of}
use Rattle.vb_cloudlog.proofs.reading.read_log.Given as goal

abbrev pub invariant-loop-at : goal.invariant-loop-at
invariant-loop-at g l = record {
  within : l.at ≤ l.len;
  fed : (all : List ℕ) → g.F.LogFile.told l.fn.file ≡ Some all → l.replay ≡ replay_of (take l.at all);
  whole : (all : List ℕ) → g.F.LogFile.told l.fn.file ≡ Some all → l.len ≡ length all;
  told : g.F.LogFile.told l.file ≡ g.F.LogFile.told l.fn.file;
  faults : g.F.LogFile.faults l.fn.file ≤ g.F.LogFile.faults l.file;
  goes_on : l.replay.stop ≡ None;
  room : 0 < length l.buffer;
}

abbrev pub decreases-loop-at : goal.decreases-loop-at
decreases-loop-at g l = l.len - l.at
