-- the front of the buffer has the bytes so far
use Rattle.std.proofs.Common.{◌≡◌, take, drop}
use Rattle.vb_stream.proofs.source.copy_front.Given as goal

abbrev pub invariant-loop-i : goal.invariant-loop-i
invariant-loop-i l = take l.i l.into ≡ take l.i (drop l.at l.bytes)
