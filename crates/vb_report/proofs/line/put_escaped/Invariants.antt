-- the line has the text of the bytes so far
use Rattle.std.proofs.Common.{◌≡◌, ◌++◌, take}
use Rattle.vb_report.specs.Text.{escaped}
use Rattle.vb_report.proofs.line.put_escaped.Given as goal

abbrev pub invariant-loop-byte : goal.invariant-loop-byte
invariant-loop-byte l = l.line ≡ l.fn.line ++ escaped (take l.byte-index l.bytes)
