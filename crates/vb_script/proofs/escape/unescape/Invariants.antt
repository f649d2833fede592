use Rattle.std.proofs.Common.{◌≡◌, ◌++◌, length}
use Rattle.vb_script.specs.Words.{unescaped}
use Rattle.vb_script.proofs.escape.unescape.Given as goal

abbrev pub invariant-loop-byte : goal.invariant-loop-byte
invariant-loop-byte l = l.bytes.items ++ unescaped l.rest ≡ unescaped l.word

abbrev pub decreases-loop-byte : goal.decreases-loop-byte
decreases-loop-byte l = length l.rest
