use Rattle.std.proofs.Common.{◌≡◌, ◌++◌, length}
use Rattle.vb_path.specs.Paths.{pieces_of}
use Rattle.vb_path.proofs.parse.pieces.Given as goal

abbrev pub invariant-loop-slash : goal.invariant-loop-slash
invariant-loop-slash l = l.names ++ pieces_of l.rest ≡ pieces_of l.text

abbrev pub decreases-loop-slash : goal.decreases-loop-slash
decreases-loop-slash l = length l.rest
