use Rattle.std.proofs.Common.{◌≡◌, length}
use Rattle.vb_path.specs.Paths.{pieces_of, parts_fault_of}
use Rattle.vb_path.proofs.parse.parts_fault.Given as goal

abbrev pub invariant-loop-slash : goal.invariant-loop-slash
invariant-loop-slash l = parts_fault_of (pieces_of l.rest) ≡ parts_fault_of (pieces_of l.text)

abbrev pub decreases-loop-slash : goal.decreases-loop-slash
decreases-loop-slash l = length l.rest
