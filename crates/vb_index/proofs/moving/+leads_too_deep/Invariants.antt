use Rattle.std.proofs.Common.{◌-◌}
use Rattle.std.specs.List.{All}
use Rattle.vb_index.proofs.Depths.{IsShallow}
use Rattle.vb_index.proofs.moving.+leads_too_deep.Given as goal

abbrev pub decreases-leads_too_deep : goal.decreases-leads_too_deep
decreases-leads_too_deep l = 33 - l.parts

abbrev pub invariant-loop-name : goal.invariant-loop-name
invariant-loop-name l = All (λ e. IsShallow l.table l.slot l.bytes l.parts e.0.now) l.yielded
