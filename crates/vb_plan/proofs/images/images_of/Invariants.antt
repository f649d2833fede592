use Rattle.std.proofs.Common.{◌≡◌}
use Rattle.std.specs.List.{range_with_len}
use Rattle.vb_plan.specs.Plans.{by_slot, images_in}
use Rattle.vb_plan.proofs.images.images_of.Given as goal

abbrev pub invariant-loop-slot : goal.invariant-loop-slot
invariant-loop-slot l = l.images ≡ images_in l.committed.nodes (by_slot l.slots l.held) (range_with_len 0 l.slot)
