use Rattle.std.proofs.Common.{◌≡◌, length, map, drop}
use Rattle.std.specs.Option.{option_copied}
use Rattle.vb_plan.specs.Plans.{by_slot, with_held}
use Rattle.vb_plan.proofs.images.by_slot.Given as goal

abbrev pub invariant-loop-node : goal.invariant-loop-node
invariant-loop-node l = (length l.table.items ≡ l.slots) × (with_held (map option_copied l.table.items) (drop l.node-index l.held) ≡ by_slot l.slots l.held)
