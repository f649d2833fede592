use Rattle.std.proofs.Common.{rules, ◌≡◌, ◌∙◌, sym, length-set, replicate, None}
use Rattle.vb_plan.proofs.Slots.{one_in_slot, none_in_slots}
use Rattle.vb_plan.proofs.images.by_slot.Goals as goal

pub loop-node-init : goal.loop-node-init
loop-node-init c =
    let none : c.in_ok-table.table.items ≡ replicate c.args.slots None = c.in_ok-table.ensures.items_if_clones_equal (λ y p. search rules) in
    (none_in_slots c.in_ok-table.table.items c.args.slots c.args.held.now none)

pub loop-node-preserved : goal.loop-node-preserved
loop-node-preserved c = (length-set c.loop-node.table.items c.node-item.result.node.slot _ ∙ c.loop-node.invariant.0, one_in_slot c.loop-node.table.items c.args.held.now c.loop-node.node-index _ c.loop-node-test.true (sym c.node-item.is) ∙ c.loop-node.invariant.1)
