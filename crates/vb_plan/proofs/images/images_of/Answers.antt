use Rattle.std.proofs.Common.{◌≡◌, ℕ, List, ◌++◌, length, Option, ◌∙◌, sym, ap, arith}
use Rattle.std.specs.Option.{option_copied, option_map}
use Rattle.std.specs.List.{range_with_len}
use Rattle.std.proofs.lemmas.List.{length-map}
use Rattle.vb_index.specs.declared.held.Held.{Held}
use Rattle.vb_inode.specs.declared.node.Node.{Node}
use Rattle.vb_inode.specs.Nodes.{IsInRange}
use Rattle.vb_plan.specs.Plans.{by_slot, image_of, images_in, node_at}
use Rattle.vb_plan.proofs.ImageLists.{one_image_more}
use Rattle.vb_plan.proofs.Slots.{node_holds, in_table, length-by_slot}
use Rattle.vb_plan.proofs.images.images_of.Goals as goal

pub index-requires : goal.index-requires
index-requires c = omega (arith, length-map c.in_ok-table.table.items (option_copied {T = Held}), ap length c.in_ok-table.ensures, length-by_slot c.args.slots c.args.held.now)

pub add_image-requires : goal.add_image-requires
add_image-requires c node is =
    let there = in_table c.in_ok-table.table.items c.args.slots c.args.held.now c.loop-slot.slot c.index.result.now c.in_ok-table.ensures c.loop-slot-test.true in
    let after : option_copied c.node_of-after.result ≡ node_at (by_slot c.args.slots c.args.held.now) c.loop-slot.slot = c.node_of-after.ensures ∙ ap (option_map (λ (h : Held). h.node)) (ap option_copied c.index.ensures ∙ there) in
    node_holds IsInRange c.args.slots c.args.held.now c.requires.range c.loop-slot.slot node (sym after ∙ is)

pub loop-slot-preserved : goal.loop-slot-preserved
loop-slot-preserved c =
    let there = in_table c.in_ok-table.table.items c.args.slots c.args.held.now c.loop-slot.slot c.index.result.now c.in_ok-table.ensures c.loop-slot-test.true in
    let after : option_copied c.node_of-after.result ≡ node_at (by_slot c.args.slots c.args.held.now) c.loop-slot.slot = c.node_of-after.ensures ∙ ap (option_map (λ (h : Held). h.node)) (ap option_copied c.index.ensures ∙ there) in
    c.in_ok-add_image.ensures
    ∙ ap (λ (images : List (List ℕ)). images ++ image_of c.loop-slot.slot (option_copied c.node.result) (option_copied c.node_of-after.result)) c.loop-slot.invariant
    ∙ ap (λ (o : Option Node). images_in c.args.committed.now.nodes (by_slot c.args.slots c.args.held.now) (range_with_len 0 c.loop-slot.slot) ++ image_of c.loop-slot.slot o (option_copied c.node_of-after.result)) c.node.ensures
    ∙ ap (λ (o : Option Node). images_in c.args.committed.now.nodes (by_slot c.args.slots c.args.held.now) (range_with_len 0 c.loop-slot.slot) ++ image_of c.loop-slot.slot (node_at c.args.committed.now.nodes c.loop-slot.slot) o) after
    ∙ sym (one_image_more c.args.committed.now.nodes (by_slot c.args.slots c.args.held.now) c.loop-slot.slot)
