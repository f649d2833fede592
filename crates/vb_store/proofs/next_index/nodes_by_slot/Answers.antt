use Rattle.std.proofs.Common.{◌≡◌, ◌+◌, ◌<◌, ◌∙◌, List, [], ◌∷◌, ◌++◌, set, take, length, sym, ap, subst, arith}
use Rattle.std.proofs.lemmas.List.{take_more}
use Rattle.vb_index.specs.declared.held.Held.{Held}
use Rattle.vb_inode.specs.declared.node.Node.{Node}
use Rattle.vb_store.proofs.NextIndexed.{length-nodes_held, next_written, none_written}
use Rattle.vb_store.proofs.next_index.nodes_by_slot.Goals as goal

pub loop-one-init : goal.loop-one-init
loop-one-init c = c.in_ok-nodes.ensures ∙ none_written c.args.slots

pub index_mut-requires : goal.index_mut-requires
index_mut-requires c =
    let held = c.args.held.now in
    let i = c.loop-one.one-index in
    let x = c.one-item.result in
    let below : x.node.slot < c.args.slots = subst (λ (h : Held). h.node.slot < c.args.slots) (sym c.one-item.is) (c.requires i x c.loop-one-test.true) in
    omega (arith, below, ap length c.loop-one.invariant, length-nodes_held c.args.slots (take i held))

pub loop-one-preserved : goal.loop-one-preserved
loop-one-preserved c =
    let held = c.args.held.now in
    let i = c.loop-one.one-index in
    let x = c.one-item.result in
    let below : x.node.slot < c.args.slots = subst (λ (h : Held). h.node.slot < c.args.slots) (sym c.one-item.is) (c.requires i x c.loop-one-test.true) in
    let more : take (i + 1) held ≡ take i held ++ x ∷ [] = take_more held i x c.loop-one-test.true ∙ ap (λ (h : Held). take i held ++ h ∷ []) (sym c.one-item.is) in
    ap (λ (n : Node). set c.loop-one.nodes.items x.node.slot n) c.in_ok-nodes-2.ensures ∙ ap (λ (l : List Node). set l x.node.slot x.node) c.loop-one.invariant ∙ next_written c.args.slots i held x more below
