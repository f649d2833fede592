use Rattle.std.proofs.Common.{◌≡◌, ◌<◌, ◌&&◌, ◌==◌, cond, vec_len, length, get_or, Some, None, sym, ap, ◌∙◌, arith}
use Rattle.std.proofs.lemmas.List.{get_or_default}
use Rattle.std.specs.BTreeMap as tree
use Rattle.std.specs.Ordering.{nat_cmp}
use Rattle.std.specs.Cmp.Lexicographic.{slice_cmp}
use Rattle.vb_index.specs.Nodes.{held_at, same_name}
use Rattle.vb_index.proofs.Copying.{child_of-first, child_of-more_held, child_of-more_free, none_if}
use Rattle.vb_index.proofs.Tables.{folder_in}
use Rattle.vb_index.proofs.copies.entries_of.Goals as goal
use Rattle.vb_index.proofs.copies.entries_of.Goals.{in-Some+in_ok-name+in_ok-add_child, in_default}

pub loop-slot-init : goal.loop-slot-init
loop-slot-init c = (
  c.in_ok-children.ensures.len,
  λ folder name d l. c.in_ok-children.ensures.empty folder name d l ∙ sym (child_of-first c.args.nodes.now folder name c.requires),
)

pub add_child-requires : goal.add_child-requires
add_child-requires c =
    let at : held_at c.args.nodes.now c.loop-slot.slot ≡ Some c.in-Some.held = get_or_default c.args.nodes.now c.loop-slot.slot None c.index-nodes-slot.result (omega arith) ∙ sym c.index-nodes-slot.is ∙ c.in-Some.is in
    let there = folder_in c.args.nodes.now c.in-Some.held.node.parent (c.requires.in_folder c.loop-slot.slot c.in-Some.held at (omega arith)) in
    omega (arith, there, c.loop-slot.invariant.0)

pub loop-slot-preserved : goal.loop-slot-preserved
loop-slot-preserved c =
    let at : held_at c.args.nodes.now c.loop-slot.slot ≡ c.index-nodes-slot.result = get_or_default c.args.nodes.now c.loop-slot.slot None c.index-nodes-slot.result (omega arith) ∙ sym c.index-nodes-slot.is in
    let here : c.loop-slot.slot < length c.args.nodes.now = omega arith in
    let up : 0 < c.loop-slot.slot = omega arith in
    elim c.match-nodes-slot.branch [
      | in-Some+in_ok-name+in_ok-add_child w ↦ (
        ap vec_len w.children-is ∙ w.in_ok-add_child.ensures.len ∙ c.loop-slot.invariant.0,
        λ folder name d l.
            ap (λ cs. tree.get (slice_cmp nat_cmp) (get_or cs.items folder d) name) w.children-is
            ∙ w.in_ok-add_child.ensures.ok folder name d (omega (arith, c.loop-slot.invariant.0))
            ∙ ap (λ own. cond (w.in-Some.held.node.parent == folder && same_name own name) (Some c.loop-slot.slot) (tree.get (slice_cmp nat_cmp) (get_or c.loop-slot.children.items folder d) name)) (w.in_ok-name.ensures ∙ w.slice.ensures)
            ∙ ap (cond (w.in-Some.held.node.parent == folder && same_name w.in-Some.held.node.name name) (Some c.loop-slot.slot)) (c.loop-slot.invariant.1 folder name d l)
            ∙ sym (child_of-more_held c.args.nodes.now c.loop-slot.slot folder name w.in-Some.held c.requires (at ∙ w.in-Some.is) here up),
      )
      | in_default w ↦ (
        ap vec_len w.children-is ∙ c.loop-slot.invariant.0,
        λ folder name d l.
            ap (λ cs. tree.get (slice_cmp nat_cmp) (get_or cs.items folder d) name) w.children-is
            ∙ c.loop-slot.invariant.1 folder name d l
            ∙ sym (child_of-more_free c.args.nodes.now c.loop-slot.slot folder name c.requires (at ∙ none_if c.index-nodes-slot.result w.in_default.not-Some) here up),
      )
    ]
