use Rattle.std.proofs.Common.{◌≡◌, ℕ, ◌∷◌, ◌++◌, [], length, replicate, set, Some, refl, sym, ap, subst, ◌∙◌, arith}
use Rattle.std.proofs.lemmas.List.{get_or_default}
use Rattle.std.proofs.lemmas.Result.{on_ok_weaker}
use Rattle.vb_inode.specs.declared.node.Node.{Node}
use Rattle.vb_inode.specs.Nodes.{is_free}
use Rattle.vb_inode.specs.Reading.{IsNodeOf}
use Rattle.vb_tree.specs.Trees.{data_pages_of}
use Rattle.vb_path.specs.Parts.{IsPart}
use Rattle.vb_tree.specs.Renames.{is_deep}
use Rattle.vb_index.specs.Heights.{path_to}
use Rattle.vb_index.specs.Indexes.{IndexState}
use Rattle.vb_index.specs.Changes.{blank_ref}
use Rattle.vb_index.specs.Nodes.{child_of, held_at, holds_folder}
use Rattle.vb_nodes.specs.Paths.{free_node, node_at}
use Rattle.vb_nodes.specs.Building.{depth_of}
use Rattle.vb_nodes.proofs.NodeLaws.{node-of}
use Rattle.vb_nodes.proofs.Rooted.{named-part, put-shallow}
use Rattle.vb_nodes.proofs.Placing.{placed-put, folder-placed, held_is, name-new, slot-free, node-fits}
use Rattle.vb_nodes.proofs.build.put_node.Goals as goal

-- the node that is put is the one in the slot
abbrev copied_is : (c : goal.After-put-arg-1) → c.in_ok-copied.copied ≡ node_at c.args.nodes.now c.args.slot
copied_is c = c.in_ok-copied.ensures ∙ c.index-nodes-slot.is ∙ get_or_default c.args.nodes.now c.args.slot c.index-nodes-slot.result free_node (omega arith)

pub put-requires-clause-above_root : goal.put-requires-clause-above_root
put-requires-clause-above_root c =
    omega (arith, ap (λ (n : Node). n.slot) (copied_is c), c.requires.tree.by_slot.own_slots c.args.slot c.requires.there)

pub put-requires-clause-in_table : goal.put-requires-clause-in_table
put-requires-clause-in_table c =
    omega (arith, ap (λ (n : Node). n.slot) (copied_is c), c.requires.tree.by_slot.own_slots c.args.slot c.requires.there, c.requires.held.as_many)

pub put-requires-clause-free : goal.put-requires-clause-free
put-requires-clause-free c =
    ap (held_at c.args.index.now.nodes) (ap (λ (n : Node). n.slot) (copied_is c) ∙ c.requires.tree.by_slot.own_slots c.args.slot c.requires.there)
    ∙ slot-free c.args.nodes.now (depth_of c.args.nodes.now c.args.slot) c.args.slot c.args.index.now.nodes c.requires.held refl

pub put-requires-clause-in_folder : goal.put-requires-clause-in_folder
put-requires-clause-in_folder c =
    ap (λ (n : Node). holds_folder (held_at c.args.index.now.nodes n.parent)) (copied_is c)
    ∙ folder-placed c.args.nodes.now (depth_of c.args.nodes.now c.args.slot) c.args.slot c.args.index.now.nodes c.requires.tree c.requires.held c.requires.below_root c.requires.there c.requires.used refl

pub put-requires-clause-new_name : goal.put-requires-clause-new_name
put-requires-clause-new_name c =
    ap (λ (n : Node). child_of c.args.index.now.nodes n.parent n.name) (copied_is c)
    ∙ name-new c.args.nodes.now (depth_of c.args.nodes.now c.args.slot) c.args.slot c.args.index.now.nodes c.requires.tree c.requires.held c.requires.below_root c.requires.there c.requires.used refl

pub put-requires-clause-fits : goal.put-requires-clause-fits
put-requires-clause-fits c =
    let nodes = c.args.nodes.now in
    node-fits (length nodes) c.in_ok-copied.copied c.in_ok-refs.refs
    (subst (IsNodeOf (length nodes)) (sym (copied_is c)) (node-of nodes c.args.slot c.requires.tree.by_slot c.requires.there))
    (ap (λ (n : Node). is_free n.kind) (copied_is c) ∙ c.requires.used)
    (c.in_ok-refs.ensures ∙ ap (λ (n : Node). replicate (data_pages_of n.length) blank_ref) (sym c.in_ok-copied.ensures))

pub put-requires-clause-valid : goal.put-requires-clause-valid
put-requires-clause-valid c =
    let nodes = c.args.nodes.now in
    let of = node-of nodes c.args.slot c.requires.tree.by_slot c.requires.there in
    let own = c.requires.tree.by_slot.own_slots c.args.slot c.requires.there in
    subst IsPart (sym (ap (λ (n : Node). n.name) (copied_is c))) (named-part (node_at nodes c.args.slot).slot (node_at nodes c.args.slot).kind (node_at nodes c.args.slot).name (omega (arith, own, c.requires.below_root)) c.requires.used of.in_range.named)

pub put-requires-clause-shallow : goal.put-requires-clause-shallow
put-requires-clause-shallow c =
    ap (λ (n : Node). is_deep (path_to c.args.index.now.nodes n.parent ++ n.name ∷ [])) (copied_is c)
    ∙ put-shallow c.args.nodes.now c.args.slot c.args.index.now.nodes c.requires.tree c.requires.held c.requires.below_root c.requires.there c.requires.used

pub returns-clause-held : goal.returns-clause-held
returns-clause-held c =
    let nodes = c.args.nodes.now in
    let copied : c.in_ok-copied.copied ≡ node_at nodes c.args.slot = c.in_ok-copied.ensures ∙ c.index-nodes-slot.is ∙ get_or_default nodes c.args.slot c.index-nodes-slot.result free_node (omega arith) in
    let own : c.in_ok-copied.copied.slot ≡ c.args.slot = ap (λ (n : Node). n.slot) copied ∙ c.requires.tree.by_slot.own_slots c.args.slot c.requires.there in
    let refs = c.in_ok-refs.ensures ∙ ap (λ (n : Node). replicate (data_pages_of n.length) blank_ref) (sym c.in_ok-copied.ensures) in
    let held = held_is c.in_ok-copied.copied c.in_ok-refs.refs (node_at nodes c.args.slot) copied refs c.requires.used in
    on_ok_weaker c.put.result (λ (h : c.put.new.self ≡ record c.args.index.now { nodes = set c.args.index.now.nodes c.in_ok-copied.copied.slot (Some (record { node = c.in_ok-copied.copied; refs = c.in_ok-refs.refs })) }).
    placed-put nodes (depth_of nodes c.args.slot) c.args.slot c.args.index.now.nodes c.put.new.self.nodes c.requires.held c.requires.there refl
    (ap (λ (s : IndexState). s.nodes) h ∙ ap (λ (k : ℕ). set c.args.index.now.nodes k (Some (record { node = c.in_ok-copied.copied; refs = c.in_ok-refs.refs }))) own ∙ ap (set c.args.index.now.nodes c.args.slot) held))
    c.put.ensures.nodes
