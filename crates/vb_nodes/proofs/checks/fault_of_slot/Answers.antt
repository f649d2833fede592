use Rattle.std.proofs.Common.{◌≡◌, get_or, sym, ap, ◌∙◌, arith}
use Rattle.std.specs.Ordering.{nat_cmp}
use Rattle.std.specs.Cmp.Lexicographic.{slice_cmp}
use Rattle.std.specs.BTreeSet as sorted
use Rattle.std.proofs.lemmas.List.{get_or_default}
use Rattle.vb_inode.specs.declared.node.Node.{Node}
use Rattle.vb_nodes.specs.Paths.{free_node, node_at}
use Rattle.vb_nodes.proofs.NodeLaws.{parent-below}
use Rattle.vb_nodes.proofs.Judging.{twin-found}
use Rattle.vb_nodes.proofs.checks.fault_of_slot.Goals as goal

pub fault_of_entry-requires-clause-twin : goal.fault_of_entry-requires-clause-twin
fault_of_entry-requires-clause-twin c =
    let nodes = c.args.nodes.now in
    let is : node_at nodes c.args.slot ≡ c.index-nodes-slot.result = get_or_default nodes c.args.slot free_node c.index-nodes-slot.result (omega arith) ∙ sym c.index-nodes-slot.is in
    twin-found nodes c.args.slot c.args.names.now.items c.in_ok-has_twin.has_twin (parent-below nodes c.args.slot c.requires.by_slot (omega arith)) c.requires.names
    (λ d. c.in_ok-has_twin.ensures.answer d ∙ ap (λ (n : Node). sorted.contains (slice_cmp nat_cmp) (get_or c.args.names.now.items n.parent d) n.name) (sym is))
