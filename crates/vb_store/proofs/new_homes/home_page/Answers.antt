use Rattle.std.proofs.Common.{sym, subst}
use Rattle.vb_inode.specs.Nodes.{IsInRange}
use Rattle.vb_store.proofs.EmptyNodes.{IsInRange-empty_node}
use Rattle.vb_store.proofs.new_homes.home_page.Goals as goal

pub encode_node-requires : goal.encode_node-requires
encode_node-requires c = subst IsInRange (sym c.empty_node.ensures) (IsInRange-empty_node c.args.slot)
