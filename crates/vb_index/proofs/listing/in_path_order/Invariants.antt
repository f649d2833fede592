use Rattle.std.proofs.Common.{◌≡◌, List, length}
use Rattle.vb_tree.specs.declared.tree.TreeEntry.{TreeEntry}
use Rattle.vb_tree.specs.Trees.{IsTree}
use Rattle.vb_index.specs.Indexes.{HasShapeOf}
use Rattle.vb_index.proofs.PathOrder.{IsWalked}
use Rattle.vb_index.proofs.listing.in_path_order.Given as goal

abbrev pub invariant-loop-node : goal.invariant-loop-node
invariant-loop-node l =
    (length l.listed ≡ l._node)
    × ((tree : List TreeEntry) → IsTree tree → HasShapeOf l.table tree → IsWalked l.table tree l.listed l.due)
