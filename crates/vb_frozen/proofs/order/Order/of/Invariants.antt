use Rattle.std.proofs.Common.{◌≡◌, ◌-◌, List, take}
use Rattle.vb_tree.specs.declared.tree.TreeEntry.{TreeEntry}
use Rattle.vb_tree.specs.Trees.{IsTree}
use Rattle.vb_index.specs.Indexes.{HasShapeOf}
use Rattle.vb_frozen.specs.Orders.{order_of, IsOrder}
use Rattle.vb_frozen.proofs.order.Order.of.Given as goal

-- the entries before this slot are those of the tree
abbrev pub invariant-loop-i : goal.invariant-loop-i
invariant-loop-i l = record {
  order : IsOrder l.entries.items l.places;
  grown : (tree : List TreeEntry) → IsTree tree → HasShapeOf l.index.nodes tree → l.entries.items ≡ order_of l.index.nodes (take (l.i - 1) tree);
}
