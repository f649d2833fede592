-- What holds of each slot of nodes by slot, also of a slot that there isn't.
use Rattle.std.proofs.Common.{◌≡◌, ℕ, ◌<◌, ◌≤◌, ◌^◌, List, length, get_or, inl, inr, sym, subst, arith}
use Rattle.std.proofs.lemmas.Bool.{cases_lt}
use Rattle.std.proofs.lemmas.List.{get_or_past}
use Rattle.std.proofs.lemmas.List.Elements.{All-get_or}
use Rattle.std.proofs.lemmas.List.Sums.{sum_by-le}
use Rattle.vb_inode.specs.declared.node.Node.{Node}
use Rattle.vb_inode.specs.Reading.{IsNodeOf}
use Rattle.vb_inode.proofs.Checked.{length-name, map_pages-few}
use Rattle.vb_tree.specs.Trees.{pages_of_length}
use Rattle.vb_nodes.specs.Paths.{free_node, node_at, parent_in, AreBySlot}
use Rattle.vb_nodes.specs.Holdings.{pages_of_nodes}

-- the node in a slot is one of the store
pub node-of : (nodes : List Node) (slot : ℕ) → AreBySlot nodes → slot < length nodes → IsNodeOf (length nodes) (node_at nodes slot)
node-of nodes slot are lt = All-get_or (λ (node : Node). IsNodeOf (length nodes) node) nodes slot free_node lt are.of_store

-- past the end there are free nodes
pub node-past : (nodes : List Node) (slot : ℕ) → length nodes ≤ slot → node_at nodes slot ≡ free_node
node-past nodes slot le = get_or_past nodes slot free_node le

-- a name has at most 255 bytes
pub name-short : (nodes : List Node) (slot : ℕ) → AreBySlot nodes → length (node_at nodes slot).name ≤ 255
name-short nodes slot are = elim (cases_lt slot (length nodes)) [
  | inl lt ↦ (let of = node-of nodes slot are lt in length-name (node_at nodes slot).slot (node_at nodes slot).kind (node_at nodes slot).name of.in_range.named)
  | inr le ↦ (let P : Node → Type 0 = λ node. length node.name ≤ 255 in subst P (sym (node-past nodes slot le)) (omega arith))
]

-- a parent is a slot that there is
pub parent-below : (nodes : List Node) (slot : ℕ) → AreBySlot nodes → 0 < length nodes → parent_in nodes slot < length nodes
parent-below nodes slot are some = elim (cases_lt slot (length nodes)) [
  | inl lt ↦ (node-of nodes slot are lt).parent
  | inr le ↦ (let P : Node → Type 0 = λ node. node.parent < length nodes in subst P (sym (node-past nodes slot le)) some)
]

-- a file takes at most 10,944 pages, so all of them fit a number
pub pages-few : (nodes : List Node) → AreBySlot nodes → length nodes ≤ 65536 → pages_of_nodes nodes < 2 ^ 64
pages-few nodes are few =
    let all = sum_by-le (λ (node : Node). pages_of_length node.length) 10944 nodes (λ k d lt. pages_few (get_or nodes k d) (are.of_store k d lt)) in
    omega (arith, all) where
      pages_few : (node : Node) → IsNodeOf (length nodes) node → pages_of_length node.length ≤ 10944
      pages_few node of = let short = (map_pages-few node.kind node.length of.in_range.measured).0 in omega arith
