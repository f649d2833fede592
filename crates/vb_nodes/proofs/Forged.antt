-- Nodes that are forged for a test, one slot after the other.
use Rattle.std.proofs.Common.{◌≡◌, ℕ, ◌+◌, ◌<◌, List, [], ◌∷◌, ◌++◌, length, inl, inr, sym, ap, subst, ◌∙◌, arith}
use Rattle.std.proofs.lemmas.Bool.{cases_lt}
use Rattle.std.proofs.Math.Seq.{get_or-append_seam}
use Rattle.std.proofs.lemmas.List.{get_or_append_left, length-append}
use Rattle.std.proofs.lemmas.List.Elements.{All-from_get_or}
use Rattle.vb_inode.specs.declared.node.Node.{Node}
use Rattle.vb_inode.specs.Reading.{IsNodeOf}
use Rattle.vb_nodes.specs.Paths.{free_node, node_at, AreBySlot}

-- so many nodes, each in its slot and one of a store of 16
pub record AreForged (count : ℕ) (nodes : List Node) : Type 0 where
  pub as_many : length nodes ≡ count
  pub each : (slot : ℕ) → slot < count → ((node_at nodes slot).slot ≡ slot) × IsNodeOf 16 (node_at nodes slot)

pub forged_next : (count : ℕ) (nodes new : List Node) (node : Node) → AreForged count nodes → (node.slot ≡ count) × IsNodeOf 16 node → new ≡ nodes ++ node ∷ [] → AreForged (count + 1) new
forged_next count nodes new node are of is = record {
  as_many = omega (arith, ap length is, length-append nodes (node ∷ []), are.as_many);
  each = λ slot lt. elim (cases_lt slot count) [
    | inl below ↦ (let e : node_at new slot ≡ node_at nodes slot = ap (λ (ns : List Node). node_at ns slot) is ∙ get_or_append_left nodes (node ∷ []) free_node slot (omega (arith, are.as_many)) in
        subst (λ (n : Node). (n.slot ≡ slot) × IsNodeOf 16 n) (sym e) (are.each slot below))
    | inr le ↦ (let at : slot ≡ length nodes = omega (arith, are.as_many) in
        let e : node_at new slot ≡ node = ap (λ (ns : List Node). node_at ns slot) is ∙ ap (node_at (nodes ++ node ∷ [])) at ∙ get_or-append_seam nodes node [] free_node in
        subst (λ (n : Node). (n.slot ≡ slot) × IsNodeOf 16 n) (sym e) (of.0 ∙ sym are.as_many ∙ sym at, of.1))
  ];
}

pub forged_all : (nodes : List Node) → AreForged 16 nodes → AreBySlot nodes
forged_all nodes are = record {
  own_slots = λ slot lt. (are.each slot (omega (arith, are.as_many))).0;
  of_store = All-from_get_or (λ (node : Node). IsNodeOf (length nodes) node) nodes free_node (λ slot lt. subst (λ (n : ℕ). IsNodeOf n (node_at nodes slot)) (sym are.as_many) (are.each slot (omega (arith, are.as_many))).1);
}
