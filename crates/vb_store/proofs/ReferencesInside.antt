-- The references in a store's metadata name data places.
use Rattle.std.proofs.Common.{◌≡◌, ℕ, zero, suc, ◌+◌, ◌-◌, ◌/◌, ◌<◌, ◌≤◌, Bool, true, false, cond, not, ◌==◌, nat_le, List, [], ◌∷◌, ◌++◌, length, get_or, replicate, Option, Some, None, Result, Ok, Err, refl, sym, ap, subst, ◌∙◌, inl, inr, arith}
use Rattle.std.proofs.lemmas.Bool.{cases_lt, eqb-true}
use Rattle.std.proofs.lemmas.List.{get_or_append_left, get_or_push, get_or-map, length-replicate, length_push}
use Rattle.std.proofs.lemmas.List.Elements.{All-from_get_or}
use Rattle.std.specs.List.{All, flat_map}
use Rattle.std.specs.Str.{bytes_eq}
use Rattle.sha2.specs.Sha256.{sha256}
use Rattle.vb_block.specs.Pages.{seal_of, sealed_part}
use Rattle.vb_block.specs.declared.digest.Ref.{Ref}
use Rattle.vb_block.specs.declared.why.Why.{Why}
use Rattle.vb_block.specs.declared.why.Why.TheVariants.{Length, Maps, Name, Parent, Rest, Slot}
use Rattle.vb_disk.specs.Misses.{is_sealed}
use Rattle.vb_head.specs.declared.head.Head.{Head}
use Rattle.vb_index.specs.declared.held.Held.{Held}
use Rattle.vb_index.specs.Changes.{blank_ref}
use Rattle.vb_index.specs.Nodes.{held_at}
use Rattle.vb_inode.specs.declared.errors.NodeError.{NodeError}
use Rattle.vb_inode.specs.declared.errors.NodeError.TheVariants.{Unsealed}
use Rattle.vb_inode.specs.declared.node.Node.{Node}
use Rattle.vb_inode.specs.declared.node.NodeKind.{NodeKind}
use Rattle.vb_inode.specs.Checks.{checked, checked_as, is_zero_elsewhere, kind_of, name_in, refuse as refuse_node}
use Rattle.vb_inode.specs.Layout.{Fields, fields_in}
use Rattle.vb_inode.specs.Nodes.{is_free, may_be_named, may_have_length}
use Rattle.vb_inode.specs.Reading.{node_by, node_from, node_read}
use Rattle.vb_journal.specs.declared.recover_error.RecoverError.{RecoverError}
use Rattle.vb_journal.specs.declared.recover_error.RecoverError.TheVariants.{Damaged, Unfit}
use Rattle.vb_journal.specs.Images.{slot_of}
use Rattle.vb_nodes.specs.Holdings.{held_from, held_of, index_from}
use Rattle.vb_nodes.specs.Paths.{free_node}
use Rattle.vb_tree.specs.Trees.{data_pages_of, map_pages_of}
use Rattle.vb_store.specs.declared.map_page.MapPage.{MapPage}
use Rattle.vb_journal.specs.Notes.{head_place}
use Rattle.vb_store.specs.Metadata.{Mapped, Metadata, Standing, and_then, block_of, index_or_refusal, mapped_from, maps_from, maps_in, maps_of, maps_of_node, no_claims, node_checked, node_or_refusal, nodes_left, refuse}
use Rattle.vb_store.specs.Views.{data_start, limits_of}
use Rattle.vb_store.proofs.Chains.{and_then-ok, refuse-ok}
use Rattle.vb_store.proofs.CrashesOfMounts.{HasMetadata}
use Rattle.vb_store.proofs.ReferencesSet.{AreInsideOr, IsNamedBy, length-refs_in, maps-set}
use Rattle.vb_store.proofs.SameJournals.{not_false}
use Rattle.vb_store.proofs.SameStores.{node_from_checked}
use Rattle.vb_store.proofs.SlotsRead.{slot_read}
use Rattle.vb_store.proofs.Surveyed.{index-nodes}

-- ---- nodes that were read

-- a node of this slot has as many map pages as its length takes
record IsNodeAt (slot : ℕ) (node : Node) : Type 0 where
  pub own_slot : node.slot ≡ slot
  pub mapped : length node.maps ≡ map_pages_of node.length

-- the check of the map pages passed
mapped_by : (a b c d e : Bool) (kind : NodeKind) (k : NodeKind) → refuse_node a Name (refuse_node b Parent (refuse_node c Length (refuse_node (not d) Maps (refuse_node e Rest (Ok kind))))) ≡ Ok k → d ≡ true
mapped_by true b c d e kind k is = absurd (cc is)
mapped_by false true c d e kind k is = absurd (cc is)
mapped_by false false true d e kind k is = absurd (cc is)
mapped_by false false false true e kind k is = refl
mapped_by false false false false e kind k is = absurd (cc is)

checked_maps : (o : Option NodeKind) (nodes : ℕ) (f : Fields) (kind : NodeKind) → checked_as o nodes f ≡ Ok kind → f.map_count ≡ map_pages_of f.file_length
unfolding checked_as
checked_maps None nodes f kind is = absurd (cc is)
checked_maps (Some k) nodes f kind is =
    eqb-true f.map_count (map_pages_of f.file_length)
    (mapped_by (not (may_be_named f.slot k (name_in f))) (nat_le nodes f.parent) (not (may_have_length k f.file_length)) (f.map_count == map_pages_of f.file_length) (not (is_zero_elsewhere k f)) k kind is)

mapped_from_checks : (r : Result NodeKind Why) (f : Fields) (node : Node) → ((kind : NodeKind) → r ≡ Ok kind → f.map_count ≡ map_pages_of f.file_length) → node_by r f ≡ Ok node → length node.maps ≡ map_pages_of node.length
mapped_from_checks (Ok kind) f node fits is =
    let same : node_from kind f ≡ node = cc is in
    ap (λ (n : Node). length n.maps) (sym same) ∙ length-refs_in f.map_count f.maps ∙ fits kind refl ∙ ap (λ (n : Node). map_pages_of n.length) same
mapped_from_checks (Err why) f node fits is = absurd (cc is)

read_by : (sealed : Bool) (r : Result Node NodeError) (e : NodeError) (node : Node) → cond sealed r (Err e) ≡ Ok node → r ≡ Ok node
read_by true r e node is = is
read_by false r e node is = absurd (cc is)

mapped_read : (nodes : ℕ) (page : List ℕ) (node : Node) → node_read nodes page ≡ Ok node → length node.maps ≡ map_pages_of node.length
unfolding node_read
mapped_read nodes page node is =
    mapped_from_checks (checked nodes (fields_in page)) (fields_in page) node (λ kind. checked_maps (kind_of (fields_in page).kind) nodes (fields_in page) kind)
    (read_by (bytes_eq (seal_of page) (sha256 (sealed_part page))) (node_by (checked nodes (fields_in page)) (fields_in page)) (Unsealed (seal_of page) (sha256 (sealed_part page))) node is)

node_at : (nodes slot : ℕ) (block : Standing) (node : Node) → node_checked nodes slot block ≡ Ok node → IsNodeAt slot node
node_at nodes slot block node is =
    let after : Result Node RecoverError = node_or_refusal block.place (node_read nodes block.page) in
    let one = refuse-ok (not (is_sealed block.page)) (Damaged (2 + slot) (seal_of block.page) (sha256 (sealed_part block.page))) (refuse (not (slot_of block.page == slot)) (Unfit block.place Slot) after) node is in
    let two = refuse-ok (not (slot_of block.page == slot)) (Unfit block.place Slot) after node one.then in
    let read = node_from_checked block.place (node_read nodes block.page) node two.then in
    record {
      own_slot = slot_read nodes block.page node read ∙ eqb-true (slot_of block.page) slot (not_false (slot_of block.page == slot) two.test_is);
      mapped = mapped_read nodes block.page node read;
    }

-- each of them stands at its slot
abbrev AreNodesAt : List Node → Type 0
AreNodesAt nodes = (slot : ℕ) → slot < length nodes → IsNodeAt slot (get_or nodes slot free_node)

more_nodes : (nodes : List Node) (node : Node) → AreNodesAt nodes → IsNodeAt (length nodes) node → AreNodesAt (nodes ++ node ∷ [])
more_nodes nodes node are is slot below = elim (cases_lt slot (length nodes)) [
  | inl before ↦ subst (IsNodeAt slot) (sym (get_or_append_left nodes (node ∷ []) free_node slot before)) (are slot before)
  | inr from ↦ (let last : length nodes ≡ slot = omega (arith, below, from, length_push nodes node) in subst (IsNodeAt slot) (sym (get_or_push nodes node free_node slot last)) (subst (λ (n : ℕ). IsNodeAt n node) last is))
]

nodes_at : (count left : ℕ) (blocks : ℕ → Standing) (nodes end : List Node) → AreNodesAt nodes → nodes_left count blocks left nodes ≡ Ok end → AreNodesAt end
nodes_at count zero blocks nodes end are is = let same : nodes ≡ end = cc is in subst AreNodesAt same are
nodes_at count (suc left) blocks nodes end are is =
    let one = and_then-ok (node_checked count (length nodes) (blocks (length nodes))) (λ node. nodes_left count blocks left (nodes ++ node ∷ [])) end is in
    nodes_at count left blocks (nodes ++ one.value ∷ []) end (more_nodes nodes one.value are (node_at count (length nodes) (blocks (length nodes)) one.value one.is)) one.then

-- ---- their map pages name each of their pages

named_from : (slot first left page : ℕ) (maps : List Ref) → length maps ≡ (left + 112) / 113 → first ≤ page → page < first + left → IsNamedBy (maps_from slot first left maps) slot page
named_from slot first left page [] many from below = absurd (omega (arith, many, from, below))
named_from slot first left page (r ∷ rs) many from below = elim (cases_lt page (first + 113)) [
  | inl before ↦ inl (record { slot_is = refl; from = from; below = omega (arith, before, below, from) })
  | inr after ↦ inr (named_from slot (first + 113) (left - 113) page rs (omega (arith, many)) after (omega (arith, after, below)))
]

named_left : (a b : List MapPage) (s page : ℕ) → IsNamedBy a s page → IsNamedBy (a ++ b) s page
named_left [] b s page named = absurd named
named_left (m ∷ ms) b s page (inl here) = inl here
named_left (m ∷ ms) b s page (inr there) = inr (named_left ms b s page there)

named_right : (a b : List MapPage) (s page : ℕ) → IsNamedBy b s page → IsNamedBy (a ++ b) s page
named_right [] b s page named = named
named_right (m ∷ ms) b s page named = inr (named_right ms b s page named)

named_in : (slots : List (Option Held)) (slot s page : ℕ) (held : Held) → held_at slots slot ≡ Some held → IsNamedBy (maps_of_node held.node) s page → IsNamedBy (maps_in slots) s page
unfolding maps_in
named_in [] slot s page held is named = absurd (cc is)
named_in (o ∷ slots) zero s page held is named = named_left (maps_of o) (flat_map maps_of slots) s page (subst (λ (x : Option Held). IsNamedBy (maps_of x) s page) (sym is) named)
named_in (o ∷ slots) (suc slot) s page held is named = named_right (maps_of o) (flat_map maps_of slots) s page (named_in slots slot s page held is named)

within : (nodes : List Node) (slot : ℕ) (held : Held) → held_at (held_of nodes) slot ≡ Some held → slot < length nodes
within [] slot held is = absurd (cc is)
within (node ∷ nodes) zero held is = omega arith
within (node ∷ nodes) (suc slot) held is = omega (arith, within nodes slot held is)

-- what is held of a node
record IsHeldOf (node : Node) (held : Held) : Type 0 where
  pub node_is : held.node ≡ node
  pub refs : length held.refs ≡ data_pages_of node.length

held_by : (free : Bool) (node : Node) (held : Held) → (let h : Held = record { node = node; refs = replicate (data_pages_of node.length) blank_ref } in cond free None (Some h) ≡ Some held) → IsHeldOf node held
held_by true node held is = absurd (cc is)
held_by false node held is =
    let same : (let h : Held = record { node = node; refs = replicate (data_pages_of node.length) blank_ref } in h ≡ held) = cc is in
    record { node_is = ap (λ (h : Held). h.node) (sym same); refs = ap (λ (h : Held). length h.refs) (sym same) ∙ length-replicate (data_pages_of node.length) blank_ref }

all_named : (start : ℕ) (nodes : List Node) → AreNodesAt nodes → AreInsideOr start (IsNamedBy (maps_in (held_of nodes))) (held_of nodes)
all_named start nodes are s page held is below =
    let inside : s < length nodes = within nodes s held is in
    let node : Node = get_or nodes s free_node in
    let at : IsNodeAt s node = are s inside in
    let of : IsHeldOf node held = held_by (is_free node.kind) node held (sym (get_or-map held_from nodes s free_node None inside) ∙ is) in
    let own : IsNamedBy (maps_of_node node) node.slot page = named_from node.slot 0 (data_pages_of node.length) page node.maps at.mapped (omega arith) (omega (arith, below, of.refs)) in
    inr (named_in (held_of nodes) s s page held is (subst (λ (n : Node). IsNamedBy (maps_of_node n) s page) (sym of.node_is) (subst (λ (n : ℕ). IsNamedBy (maps_of_node node) n page) at.own_slot own)))

-- ---- the whole

-- the references of what a slot holds name places from this one on
abbrev pub NamesFrom : ℕ → Option Held → Type 0
NamesFrom start None = Unit {0}
NamesFrom start (Some held) = All (λ r. start ≤ r.place) held.refs

names_from : (start slot : ℕ) (slots : List (Option Held)) (o : Option Held) → held_at slots slot ≡ o → AreInsideOr start (λ s page. ⊥) slots → NamesFrom start o
names_from start slot slots None is are = tt
names_from start slot slots (Some held) is are =
    All-from_get_or (λ (r : Ref). start ≤ r.place) held.refs blank_ref (λ page below. elim (are slot page held is below) [ inl inside ↦ inside | inr none ↦ absurd none ])

pub references-inside : (size : ℕ) (reads : ℕ → List ℕ) (m : Metadata) (has : HasMetadata size reads m) → All (NamesFrom (data_start has.head)) m.held
references-inside size reads m has =
    let head : Head = has.head in
    let start : ℕ = data_start head in
    let places : ℕ → ℕ = λ slot. (block_of reads head slot).place in
    let one = and_then-ok (nodes_left head.nodes (block_of reads head) head.nodes []) (λ nodes. and_then (index_or_refusal (head_place reads) places (index_from (limits_of head) nodes)) (mapped_from reads head places)) has.known has.below in
    let two = and_then-ok (index_or_refusal (head_place reads) places (index_from (limits_of head) one.value)) (mapped_from reads head places) has.known one.then in
    let found : AreNodesAt one.value = nodes_at head.nodes head.nodes (block_of reads head) [] one.value (λ slot below. absurd (omega arith)) one.is in
    let held : held_of one.value ≡ two.value.nodes = index-nodes (head_place reads) places (limits_of head) one.value two.value two.is in
    let begun : AreInsideOr start (IsNamedBy (maps_in two.value.nodes)) two.value.nodes = subst (λ (l : List (Option Held)). AreInsideOr start (IsNamedBy (maps_in l)) l) held (all_named start one.value found) in
    let known : Mapped = record { slots = two.value.nodes; claims = no_claims head } in
    let set : AreInsideOr start (λ s page. ⊥) has.known.slots = maps-set start reads places (maps_in two.value.nodes) known has.known refl two.then begun in
    let slots : List (Option Held) = has.known.slots in
    subst (λ (x : Metadata). All (NamesFrom start) x.held) has.made
    (All-from_get_or (NamesFrom start) slots None (λ slot below. names_from start slot slots (held_at slots slot) refl set))
