-- The blocks of a view's nodes read as nodes by slot, which make its index.
use Rattle.std.proofs.Common.{rules, ◌≡◌, ℕ, zero, suc, ◌+◌, ◌<◌, ◌≤◌, Bool, true, false, not, cond, eqb, ltb, ◌||◌, List, [], ◌∷◌, ◌++◌, length, Option, Some, None, Result, Ok, Err, refl, sym, ap, subst, ◌∙◌, inl, inr, add-zero, append-nil, append_assoc, length-append, arith}
use Rattle.std.proofs.lemmas.Bool.{cases_lt, cond-false, eq-eqb, le-ltb}
use Rattle.std.proofs.lemmas.List.{get_or_past}
use Rattle.std.proofs.lemmas.List.Elements.{All-nil}
use Rattle.std.proofs.lemmas.List.Sums.{sum_by-cons}
use Rattle.std.specs.Bool.{IsTrue}
use Rattle.std.specs.Option.{option_map}
use Rattle.sha2.specs.Sha256.{sha256}
use Rattle.vb_block.specs.Pages.{seal_of, sealed_part}
use Rattle.vb_disk.specs.Misses.{is_sealed}
use Rattle.vb_index.specs.declared.held.Held.{Held}
use Rattle.vb_index.specs.Heights.{IsRooted}
use Rattle.vb_index.specs.Indexes.{IndexState}
use Rattle.vb_index.specs.Nodes.{held_at, is_folder_node, is_file_node, pages_in, pages_of_slot, IsTable}
use Rattle.vb_inode.specs.declared.node.Node.{Node}
use Rattle.vb_inode.specs.declared.node.NodeKind.{NodeKind}
use Rattle.vb_inode.specs.declared.node.NodeKind.TheVariants.{Free, Folder, File}
use Rattle.vb_inode.specs.declared.errors.NodeError.{NodeError}
use Rattle.vb_inode.specs.declared.errors.NodeError.TheVariants.{Unsealed}
use Rattle.vb_inode.specs.Checks.{checked}
use Rattle.vb_inode.specs.Layout.{fields_in, AreRefs}
use Rattle.vb_inode.specs.Nodes.{is_free, may_be_named, IsInRange}
use Rattle.vb_inode.specs.Reading.{IsNodeOf, node_by, node_read}
use Rattle.vb_inode.proofs.PagesRead.{node_page_read}
use Rattle.vb_journal.specs.declared.recover_error.RecoverError.{RecoverError}
use Rattle.vb_journal.specs.Images.{slot_of}
use Rattle.vb_nodes.specs.declared.errors.TableError.{TableError}
use Rattle.vb_nodes.specs.declared.errors.TableError.TheVariants.{TooManyPages}
use Rattle.vb_nodes.specs.Faults.{Fault}
use Rattle.vb_nodes.specs.Holdings.{held_from, held_of, index_from, pages_of_nodes, refuse_fault, StandForAll, StandsFor}
use Rattle.vb_nodes.specs.Paths.{free_node, node_at as listed_at}
use Rattle.vb_nodes.proofs.Rooted.{held-no_fault, held-of_store}
use Rattle.vb_path.specs.Parts.{is_part}
use Rattle.vb_plan.specs.Plans.{node_at, node_in}
use Rattle.vb_store.specs.Metadata.{Standing, and_then, node_checked, node_or_refusal, nodes_left}
use Rattle.vb_store.proofs.Chains.{refuse-passed}
use Rattle.vb_store.proofs.SlotsRead.{slot_read}
use Rattle.vb_tree.specs.declared.tree.Limits.{Limits}
use Rattle.vb_tree.specs.Trees.{map_pages_of, pages_of_length}
use Rattle.vb_views.specs.AtRest.{IsBlockOf, node_block}
use Rattle.vb_views.proofs.MapsTaken.{blank_held, blanked}

-- ---- the list

-- the nodes of slots, from this one on
abbrev pub listed : ℕ → List (Option Held) → List Node
listed slot [] = []
listed slot (o ∷ nodes) = node_in slot (option_map (λ held. held.node) o) ∷ listed (suc slot) nodes

pub length-listed : (slot : ℕ) (nodes : List (Option Held)) → length (listed slot nodes) ≡ length nodes
length-listed slot [] = refl
length-listed slot (o ∷ nodes) = ap suc (length-listed (suc slot) nodes)

pub at-listed : (slot : ℕ) (nodes : List (Option Held)) (k : ℕ) → k < length nodes → listed_at (listed slot nodes) k ≡ node_in (slot + k) (node_at nodes k)
at-listed slot [] k within = absurd (omega (arith, within))
at-listed slot (o ∷ nodes) zero within = ap (λ (s : ℕ). node_in s (option_map (λ (held : Held). held.node) o)) (sym (add-zero slot))
at-listed slot (o ∷ nodes) (suc k) within =
    at-listed (suc slot) nodes k (omega (arith, within)) ∙ ap (λ (s : ℕ). node_in s (node_at nodes k)) (let e : suc slot + k ≡ slot + suc k = omega arith in e)

stands_for : (slot : ℕ) (o : Option Held) → StandsFor o (node_in slot (option_map (λ held. held.node) o))
stands_for slot None = refl
stands_for slot (Some held) = refl

free_stands : (o : Option Held) → o ≡ None → StandsFor o free_node
free_stands None none = refl
free_stands (Some held) none = absurd (cc none)

-- they stand for what the slots hold
pub stand-listed : (nodes : List (Option Held)) → StandForAll (listed 0 nodes) nodes
stand-listed nodes = record {
  as_many = length-listed 0 nodes;
  each = λ slot. elim (cases_lt slot (length nodes)) [
    | inl within ↦ subst (StandsFor (held_at nodes slot)) (sym (at-listed 0 nodes slot within ∙ ap (λ (s : ℕ). node_in s (node_at nodes slot)) (let e : 0 + slot ≡ slot = omega arith in e))) (stands_for slot (held_at nodes slot))
    | inr past ↦ subst (StandsFor (held_at nodes slot)) (sym (get_or_past (listed 0 nodes) slot free_node (omega (arith, past, length-listed 0 nodes)))) (free_stands (held_at nodes slot) (get_or_past nodes slot None past))
  ];
}

-- ---- their blocks

slot_in : (slot : ℕ) (o : Option Node) → ((node : Node) → o ≡ Some node → node.slot ≡ slot) → (node_in slot o).slot ≡ slot
slot_in slot None own = refl
slot_in slot (Some node) own = own node refl

own_slot : (nodes : List (Option Held)) (slot : ℕ) → IsTable nodes → (node_in slot (node_at nodes slot)).slot ≡ slot
own_slot nodes slot table = by (held_at nodes slot) refl where
  by : (o : Option Held) → held_at nodes slot ≡ o → (node_in slot (node_at nodes slot)).slot ≡ slot
  by None is = ap (λ (o : Option Held). (node_in slot (option_map (λ (h : Held). h.node) o)).slot) is
  by (Some held) is = ap (λ (o : Option Held). (node_in slot (option_map (λ (h : Held). h.node) o)).slot) is ∙ (table.fits slot held is).at_slot

sealed_by : (sealed : Bool) (read other : Result Node NodeError) (node : Node) → cond sealed read other ≡ Ok node → ((n : Node) → other ≡ Ok n → ⊥) → sealed ≡ true
sealed_by true read other node is never = refl
sealed_by false read other node is never = absurd (never node is)

-- a page that reads as a node is sealed
sealed_read : (count : ℕ) (page : List ℕ) (node : Node) → node_read count page ≡ Ok node → is_sealed page ≡ true
unfolding node_read
sealed_read count page node is =
    sealed_by (is_sealed page) (node_by (checked count (fields_in page)) (fields_in page)) (Err (Unsealed (seal_of page) (sha256 (sealed_part page)))) node is (λ n e. absurd (cc e))

block_checked : (nodes : List (Option Held)) (slot place : ℕ) (page : List ℕ) → IsTable nodes → IsBlockOf nodes slot page → node_checked (length nodes) slot (record { place = place; page = page }) ≡ Ok (node_in slot (node_at nodes slot))
block_checked nodes slot place page table read =
    let node = node_in slot (node_at nodes slot) in
    refuse-passed (not (is_sealed page)) _ _ node (ap not (sealed_read (length nodes) page node read))
    (refuse-passed (not (eqb (slot_of page) slot)) _ _ node (ap not (eq-eqb (slot_of page) slot (sym (slot_read (length nodes) page node read) ∙ own_slot nodes slot table)))
    (ap (node_or_refusal place) read))

read_on : (count : ℕ) (blocks : ℕ → Standing) (nodes : List (Option Held)) (found : List Node) → ((k : ℕ) → k < length nodes → node_checked count (length found + k) (blocks (length found + k)) ≡ Ok (node_in (length found + k) (node_at nodes k))) → nodes_left count blocks (length nodes) found ≡ Ok (found ++ listed (length found) nodes)
read_on count blocks [] found each = ap Ok (sym (append-nil found))
read_on count blocks (o ∷ nodes) found each =
    let node = node_in (length found) (option_map (λ (h : Held). h.node) o) in
    let longer : length (found ++ node ∷ []) ≡ suc (length found) = omega (arith, length-append found (node ∷ [])) in
    let P : ℕ → Type 0 = λ s. node_checked count s (blocks s) ≡ Ok (node_in s (option_map (λ (h : Held). h.node) o)) in
    let here : node_checked count (length found) (blocks (length found)) ≡ Ok node = subst P (add-zero (length found)) (each 0 (omega arith)) in
    ap (λ (r : Result Node RecoverError). and_then r (λ n. nodes_left count blocks (length nodes) (found ++ n ∷ []))) here
    ∙ read_on count blocks nodes (found ++ node ∷ []) (λ k within.
    let Q : ℕ → Type 0 = λ s. node_checked count s (blocks s) ≡ Ok (node_in s (node_at nodes k)) in
    subst Q (let e : length found + suc k ≡ length (found ++ node ∷ []) + k = omega (arith, longer) in e) (each (suc k) (omega (arith, within))))
    ∙ ap (λ (s : ℕ). let r : Result (List Node) RecoverError = Ok ((found ++ node ∷ []) ++ listed s nodes) in r) longer
    ∙ ap Ok (append_assoc found (node ∷ []) (listed (suc (length found)) nodes))

-- the blocks are read as all nodes
pub nodes-listed : (nodes : List (Option Held)) (blocks : ℕ → List ℕ) → IsTable nodes → ((slot : ℕ) → slot < length nodes → IsBlockOf nodes slot (blocks slot)) → nodes_left (length nodes) (λ slot. record { place = 0; page = blocks slot }) (length nodes) [] ≡ Ok (listed 0 nodes)
nodes-listed nodes blocks table are =
    let standing : ℕ → Standing = λ slot. record { place = 0; page = blocks slot } in
    read_on (length nodes) standing nodes [] (λ k within.
    let Q : ℕ → Type 0 = λ s. node_checked (length nodes) s (standing s) ≡ Ok (node_in s (node_at nodes k)) in
    subst Q (let e : k ≡ 0 + k = omega arith in e) (block_checked nodes k 0 (blocks k) table (are k within)))

-- ---- their index

used_kind : (kind : NodeKind) → is_file_node kind ≡ not (is_folder_node kind) → is_free kind ≡ false
used_kind Free either = absurd (cc either)
used_kind Folder either = refl
used_kind File either = refl

held_blank : (slot : ℕ) (o : Option Held) → ((held : Held) → o ≡ Some held → is_free held.node.kind ≡ false) → held_from (node_in slot (option_map (λ held. held.node) o)) ≡ option_map blank_held o
held_blank slot None used = refl
held_blank slot (Some held) used = cond-false (is_free held.node.kind) None (Some (blank_held held)) (used held refl)

all_blank : (slot : ℕ) (nodes : List (Option Held)) → ((k : ℕ) (held : Held) → held_at nodes k ≡ Some held → is_free held.node.kind ≡ false) → held_of (listed slot nodes) ≡ blanked nodes
all_blank slot [] used = refl
all_blank slot (o ∷ nodes) used =
    ap (λ (x : Option Held). x ∷ held_of (listed (suc slot) nodes)) (held_blank slot o (used 0))
    ∙ ap (λ (l : List (Option Held)). option_map blank_held o ∷ l) (all_blank (suc slot) nodes (λ k. used (suc k)))

node_pages : (slot : ℕ) (o : Option Held) → pages_of_length (node_in slot (option_map (λ held. held.node) o)).length ≡ pages_of_slot o
node_pages slot None = refl
node_pages slot (Some held) = refl

pages_listed : (slot : ℕ) (nodes : List (Option Held)) → pages_of_nodes (listed slot nodes) ≡ pages_in nodes
pages_listed slot [] = refl
pages_listed slot (o ∷ nodes) =
    omega (arith, pages_listed (suc slot) nodes, node_pages slot o, sum_by-cons (λ (n : Node). pages_of_length n.length) (node_in slot (option_map (λ held. held.node) o)) (listed (suc slot) nodes), sum_by-cons pages_of_slot o nodes)

-- the nodes make the index, but for its references
pub index-blanked : (limits : Limits) (nodes : List (Option Held)) → IsTable nodes → IsRooted nodes → pages_in nodes ≤ limits.pages → index_from limits (listed 0 nodes) ≡ Ok (record { limits = limits; nodes = blanked nodes })
index-blanked limits nodes table rooted few =
    let ns = listed 0 nodes in
    let index : List (Option Held) → ℕ → Result IndexState TableError = λ held pages. cond (ltb limits.pages pages) (Err TooManyPages) (Ok (record { limits = limits; nodes = held })) in
    let blank : held_of ns ≡ blanked nodes = all_blank 0 nodes (λ k held is. used_kind held.node.kind (table.fits k held is).either) in
    ap (λ (o : Option Fault). refuse_fault o (index (held_of ns) (pages_of_nodes ns))) (held-no_fault ns nodes table rooted (stand-listed nodes))
    ∙ ap (index (held_of ns)) (pages_listed 0 nodes)
    ∙ cond-false (ltb limits.pages (pages_in nodes)) (Err TooManyPages) (Ok (record { limits = limits; nodes = held_of ns })) (le-ltb limits.pages (pages_in nodes) few)
    ∙ ap (λ (l : List (Option Held)). let r : Result IndexState TableError = Ok (record { limits = limits; nodes = l }) in r) blank

-- ---- blocks as a commit writes them

free_in_range : (slot : ℕ) → IsInRange (node_in slot None)
unfolding may_be_named
free_in_range slot = record { named = unnamed (eqb slot 0); parented = refl; measured = refl; mapped = refl } where
  unnamed : (b : Bool) → IsTrue (cond (b || is_free Free) true (is_part []))
  unnamed true = search rules
  unnamed false = search rules

-- the references of what slots hold can stand in blocks, and there is one for each map page
pub record AreMapped (nodes : List (Option Held)) : Type 0 where
  pub refs : (slot : ℕ) (held : Held) → held_at nodes slot ≡ Some held → AreRefs held.node.maps
  pub maps : (slot : ℕ) (held : Held) → held_at nodes slot ≡ Some held → length held.node.maps ≡ map_pages_of held.node.length

here_in : (nodes : List (Option Held)) (slot : ℕ) → slot < length nodes → listed_at (listed 0 nodes) slot ≡ node_in slot (node_at nodes slot)
here_in nodes slot within = at-listed 0 nodes slot within ∙ ap (λ (s : ℕ). node_in s (node_at nodes slot)) (let e : 0 + slot ≡ slot = omega arith in e)

pub of-store : (nodes : List (Option Held)) (slot : ℕ) → IsTable nodes → IsRooted nodes → AreMapped nodes → slot < length nodes → IsNodeOf (length nodes) (node_in slot (node_at nodes slot))
of-store nodes slot table rooted mapped within = by (held_at nodes slot) refl where
  few : length nodes ≤ 65536
  few = table.few

  by : (o : Option Held) → held_at nodes slot ≡ o → IsNodeOf (length nodes) (node_in slot (node_at nodes slot))
  by None is = subst (λ (o : Option Held). IsNodeOf (length nodes) (node_in slot (option_map (λ (h : Held). h.node) o))) (sym is) (record {
    slot = omega (arith, within, few);
    parent = omega (arith, within);
    in_range = free_in_range slot;
    refs = All-nil _;
  })
  by (Some held) is =
      let node : listed_at (listed 0 nodes) slot ≡ held.node = here_in nodes slot within ∙ ap (λ (o : Option Held). node_in slot (option_map (λ (h : Held). h.node) o)) is in
      subst (λ (n : ℕ). IsNodeOf n (node_in slot (node_at nodes slot))) (length-listed 0 nodes)
      (subst (IsNodeOf (length (listed 0 nodes))) (here_in nodes slot within)
      (held-of_store (listed 0 nodes) nodes slot held table rooted (stand-listed nodes) is
      (ap (λ (n : Node). length n.maps) node ∙ mapped.maps slot held is)
      (subst (λ (n : Node). AreRefs n.maps) (sym node) (mapped.refs slot held is))))

-- the block that is written for a slot is that of its node
pub block-read : (nodes : List (Option Held)) (slot : ℕ) → IsTable nodes → IsRooted nodes → AreMapped nodes → slot < length nodes → IsBlockOf nodes slot (node_block nodes slot)
block-read nodes slot table rooted mapped within = node_page_read (length nodes) (node_in slot (node_at nodes slot)) (omega (arith, table.few)) (of-store nodes slot table rooted mapped within)
