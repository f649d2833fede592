-- From an empty store epoch 0 and the empty tree are recovered.
use Rattle.std.proofs.Common.{◌≡◌, ℕ, zero, suc, ◌+◌, ◌-◌, ◌<◌, ◌≤◌, Bool, true, false, not, cond, eqb, ltb, List, [], ◌∷◌, ◌++◌, length, get_or, map, replicate, Option, Some, None, Result, Ok, Err, refl, sym, ap, subst, ◌∙◌, add-zero, zero-add, append-nil, append_assoc, length-append, arith}
use Rattle.std.specs.List.{flat_map}
use Rattle.std.specs.Option.{option_map, option_or}
use Rattle.std.proofs.lemmas.Bool.{cond-false, cond-true, eq-eqb, le-ltb, ne_eqb}
use Rattle.std.proofs.lemmas.List.Elements.{All-nil}
use Rattle.std.proofs.lemmas.Slice.Eq.{bytes_eq-Decides}
use Rattle.std.proofs.lemmas.List.Sums.{sum_by-cons}
use Rattle.sha2.specs.Sha256.{sha256}
use Rattle.vb_block.specs.Pages.{seal_of, sealed_part}
use Rattle.vb_block.specs.declared.why.Why.TheVariants.{Blocks}
use Rattle.vb_disk.specs.declared.cell.Cell.{Cell}
use Rattle.vb_disk.specs.Cells.{read_of}
use Rattle.vb_disk.specs.Misses.{is_sealed}
use Rattle.vb_disk.specs.States.{DiskState, read_at}
use Rattle.vb_head.specs.declared.head.Head.{Head}
use Rattle.vb_head.specs.declared.head.HeadRead.{HeadRead}
use Rattle.vb_head.specs.declared.head.HeadRead.TheVariants.{Good}
use Rattle.vb_head.specs.Heads.{head_page, head_read}
use Rattle.vb_head.proofs.HeadsRead.{head_read-head_page}
use Rattle.vb_inode.specs.declared.node.Node.{Node}
use Rattle.vb_inode.specs.declared.node.NodeKind.TheVariants.{Folder, Free}
use Rattle.vb_inode.specs.Nodes.{is_free}
use Rattle.vb_inode.specs.Reading.{IsNodeOf, node_read}
use Rattle.vb_inode.proofs.Decoded.{Holds-node_page}
use Rattle.vb_inode.proofs.PagesRead.{node_page_read}
use Rattle.vb_index.specs.declared.held.Held.{Held}
use Rattle.vb_index.specs.Indexes.{IndexState}
use Rattle.vb_index.specs.Nodes.{root_held}
use Rattle.vb_journal.specs.declared.recover_error.RecoverError.{RecoverError}
use Rattle.vb_journal.specs.declared.recover_error.RecoverError.TheVariants.{NotAStore, Unfit}
use Rattle.vb_journal.specs.Images.{slot_of}
use Rattle.vb_journal.specs.Recoveries.{choice_of, head_among, head_choice}
use Rattle.vb_nodes.specs.declared.errors.TableError.{TableError}
use Rattle.vb_nodes.specs.declared.errors.TableError.TheVariants.{TooManyPages}
use Rattle.vb_nodes.specs.Faults.{Fault, fault_below, fault_of_entry, fault_of_slot, table_fault}
use Rattle.vb_nodes.specs.Holdings.{held_from, held_of, index_from, pages_of_nodes, refuse_fault}
use Rattle.vb_nodes.specs.Paths.{free_node}
use Rattle.vb_tree.specs.declared.tree.Limits.{Limits}
use Rattle.vb_tree.specs.Trees.{pages_of_length}
use Rattle.vb_store.specs.declared.map_page.MapPage.{MapPage}
use Rattle.vb_store.specs.Clear.{IsClear, taken_as, taken_cell}
use Rattle.vb_store.specs.EmptyStores.{HoldsEmptyStore, empty_home, whole_cell}
use Rattle.vb_store.specs.Formats.{CanFormat, empty_node, made_head}
use Rattle.vb_journal.specs.Notes.{head_place}
use Rattle.vb_store.specs.Metadata.{Mapped, Metadata, Standing, and_then, block_of, index_or_refusal, journal_fault, known_below, mapped_from, maps_in, maps_left, maps_of, metadata_from, metadata_of, no_claims, node_checked, node_or_refusal, nodes_left, unless}
use Rattle.vb_store.specs.Recovered.{Placed, Recovers, entries_read, placed_by, recovered, recovered_at, recovered_from}
use Rattle.vb_store.specs.Views.{limits_of}
use Rattle.vb_store.proofs.Chains.{refuse-passed}
use Rattle.vb_store.proofs.EmptyNodes.{IsInRange-empty_node}
use Rattle.vb_store.proofs.EmptyStores.{HoldsEmptyStore-crashed, IsHead-made_head}
use Rattle.vb_store.proofs.SlotsRead.{slot_read}

-- what reads of an empty store give
pub record ReadsEmpty (folder : List ℕ) (blocks nodes : ℕ) (reads : ℕ → List ℕ) : Type 0 where
  pub can : CanFormat folder blocks nodes
  pub long : length folder ≡ 16
  pub first : reads 0 ≡ head_page (made_head folder blocks nodes)
  pub second : reads 1 ≡ head_page (made_head folder blocks nodes)
  pub homes : (slot : ℕ) → slot < nodes → reads (2 + slot) ≡ empty_home slot

-- ---- the head

-- a head of the disk's size is chosen
sized : Head → Bool → Result Head RecoverError
sized h same = cond (not same) (Err (Unfit 0 Blocks)) (Ok h)

choice : (folder : List ℕ) (blocks nodes : ℕ) (reads : ℕ → List ℕ) → ReadsEmpty folder blocks nodes reads → choice_of blocks reads ≡ Ok (made_head folder blocks nodes)
unfolding sized
choice folder blocks nodes reads r =
    let h = made_head folder blocks nodes in
    ap (λ (p : List ℕ). head_choice blocks (head_read p) (head_read (reads 1))) r.first
    ∙ ap (λ (p : List ℕ). head_choice blocks (head_read (head_page h)) (head_read p)) r.second
    ∙ ap (λ (a : HeadRead). head_choice blocks a a) (head_read-head_page h (IsHead-made_head folder blocks nodes r.can r.long))
    ∙ cond-false (ltb blocks 38) (Err (NotAStore 0)) (head_among blocks (Good h) (Good h) (Some h)) (le-ltb blocks 38 (let low = r.can.nodes_low in let space = r.can.space in omega arith))
    ∙ ap (sized h) (eq-eqb blocks blocks refl)

-- ---- the nodes

-- the nodes of so many slots from this one on
empties : ℕ → ℕ → List Node
empties slot zero = []
empties slot (suc n) = empty_node slot ∷ empties (suc slot) n

IsNodeOf-empty_node : (nodes slot : ℕ) → nodes ≤ 65536 → slot < nodes → IsNodeOf nodes (empty_node slot)
IsNodeOf-empty_node nodes slot few within = record {
  slot = omega arith;
  parent = omega arith;
  in_range = IsInRange-empty_node slot;
  refs = All-nil _;
}

-- the block of each slot is that of its node
home_checked : (nodes slot place : ℕ) → nodes ≤ 65536 → slot < nodes → node_checked nodes slot (record { place = place; page = empty_home slot }) ≡ Ok (empty_node slot)
home_checked nodes slot place few within =
    let p = empty_home slot in
    let is : IsNodeOf nodes (empty_node slot) = IsNodeOf-empty_node nodes slot few within in
    let read : node_read nodes p ≡ Ok (empty_node slot) = node_page_read nodes (empty_node slot) (omega arith) is in
    let sealed : is_sealed p ≡ true = (bytes_eq-Decides (seal_of p) (sha256 (sealed_part p))).1 (Holds-node_page nodes p (empty_node slot) (omega arith) is refl).is_sealed in
    refuse-passed (not (is_sealed p)) _ _ (empty_node slot) (ap not sealed)
    (refuse-passed (not (eqb (slot_of p) slot)) _ _ (empty_node slot) (ap not (eq-eqb (slot_of p) slot (sym (slot_read nodes p (empty_node slot) read))))
    (ap (node_or_refusal place) read))

block_checked : (nodes slot : ℕ) (block : Standing) → nodes ≤ 65536 → slot < nodes → block.page ≡ empty_home slot → node_checked nodes slot block ≡ Ok (empty_node slot)
block_checked nodes slot block few within page =
    let P : List ℕ → Type 0 = λ p. node_checked nodes slot (record { place = block.place; page = p }) ≡ Ok (empty_node slot) in
    subst P (sym page) (home_checked nodes slot block.place few within)

nodes_read : (nodes left : ℕ) (blocks : ℕ → Standing) (found : List Node) → nodes ≤ 65536 → length found + left ≡ nodes → ((slot : ℕ) → slot < nodes → (blocks slot).page ≡ empty_home slot) → nodes_left nodes blocks left found ≡ Ok (found ++ empties (length found) left)
unfolding empties
nodes_read nodes zero blocks found few all pages = ap Ok (sym (append-nil found))
nodes_read nodes (suc left) blocks found few all pages =
    let e = empty_node (length found) in
    let longer : length (found ++ e ∷ []) ≡ suc (length found) = omega (arith, length-append found (e ∷ [])) in
    ap (λ (r : Result Node RecoverError). and_then r (λ node. nodes_left nodes blocks left (found ++ node ∷ []))) (block_checked nodes (length found) (blocks (length found)) few (omega arith) (pages (length found) (omega arith)))
    ∙ nodes_read nodes left blocks (found ++ e ∷ []) few (omega arith) pages
    ∙ ap (λ (s : ℕ). let r : Result (List Node) RecoverError = Ok ((found ++ e ∷ []) ++ empties s left) in r) longer
    ∙ ap Ok (append_assoc found (e ∷ []) (empties (suc (length found)) left))

-- ---- the index

length-empties : (slot n : ℕ) → length (empties slot n) ≡ n
unfolding empties
length-empties slot zero = refl
length-empties slot (suc n) = ap suc (length-empties (suc slot) n)

at-empties : (slot n k : ℕ) → k < n → get_or (empties slot n) k free_node ≡ empty_node (slot + k)
unfolding empties
at-empties slot zero k within = absurd (omega arith)
at-empties slot (suc n) zero within = ap empty_node (sym (add-zero slot))
at-empties slot (suc n) (suc k) within = at-empties (suc slot) n k (omega arith) ∙ ap empty_node (let e : suc slot + k ≡ slot + suc k = omega arith in e)

not_root : (k : ℕ) → eqb (suc k) 0 ≡ false
not_root k = ne_eqb (suc k) 0 (λ is. omega arith)

is_free-empty_node : (k : ℕ) → is_free (empty_node (suc k)).kind ≡ true
is_free-empty_node k = ap (λ (b : Bool). is_free (cond b Folder Free)) (not_root k)

-- nothing is wrong with a slot
slot_judged : (n slot : ℕ) → slot < n → fault_of_slot (empties 0 n) slot ≡ None
unfolding empties
slot_judged zero slot within = absurd (omega arith)
slot_judged (suc n) zero within = refl
slot_judged (suc n) (suc k) within =
    let is : get_or (empties 0 (suc n)) (suc k) free_node ≡ empty_node (suc k) = at-empties 0 (suc n) (suc k) within ∙ ap empty_node (zero-add (suc k)) in
    cond-false (eqb (suc k) 0) _ _ (not_root k)
    ∙ cond-true (is_free (get_or (empties 0 (suc n)) (suc k) free_node).kind) None (fault_of_entry (empties 0 (suc n)) (suc k)) (ap (λ (node : Node). is_free node.kind) is ∙ is_free-empty_node k)

none_below : (n m : ℕ) → m ≤ n → fault_below (empties 0 n) m ≡ None
none_below n zero within = refl
none_below n (suc m) within =
    ap (λ (o : Option Fault). option_or o (option_map (λ why. let f : Fault = record { slot = m; why = why } in f) (fault_of_slot (empties 0 n) m))) (none_below n m (omega arith))
    ∙ ap (option_map (λ why. let f : Fault = record { slot = m; why = why } in f)) (slot_judged n m (omega arith))

no_fault : (n : ℕ) → table_fault (empties 0 n) ≡ None
no_fault n = ap (fault_below (empties 0 n)) (length-empties 0 n) ∙ none_below n n (omega arith)

no_pages : (slot n : ℕ) → pages_of_nodes (empties slot n) ≡ 0
unfolding empties
no_pages slot zero = refl
no_pages slot (suc n) = sum_by-cons (λ (node : Node). pages_of_length node.length) (empty_node slot) (empties (suc slot) n) ∙ omega (arith, no_pages (suc slot) n)

free_held : (slot n : ℕ) → map held_from (empties (suc slot) n) ≡ replicate n None
unfolding empties
free_held slot zero = refl
free_held slot (suc n) =
    ap (λ (o : Option Held). o ∷ map held_from (empties (suc (suc slot)) n)) (cond-true (is_free (empty_node (suc slot)).kind) None _ (is_free-empty_node slot))
    ∙ ap (λ (l : List (Option Held)). None ∷ l) (free_held (suc slot) n)

all_held : (n : ℕ) → held_of (empties 0 (suc n)) ≡ Some root_held ∷ replicate (suc n - 1) None
unfolding empties
all_held n =
    ap (λ (l : List (Option Held)). Some root_held ∷ l) (free_held 0 n)
    ∙ ap (λ (k : ℕ). let l : List (Option Held) = Some root_held ∷ replicate k None in l) (let e : n ≡ suc n - 1 = omega arith in e)

-- the index of so many slots under limits
held_index : Limits → ℕ → IndexState
held_index limits nodes = record { limits = limits; nodes = Some root_held ∷ replicate (nodes - 1) None }

-- the index of these nodes, where they have so many pages
counted : Limits → List (Option Held) → ℕ → Result IndexState TableError
counted limits held pages = cond (ltb limits.pages pages) (Err TooManyPages) (Ok (record { limits = limits; nodes = held }))

indexed : (limits : Limits) (nodes : ℕ) → 1 ≤ nodes → index_from limits (empties 0 nodes) ≡ Ok (held_index limits nodes)
unfolding held_index counted
indexed limits nodes some =
    let ns = empties 0 nodes in
    let P : ℕ → Type 0 = λ n. held_of (empties 0 n) ≡ Some root_held ∷ replicate (n - 1) None in
    let held : held_of ns ≡ Some root_held ∷ replicate (nodes - 1) None = subst P (let e : suc (nodes - 1) ≡ nodes = omega arith in e) (all_held (nodes - 1)) in
    ap (λ (o : Option Fault). refuse_fault o (counted limits (held_of ns) (pages_of_nodes ns))) (no_fault nodes)
    ∙ ap (counted limits (held_of ns)) (no_pages 0 nodes)
    ∙ cond-false (ltb limits.pages 0) (Err TooManyPages) (Ok (record { limits = limits; nodes = held_of ns })) (le-ltb limits.pages 0 (omega arith))
    ∙ ap (λ (l : List (Option Held)). let r : Result IndexState TableError = Ok (record { limits = limits; nodes = l }) in r) held

-- ---- the map pages

free_maps : (n : ℕ) → flat_map maps_of (replicate n None) ≡ []
free_maps zero = refl
free_maps (suc n) = free_maps n

no_maps : (n : ℕ) → maps_in (Some root_held ∷ replicate n None) ≡ []
unfolding maps_in
no_maps n = free_maps n

-- ---- the whole

-- the slots of the empty store
abbrev pub empty_slots : ℕ → List (Option Held)
empty_slots nodes = Some root_held ∷ replicate (nodes - 1) None

known : (folder : List ℕ) (blocks nodes place : ℕ) (reads : ℕ → List ℕ) → ReadsEmpty folder blocks nodes reads → known_below reads (made_head folder blocks nodes) place (block_of reads (made_head folder blocks nodes)) ≡ Ok (record { slots = empty_slots nodes; claims = no_claims (made_head folder blocks nodes) })
unfolding held_index
known folder blocks nodes place reads r =
    let h = made_head folder blocks nodes in
    let places : ℕ → ℕ = λ slot. (block_of reads h slot).place in
    let few = r.can.nodes_high in
    let low = r.can.nodes_low in
    ap (λ (x : Result (List Node) RecoverError). and_then x (λ ns. and_then (index_or_refusal place places (index_from (limits_of h) ns)) (λ index. mapped_from reads h places index)))
    (nodes_read nodes nodes (block_of reads h) [] few (zero-add nodes) r.homes)
    ∙ ap (λ (x : Result IndexState TableError). and_then (index_or_refusal place places x) (λ index. mapped_from reads h places index)) (indexed (limits_of h) nodes (omega arith))
    ∙ ap (λ (ms : List MapPage). maps_left reads places ms (record { slots = empty_slots nodes; claims = no_claims h })) (no_maps (nodes - 1))

pub metadata-empty : (folder : List ℕ) (blocks nodes : ℕ) (reads : ℕ → List ℕ) → ReadsEmpty folder blocks nodes reads → metadata_of blocks reads ≡ Ok (record { head = made_head folder blocks nodes; held = empty_slots nodes })
unfolding metadata_of
metadata-empty folder blocks nodes reads r =
    let h = made_head folder blocks nodes in
    ap (λ (c : Result Head RecoverError). and_then c (λ head. unless (journal_fault reads head) (and_then (known_below reads head (head_place reads) (block_of reads head)) (λ known. let m : Result Metadata RecoverError = Ok (metadata_from head known) in m)))) (choice folder blocks nodes reads r)
    ∙ ap (λ (k : Result Mapped RecoverError). and_then k (λ known. let m : Result Metadata RecoverError = Ok (metadata_from h known) in m)) (known folder blocks nodes (head_place reads) reads r)

pub free_placed : (table : List (Option Held)) (n : ℕ) → placed_by table (replicate n None) ≡ []
free_placed table zero = refl
free_placed table (suc n) = free_placed table n

pub recovered-empty : (folder : List ℕ) (blocks nodes : ℕ) (reads : ℕ → List ℕ) → ReadsEmpty folder blocks nodes reads → recovered blocks reads ≡ Recovers 0 []
unfolding recovered
recovered-empty folder blocks nodes reads r =
    ap (recovered_from reads) (metadata-empty folder blocks nodes reads r)
    ∙ ap (λ (ps : List Placed). recovered_at 0 (entries_read reads ps)) (free_placed (empty_slots nodes) (nodes - 1))

-- ---- disks

reads_of : (folder : List ℕ) (blocks nodes : ℕ) (d : DiskState) → CanFormat folder blocks nodes → length folder ≡ 16 → HoldsEmptyStore folder blocks nodes d → ReadsEmpty folder blocks nodes (read_at d)
reads_of folder blocks nodes d can long holds = record {
  can = can;
  long = long;
  first = ap read_of holds.first_head;
  second = ap read_of holds.second_head;
  homes = λ slot within. ap read_of (holds.homes slot within);
}

pub metadata_of-empty : (folder : List ℕ) (blocks nodes : ℕ) (d : DiskState) → CanFormat folder blocks nodes → length folder ≡ 16 → HoldsEmptyStore folder blocks nodes d → metadata_of d.size (read_at d) ≡ Ok (record { head = made_head folder blocks nodes; held = empty_slots nodes })
metadata_of-empty folder blocks nodes d can long holds =
    ap (λ (size : ℕ). metadata_of size (read_at d)) holds.size ∙ metadata-empty folder blocks nodes (read_at d) (reads_of folder blocks nodes d can long holds)

pub recovered_of-empty : (folder : List ℕ) (blocks nodes : ℕ) (d : DiskState) → CanFormat folder blocks nodes → length folder ≡ 16 → HoldsEmptyStore folder blocks nodes d → recovered d.size (read_at d) ≡ Recovers 0 []
recovered_of-empty folder blocks nodes d can long holds =
    ap (λ (size : ℕ). recovered size (read_at d)) holds.size ∙ recovered-empty folder blocks nodes (read_at d) (reads_of folder blocks nodes d can long holds)

-- what is taken as whole and is whole stands
taken_whole : (whole : Bool) (cell : Cell) (page : List ℕ) → cell ≡ whole_cell page → taken_cell whole cell ≡ whole_cell page
taken_whole true cell page is = ap (taken_cell true) is
taken_whole false cell page is = is

HoldsEmptyStore-taken : (folder : List ℕ) (blocks nodes : ℕ) (whole : ℕ → Bool) (d : DiskState) → HoldsEmptyStore folder blocks nodes d → HoldsEmptyStore folder blocks nodes (taken_as whole d)
HoldsEmptyStore-taken folder blocks nodes whole d holds = record {
  size = holds.size;
  first_head = taken_whole (whole 0) (d.cells 0) (head_page (made_head folder blocks nodes)) holds.first_head;
  second_head = taken_whole (whole 1) (d.cells 1) (head_page (made_head folder blocks nodes)) holds.second_head;
  homes = λ slot within. taken_whole (whole (2 + slot)) (d.cells (2 + slot)) (empty_home slot) (holds.homes slot within);
}

pub IsClear-empty : (folder : List ℕ) (blocks nodes : ℕ) (d : DiskState) → CanFormat folder blocks nodes → length folder ≡ 16 → HoldsEmptyStore folder blocks nodes d → IsClear d
IsClear-empty folder blocks nodes d can long holds whole new crash = record {
  epoch = 0;
  tree = [];
  recovers = recovered_of-empty folder blocks nodes new can long
      (HoldsEmptyStore-crashed folder blocks nodes (taken_as whole d) new (HoldsEmptyStore-taken folder blocks nodes whole d holds) crash);
}
