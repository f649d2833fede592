-- Metadata that were read say what the blocks of the nodes are, and the map pages.
use Rattle.std.proofs.Common.{◌≡◌, ℕ, zero, suc, ◌+◌, ◌*◌, ◌<◌, ◌≤◌, Bool, true, false, not, cond, eqb, ltb, ◌||◌, ◌&&◌, List, [], ◌∷◌, ◌++◌, length, take, drop, replicate, slice_get, Option, Some, None, Result, Ok, Err, refl, sym, ap, subst, ◌∙◌, inl, inr, length-append, arith}
use Rattle.std.proofs.lemmas.Bool.{and_parts, cases_eq, cases_lt, eqb-true, false≢true}
use Rattle.std.proofs.lemmas.List.{drop-drop, get_or_append_left, get_or_past, length-replicate}
use Rattle.std.proofs.lemmas.List.Elements.{All-cons, All-nil}
use Rattle.std.specs.List.{All}
use Rattle.std.specs.Option.{option_map}
use Rattle.sha2.specs.Sha256.{sha256}
use Rattle.vb_block.specs.Pages.{seal_of, sealed_part}
use Rattle.vb_block.specs.declared.digest.Ref.{Ref}
use Rattle.vb_block.specs.declared.why.Why.{Why}
use Rattle.vb_block.specs.declared.why.Why.TheVariants.{Slot}
use Rattle.vb_disk.specs.Misses.{is_sealed}
use Rattle.vb_head.specs.declared.head.Head.{Head}
use Rattle.vb_index.specs.declared.held.Held.{Held}
use Rattle.vb_index.specs.Changes.{blank_ref}
use Rattle.vb_index.specs.Indexes.{IndexState}
use Rattle.vb_index.specs.Nodes.{held_at}
use Rattle.vb_inode.specs.declared.errors.NodeError.{NodeError}
use Rattle.vb_inode.specs.declared.errors.NodeError.TheVariants.{Unsealed}
use Rattle.vb_inode.specs.declared.node.Node.{Node}
use Rattle.vb_inode.specs.declared.node.NodeKind.{NodeKind}
use Rattle.vb_inode.specs.declared.node.NodeKind.TheVariants.{Free, Folder, File}
use Rattle.vb_inode.specs.Checks.{are_zeros, checked, is_zero_elsewhere, name_in}
use Rattle.vb_inode.specs.Layout.{Fields, fields_in, refs_in}
use Rattle.vb_inode.specs.Nodes.{is_free, may_be_named, may_have_parent}
use Rattle.vb_inode.specs.Reading.{map_read, node_by, node_from, node_read}
use Rattle.vb_inode.proofs.Checked.{Passes, Passes-from_checked}
use Rattle.vb_inode.proofs.Decoded.{nodes_same}
use Rattle.vb_journal.specs.declared.recover_error.RecoverError.{RecoverError}
use Rattle.vb_journal.specs.declared.recover_error.RecoverError.TheVariants.{Damaged, Unfit}
use Rattle.vb_journal.specs.Images.{slot_of}
use Rattle.vb_nodes.specs.declared.errors.TableError.{TableError}
use Rattle.vb_nodes.specs.declared.errors.TableError.TheVariants.{Wrong as WrongNode, TooManyPages, Memory as NoMemoryForIndex}
use Rattle.vb_nodes.specs.Faults.{Fault, table_fault}
use Rattle.vb_nodes.specs.Holdings.{held_from, held_of, index_from, pages_of_nodes, refuse_fault}
use Rattle.vb_nodes.specs.Paths.{free_node, node_at as listed_at}
use Rattle.vb_nodes.proofs.WalkLaws.{held-of-at}
use Rattle.vb_path.specs.Parts.{is_part}
use Rattle.vb_plan.specs.Maps.{group_at}
use Rattle.vb_plan.specs.Plans.{node_at, node_in}
use Rattle.vb_store.specs.Metadata.{Mapped, Standing, and_then, block_of, index_or_refusal, known_below, mapped_from, maps_in, maps_left, no_claims, node_checked, node_or_refusal, nodes_left, refuse}
use Rattle.vb_store.specs.Views.{limits_of}
use Rattle.vb_store.proofs.Chains.{and_then-ok, refuse-ok}
use Rattle.vb_store.proofs.ReferencesSet.{length-refs_in}
use Rattle.vb_store.proofs.SameJournals.{not_false}
use Rattle.vb_store.proofs.SameStores.{node_from_checked}
use Rattle.vb_store.proofs.SlotsRead.{slot_read}
use Rattle.vb_tree.specs.Trees.{data_pages_of, map_pages_of}
use Rattle.vb_tree.specs.declared.tree.Limits.{Limits}
use Rattle.vb_views.specs.AtRest.{IsMapOf}
use Rattle.vb_views.specs.Reads.{GivesRef}
use Rattle.vb_views.proofs.MapsRead.{AllReadOf, IsReadOf, IsReadable, slots-read}
use Rattle.vb_views.proofs.MapsTaken.{GivesGroups, at_seam}

-- ---- nodes that were read

-- a node as it is read: it has as many map references as its length takes, and a free one says nothing but its slot
pub record IsSound (node : Node) : Type 0 where
  pub maps : length node.maps ≡ map_pages_of node.length
  pub free : is_free node.kind ≡ true → node ≡ node_in node.slot None

unnamed : (b : Bool) (name : List ℕ) → cond (b || true) (eqb (length name) 0) (is_part name) ≡ true → length name ≡ 0
unnamed true name is = eqb-true (length name) 0 is
unnamed false name is = eqb-true (length name) 0 is

no_name : (slot : ℕ) (name : List ℕ) → may_be_named slot Free name ≡ true → length name ≡ 0
unfolding may_be_named
no_name slot name is = unnamed (eqb slot 0) name is

empty : {X : Type 0} (xs : List X) → length xs ≡ 0 → xs ≡ []
empty [] none = refl
empty (x ∷ xs) none = absurd (omega (arith, none))

no_parent : (f : Fields) → is_zero_elsewhere Free f ≡ true → f.parent ≡ 0
unfolding is_zero_elsewhere
no_parent f is =
    let one = and_parts (are_zeros f.gap && are_zeros (drop f.name_length f.name) && are_zeros (drop (36 * f.map_count) f.maps)) (may_have_parent Free f.parent) is in
    eqb-true f.parent 0 one.1

free_made : (nodes : ℕ) (kind : NodeKind) (f : Fields) → Passes nodes kind f → is_free kind ≡ true → node_from kind f ≡ node_in f.slot None
free_made nodes Free f passes free =
    let none : f.file_length ≡ 0 = eqb-true f.file_length 0 passes.measured in
    let count : f.map_count ≡ 0 = eqb-true f.map_count (map_pages_of f.file_length) passes.mapped ∙ ap map_pages_of none in
    nodes_same (node_from Free f) (node_in f.slot None) refl refl (no_parent f passes.zeros)
    (empty (name_in f) (no_name f.slot (name_in f) passes.named)) none (ap (λ (n : ℕ). refs_in n f.maps) count)
free_made nodes Folder f passes free = absurd (false≢true free)
free_made nodes File f passes free = absurd (false≢true free)

sound_made : (nodes : ℕ) (f : Fields) (r : Result NodeKind Why) (node : Node) → checked nodes f ≡ r → node_by r f ≡ Ok node → IsSound node
sound_made nodes f (Err why) node is made = absurd (cc made)
sound_made nodes f (Ok kind) node is made =
    let same : node_from kind f ≡ node = cc made in
    let passes = Passes-from_checked nodes f kind is in
    subst IsSound same (record {
      maps = length-refs_in f.map_count f.maps ∙ eqb-true f.map_count (map_pages_of f.file_length) passes.mapped;
      free = free_made nodes kind f passes;
    })

taken_then : (b : Bool) (r other : Result Node NodeError) (node : Node) → ((n : Node) → other ≡ Ok n → ⊥) → cond b r other ≡ Ok node → r ≡ Ok node
taken_then true r other node never is = is
taken_then false r other node never is = absurd (never node is)

sound_read : (count : ℕ) (page : List ℕ) (node : Node) → node_read count page ≡ Ok node → IsSound node
unfolding node_read
sound_read count page node is =
    let f = fields_in page in
    sound_made count f (checked count f) node refl
    (taken_then (is_sealed page) (node_by (checked count f) f) (Err (Unsealed (seal_of page) (sha256 (sealed_part page)))) node (λ n e. absurd (cc e)) is)

-- the node of a block of a slot
pub record IsNodeAt (count slot : ℕ) (page : List ℕ) (node : Node) : Type 0 where
  pub read : node_read count page ≡ Ok node
  pub own : node.slot ≡ slot

node_at_block : (count slot : ℕ) (block : Standing) (node : Node) → node_checked count slot block ≡ Ok node → IsNodeAt count slot block.page node
node_at_block count slot block node is =
    let one = refuse-ok (not (is_sealed block.page)) (Damaged (2 + slot) (seal_of block.page) (sha256 (sealed_part block.page)))
    (refuse (not (eqb (slot_of block.page) slot)) (Unfit block.place Slot) (node_or_refusal block.place (node_read count block.page))) node is in
    let two = refuse-ok (not (eqb (slot_of block.page) slot)) (Unfit block.place Slot) (node_or_refusal block.place (node_read count block.page)) node one.then in
    let read = node_from_checked block.place (node_read count block.page) node two.then in
    record { read = read; own = slot_read count block.page node read ∙ eqb-true (slot_of block.page) slot (not_false (eqb (slot_of block.page) slot) two.test_is) }

-- ---- all of them

kept_items : (count : ℕ) (blocks : ℕ → Standing) (left : ℕ) (found end : List Node) → nodes_left count blocks left found ≡ Ok end → (k : ℕ) → k < length found → listed_at end k ≡ listed_at found k
kept_items count blocks zero found end is k within = let same : found ≡ end = cc is in ap (λ (l : List Node). listed_at l k) (sym same)
kept_items count blocks (suc left) found end is k within =
    let one = and_then-ok (node_checked count (length found) (blocks (length found))) (λ node. nodes_left count blocks left (found ++ node ∷ [])) end is in
    kept_items count blocks left (found ++ one.value ∷ []) end one.then k (omega (arith, within, length-append found (one.value ∷ [])))
    ∙ get_or_append_left found (one.value ∷ []) free_node k within

all_items : (count : ℕ) (blocks : ℕ → Standing) (left : ℕ) (found end : List Node) → nodes_left count blocks left found ≡ Ok end → length end ≡ length found + left
all_items count blocks zero found end is = let same : found ≡ end = cc is in omega (arith, ap length same)
all_items count blocks (suc left) found end is =
    let one = and_then-ok (node_checked count (length found) (blocks (length found))) (λ node. nodes_left count blocks left (found ++ node ∷ [])) end is in
    omega (arith, all_items count blocks left (found ++ one.value ∷ []) end one.then, length-append found (one.value ∷ []))

each_item : (count : ℕ) (blocks : ℕ → Standing) (left : ℕ) (found end : List Node) → nodes_left count blocks left found ≡ Ok end → (slot : ℕ) → length found ≤ slot → slot < length found + left → node_checked count slot (blocks slot) ≡ Ok (listed_at end slot)
each_item count blocks zero found end is slot from below = absurd (omega (arith, from, below))
each_item count blocks (suc left) found end is slot from below =
    let one = and_then-ok (node_checked count (length found) (blocks (length found))) (λ node. nodes_left count blocks left (found ++ node ∷ [])) end is in
    let longer : length (found ++ one.value ∷ []) ≡ length found + 1 = length-append found (one.value ∷ []) in
    elim (cases_eq slot (length found)) [
      | inl same ↦
          let item : listed_at end (length found) ≡ one.value = kept_items count blocks left (found ++ one.value ∷ []) end one.then (length found) (omega (arith, longer)) ∙ at_seam found [] one.value free_node in
          let P : ℕ → Type 0 = λ s. node_checked count s (blocks s) ≡ Ok (listed_at end s) in
          subst P (sym same) (one.is ∙ ap (λ (n : Node). let r : Result Node RecoverError = Ok n in r) (sym item))
      | inr apart ↦ each_item count blocks left (found ++ one.value ∷ []) end one.then slot (omega (arith, from, apart, longer)) (omega (arith, below, longer))
    ]

-- ---- the index

index_was : (o : Option Fault) (b : Bool) (made index : IndexState) → (let r : Result IndexState TableError = cond b (Err TooManyPages) (Ok made) in refuse_fault o r ≡ Ok index) → made ≡ index
index_was None true made index is = absurd (cc is)
index_was None false made index is = cc is
index_was (Some fault) b made index is = absurd (cc is)

unrefused : (place : ℕ) (places : ℕ → ℕ) (r : Result IndexState TableError) (index : IndexState) → index_or_refusal place places r ≡ Ok index → r ≡ Ok index
unrefused place places (Ok i) index is = cc is
unrefused place places (Err (WrongNode slot why)) index is = absurd (cc is)
unrefused place places (Err TooManyPages) index is = absurd (cc is)
unrefused place places (Err NoMemoryForIndex) index is = absurd (cc is)

nodes_of : (limits : Limits) (ns : List Node) (index : IndexState) → index_from limits ns ≡ Ok index → index.nodes ≡ held_of ns
nodes_of limits ns index is =
    let made : IndexState = record { limits = limits; nodes = held_of ns } in
    ap (λ (i : IndexState). i.nodes) (sym (index_was (table_fault ns) (ltb limits.pages (pages_of_nodes ns)) made index is))

-- what is held of a node before its references are set
pub record IsHeldFrom (node : Node) (held : Held) : Type 0 where
  pub node_is : held.node ≡ node
  pub refs : length held.refs ≡ data_pages_of node.length

held_was : (node : Node) (held : Held) → held_from node ≡ Some held → IsHeldFrom node held
held_was node held is = by (is_free node.kind) is where
  blank : Held
  blank = record { node = node; refs = replicate (data_pages_of node.length) blank_ref }

  by : (b : Bool) → cond b None (Some (record { node = node; refs = replicate (data_pages_of node.length) blank_ref })) ≡ Some held → IsHeldFrom node held
  by true e = absurd (cc e)
  by false e =
      let same : (let h : Held = record { node = node; refs = replicate (data_pages_of node.length) blank_ref } in h ≡ held) = cc e in
      subst (IsHeldFrom node) same (record { node_is = refl; refs = length-replicate (data_pages_of node.length) blank_ref })

-- ---- what is known below a head

-- the nodes that were read, and what the slots hold once their references are set
pub record AreBlocksRead (reads : ℕ → List ℕ) (head : Head) (slots : List (Option Held)) : Type 0 where
  pub ns : List Node
  pub as_many : length ns ≡ head.nodes
  pub each : (slot : ℕ) → slot < head.nodes → IsNodeAt head.nodes slot (block_of reads head slot).page (listed_at ns slot)
  pub like : AllReadOf reads (held_of ns) slots

pub below-read : (reads : ℕ → List ℕ) (head : Head) (place : ℕ) (known : Mapped) → known_below reads head place (block_of reads head) ≡ Ok known → AreBlocksRead reads head known.slots
unfolding maps_in
below-read reads head place known is =
    let places : ℕ → ℕ = λ slot. (block_of reads head slot).place in
    let one = and_then-ok (nodes_left head.nodes (block_of reads head) head.nodes []) (λ nodes. and_then (index_or_refusal place places (index_from (limits_of head) nodes)) (mapped_from reads head places)) known is in
    let two = and_then-ok (index_or_refusal place places (index_from (limits_of head) one.value)) (mapped_from reads head places) known one.then in
    let ns : List Node = one.value in
    let nodes : two.value.nodes ≡ held_of ns = nodes_of (limits_of head) ns two.value (unrefused place places (index_from (limits_of head) ns) two.value two.is) in
    let many : length ns ≡ head.nodes = omega (arith, all_items head.nodes (block_of reads head) head.nodes [] ns one.is) in
    let each : (slot : ℕ) → slot < head.nodes → IsNodeAt head.nodes slot (block_of reads head slot).page (listed_at ns slot) =
    λ slot within. node_at_block head.nodes slot (block_of reads head slot) (listed_at ns slot) (each_item head.nodes (block_of reads head) head.nodes [] ns one.is slot (omega arith) (omega (arith, within))) in
    let left : maps_left reads places (maps_in (held_of ns)) (record { slots = held_of ns; claims = no_claims head }) ≡ Ok known =
    ap (λ (l : List (Option Held)). maps_left reads places (maps_in l) (record { slots = l; claims = no_claims head })) (sym nodes) ∙ two.then in
    let readable : (k : ℕ) (held : Held) → held_at (held_of ns) k ≡ Some held → IsReadable (0 + k) held = λ k held there.
    elim (cases_lt k head.nodes) [
      | inl within ↦
          let was = held_was (listed_at ns k) held (sym (held-of-at ns k) ∙ there) in
          let node = each k within in
          let sound = sound_read head.nodes (block_of reads head k).page (listed_at ns k) node.read in
          record {
            own = ap (λ (n : Node). n.slot) was.node_is ∙ node.own ∙ (let e : k ≡ 0 + k = omega arith in e);
            refs = was.refs ∙ ap (λ (n : Node). data_pages_of n.length) (sym was.node_is);
            maps = ap (λ (n : Node). length n.maps) was.node_is ∙ sound.maps ∙ ap (λ (n : Node). map_pages_of n.length) (sym was.node_is);
          }
      | inr past ↦ absurd (
          let none : listed_at ns k ≡ free_node = get_or_past ns k free_node (omega (arith, past, many)) in
          let free : None ≡ Some held = ap held_from (sym none) ∙ sym (held-of-at ns k) ∙ there in
          cc free)
    ] in
    let read = slots-read reads places [] (held_of ns) (no_claims head) known readable left in
    record { ns = ns; as_many = many; each = each; like = subst (AllReadOf reads (held_of ns)) (sym read.slots) read.like }

-- ---- what a slot holds

held_none : (reads : ℕ → List ℕ) (o : Option Held) → IsReadOf reads None o → o ≡ None
held_none reads None is = refl
held_none reads (Some b) is = absurd is

-- a slot holds a file or a folder whose references were read
pub record IsHeldRead (reads : ℕ → List ℕ) (a : Held) (o : Option Held) : Type 0 where
  pub held : Held
  pub there : o ≡ Some held
  pub node_is : held.node ≡ a.node
  pub gives : GivesGroups reads a.node.maps held.refs

held_some : (reads : ℕ → List ℕ) (a : Held) (o : Option Held) → IsReadOf reads (Some a) o → IsHeldRead reads a o
held_some reads a None is = absurd is
held_some reads a (Some b) is = record { held = b; there = refl; node_is = is.0; gives = is.2 }

-- the node that was read is that of the slot
pub node-read : (reads : ℕ → List ℕ) (nodes : List (Option Held)) (count slot : ℕ) (page : List ℕ) (node : Node) → IsNodeAt count slot page node → IsReadOf reads (held_from node) (held_at nodes slot) → node ≡ node_in slot (node_at nodes slot)
node-read reads nodes count slot page node at like = by (is_free node.kind) refl like where
  by : (b : Bool) → is_free node.kind ≡ b → IsReadOf reads (cond b None (Some (record { node = node; refs = replicate (data_pages_of node.length) blank_ref }))) (held_at nodes slot) → node ≡ node_in slot (node_at nodes slot)
  by true free is =
      let none : held_at nodes slot ≡ None = held_none reads (held_at nodes slot) is in
      (sound_read count page node at.read).free free ∙ ap (λ (s : ℕ). node_in s None) at.own
      ∙ ap (λ (o : Option Held). node_in slot (option_map (λ (h : Held). h.node) o)) (sym none)
  by false used is =
      let some = held_some reads (record { node = node; refs = replicate (data_pages_of node.length) blank_ref }) (held_at nodes slot) is in
      sym some.node_is ∙ ap (λ (o : Option Held). node_in slot (option_map (λ (h : Held). h.node) o)) (sym some.there)

-- and its map pages are given
pub groups-read : (reads : ℕ → List ℕ) (node : Node) (held : Held) → IsReadOf reads (held_from node) (Some held) → GivesGroups reads held.node.maps held.refs
groups-read reads node held like = by (is_free node.kind) like where
  by : (b : Bool) → IsReadOf reads (cond b None (Some (record { node = node; refs = replicate (data_pages_of node.length) blank_ref }))) (Some held) → GivesGroups reads held.node.maps held.refs
  by true is = absurd is
  by false is = subst (λ (n : Node). GivesGroups reads n.maps held.refs) (sym is.0) is.2

-- ---- map pages, each by its number

pub groups-due : (reads : ℕ → List ℕ) (maps refs : List Ref) → GivesGroups reads maps refs → All (GivesRef reads) maps
groups-due reads [] refs gives = All-nil (GivesRef reads)
groups-due reads (r ∷ rs) refs gives = All-cons (GivesRef reads) r rs gives.0 (groups-due reads rs (drop 113 refs) gives.2)

spelled_from : (reads : ℕ → List ℕ) (maps refs all : List Ref) (k : ℕ) → refs ≡ drop (113 * k) all → GivesGroups reads maps refs → (j : ℕ) (r : Ref) → slice_get maps j ≡ Some r → map_read (length (group_at (k + j) all)) (reads r.place) ≡ Ok (group_at (k + j) all)
spelled_from reads [] refs all k from gives j r at = absurd (cc at)
spelled_from reads (x ∷ rs) refs all k from gives zero r at =
    let same : x ≡ r = cc at in
    let Reads : List Ref → Type 0 = λ group. map_read (length group) (reads r.place) ≡ Ok group in
    let here : Reads (take 113 refs) = subst (λ (y : Ref). map_read (length (take 113 refs)) (reads y.place) ≡ Ok (take 113 refs)) same gives.1 in
    subst Reads (ap (take 113) from ∙ ap (λ (n : ℕ). group_at n all) (let e : k ≡ k + 0 = omega arith in e)) here
spelled_from reads (x ∷ rs) refs all k from gives (suc j) r at =
    let next : drop 113 refs ≡ drop (113 * (k + 1)) all = ap (drop 113) from ∙ drop-drop 113 (113 * k) all ∙ ap (λ (n : ℕ). drop n all) (let e : 113 * k + 113 ≡ 113 * (k + 1) = omega arith in e) in
    subst (λ (n : ℕ). map_read (length (group_at n all)) (reads r.place) ≡ Ok (group_at n all)) (let e : k + 1 + j ≡ k + suc j = omega arith in e)
    (spelled_from reads rs (drop 113 refs) all (k + 1) next gives.2 j r at)

pub groups-spelled : (reads : ℕ → List ℕ) (held : Held) → GivesGroups reads held.node.maps held.refs → (k : ℕ) (r : Ref) → slice_get held.node.maps k ≡ Some r → IsMapOf held k (reads r.place)
groups-spelled reads held gives k r at =
    subst (λ (n : ℕ). map_read (length (group_at n held.refs)) (reads r.place) ≡ Ok (group_at n held.refs)) (let e : 0 + k ≡ k = omega arith in e)
    (spelled_from reads held.node.maps held.refs held.refs 0 (ap (λ (n : ℕ). drop n held.refs) (let e : 0 ≡ 113 * 0 = omega arith in e)) gives k r at)
