-- Whichever candidates are read of a view at rest give its blocks, its pages and its tree.
use Rattle.std.proofs.Common.{◌≡◌, ℕ, suc, ◌+◌, ◌≤◌, Bool, List, [], ◌∷◌, length, slice_get, Option, Some, None, Ok, refl, sym, ap, subst, ◌∙◌, inl, arith}
use Rattle.std.proofs.lemmas.List.{get_or_default}
use Rattle.std.proofs.lemmas.List.Elements.{All-append, All-cons, All-contains, All-head, All-nil, All-tail, All-weaker}
use Rattle.std.specs.List.{All, Contains, flat_map}
use Rattle.sha2.specs.Sha256.{sha256}
use Rattle.vb_block.specs.declared.digest.Ref.{Ref}
use Rattle.vb_disk.specs.declared.cell.Cell.{Cell}
use Rattle.vb_disk.specs.Cells.{candidate_at, candidates}
use Rattle.vb_disk.specs.States.{DiskState, read_at}
use Rattle.vb_head.specs.declared.head.Head.{Head}
use Rattle.vb_head.specs.declared.head.State.TheVariants.{Closed}
use Rattle.vb_head.specs.Heads.{IsHead, IsInRange, head_page, head_read}
use Rattle.vb_index.specs.declared.held.Held.{Held}
use Rattle.vb_index.specs.Contents.{HasTree}
use Rattle.vb_index.specs.Indexes.{IndexState}
use Rattle.vb_index.specs.Nodes.{held_at}
use Rattle.vb_index.proofs.Growth.{slot_holds}
use Rattle.vb_journal.specs.Progress.{Fixed, Has, IsAtRest}
use Rattle.vb_journal.specs.Recoveries.{recovery_of}
use Rattle.vb_journal.specs.Shown.{good_of, pages_from}
use Rattle.vb_journal.proofs.AfterCrashes.{closed_counts}
use Rattle.vb_journal.proofs.Heads.{good_of-head_page, greater-same}
use Rattle.vb_journal.proofs.TriedCells.{alone_of}
use Rattle.vb_journal.proofs.Unharmed.{whole_found}
use Rattle.vb_store.specs.Clear.{first_candidates, last_candidates}
use Rattle.vb_store.specs.EmptyStores.{whole_cell}
use Rattle.vb_store.specs.Metadata.{maps_from, maps_in, maps_of}
use Rattle.vb_store.specs.OneOf.{RecoversOneOf, TreeView, ViewOf}
use Rattle.vb_store.specs.Recovered.{Recovers, recovered}
use Rattle.vb_store.specs.Views.{places_in, places_of}
use Rattle.vb_store.proofs.KnownViews.{RecoversOneOf-rest}
use Rattle.vb_tree.specs.declared.tree.TreeEntry.{TreeEntry}
use Rattle.vb_views.specs.AtRest.{HoldsPagesOf, HoldsRef, IsAtRestFor, IsMapOf, IsViewOf}
use Rattle.vb_views.specs.Reads.{GiveCandidates, GivesBlocks, GivesMapsOf, GivesPages, GivesRef, page_at, pages_by, tree_view}
use Rattle.vb_views.proofs.MetadataGiven.{all_held, metadata-given}
use Rattle.vb_views.proofs.PlacesInOrder.{all_first, all_rest, refs-held}
use Rattle.vb_views.proofs.TreesGiven.{at_slice, entries-given, page-held, tree-given}

-- ---- references

each_place : (P : ℕ → Type 0) (refs : List Ref) → All P (places_of refs) → All (λ r. P r.place) refs
each_place P [] all = All-nil (λ r. P r.place)
each_place P (r ∷ rs) all = All-cons (λ x. P x.place) r rs (All-head P r.place (places_of rs) all) (each_place P rs (All-tail P r.place (places_of rs) all))

-- what holds of each place that a view names holds of those of the data pages of what a slot holds
data_places : (P : ℕ → Type 0) (head : Head) (index : IndexState) (slot : ℕ) (held : Held) → IsViewOf head index → held_at index.nodes slot ≡ Some held → All P (places_in index.nodes) → All P (places_of held.refs)
data_places P head index slot held is there all =
    subst (λ (l : List Ref). All P (places_of l)) (refs-held slot held (is.table.fits slot held there)) (all_rest P (places_of held.node.maps) _ (all_held P index.nodes slot held there all))

-- so of all its references
pub record HoldsOfRefs (P : ℕ → Type 0) (held : Held) : Type 0 where
  pub pages : All (λ r. P r.place) held.refs
  pub maps : All (λ r. P r.place) held.node.maps

pub of-refs : (P : ℕ → Type 0) (head : Head) (index : IndexState) (slot : ℕ) (held : Held) → IsViewOf head index → held_at index.nodes slot ≡ Some held → All P (places_in index.nodes) → HoldsOfRefs P held
of-refs P head index slot held is there all = record {
  pages = each_place P held.refs (data_places P head index slot held is there all);
  maps = each_place P held.node.maps (all_first P (places_of held.node.maps) _ (all_held P index.nodes slot held there all));
}

same_page : (a b : ℕ → List ℕ) (refs : List Ref) (k : ℕ) → All (λ r. b r.place ≡ a r.place) refs → page_at b (slice_get refs k) ≡ page_at a (slice_get refs k)
same_page a b refs k same = by (slice_get refs k) refl where
  by : (o : Option Ref) → slice_get refs k ≡ o → page_at b o ≡ page_at a o
  by None at = refl
  by (Some r) at = at_slice (λ x. b x.place ≡ a x.place) refs k r same at

-- reads that give the same data pages have the same tree
pub tree-same : (head : Head) (index : IndexState) (a b : ℕ → List ℕ) (tree : List TreeEntry) → IsViewOf head index → ((slot : ℕ) (held : Held) → held_at index.nodes slot ≡ Some held → All (λ r. b r.place ≡ a r.place) held.refs) → HasTree index.nodes (pages_by a index.nodes) tree → HasTree index.nodes (pages_by b index.nodes) tree
tree-same head index a b tree is same has = record {
  is_tree = has.is_tree;
  shape = has.shape;
  contents = λ path slot leads k within.
      let one = slot_holds index.nodes is.table path slot leads in
      page-held b head index slot k one.0 is one.1 ∙ same_page a b one.0.refs k (same slot one.0 one.1) ∙ sym (page-held a head index slot k one.0 is one.1)
      ∙ has.contents path slot leads k within;
}

-- ---- what candidates give

pub picked-first : (d : DiskState) (reads : ℕ → List ℕ) (r : Ref) → GiveCandidates d reads → HoldsRef d r → reads r.place ≡ (d.cells r.place).first
picked-first d reads r picked holds = All-contains (λ page. page ≡ (d.cells r.place).first) (candidates (d.cells r.place)) (reads r.place) holds.same (picked r.place)

picked_ref : (d : DiskState) (reads : ℕ → List ℕ) → GiveCandidates d reads → (r : Ref) → HoldsRef d r → GivesRef reads r
picked_ref d reads picked r holds = ap sha256 (picked-first d reads r picked holds) ∙ holds.due

maps_picked : (d : DiskState) (reads : ℕ → List ℕ) (held : Held) → GiveCandidates d reads → HoldsPagesOf held d → GivesMapsOf held reads
maps_picked d reads held picked holds = record {
  due = All-weaker (HoldsRef d) (GivesRef reads) (picked_ref d reads picked) held.node.maps holds.maps;
  spelled = λ k r at. subst (IsMapOf held k) (sym (picked-first d reads r picked (at_slice (HoldsRef d) held.node.maps k r holds.maps at))) (holds.spelled k r at);
}

-- ---- the journal

pub fixed-pick : (page read : List ℕ) (cell : Cell) → Has (Fixed page) cell → Contains (candidates cell) read → read ≡ page
fixed-pick page read cell has picked = alone_of page read (subst (λ (l : List (List ℕ)). Contains l read) has picked)

-- a disk each place of which is what was read
picked_disk : DiskState → (ℕ → List ℕ) → DiskState
picked_disk d reads = record d { cells = λ place. whole_cell (reads place) }

recovery_picked : (head : Head) (homes journal : ℕ → List ℕ) (d : DiskState) (reads : ℕ → List ℕ) → IsInRange head → head.state ≡ Closed → IsAtRest head homes journal d → GiveCandidates d reads → recovery_of d.size reads ≡ Ok (record { head = head; images = pages_from homes 0 head.nodes })
unfolding picked_disk
recovery_picked head homes journal d reads range closed rests picked =
    let w : DiskState = picked_disk d reads in
    let is_head : IsHead head = record { range = range; id_length = rests.id } in
    let first : read_at w 0 ≡ head_page head = fixed-pick (head_page head) (reads 0) (d.cells 0) rests.first (picked 0) in
    let second : read_at w 1 ≡ head_page head = fixed-pick (head_page head) (reads 1) (d.cells 1) rests.second (picked 1) in
    let counts = greater-same head (good_of (head_read (read_at w 0))) (good_of (head_read (read_at w 1)))
    (good_of-head_page head (read_at w 0) is_head first) (good_of-head_page head (read_at w 1) is_head second) in
    let large : 38 ≤ w.size = (let space = range.space in let low = range.nodes_low in let same = rests.size in omega arith) in
    whole_found w w head homes (λ slot within. refl)
    (closed_counts head w w homes large counts closed (sym rests.size) (λ slot within. inl (fixed-pick (homes slot) (reads (2 + slot)) (d.cells (2 + slot)) (rests.each_home slot within) (picked (2 + slot)))))

-- ---- a view at rest

pub blocks-picked : (head : Head) (index : IndexState) (d : DiskState) (reads : ℕ → List ℕ) → IsViewOf head index → IsAtRestFor head index d → GiveCandidates d reads → GivesBlocks d.size head index.nodes reads
blocks-picked head index d reads is rests picked = record {
  images = rests.homes;
  recovery = recovery_picked head rests.homes rests.journal d reads is.can.range is.can.closed rests.rests picked;
  blocks = rests.blocks;
  maps = λ slot held there. maps_picked d reads held picked (rests.holds slot held there);
}

pub pages-picked : (head : Head) (index : IndexState) (d : DiskState) (reads : ℕ → List ℕ) → IsAtRestFor head index d → GiveCandidates d reads → GivesPages index.nodes reads
pages-picked head index d reads rests picked slot held there = All-weaker (HoldsRef d) (GivesRef reads) (picked_ref d reads picked) held.refs (rests.holds slot held there).pages

-- they have the tree that the first candidates have
pub tree-picked : (head : Head) (index : IndexState) (d : DiskState) (reads : ℕ → List ℕ) (tree : List TreeEntry) → IsViewOf head index → IsAtRestFor head index d → GiveCandidates d reads → HasTree index.nodes (pages_by (first_candidates d) index.nodes) tree → HasTree index.nodes (pages_by reads index.nodes) tree
tree-picked head index d reads tree is rests picked has =
    tree-same head index (first_candidates d) reads tree is
    (λ slot held there. All-weaker (HoldsRef d) (λ r. reads r.place ≡ first_candidates d r.place) (λ r holds. picked-first d reads r picked holds) held.refs (rests.holds slot held there).pages)
    has

-- so its epoch and its tree are recovered
pub recovered-picked : (head : Head) (index : IndexState) (d : DiskState) (reads : ℕ → List ℕ) (tree : List TreeEntry) → IsViewOf head index → IsAtRestFor head index d → GiveCandidates d reads → HasTree index.nodes (pages_by (first_candidates d) index.nodes) tree → recovered d.size reads ≡ Recovers head.epoch tree
recovered-picked head index d reads tree is rests picked has =
    tree-given d.size head index reads tree is (blocks-picked head index d reads is rests picked) (pages-picked head index d reads rests picked) (tree-picked head index d reads tree is rests picked has)

pub first-given : (d : DiskState) → GiveCandidates d (first_candidates d)
first-given d place = (0, omega arith, refl)

pub last-given : (d : DiskState) → GiveCandidates d (last_candidates d)
last-given d place = let cell = d.cells place in (length cell.later, omega arith, get_or_default (candidates cell) (length cell.later) (candidate_at cell (length cell.later)) cell.first (omega arith))

-- ---- the one view that may be recovered

maps_each : (P : Ref → Type 0) (slot first left : ℕ) (maps : List Ref) → All P maps → All (λ m. P m.reference) (maps_from slot first left maps)
maps_each P slot first left [] all = All-nil (λ m. P m.reference)
maps_each P slot first left (r ∷ rs) all = All-cons (λ m. P m.reference) _ (maps_from slot (first + 113) _ rs) (All-head P r rs all) (maps_each P slot (first + 113) _ rs (All-tail P r rs all))

maps_all : (P : Ref → Type 0) (nodes : List (Option Held)) → ((k : ℕ) (held : Held) → held_at nodes k ≡ Some held → All P held.node.maps) → All (λ m. P m.reference) (flat_map maps_of nodes)
maps_all P [] each = All-nil (λ m. P m.reference)
maps_all P (None ∷ nodes) each = maps_all P nodes (λ k. each (suc k))
maps_all P (Some held ∷ nodes) each =
    All-append (λ m. P m.reference) (maps_of (Some held)) (flat_map maps_of nodes) (maps_each P held.node.slot 0 _ held.node.maps (each 0 held refl)) (maps_all P nodes (λ k. each (suc k)))

pub view-at-rest : (head : Head) (index : IndexState) (d : DiskState) (tree : List TreeEntry) → IsViewOf head index → (rests : IsAtRestFor head index d) → HasTree index.nodes (pages_by (first_candidates d) index.nodes) tree → ViewOf d (tree_view head index tree) head rests.homes
unfolding maps_in
view-at-rest head index d tree is rests has =
    let blocks = blocks-picked head index d (first_candidates d) is rests (first-given d) in
    let One : Ref → Type 0 = λ r. (page : List ℕ) → Contains (candidates (d.cells r.place)) page → page ≡ first_candidates d r.place in
    record {
      reads = first_candidates d;
      metadata = metadata-given d.size head index (first_candidates d) is blocks;
      recovery = recovery_picked head rests.homes rests.journal d (first_candidates d) is.can.range is.can.closed rests.rests (first-given d);
      maps = maps_all One index.nodes (λ k held there. All-weaker (HoldsRef d) One (λ r holds page among. All-contains (λ x. x ≡ (d.cells r.place).first) (candidates (d.cells r.place)) page holds.same among) held.node.maps (rests.holds k held there).maps);
      pages = λ reads picked. entries-given head index reads tree is (pages-picked head index d reads rests picked) (tree-picked head index d reads tree is rests picked has);
    }

pub recovers-one : (views : List TreeView) (made : Bool) (head : Head) (index : IndexState) (d : DiskState) (tree : List TreeEntry) → IsViewOf head index → IsAtRestFor head index d → HasTree index.nodes (pages_by (first_candidates d) index.nodes) tree → Contains views (tree_view head index tree) → RecoversOneOf views made d
recovers-one views made head index d tree is rests has listed =
    RecoversOneOf-rest views made head rests.homes rests.journal d (tree_view head index tree) is.can.range is.can.closed rests.rests (view-at-rest head index d tree is rests has) listed
