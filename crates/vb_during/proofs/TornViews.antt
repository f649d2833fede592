-- What is recovered of a view after a crash that hurt none of its blocks and map pages: its tree, or nothing at a page
-- of data that the crash tore.
use Rattle.std.proofs.Common.{◌≡◌, ◌⊎◌, ℕ, suc, ◌<◌, List, [], ◌∷◌, length, slice_get, Option, Some, None, unwrap_or, Ok, refl, sym, ap, subst, ◌∙◌, inl, inr}
use Rattle.std.proofs.lemmas.List.Elements.{All-contains, All-cons, All-head, All-nil, All-weaker}
use Rattle.std.specs.List.{All, Contains}
use Rattle.sha2.specs.Sha256.{sha256}
use Rattle.vb_block.specs.declared.digest.Ref.{Ref}
use Rattle.vb_disk.specs.declared.cell.Cell.{Cell}
use Rattle.vb_disk.specs.Cells.{candidates, read_of}
use Rattle.vb_disk.specs.Crashes.{MayCrashTo}
use Rattle.vb_disk.specs.States.{DiskState}
use Rattle.vb_head.specs.declared.head.Head.{Head}
use Rattle.vb_index.specs.declared.held.Held.{Held}
use Rattle.vb_index.specs.Indexes.{IndexState}
use Rattle.vb_index.specs.Nodes.{held_at}
use Rattle.vb_index.proofs.Ascending.{In}
use Rattle.vb_journal.specs.Outcomes.{IsHurt, RecoversWholly, reads_of}
use Rattle.vb_journal.proofs.Settled.{read_of-alone, read_of-crashed}
use Rattle.vb_store.specs.Clear.{first_candidates}
use Rattle.vb_store.specs.OneOf.{TreeView}
use Rattle.vb_store.specs.Recovered.{Placed, Recovers, entries_read, placed_in, recovered, recovered_at, recovered_from}
use Rattle.vb_store.specs.RecoveredStores.{recovered_on}
use Rattle.vb_tree.specs.declared.tree.TreeEntry.{TreeEntry}
use Rattle.vb_views.specs.AtRest.{HoldsPagesOf, HoldsRef, IsMapOf}
use Rattle.vb_views.specs.Commits.{HoldsView}
use Rattle.vb_views.specs.Reads.{GivesMapsOf, GivesRef, tree_view}
use Rattle.vb_views.proofs.EntriesPlaced.{of-placed}
use Rattle.vb_views.proofs.MetadataGiven.{metadata-given}
use Rattle.vb_views.proofs.TreesGiven.{at_slice, entries-given}
use Rattle.vb_during.specs.TornPages.{HasLoneMaps, IsAllWhole, IsUnreadable}
use Rattle.vb_during.proofs.TornReads.{ReadsOrTorn, entries-torn}

-- a page of data of nodes that a crash tore
pub record IsTornPage (nodes : List (Option Held)) (d new : DiskState) (r : Ref) : Type 0 where
  pub slot : ℕ
  pub held : Held
  pub there : held_at nodes slot ≡ Some held
  pub number : ℕ
  pub page : slice_get held.refs number ≡ Some r
  pub several : 0 < length (d.cells r.place).later
  pub hurt : IsHurt new r.place

-- ---- pages of data

torn_read : (cell : Cell) (bytes : List ℕ) → cell.later ≡ [] → cell.hurt ≡ Some bytes → read_of cell ≡ bytes
torn_read cell bytes alone hurt = read_of-alone cell alone ∙ ap (λ (h : Option (List ℕ)). unwrap_or h cell.first) hurt

whole_read : (cell : Cell) → cell.later ≡ [] → cell.hurt ≡ None → read_of cell ≡ cell.first
whole_read cell alone whole = read_of-alone cell alone ∙ ap (λ (h : Option (List ℕ)). unwrap_or h cell.first) whole

-- a page of data reads as its one candidate, or is torn
page_torn : (nodes : List (Option Held)) (d new : DiskState) (slot : ℕ) (held : Held) (k : ℕ) (r : Ref) → held_at nodes slot ≡ Some held → slice_get held.refs k ≡ Some r → HoldsRef d r → IsAllWhole d → MayCrashTo d new → ReadsOrTorn (first_candidates d) (reads_of new) (IsTornPage nodes d new) r
page_torn nodes d new slot held k r there page holds whole crash =
    let after = crash.each r.place in
    elim after.hurt [
      | inl same ↦ inl (whole_read (new.cells r.place) after.alone (same ∙ whole r.place)
          ∙ All-contains (λ c. c ≡ (d.cells r.place).first) (candidates (d.cells r.place)) (new.cells r.place).first holds.same after.picked)
      | inr torn ↦ inr (
        record { slot = slot; held = held; there = there; number = k; page = page; several = torn.several; hurt = (torn.bytes, torn.reads) },
        (λ due.
            let unlike = All-head (λ c. sha256 c ≡ sha256 torn.bytes → ⊥) (d.cells r.place).first (d.cells r.place).later torn.miss.unlike in
            unlike (holds.due ∙ sym due ∙ ap sha256 (torn_read (new.cells r.place) torn.bytes after.alone torn.reads))),
      )
    ]

each_numbered : (P : Ref → Type 0) (refs : List Ref) → ((k : ℕ) (r : Ref) → slice_get refs k ≡ Some r → P r) → All P refs
each_numbered P [] each = All-nil P
each_numbered P (r ∷ rs) each = All-cons P r rs (each 0 r refl) (each_numbered P rs (λ k. each (suc k)))

-- so it is of each file
files_torn : (head : Head) (index : IndexState) (homes : ℕ → List ℕ) (tree : List TreeEntry) (d new : DiskState) (x : Placed) → HoldsView head index homes tree d → IsAllWhole d → MayCrashTo d new → In x (placed_in index.nodes) → All (ReadsOrTorn (first_candidates d) (reads_of new) (IsTornPage index.nodes d new)) x.held.refs
files_torn head index homes tree d new x v whole crash among =
    let Torn : Ref → Type 0 = ReadsOrTorn (first_candidates d) (reads_of new) (IsTornPage index.nodes d new) in
    let at = of-placed index.nodes index.nodes x among in
    let holds = v.holds at.k at.held at.there in
    subst (λ (p : Placed). All Torn p.held.refs) (sym at.is)
    (each_numbered Torn at.held.refs (λ k r page. page_torn index.nodes d new at.k at.held k r at.there page (at_slice (HoldsRef d) at.held.refs k r holds.pages page) whole crash))

-- ---- map pages

lone_read : (d new : DiskState) (r : Ref) → IsAllWhole d → MayCrashTo d new → (d.cells r.place).later ≡ [] → reads_of new r.place ≡ first_candidates d r.place
lone_read d new r whole crash alone = read_of-crashed (d.cells r.place) (new.cells r.place) alone (crash.each r.place) ∙ whole_read (d.cells r.place) alone (whole r.place)

maps_read : (d new : DiskState) (held : Held) → IsAllWhole d → MayCrashTo d new → All (λ r. (d.cells r.place).later ≡ []) held.node.maps → HoldsPagesOf held d → GivesMapsOf held (reads_of new)
maps_read d new held whole crash lone holds =
    let same : All (λ r. reads_of new r.place ≡ first_candidates d r.place) held.node.maps =
    All-weaker (λ r. (d.cells r.place).later ≡ []) (λ r. reads_of new r.place ≡ first_candidates d r.place) (λ r alone. lone_read d new r whole crash alone) held.node.maps lone in
    record {
      due = λ k r within. ap sha256 (same k r within) ∙ (holds.maps k r within).due;
      spelled = λ k r at. subst (IsMapOf held k) (sym (at_slice (λ x. reads_of new x.place ≡ first_candidates d x.place) held.node.maps k r same at)) (holds.spelled k r at);
    }

-- ---- the view

-- what is recovered of the view, where the journal recovers its head and its blocks wholly
read_whole : (head : Head) (index : IndexState) (homes : ℕ → List ℕ) (tree : List TreeEntry) (d new : DiskState) → HoldsView head index homes tree d → IsAllWhole d → HasLoneMaps index.nodes d → MayCrashTo d new → RecoversWholly new head homes → recovered_on new ≡ recovered_at head.epoch (entries_read (reads_of new) (placed_in index.nodes))
unfolding recovered
read_whole head index homes tree d new v whole lone crash wholly =
    ap (recovered_from (reads_of new))
    (metadata-given new.size head index (reads_of new) v.view (record {
      images = homes;
      recovery = wholly;
      blocks = v.are;
      maps = λ slot held there. maps_read d new held whole crash (lone slot held there) (v.holds slot held there);
    }))

first_read : (head : Head) (index : IndexState) (homes : ℕ → List ℕ) (tree : List TreeEntry) (d : DiskState) → HoldsView head index homes tree d → entries_read (first_candidates d) (placed_in index.nodes) ≡ Ok tree
first_read head index homes tree d v =
    entries-given head index (first_candidates d) tree v.view
    (λ slot held there. All-weaker (HoldsRef d) (GivesRef (first_candidates d)) (λ r holds. holds.due) held.refs (v.holds slot held there).pages) v.has

pub view-torn : (views : List TreeView) (head : Head) (index : IndexState) (homes : ℕ → List ℕ) (tree : List TreeEntry) (d new : DiskState) → Contains views (tree_view head index tree) → HoldsView head index homes tree d → IsAllWhole d → HasLoneMaps index.nodes d → MayCrashTo d new → RecoversWholly new head homes → (recovered_on new ≡ Recovers head.epoch tree) ⊎ IsUnreadable views d new
view-torn views head index homes tree d new listed v whole lone crash wholly =
    let reads = read_whole head index homes tree d new v whole lone crash wholly in
    elim (entries-torn (first_candidates d) (reads_of new) (IsTornPage index.nodes d new) (placed_in index.nodes) tree (λ x among. files_torn head index homes tree d new x v whole crash among) (first_read head index homes tree d v)) [
      | inl all ↦ inl (reads ∙ ap (recovered_at head.epoch) all)
      | inr finds ↦ inr (record {
        view = tree_view head index tree;
        listed = listed;
        slot = finds.torn.slot;
        held = finds.torn.held;
        there = finds.torn.there;
        number = finds.torn.number;
        reference = finds.reference;
        page = finds.torn.page;
        is = reads ∙ ap (recovered_at head.epoch) finds.is;
        several = finds.torn.several;
        hurt = finds.torn.hurt;
      })
    ]
