-- A disk that is settled for a view is at rest for it, and the tree of its nodes and pages is the recovered one.
use Rattle.std.proofs.Common.{◌≡◌, ℕ, zero, suc, ◌+◌, false, List, [], ◌∷◌, length, Option, Some, Result, Ok, Err, refl, sym, ap, subst, ◌∙◌, arith}
use Rattle.std.proofs.lemmas.List.Elements.{All-cons, All-nil, All-weaker}
use Rattle.std.specs.List.{All}
use Rattle.vb_block.specs.declared.digest.Ref.{Ref}
use Rattle.vb_disk.specs.States.{DiskState, IsDiskState}
use Rattle.vb_head.specs.declared.head.Head.{Head}
use Rattle.vb_head.specs.declared.head.State.TheVariants.{Closed}
use Rattle.vb_head.specs.Heads.{count_of}
use Rattle.vb_index.specs.declared.held.Held.{Held}
use Rattle.vb_index.specs.Contents.{HasTree}
use Rattle.vb_index.specs.Indexes.{IndexState}
use Rattle.vb_index.specs.Heights.{path_to}
use Rattle.vb_index.specs.Nodes.{held_at, holds_folder}
use Rattle.vb_inode.specs.Reading.{node_read}
use Rattle.vb_journal.specs.declared.recover_error.RecoverError.{RecoverError}
use Rattle.vb_journal.specs.Progress.{IsAtRest}
use Rattle.vb_journal.specs.Notes.{head_place}
use Rattle.vb_journal.specs.Recoveries.{choice_of, is_rebuilding, journal_place, node_image}
use Rattle.vb_journal.specs.Shown.{image_over, pages_from}
use Rattle.vb_nodes.specs.Holdings.{held_from, held_of}
use Rattle.vb_nodes.specs.Paths.{node_at as listed_at}
use Rattle.vb_nodes.proofs.WalkLaws.{held-of-at}
use Rattle.vb_store.specs.Beside.{HasOneHead}
use Rattle.vb_store.specs.Clear.{first_candidates}
use Rattle.vb_store.specs.Metadata.{Metadata, block_of, known_below, metadata_of}
use Rattle.vb_store.specs.OneOf.{TreeView}
use Rattle.vb_store.specs.Recovered.{Recovers, entries_read, placed_in, recovered, recovered_at, recovered_from}
use Rattle.vb_store.specs.Settled.{IsSettled}
use Rattle.vb_store.proofs.CrashesOfMounts.{has_metadata, one_head}
use Rattle.vb_store.proofs.ReadsBeside.{first-page}
use Rattle.vb_store.proofs.RestsBeside.{candidates-count}
use Rattle.vb_tree.specs.declared.tree.TreeEntry.{TreeEntry}
use Rattle.vb_views.specs.AtRest.{HoldsRef, IsAtRestFor, IsViewOf}
use Rattle.vb_views.specs.Reads.{GivesRef, pages_by}
use Rattle.vb_views.proofs.BlocksRead.{AreBlocksRead, below-read, groups-due, groups-read, groups-spelled, node-read}
use Rattle.vb_views.proofs.MapsRead.{IsReadOf, at-read}
use Rattle.vb_views.proofs.MapsTaken.{GivesGroups}
use Rattle.vb_views.proofs.TreesRead.{IsTreeRead, stands-at, tree-read, tree-was}

-- ---- what was recovered

-- an epoch and the entries of the nodes, where a tree was recovered
pub record IsRecoveredAs (reads : ℕ → List ℕ) (m : Metadata) (epoch : ℕ) (tree : List TreeEntry) : Type 0 where
  pub epoch_is : m.head.epoch ≡ epoch
  pub entries : entries_read reads (placed_in m.held) ≡ Ok tree

recovered_by : (epoch at : ℕ) (r : Result (List TreeEntry) ℕ) (tree : List TreeEntry) → recovered_at at r ≡ Recovers epoch tree → (at ≡ epoch) × (r ≡ Ok tree)
recovered_by epoch at (Ok t) tree is = (cc is, cc is)
recovered_by epoch at (Err place) tree is = absurd (cc is)

pub recovered-as : (size : ℕ) (reads : ℕ → List ℕ) (m : Metadata) (epoch : ℕ) (tree : List TreeEntry) → metadata_of size reads ≡ Ok m → recovered size reads ≡ Recovers epoch tree → IsRecoveredAs reads m epoch tree
unfolding recovered
recovered-as size reads m epoch tree is recovers =
    let both = recovered_by epoch m.head.epoch (entries_read reads (placed_in m.held)) tree (sym (ap (recovered_from reads) is) ∙ recovers) in
    record { epoch_is = both.0; entries = both.1 }

-- ---- the blocks of a closed head

no_count : (head : Head) → head.state ≡ Closed → count_of head.state ≡ 0
no_count head closed = ap count_of closed

-- where no image of the journal counts, the block of a slot is what stands at its home
home_block : (reads : ℕ → List ℕ) (head : Head) (slot : ℕ) → head.state ≡ Closed → node_image reads head slot ≡ reads (2 + slot)
home_block reads head slot closed = ap (λ (n : ℕ). image_over (pages_from reads (journal_place head) n) slot (reads (2 + slot))) (no_count head closed)

-- ---- a settled disk

-- a settled disk, and the view that it is settled for, as its head and its index
pub record IsSettledWith (view : TreeView) (head : Head) (index : IndexState) (d : DiskState) : Type 0 where
  pub disk : IsDiskState d
  pub its : IsSettled view d
  pub metadata : view.metadata ≡ record { head = head; held = index.nodes }
  pub fits : IsViewOf head index

not_made : (head : Head) → head.state ≡ Closed → is_rebuilding head.state ≡ false
not_made head closed = ap is_rebuilding closed

-- the blocks and the map pages, as they were read
blocks : (view : TreeView) (head : Head) (index : IndexState) (d : DiskState) → IsSettledWith view head index d → AreBlocksRead (first_candidates d) head index.nodes
blocks view head index d s =
    let reads = first_candidates d in
    let metadata : metadata_of d.size reads ≡ Ok (record { head = head; held = index.nodes }) = s.its.metadata ∙ ap Ok s.metadata in
    let has = has_metadata d.size reads (record { head = head; held = index.nodes }) metadata in
    let own : view.metadata.head ≡ head = ap (λ (m : Metadata). m.head) s.metadata in
    let rests = s.its.rests in
    let one : HasOneHead view.metadata.head d = record { is = s.its.is; size = rests.size; whole = not_made view.metadata.head s.its.closed; first = rests.first; second = rests.second; settled = s.its.settled } in
    let counts : choice_of d.size reads ≡ Ok head = candidates-count view.metadata.head d one ∙ ap (λ (h : Head). let r : Result Head RecoverError = Ok h in r) own in
    let same : has.head ≡ head = one_head has.head head (choice_of d.size reads) has.counts counts in
    let below : known_below reads head (head_place reads) (block_of reads head) ≡ Ok has.known = subst (λ (h : Head). known_below reads h (head_place reads) (block_of reads h) ≡ Ok has.known) same has.below in
    subst (λ (m : Metadata). AreBlocksRead reads head m.held) has.made (below-read reads head (head_place reads) has.known below)

-- each candidate is one page
only_ref : (d : DiskState) (r : Ref) → (d.cells r.place).later ≡ [] → GivesRef (first_candidates d) r → HoldsRef d r
only_ref d r alone due =
    let cell = d.cells r.place in
    record {
      same = subst (λ (l : List (List ℕ)). All (λ page. page ≡ cell.first) (cell.first ∷ l)) (sym alone) (All-cons (λ page. page ≡ cell.first) cell.first [] refl (All-nil (λ page. page ≡ cell.first)));
      due = due;
    }

tree_of : (view : TreeView) (head : Head) (index : IndexState) (d : DiskState) → IsSettledWith view head index d → IsTreeRead head index (first_candidates d) view.tree
tree_of view head index d s =
    let as_read = recovered-as d.size (first_candidates d) view.metadata view.metadata.head.epoch view.tree s.its.metadata s.its.recovers in
    tree-was head index (first_candidates d) view.tree s.fits (λ place. first-page d place s.disk)
    (ap (λ (m : Metadata). entries_read (first_candidates d) (placed_in m.held)) (sym s.metadata) ∙ as_read.entries)

nothing : (refs : List Ref) → length refs ≡ 0 → refs ≡ []
nothing [] none = refl
nothing (r ∷ rs) none = absurd (omega (arith, none))

-- the data pages of what a slot holds
data_given : (view : TreeView) (head : Head) (index : IndexState) (d : DiskState) (slot : ℕ) (held : Held) → IsSettledWith view head index d → held_at index.nodes slot ≡ Some held → All (GivesRef (first_candidates d)) held.refs
data_given view head index d zero held s there =
    let fits = s.fits.table.fits 0 held there in
    let none : held.node.length ≡ 0 = fits.folder_empty (sym (ap holds_folder there) ∙ s.fits.table.root) in
    subst (All (GivesRef (first_candidates d))) (sym (nothing held.refs (omega (arith, fits.each_page, none)))) (All-nil (GivesRef (first_candidates d)))
data_given view head index d (suc k) held s there =
    (stands-at head index (first_candidates d) view.tree (path_to index.nodes (suc k)) (suc k) held (tree_of view head index d s) (s.fits.rooted.leads (suc k) held there) there (omega arith)).bytes.gives

pub settled-rests : (view : TreeView) (head : Head) (index : IndexState) (d : DiskState) → IsSettledWith view head index d → IsAtRestFor head index d
settled-rests view head index d s =
    let reads = first_candidates d in
    let nodes = index.nodes in
    let read = blocks view head index d s in
    let own : view.metadata.head ≡ head = ap (λ (m : Metadata). m.head) s.metadata in
    let closed : head.state ≡ Closed = s.fits.can.closed in
    let like : (slot : ℕ) → IsReadOf reads (held_from (listed_at read.ns slot)) (held_at nodes slot) = λ slot.
    subst (λ (o : Option Held). IsReadOf reads o (held_at nodes slot)) (held-of-at read.ns slot) (at-read reads (held_of read.ns) nodes slot read.like) in
    record {
      homes = λ slot. reads (2 + slot);
      journal = λ i. reads (2 + head.nodes + i);
      rests = subst (λ (h : Head). IsAtRest h (λ slot. reads (2 + slot)) (λ i. reads (2 + h.nodes + i)) d) own s.its.rests;
      blocks = λ slot within.
          let at = read.each slot (omega (arith, within, s.fits.slots)) in
          let is : node_read (length nodes) (reads (2 + slot)) ≡ Ok (listed_at read.ns slot) =
          ap (λ (n : ℕ). node_read n (reads (2 + slot))) s.fits.slots ∙ ap (node_read head.nodes) (sym (home_block reads head slot closed)) ∙ at.read in
          is ∙ ap Ok (node-read reads nodes head.nodes slot (block_of reads head slot).page (listed_at read.ns slot) at (like slot));
      holds = λ slot held there.
          let gives : GivesGroups reads held.node.maps held.refs = groups-read reads (listed_at read.ns slot) held (subst (IsReadOf reads (held_from (listed_at read.ns slot))) there (like slot)) in
          record {
            pages = All-weaker (GivesRef reads) (HoldsRef d) (λ r due. only_ref d r (s.its.settled r.place) due) held.refs (data_given view head index d slot held s there);
            maps = All-weaker (GivesRef reads) (HoldsRef d) (λ r due. only_ref d r (s.its.settled r.place) due) held.node.maps (groups-due reads held.node.maps held.refs gives);
            spelled = groups-spelled reads held gives;
          };
    }

pub settled-tree : (view : TreeView) (head : Head) (index : IndexState) (d : DiskState) → IsSettledWith view head index d → HasTree index.nodes (pages_by (first_candidates d) index.nodes) view.tree
settled-tree view head index d s = tree-read head index (first_candidates d) view.tree (tree_of view head index d s)
