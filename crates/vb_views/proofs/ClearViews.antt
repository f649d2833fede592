-- A disk on which nothing that counts is hurt is clear.
use Rattle.std.proofs.Common.{◌≡◌, ℕ, ◌+◌, ◌*◌, Bool, true, false, List, [], get_or, refl, subst, inl, inr}
use Rattle.std.specs.List.{Contains}
use Rattle.vb_disk.specs.declared.cell.Cell.{Cell}
use Rattle.vb_disk.specs.States.{DiskState, IsDiskState}
use Rattle.vb_geometry.specs.Layout.{home_place, journal_place}
use Rattle.vb_head.specs.declared.head.Head.{Head}
use Rattle.vb_index.specs.Contents.{HasTree}
use Rattle.vb_index.specs.Indexes.{IndexState}
use Rattle.vb_journal.specs.declared.commit_stage.Stage.{Stage}
use Rattle.vb_journal.specs.declared.commit_stage.Stage.TheVariants.{Journal, Opening, Homes, Closing, Rested}
use Rattle.vb_journal.specs.Plans.{closed_head}
use Rattle.vb_journal.specs.Images.{image_at, slot_of}
use Rattle.vb_journal.specs.Progress.{HasSameCandidates, IsUnharmed, IsWholeAt, heads_needed, new_images}
use Rattle.vb_journal.proofs.Keeping.{IsAtRest-same, IsCommitting-same}
use Rattle.vb_store.specs.Clear.{IsClear, RecoversTree, first_candidates, taken_as, taken_cell}
use Rattle.vb_store.specs.Recovered.{Recovers}
use Rattle.vb_store.specs.RecoveredStores.{recovered_on}
use Rattle.vb_store.proofs.CrashesOfClear.{candidates-taken}
use Rattle.vb_store.proofs.TakenDisks.{IsDiskState-taken, hurt-taken}
use Rattle.vb_tree.specs.declared.tree.TreeEntry.{TreeEntry}
use Rattle.vb_views.specs.AtRest.{IsAtRestFor, IsViewOf}
use Rattle.vb_views.specs.Commits.{HasWholePlaces, HasWholePlacesAt, HoldsView, HoldsViewsAt, RecoversAt}
use Rattle.vb_views.specs.Reads.{pages_by}
use Rattle.vb_views.proofs.RestsKept.{KeepsPlaces}
use Rattle.vb_views.proofs.ViewsHeld.{holds-kept}
use Rattle.vb_views.proofs.ViewsInPlace.{rest-holds}
use Rattle.vb_views.proofs.WholeViews.{IsWholeCommit, crash-recovers, crashed-recovers}
use Rattle.vb_journal.specs.Outcomes.{RecoversWholly}
use Rattle.vb_journal.proofs.UnharmedCrashes.{RecoversWholly-rest}

-- ---- some places taken as whole

keeps_taken : (whole : ℕ → Bool) (index : IndexState) (d : DiskState) → KeepsPlaces index d (taken_as whole d)
keeps_taken whole index d place named page among = subst (λ (l : List (List ℕ)). Contains l page) (candidates-taken (whole place) (d.cells place)) among

same_taken : (whole : ℕ → Bool) (end : ℕ) (d : DiskState) → HasSameCandidates end d (taken_as whole d)
same_taken whole end d = record { size = refl; each = λ place below. candidates-taken (whole place) (d.cells place) }

later_taken : (b : Bool) (cell : Cell) → cell.later ≡ [] → (taken_cell b cell).later ≡ []
later_taken true cell alone = alone
later_taken false cell alone = alone

whole_taken : (whole : ℕ → Bool) (index : IndexState) (d : DiskState) → HasWholePlaces index d → HasWholePlaces index (taken_as whole d)
whole_taken whole index d are place named =
    let is = are place named in
    (hurt-taken (whole place) (d.cells place) is.0, later_taken (whole place) (d.cells place) is.1)

unharmed_taken : (whole : ℕ → Bool) (head : Head) (images : List (List ℕ)) (stage : Stage) (d : DiskState) → IsUnharmed head images stage d → IsUnharmed head images stage (taken_as whole d)
unharmed_taken whole head images stage d is = record {
  heads = λ k e within. at (get_or (heads_needed stage) k e) (is.heads k e within);
  in_journal = λ i below. at (journal_place head.nodes i) (is.in_journal i below);
  at_home = λ i below needed. at (home_place (slot_of (image_at images i))) (is.at_home i below needed);
  others = λ slot below unnamed. at (home_place slot) (is.others slot below unnamed);
} where
  at : (place : ℕ) → IsWholeAt d place → IsWholeAt (taken_as whole d) place
  at place is_whole = hurt-taken (whole place) (d.cells place) is_whole

view_taken : (whole : ℕ → Bool) (head : Head) (index : IndexState) (blocks : ℕ → List ℕ) (tree : List TreeEntry) (d : DiskState) → HoldsView head index blocks tree d → HoldsView head index blocks tree (taken_as whole d)
view_taken whole head index blocks tree d v = holds-kept head index blocks tree d (taken_as whole d) refl (keeps_taken whole index d) v

views_taken : (whole : ℕ → Bool) (head : Head) (epoch : ℕ) (images : List (List ℕ)) (homes : ℕ → List ℕ) (stage : Stage) (old : IndexState) (tree : List TreeEntry) (new : IndexState) (after : List TreeEntry) (d : DiskState) → HoldsViewsAt head epoch images homes stage old tree new after d → HoldsViewsAt head epoch images homes stage old tree new after (taken_as whole d)
views_taken whole head epoch images homes (Journal next) old tree new after d v = view_taken whole head old homes tree d v
views_taken whole head epoch images homes (Opening turn) old tree new after d v = (view_taken whole head old homes tree d v.0, view_taken whole (closed_head head epoch) new (new_images images homes) after d v.1)
views_taken whole head epoch images homes (Homes next) old tree new after d v = view_taken whole (closed_head head epoch) new (new_images images homes) after d v
views_taken whole head epoch images homes (Closing turn) old tree new after d v = view_taken whole (closed_head head epoch) new (new_images images homes) after d v
views_taken whole head epoch images homes Rested old tree new after d v = view_taken whole (closed_head head epoch) new (new_images images homes) after d v

places_taken : (whole : ℕ → Bool) (stage : Stage) (old new : IndexState) (d : DiskState) → HasWholePlacesAt stage old new d → HasWholePlacesAt stage old new (taken_as whole d)
places_taken whole (Journal next) old new d are = whole_taken whole old d are
places_taken whole (Opening turn) old new d are = (whole_taken whole old d are.0, whole_taken whole new d are.1)
places_taken whole (Homes next) old new d are = whole_taken whole new d are
places_taken whole (Closing turn) old new d are = whole_taken whole new d are
places_taken whole Rested old new d are = whole_taken whole new d are

-- ---- clear disks

tree_at : (epoch : ℕ) (tree : List TreeEntry) (d : DiskState) → recovered_on d ≡ Recovers epoch tree → RecoversTree d
tree_at epoch tree d is = record { epoch = epoch; tree = tree; recovers = is }

tree_of_stage : (stage : Stage) (epoch : ℕ) (tree : List TreeEntry) (later : ℕ) (after : List TreeEntry) (d : DiskState) → RecoversAt stage epoch tree later after d → RecoversTree d
tree_of_stage (Journal next) epoch tree later after d is = tree_at epoch tree d is
tree_of_stage (Opening turn) epoch tree later after d (inl is) = tree_at epoch tree d is
tree_of_stage (Opening turn) epoch tree later after d (inr is) = tree_at later after d is
tree_of_stage (Homes next) epoch tree later after d is = tree_at later after d is
tree_of_stage (Closing turn) epoch tree later after d is = tree_at later after d is
tree_of_stage Rested epoch tree later after d is = tree_at later after d is

pub clear-commit : (head : Head) (epoch : ℕ) (images : List (List ℕ)) (homes journal : ℕ → List ℕ) (stage : Stage) (d : DiskState) (old : IndexState) (tree : List TreeEntry) (index : IndexState) (after : List TreeEntry) → IsWholeCommit head epoch images homes journal stage d → HoldsViewsAt head epoch images homes stage old tree index after d → HasWholePlacesAt stage old index d → IsClear d
clear-commit head epoch images homes journal stage d old tree index after c holds are whole new crash =
    tree_of_stage stage head.epoch tree epoch after new
    (crash-recovers head epoch images homes journal stage (taken_as whole d) new old tree index after
    (record {
      can = c.can;
      disk = IsDiskState-taken whole d c.disk;
      known = IsCommitting-same head epoch images homes journal stage d (taken_as whole d) c.can.finish (same_taken whole (2 + 2 * head.nodes) d) c.known;
      unharmed = unharmed_taken whole head images stage d c.unharmed;
    })
    (views_taken whole head epoch images homes stage old tree index after d holds)
    (places_taken whole stage old index d are) crash)

pub clear-rest : (head : Head) (index : IndexState) (d : DiskState) (tree : List TreeEntry) → IsViewOf head index → IsDiskState d → IsAtRestFor head index d → HasTree index.nodes (pages_by (first_candidates d) index.nodes) tree → IsUnharmed head [] Rested d → HasWholePlaces index d → IsClear d
clear-rest head index d tree is disk rests has unharmed are whole new crash =
    let t : DiskState = taken_as whole d in
    let wholly : RecoversWholly new head rests.homes =
    RecoversWholly-rest head rests.homes rests.journal t new is.can.range is.can.closed (IsDiskState-taken whole d disk)
    (IsAtRest-same head rests.homes rests.journal d t (same_taken whole (2 + 2 * head.nodes) d) rests.rests)
    (unharmed_taken whole head [] Rested d unharmed) crash in
    tree_at head.epoch tree new
    (crashed-recovers head index rests.homes tree t new (view_taken whole head index rests.homes tree d (rest-holds head index d tree is rests has)) (whole_taken whole index d are) crash wholly)
