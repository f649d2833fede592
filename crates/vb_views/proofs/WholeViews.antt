-- What a crash leaves of a disk on which no place of the views is hurt.
use Rattle.std.proofs.Common.{◌≡◌, ◌⊎◌, ℕ, List, [], Option, Some, None, unwrap_or, Result, Ok, sym, ap, subst, ◌∙◌, inl, inr, arith}
use Rattle.std.proofs.lemmas.List.Elements.{All-contains_itself, All-weaker}
use Rattle.std.specs.List.{Contains}
use Rattle.sha2.specs.Sha256.{sha256}
use Rattle.vb_block.specs.declared.digest.Ref.{Ref}
use Rattle.vb_disk.specs.Crashes.{MayCrashTo}
use Rattle.vb_disk.specs.States.{DiskState, IsDiskState, read_at}
use Rattle.vb_head.specs.declared.head.Head.{Head}
use Rattle.vb_index.specs.declared.held.Held.{Held}
use Rattle.vb_index.specs.Contents.{HasTree}
use Rattle.vb_index.specs.Indexes.{IndexState}
use Rattle.vb_index.specs.Nodes.{held_at}
use Rattle.vb_journal.specs.declared.commit_stage.Stage.{Stage}
use Rattle.vb_journal.specs.declared.commit_stage.Stage.TheVariants.{Journal, Opening, Homes, Closing, Rested}
use Rattle.vb_journal.specs.declared.recover_error.RecoverError.{RecoverError}
use Rattle.vb_journal.specs.Chosen.{IsRefusedAsHurt, RecoversButHurt}
use Rattle.vb_journal.specs.Outcomes.{RecoversWholly, reads_of}
use Rattle.vb_journal.specs.Plans.{CanGoOn, closed_head}
use Rattle.vb_journal.specs.Progress.{IsCommitting, IsUnharmed, new_images}
use Rattle.vb_journal.specs.Recoveries.{Recovered}
use Rattle.vb_journal.specs.Shown.{pages_from}
use Rattle.vb_journal.proofs.ChoicesOf.{IsChoiceOf-crash}
use Rattle.vb_journal.proofs.ChosenDisks.{EachChoiceStays-journal}
use Rattle.vb_journal.proofs.Settled.{read_of-alone, read_of-crashed}
use Rattle.vb_journal.proofs.UnharmedCrashes.{EachCrashRecoversWholly-stage, RecoversWholly-rest}
use Rattle.vb_store.specs.Clear.{first_candidates}
use Rattle.vb_store.specs.Recovered.{Recovers}
use Rattle.vb_store.specs.RecoveredStores.{recovered_on}
use Rattle.vb_store.specs.Views.{places_in}
use Rattle.vb_tree.specs.declared.tree.TreeEntry.{TreeEntry}
use Rattle.vb_views.specs.AtRest.{HoldsPagesOf, HoldsRef, IsAtRestFor, IsMapOf, IsViewOf}
use Rattle.vb_views.specs.Commits.{HasWholePlaces, HasWholePlacesAt, HoldsView, HoldsViewsAt, RecoversAt}
use Rattle.vb_views.specs.Reads.{GivesMapsOf, GivesRef, pages_by}
use Rattle.vb_views.proofs.RestingViews.{HoldsOfRefs, of-refs, tree-same}
use Rattle.vb_views.proofs.TreesGiven.{at_slice, tree-given}
use Rattle.vb_views.proofs.ViewsInPlace.{rest-holds}

-- ---- places that are whole

-- a whole place reads as its first candidate after a crash
crashed_first : (old new : DiskState) (place : ℕ) → ((old.cells place).hurt ≡ None) × ((old.cells place).later ≡ []) → MayCrashTo old new → read_at new place ≡ first_candidates old place
crashed_first old new place whole crash =
    read_of-crashed (old.cells place) (new.cells place) whole.1 (crash.each place)
    ∙ read_of-alone (old.cells place) whole.1 ∙ ap (λ (h : Option (List ℕ)). unwrap_or h (old.cells place).first) whole.0

named_reads : (head : Head) (index : IndexState) (d new : DiskState) (slot : ℕ) (held : Held) → IsViewOf head index → HasWholePlaces index d → MayCrashTo d new → held_at index.nodes slot ≡ Some held → HoldsOfRefs (λ p. reads_of new p ≡ first_candidates d p) held
named_reads head index d new slot held is whole crash there =
    of-refs (λ p. reads_of new p ≡ first_candidates d p) head index slot held is there
    (All-weaker (Contains (places_in index.nodes)) (λ p. reads_of new p ≡ first_candidates d p) (λ p among. crashed_first d new p (whole p among) crash) (places_in index.nodes) (All-contains_itself (places_in index.nodes)))

-- ---- a view of which a crash hurt nothing

ref_given : (d new : DiskState) (r : Ref) → reads_of new r.place ≡ first_candidates d r.place → HoldsRef d r → GivesRef (reads_of new) r
ref_given d new r same holds = ap sha256 same ∙ holds.due

maps_given : (head : Head) (index : IndexState) (d new : DiskState) (slot : ℕ) (held : Held) → IsViewOf head index → HasWholePlaces index d → MayCrashTo d new → held_at index.nodes slot ≡ Some held → HoldsPagesOf held d → GivesMapsOf held (reads_of new)
maps_given head index d new slot held is whole crash there holds =
    let named = named_reads head index d new slot held is whole crash there in
    record {
      due = λ k r within. ref_given d new _ (named.maps k r within) (holds.maps k r within);
      spelled = λ k r at. subst (IsMapOf held k) (sym (at_slice (λ x. reads_of new x.place ≡ first_candidates d x.place) held.node.maps k r named.maps at)) (holds.spelled k r at);
    }

-- where the journal recovers its head and its blocks wholly, its epoch and its tree are recovered
pub crashed-recovers : (head : Head) (index : IndexState) (homes : ℕ → List ℕ) (tree : List TreeEntry) (d new : DiskState) → HoldsView head index homes tree d → HasWholePlaces index d → MayCrashTo d new → RecoversWholly new head homes → recovered_on new ≡ Recovers head.epoch tree
crashed-recovers head index homes tree d new v whole crash wholly =
    tree-given new.size head index (reads_of new) tree v.view
    (record {
      images = homes;
      recovery = wholly;
      blocks = v.are;
      maps = λ slot held there. maps_given head index d new slot held v.view whole crash there (v.holds slot held there);
    })
    (λ slot held there k r within. ref_given d new _ ((named_reads head index d new slot held v.view whole crash there).pages k r within) ((v.holds slot held there).pages k r within))
    (tree-same head index (first_candidates d) (reads_of new) tree v.view (λ slot held there. (named_reads head index d new slot held v.view whole crash there).pages) v.has)

-- ---- while the journal is written

same_found : (r s : Recovered) → (let a : Result Recovered RecoverError = Ok r in a ≡ Ok s) → r.head.sequence ≡ s.head.sequence
same_found r s same = let one : r ≡ s = cc same in ap (λ (x : Recovered). x.head.sequence) one

-- a crash leaves no new images before the heads are opened
pub not_yet : (head : Head) (epoch : ℕ) (images : List (List ℕ)) (homes : ℕ → List ℕ) (new : DiskState) → RecoversButHurt new head homes ⊎ IsRefusedAsHurt head.nodes 0 new → RecoversWholly new (closed_head head epoch) (new_images images homes) → ⊥
not_yet head epoch images homes new (inl recovers) wholly =
    let was : Recovered = record { head = head; images = recovers.found } in
    let is : Recovered = record { head = closed_head head epoch; images = pages_from (new_images images homes) 0 head.nodes } in
    absurd (let same = same_found was is (sym recovers.is ∙ wholly) in omega (arith, same))
not_yet head epoch images homes new (inr (inl damaged)) wholly = absurd (let is = damaged.is in cc (is, wholly))
not_yet head epoch images homes new (inr (inr blank)) wholly = absurd (let is = blank.is in cc (is, wholly))

-- ---- the stages of a commit

-- a disk in the midst of a commit on which nothing that counts is hurt
pub record IsWholeCommit (head : Head) (epoch : ℕ) (images : List (List ℕ)) (homes journal : ℕ → List ℕ) (stage : Stage) (d : DiskState) : Type 0 where
  pub can : CanGoOn head epoch images stage
  pub disk : IsDiskState d
  pub known : IsCommitting head epoch images homes journal stage d
  pub unharmed : IsUnharmed head images stage d

pub crash-recovers : (head : Head) (epoch : ℕ) (images : List (List ℕ)) (homes journal : ℕ → List ℕ) (stage : Stage) (d new : DiskState) (old : IndexState) (tree : List TreeEntry) (index : IndexState) (after : List TreeEntry) → IsWholeCommit head epoch images homes journal stage d → HoldsViewsAt head epoch images homes stage old tree index after d → HasWholePlacesAt stage old index d → MayCrashTo d new → RecoversAt stage head.epoch tree epoch after new
crash-recovers head epoch images homes journal (Journal next) d new old tree index after c holds whole crash =
    let each = EachCrashRecoversWholly-stage head epoch images homes journal (Journal next) d c.can c.disk c.known c.unharmed new crash in
    elim each [
      | inl before ↦ crashed-recovers head old homes tree d new holds whole crash before
      | inr later ↦ absurd (not_yet head epoch images homes new (EachChoiceStays-journal head epoch images homes journal next d c.can c.known new (IsChoiceOf-crash d new c.disk crash)) later)
    ]
crash-recovers head epoch images homes journal (Opening turn) d new old tree index after c holds whole crash =
    let each = EachCrashRecoversWholly-stage head epoch images homes journal (Opening turn) d c.can c.disk c.known c.unharmed new crash in
    elim each [
      | inl before ↦ inl (crashed-recovers head old homes tree d new holds.0 whole.0 crash before)
      | inr later ↦ inr (crashed-recovers (closed_head head epoch) index (new_images images homes) after d new holds.1 whole.1 crash later)
    ]
crash-recovers head epoch images homes journal (Homes next) d new old tree index after c holds whole crash =
    crashed-recovers (closed_head head epoch) index (new_images images homes) after d new holds whole crash
    (EachCrashRecoversWholly-stage head epoch images homes journal (Homes next) d c.can c.disk c.known c.unharmed new crash)
crash-recovers head epoch images homes journal (Closing turn) d new old tree index after c holds whole crash =
    crashed-recovers (closed_head head epoch) index (new_images images homes) after d new holds whole crash
    (EachCrashRecoversWholly-stage head epoch images homes journal (Closing turn) d c.can c.disk c.known c.unharmed new crash)
crash-recovers head epoch images homes journal Rested d new old tree index after c holds whole crash =
    crashed-recovers (closed_head head epoch) index (new_images images homes) after d new holds whole crash
    (EachCrashRecoversWholly-stage head epoch images homes journal Rested d c.can c.disk c.known c.unharmed new crash)

-- so it is at rest
pub rest-recovers : (head : Head) (index : IndexState) (d new : DiskState) (tree : List TreeEntry) → IsViewOf head index → IsDiskState d → IsAtRestFor head index d → HasTree index.nodes (pages_by (first_candidates d) index.nodes) tree → IsUnharmed head [] Rested d → HasWholePlaces index d → MayCrashTo d new → recovered_on new ≡ Recovers head.epoch tree
rest-recovers head index d new tree is disk rests has unharmed whole crash =
    crashed-recovers head index rests.homes tree d new (rest-holds head index d tree is rests has) whole crash
    (RecoversWholly-rest head rests.homes rests.journal d new is.can.range is.can.closed disk rests.rests unharmed crash)
