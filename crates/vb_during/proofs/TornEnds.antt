-- What a crash recovers of the commit of a view on a disk on which no place was hurt: what the first candidates recover,
-- or the last ones, unless it tears a page of data.
use Rattle.std.proofs.Common.{◌≡◌, ◌⊎◌, ℕ, zero, suc, ◌+◌, ◌<◌, false, List, [], ◌∷◌, ◌++◌, get_or, replicate, None, refl, sym, ap, subst, ◌∙◌, inl, inr, arith}
use Rattle.std.proofs.lemmas.List.{append-nil}
use Rattle.std.proofs.lemmas.List.Elements.{All-cons, All-contains, All-nil}
use Rattle.std.specs.List.{Contains}
use Rattle.vb_commit.specs.Known.{AreWritten, JournalStands, StoreStands}
use Rattle.vb_commit.specs.Ways.{Waits, WayState}
use Rattle.vb_commit.proofs.WaysKept.{way}
use Rattle.vb_disk.specs.declared.cell.Cell.{Cell}
use Rattle.vb_disk.specs.Cells.{candidates}
use Rattle.vb_disk.specs.Crashes.{MayCrashTo}
use Rattle.vb_disk.specs.States.{DiskState, IsDiskState, synced}
use Rattle.vb_geometry.specs.Layout.{home_place, journal_place}
use Rattle.vb_head.specs.declared.head.Head.{Head}
use Rattle.vb_head.specs.Heads.{IsHead, head_page}
use Rattle.vb_index.specs.Contents.{HasTree}
use Rattle.vb_index.specs.Indexes.{IndexState}
use Rattle.vb_journal.specs.declared.commit_stage.Stage.{Stage}
use Rattle.vb_journal.specs.declared.commit_stage.Stage.TheVariants.{Journal, Opening, Homes, Closing, Rested}
use Rattle.vb_journal.specs.declared.commit_stage.Turn.{Turn}
use Rattle.vb_journal.specs.declared.commit_stage.Turn.TheVariants.{First, FirstSync, Second, SecondSync}
use Rattle.vb_journal.specs.Choices.{IsCellOf, IsChoiceOf}
use Rattle.vb_journal.specs.Images.{image_at, slot_of}
use Rattle.vb_journal.specs.Interruptions.{AreSettled}
use Rattle.vb_journal.specs.Outcomes.{RecoversWholly}
use Rattle.vb_journal.specs.Plans.{CanCommit, CanGoOn, closed_head, opened_head}
use Rattle.vb_journal.specs.Progress.{Fixed, Has, IsAtRest, IsCommitting, IsUnharmed, Trying, heads_needed, new_images, new_journal}
use Rattle.vb_journal.proofs.AfterCrashes.{EachCrashStays-rest, crash_at, fits_head, journal_counts, large, reads_or_hurt}
use Rattle.vb_journal.proofs.ChoicesOf.{IsChoiceOf-crash, one_left}
use Rattle.vb_journal.proofs.ChosenDisks.{EachChoiceStays-journal}
use Rattle.vb_journal.proofs.Found.{Counts, journal_read}
use Rattle.vb_journal.proofs.Heads.{MayReadHead-Trying, OneCounts-changed, StandsOrHurt-Fixed}
use Rattle.vb_journal.proofs.Keeping.{IsCommitting-same, syncs-opening-first}
use Rattle.vb_journal.proofs.Overlays.{named_or_not}
use Rattle.vb_journal.proofs.TriedCells.{Trying-from_Tried}
use Rattle.vb_journal.proofs.Unharmed.{whole_found}
use Rattle.vb_journal.proofs.UnharmedCrashes.{EachCrashRecoversWholly-stage, RecoversWholly-rest}
use Rattle.vb_plan.specs.declared.plan_page.PlanPage.{PlanPage}
use Rattle.vb_store.specs.Clear.{first_candidates, last_candidates, next_of, safe_of}
use Rattle.vb_store.specs.OneOf.{TreeView}
use Rattle.vb_store.specs.Recovered.{Recovers, recovered}
use Rattle.vb_store.specs.RecoveredStores.{recovered_on}
use Rattle.vb_tree.specs.declared.tree.TreeEntry.{TreeEntry}
use Rattle.vb_views.specs.AtRest.{IsAtRestFor, IsViewOf}
use Rattle.vb_views.specs.Commits.{HoldsView}
use Rattle.vb_views.specs.Reads.{GiveCandidates, RecoverOneOf, pages_by, tree_view}
use Rattle.vb_views.proofs.ReadsOfViews.{one-recovered}
use Rattle.vb_views.proofs.RestingViews.{first-given, fixed-pick, last-given, recovered-picked}
use Rattle.vb_views.proofs.ViewsHeld.{holds-kept}
use Rattle.vb_views.proofs.ViewsInPlace.{rest-holds}
use Rattle.vb_views.proofs.WholeViews.{crashed-recovers, not_yet}
use Rattle.vb_during.specs.During.{IsCommittingView, ViewCommit, head_after, plan_for, views_at}
use Rattle.vb_during.specs.TornPages.{HasLoneMaps, IsAllWhole, IsUnreadable, IsUntorn, RecoversAnEnd}
use Rattle.vb_during.proofs.NextHeld.{at-own, commit-recovers-views, next-holds}
use Rattle.vb_during.proofs.TornViews.{view-torn}

-- ---- disks on which no place is hurt

pub all-unharmed : (head : Head) (images : List (List ℕ)) (stage : Stage) (d : DiskState) → IsAllWhole d → IsUnharmed head images stage d
all-unharmed head images stage d whole = record {
  heads = λ k e within. whole (get_or (heads_needed stage) k e);
  in_journal = λ i needed. whole (journal_place head.nodes i);
  at_home = λ i within needed. whole (home_place (slot_of (image_at images i)));
  others = λ slot within unnamed. whole (home_place slot);
}

settled_crash : (d : DiskState) → AreSettled d → MayCrashTo d d
settled_crash d alone = record {
  size = refl;
  writes = refl;
  resizes = refl;
  synced_at = refl;
  each = λ place. record { picked = (0, omega arith, refl); alone = alone place; hurt = inl refl };
}

-- ---- choices

chosen_cell : (x old : Cell) (page : List ℕ) → IsCellOf x old → Has (Fixed page) old → Has (Fixed page) x
chosen_cell x old page is has = ap (λ (l : List (List ℕ)). x.first ∷ l) is.alone ∙ ap (λ (p : List ℕ). p ∷ []) (fixed-pick page x.first old has is.picked)

chosen_holds : (head : Head) (index : IndexState) (homes : ℕ → List ℕ) (tree : List TreeEntry) (d x : DiskState) → IsChoiceOf x d → HoldsView head index homes tree d → HoldsView head index homes tree x
chosen_holds head index homes tree d x chosen v =
    holds-kept head index homes tree d x chosen.size
    (λ place named page among. one_left (d.cells place) (x.cells place) (chosen.each place).picked (chosen.each place).alone page among) v

-- the disk each place of which is what was read
abbrev read_disk : DiskState → (ℕ → List ℕ) → DiskState
read_disk d reads = record d { cells = λ place. record { first = reads place; later = []; hurt = None } }

-- where no place is hurt a crash may leave it, whichever candidates were read
read_chosen : (d : DiskState) (reads : ℕ → List ℕ) → IsDiskState d → IsAllWhole d → GiveCandidates d reads → IsChoiceOf (read_disk d reads) d
read_chosen d reads disk whole given = IsChoiceOf-crash d (read_disk d reads) disk (record {
  size = refl;
  writes = refl;
  resizes = refl;
  synced_at = refl;
  each = λ place. record { picked = given place; alone = refl; hurt = inl (sym (whole place)) };
})

-- what reads of candidates recover, where the journal recovers the head and the blocks of a view from them
picks_recover : (head : Head) (index : IndexState) (homes : ℕ → List ℕ) (tree : List TreeEntry) (d : DiskState) (reads : ℕ → List ℕ) → IsDiskState d → IsAllWhole d → GiveCandidates d reads → HoldsView head index homes tree d → RecoversWholly (read_disk d reads) head homes → recovered d.size reads ≡ Recovers head.epoch tree
picks_recover head index homes tree d reads disk whole given v wholly =
    let x : DiskState = read_disk d reads in
    crashed-recovers head index homes tree x x (chosen_holds head index homes tree d x (read_chosen d reads disk whole given) v) (λ place named. (refl, refl)) (settled_crash x (λ place. refl)) wholly

-- ---- while the heads are opened

-- a choice with both heads from before is at rest
rests_before : (head : Head) (epoch : ℕ) (images : List (List ℕ)) (homes journal : ℕ → List ℕ) (turn : Turn) (d x : DiskState) → IsCommitting head epoch images homes journal (Opening turn) d → IsChoiceOf x d → Has (Fixed (head_page head)) (x.cells 0) → Has (Fixed (head_page head)) (x.cells 1) → IsAtRest head homes (λ i. (x.cells (2 + head.nodes + i)).first) x
rests_before head epoch images homes journal turn d x is chosen first second = record {
  id = is.id;
  size = chosen.size ∙ is.size;
  first = first;
  second = second;
  each_home = λ slot within.
      let at : ℕ → Type 0 = λ s. Has (Fixed (homes s)) (d.cells (2 + s)) in
      let has : at slot = elim (named_or_not images slot) [
        | inl named ↦ subst at named.is (is.at_home named.at named.within)
        | inr unnamed ↦ is.others slot within unnamed
      ] in
      chosen_cell (x.cells (2 + slot)) (d.cells (2 + slot)) (homes slot) (chosen.each (2 + slot)) has;
  each_image = λ i within. ap (λ (l : List (List ℕ)). (x.cells (2 + head.nodes + i)).first ∷ l) (chosen.each (2 + head.nodes + i)).alone;
}

-- one with the first opened and the second from before is in the second turn
second_chosen : (head : Head) (epoch : ℕ) (images : List (List ℕ)) (homes journal : ℕ → List ℕ) (turn : Turn) (d x : DiskState) → IsCommitting head epoch images homes journal (Opening turn) d → IsChoiceOf x d → Has (Fixed (head_page (opened_head head epoch images))) (x.cells 0) → Has (Fixed (head_page head)) (x.cells 1) → IsCommitting head epoch images homes journal (Opening Second) x
second_chosen head epoch images homes journal turn d x is chosen first second = record {
  id = is.id;
  size = chosen.size ∙ is.size;
  first = first;
  second = (0, second);
  in_journal = λ i within. chosen_cell (x.cells (2 + head.nodes + i)) (d.cells (2 + head.nodes + i)) (image_at images i) (chosen.each (2 + head.nodes + i)) (is.in_journal i within);
  at_home = λ i within. chosen_cell (x.cells (2 + slot_of (image_at images i))) (d.cells (2 + slot_of (image_at images i))) (homes (slot_of (image_at images i))) (chosen.each (2 + slot_of (image_at images i))) (is.at_home i within);
  beyond = λ i past within. chosen_cell (x.cells (2 + head.nodes + i)) (d.cells (2 + head.nodes + i)) (journal i) (chosen.each (2 + head.nodes + i)) (is.beyond i past within);
  others = λ slot within unnamed. chosen_cell (x.cells (2 + slot)) (d.cells (2 + slot)) (homes slot) (chosen.each (2 + slot)) (is.others slot within unnamed);
}

-- once the first head was opened and synced, each crash recovers the next images
opened_wholly : (head : Head) (epoch : ℕ) (images : List (List ℕ)) (homes journal : ℕ → List ℕ) (turn : Turn) (d new : DiskState) → CanGoOn head epoch images (Opening turn) → IsDiskState d → IsCommitting head epoch images homes journal (Opening turn) d → IsAllWhole d → Has (Fixed (head_page (opened_head head epoch images))) (d.cells 0) → Has (Trying (head_page head) (head_page (opened_head head epoch images))) (d.cells 1) → MayCrashTo d new → RecoversWholly new (closed_head head epoch) (new_images images homes)
opened_wholly head epoch images homes journal turn d new can disk is whole first second crash =
    let early : CanCommit head epoch images = can.early refl in
    let opened : Head = opened_head head epoch images in
    let is_old : IsHead head = record { range = early.range; id_length = is.id } in
    let is_opened : IsHead opened = record { range = can.finish.opened; id_length = is.id } in
    let rises : head.sequence < head.sequence + 1 = omega arith in
    let c = crash_at head epoch images homes journal (Opening turn) d new can.finish disk is crash in
    elim (OneCounts-changed head opened d new rises (StandsOrHurt-Fixed opened d new 0 is_opened disk crash first) (MayReadHead-Trying head opened d new 1 is_old is_opened disk crash second)) [
      | inl counts ↦
          let known : Counts new opened = record {
            large = large head epoch images homes d new c;
            is = counts;
            fits = fits_head head epoch images homes d new c;
            made = refl;
          } in
          elim (journal_read head.nodes (2 + head.nodes) d new images can.finish.images_are (λ i within. reads_or_hurt (image_at images i) d new (2 + head.nodes + i) disk crash (is.in_journal i within))) [
            | inl read ↦ whole_found d new (closed_head head epoch) (new_images images homes) (λ slot within. whole (2 + slot))
                (journal_counts head epoch images homes d d new c (λ slot within unnamed. refl) known read.0 read.1)
            | inr hurt ↦ absurd (let none = whole (2 + head.nodes + hurt.at) in let was = hurt.hurt.was in cc)
          ]
      | inr hurt ↦ absurd (let none = whole 0 in let was = hurt.was in cc)
    ]

-- a disk of a commit whose heads are being opened
record IsBetween (v : ViewCommit) (homes journal : ℕ → List ℕ) (turn : Turn) (d : DiskState) : Type 0 where
  pub can : CanGoOn v.head v.epoch (plan_for v).images (Opening turn)
  pub disk : IsDiskState d
  pub known : IsCommitting v.head v.epoch (plan_for v).images homes journal (Opening turn) d
  pub old : HoldsView v.head v.old homes v.tree d
  pub next : HoldsView (head_after v) v.new (new_images (plan_for v).images homes) v.after d
  pub whole : IsAllWhole d
  pub maps : HasLoneMaps v.old.nodes d × HasLoneMaps v.new.nodes d

-- the first candidates recover the committed view in the first turn
safe_first : (v : ViewCommit) (homes journal : ℕ → List ℕ) (turn : Turn) (d : DiskState) → IsBetween v homes journal turn d → Has (Trying (head_page v.head) (head_page (opened_head v.head v.epoch (plan_for v).images))) (d.cells 0) → Has (Fixed (head_page v.head)) (d.cells 1) → safe_of d ≡ Recovers v.head.epoch v.tree
safe_first v homes journal turn d b first second =
    let x : DiskState = read_disk d (first_candidates d) in
    let chosen = read_chosen d (first_candidates d) b.disk b.whole (first-given d) in
    let early = b.can.early refl in
    let front : (d.cells 0).first ≡ head_page v.head = (let at = first.1 in cc at) in
    picks_recover v.head v.old homes v.tree d (first_candidates d) b.disk b.whole (first-given d) b.old
    (RecoversWholly-rest v.head homes _ x x early.range early.closed chosen.disk
    (rests_before v.head v.epoch (plan_for v).images homes journal turn d x b.known chosen (ap (λ (p : List ℕ). p ∷ []) front) (chosen_cell (x.cells 1) (d.cells 1) (head_page v.head) (chosen.each 1) second))
    (all-unharmed v.head [] Rested x (λ place. refl)) (settled_crash x (λ place. refl)))

-- and the last ones the next view, where a crash may
next_first : (v : ViewCommit) (homes journal : ℕ → List ℕ) (turn : Turn) (d new : DiskState) (times : ℕ) → IsBetween v homes journal turn d → candidates (d.cells 0) ≡ head_page v.head ∷ replicate times (head_page (opened_head v.head v.epoch (plan_for v).images)) → Has (Fixed (head_page v.head)) (d.cells 1) → MayCrashTo d new → RecoversWholly new (head_after v) (new_images (plan_for v).images homes) → next_of d ≡ Recovers v.epoch v.after
next_first v homes journal turn d new zero b first second crash later =
    let chosen = IsChoiceOf-crash d new b.disk crash in
    let early = b.can.early refl in
    absurd (not_yet v.head v.epoch (plan_for v).images homes new
    (EachCrashStays-rest v.head homes _ new early.range early.closed chosen.disk
    (rests_before v.head v.epoch (plan_for v).images homes journal turn d new b.known chosen
    (chosen_cell (new.cells 0) (d.cells 0) (head_page v.head) (chosen.each 0) first) (chosen_cell (new.cells 1) (d.cells 1) (head_page v.head) (chosen.each 1) second))
    new (settled_crash new (λ place. (chosen.each place).alone))) later)
next_first v homes journal turn d new (suc n) b first second crash later =
    let x : DiskState = read_disk d (last_candidates d) in
    let chosen = read_chosen d (last_candidates d) b.disk b.whole (last-given d) in
    let wrote : IsCommitting v.head v.epoch (plan_for v).images homes journal (Opening FirstSync) d = record {
      id = b.known.id;
      size = b.known.size;
      first = (n, first);
      second = second;
      in_journal = b.known.in_journal;
      at_home = b.known.at_home;
      beyond = b.known.beyond;
      others = b.known.others;
    } in
    let known : IsCommitting v.head v.epoch (plan_for v).images homes journal (Opening Second) x =
    IsCommitting-same v.head v.epoch (plan_for v).images homes journal (Opening Second) (synced d) x b.can.finish (record { size = refl; each = λ place below. refl })
    (syncs-opening-first v.head v.epoch (plan_for v).images homes journal d wrote) in
    picks_recover (head_after v) v.new (new_images (plan_for v).images homes) v.after d (last_candidates d) b.disk b.whole (last-given d) b.next
    (opened_wholly v.head v.epoch (plan_for v).images homes journal Second x x (record { finish = b.can.finish; early = λ is. b.can.early refl }) chosen.disk known (λ place. refl) known.first known.second (settled_crash x (λ place. refl)))

-- the first ones the next view in the second turn
safe_second : (v : ViewCommit) (homes journal : ℕ → List ℕ) (turn : Turn) (d : DiskState) → IsBetween v homes journal turn d → Has (Fixed (head_page (opened_head v.head v.epoch (plan_for v).images))) (d.cells 0) → Has (Trying (head_page v.head) (head_page (opened_head v.head v.epoch (plan_for v).images))) (d.cells 1) → safe_of d ≡ Recovers v.epoch v.after
safe_second v homes journal turn d b first second =
    let x : DiskState = read_disk d (first_candidates d) in
    let chosen = read_chosen d (first_candidates d) b.disk b.whole (first-given d) in
    let front : (d.cells 1).first ≡ head_page v.head = (let at = second.1 in cc at) in
    let known = second_chosen v.head v.epoch (plan_for v).images homes journal turn d x b.known chosen (chosen_cell (x.cells 0) (d.cells 0) _ (chosen.each 0) first) (ap (λ (p : List ℕ). p ∷ []) front) in
    picks_recover (head_after v) v.new (new_images (plan_for v).images homes) v.after d (first_candidates d) b.disk b.whole (first-given d) b.next
    (opened_wholly v.head v.epoch (plan_for v).images homes journal Second x x (record { finish = b.can.finish; early = λ is. b.can.early refl }) chosen.disk known (λ place. refl) known.first known.second (settled_crash x (λ place. refl)))

-- ---- ends

-- what is recovered is what the first candidates recover
at_first : (views : List TreeView) (d new : DiskState) (epoch : ℕ) (tree : List TreeEntry) → safe_of d ≡ Recovers epoch tree → (recovered_on new ≡ Recovers epoch tree) ⊎ IsUnreadable views d new → RecoversAnEnd views d new
at_first views d new epoch tree safe (inl is) = inl (is ∙ sym safe)
at_first views d new epoch tree safe (inr unreadable) = inr (inr unreadable)

at_last : (views : List TreeView) (d new : DiskState) (epoch : ℕ) (tree : List TreeEntry) → next_of d ≡ Recovers epoch tree → (recovered_on new ≡ Recovers epoch tree) ⊎ IsUnreadable views d new → RecoversAnEnd views d new
at_last views d new epoch tree next (inl is) = inr (inl (is ∙ sym next))
at_last views d new epoch tree next (inr unreadable) = inr (inr unreadable)

first_turn : (v : ViewCommit) (homes journal : ℕ → List ℕ) (turn : Turn) (d new : DiskState) → IsBetween v homes journal turn d → Has (Trying (head_page v.head) (head_page (opened_head v.head v.epoch (plan_for v).images))) (d.cells 0) → Has (Fixed (head_page v.head)) (d.cells 1) → MayCrashTo d new → RecoversAnEnd (views_at v (Opening turn)) d new
first_turn v homes journal turn d new b first second crash =
    elim (EachCrashRecoversWholly-stage v.head v.epoch (plan_for v).images homes journal (Opening turn) d b.can b.disk b.known (all-unharmed v.head (plan_for v).images (Opening turn) d b.whole) new crash) [
      | inl before ↦ at_first (views_at v (Opening turn)) d new v.head.epoch v.tree (safe_first v homes journal turn d b first second)
          (view-torn (views_at v (Opening turn)) v.head v.old homes v.tree d new (0, omega arith, refl) b.old b.whole b.maps.0 crash before)
      | inr later ↦ at_last (views_at v (Opening turn)) d new v.epoch v.after (next_first v homes journal turn d new first.0 b first.1 second crash later)
          (view-torn (views_at v (Opening turn)) (head_after v) v.new (new_images (plan_for v).images homes) v.after d new (1, omega arith, refl) b.next b.whole b.maps.1 crash later)
    ]

second_turn : (v : ViewCommit) (homes journal : ℕ → List ℕ) (turn : Turn) (d new : DiskState) → IsBetween v homes journal turn d → Has (Fixed (head_page (opened_head v.head v.epoch (plan_for v).images))) (d.cells 0) → Has (Trying (head_page v.head) (head_page (opened_head v.head v.epoch (plan_for v).images))) (d.cells 1) → MayCrashTo d new → RecoversAnEnd (views_at v (Opening turn)) d new
second_turn v homes journal turn d new b first second crash =
    at_first (views_at v (Opening turn)) d new v.epoch v.after (safe_second v homes journal turn d b first second)
    (view-torn (views_at v (Opening turn)) (head_after v) v.new (new_images (plan_for v).images homes) v.after d new (1, omega arith, refl) b.next b.whole b.maps.1 crash
    (opened_wholly v.head v.epoch (plan_for v).images homes journal turn d new b.can b.disk b.known b.whole first second crash))

between : (v : ViewCommit) (homes journal : ℕ → List ℕ) (turn : Turn) (d new : DiskState) → IsBetween v homes journal turn d → MayCrashTo d new → RecoversAnEnd (views_at v (Opening turn)) d new
between v homes journal First d new b crash = first_turn v homes journal First d new b b.known.first b.known.second crash
between v homes journal FirstSync d new b crash = first_turn v homes journal FirstSync d new b (Trying-from_Tried _ _ (d.cells 0) b.known.first) b.known.second crash
between v homes journal Second d new b crash = second_turn v homes journal Second d new b b.known.first b.known.second crash
between v homes journal SecondSync d new b crash = second_turn v homes journal SecondSync d new b b.known.first (Trying-from_Tried _ _ (d.cells 1) b.known.second) crash

-- where one view alone may be recovered
same_view : (x y : TreeView) → Contains (x ∷ []) y → y ≡ x
same_view x y among = All-contains (λ z. z ≡ x) (x ∷ []) y (All-cons (λ z. z ≡ x) x [] refl (All-nil (λ z. z ≡ x))) among

one_view : (x : TreeView) (size : ℕ) (reads : ℕ → List ℕ) → RecoverOneOf (x ∷ []) size reads → recovered size reads ≡ Recovers x.metadata.head.epoch x.tree
one_view x size reads one = one.recovers ∙ ap (λ (y : TreeView). Recovers y.metadata.head.epoch y.tree) (same_view x one.view one.listed)

pub alone-torn : (head : Head) (index : IndexState) (homes : ℕ → List ℕ) (tree : List TreeEntry) (d new : DiskState) → RecoverOneOf (tree_view head index tree ∷ []) d.size (first_candidates d) → HoldsView head index homes tree d → IsAllWhole d → HasLoneMaps index.nodes d → MayCrashTo d new → RecoversWholly new head homes → RecoversAnEnd (tree_view head index tree ∷ []) d new
alone-torn head index homes tree d new one v whole lone crash wholly =
    at_first (tree_view head index tree ∷ []) d new head.epoch tree (one_view (tree_view head index tree) d.size (first_candidates d) one)
    (view-torn (tree_view head index tree ∷ []) head index homes tree d new (0, omega arith, refl) v whole lone crash wholly)

-- ---- at each stage

-- once all pages are placed
placed_torn : (v : ViewCommit) (s : WayState) (d new : DiskState) (k : IsCommittingView v s d) (stage : Stage) → IsDiskState d → IsUntorn v stage d → CanGoOn v.head v.epoch (plan_for v).images stage → JournalStands v.head v.epoch (plan_for v).images k.homes k.journal stage d → AreWritten v.source (plan_for v).pages stage d → RecoverOneOf (views_at v stage) d.size (first_candidates d) → MayCrashTo d new → RecoversAnEnd (views_at v stage) d new
placed_torn v s d new k (Journal next) disk u can stands written one crash =
    let each = EachCrashRecoversWholly-stage v.head v.epoch (plan_for v).images k.homes k.journal (Journal next) d can disk stands (all-unharmed v.head (plan_for v).images (Journal next) d u.whole) new crash in
    elim each [
      | inl before ↦ alone-torn v.head v.old k.homes v.tree d new one k.holds u.whole u.maps crash before
      | inr later ↦ absurd (not_yet v.head v.epoch (plan_for v).images k.homes new (EachChoiceStays-journal v.head v.epoch (plan_for v).images k.homes k.journal next d can stands new (IsChoiceOf-crash d new disk crash)) later)
    ]
placed_torn v s d new k (Opening turn) disk u can stands written one crash =
    between v k.homes k.journal turn d new
    (record { can = can; disk = disk; known = stands; old = k.holds; next = next-holds v s d k k.holds.size written; whole = u.whole; maps = u.maps }) crash
placed_torn v s d new k (Homes next) disk u can stands written one crash =
    alone-torn (head_after v) v.new (new_images (plan_for v).images k.homes) v.after d new one (next-holds v s d k k.holds.size written) u.whole u.maps crash
    (EachCrashRecoversWholly-stage v.head v.epoch (plan_for v).images k.homes k.journal (Homes next) d can disk stands (all-unharmed v.head (plan_for v).images (Homes next) d u.whole) new crash)
placed_torn v s d new k (Closing turn) disk u can stands written one crash =
    alone-torn (head_after v) v.new (new_images (plan_for v).images k.homes) v.after d new one (next-holds v s d k k.holds.size written) u.whole u.maps crash
    (EachCrashRecoversWholly-stage v.head v.epoch (plan_for v).images k.homes k.journal (Closing turn) d can disk stands (all-unharmed v.head (plan_for v).images (Closing turn) d u.whole) new crash)
placed_torn v s d new k Rested disk u can stands written one crash =
    alone-torn (head_after v) v.new (new_images (plan_for v).images k.homes) v.after d new one (next-holds v s d k k.holds.size written) u.whole u.maps crash
    (RecoversWholly-rest (head_after v) (new_images (plan_for v).images k.homes) (new_journal (plan_for v).images k.journal) d new can.finish.closed refl disk stands (all-unharmed (head_after v) [] Rested d u.whole) crash)

-- while pages are left it is at rest
left_torn : (v : ViewCommit) (s : WayState) (d new : DiskState) (k : IsCommittingView v s d) → IsDiskState d → IsUntorn v (Journal 0) d → IsAtRest v.head k.homes k.journal d → RecoverOneOf (views_at v (Journal 0)) d.size (first_candidates d) → MayCrashTo d new → RecoversAnEnd (views_at v (Journal 0)) d new
left_torn v s d new k disk u stands one crash =
    alone-torn v.head v.old k.homes v.tree d new one k.holds u.whole u.maps crash
    (RecoversWholly-rest v.head k.homes k.journal d new k.holds.view.can.range k.holds.view.can.closed disk stands (all-unharmed v.head [] Rested d u.whole) crash)

pages_torn : (v : ViewCommit) (s : WayState) (d new : DiskState) (k : IsCommittingView v s d) (pages : List PlanPage) (stage : Stage) → IsDiskState d → IsUntorn v stage d → CanGoOn v.head v.epoch (plan_for v).images stage → Waits pages stage → k.known.placed ++ pages ≡ (plan_for v).pages → StoreStands k.homes k.journal pages (way v.head v.epoch (plan_for v).images pages stage) d → AreWritten v.source k.known.placed stage d → RecoverOneOf (views_at v stage) d.size (first_candidates d) → MayCrashTo d new → RecoversAnEnd (views_at v stage) d new
pages_torn v s d new k [] stage disk u can waits all stands written one crash =
    placed_torn v s d new k stage disk u can stands (subst (λ (ps : List PlanPage). AreWritten v.source ps stage d) (sym (append-nil k.known.placed) ∙ all) written) one crash
pages_torn v s d new k (p ∷ pages) stage disk u can waits all stands written one crash =
    subst (λ (x : Stage). RecoversAnEnd (views_at v x) d new) (sym waits)
    (left_torn v s d new k disk (subst (λ (x : Stage). IsUntorn v x d) waits u) stands
    (subst (λ (x : Stage). RecoverOneOf (views_at v x) d.size (first_candidates d)) waits one) crash)

pub commit-torn : (v : ViewCommit) (s : WayState) (d new : DiskState) → IsDiskState d → IsCommittingView v s d → IsUntorn v s.stage d → MayCrashTo d new → RecoversAnEnd (views_at v s.stage) d new
commit-torn v s d new disk k u crash =
    pages_torn v s d new k s.pages s.stage disk u
    (at-own (λ head epoch images. CanGoOn head epoch images s.stage) v s k.of k.of.way.can)
    k.of.way.waits k.known.of_plan
    (at-own (λ head epoch images. StoreStands k.homes k.journal s.pages (way head epoch images s.pages s.stage) d) v s k.of k.known.store)
    k.known.pages
    (one-recovered (views_at v s.stage) d (first_candidates d) disk (commit-recovers-views v s false d k) (first-given d)) crash

-- ---- at rest

pub rest-torn : (head : Head) (index : IndexState) (d new : DiskState) (tree : List TreeEntry) → IsViewOf head index → IsDiskState d → IsAtRestFor head index d → HasTree index.nodes (pages_by (first_candidates d) index.nodes) tree → IsAllWhole d → HasLoneMaps index.nodes d → MayCrashTo d new → RecoversAnEnd (tree_view head index tree ∷ []) d new
rest-torn head index d new tree is disk rests has whole lone crash =
    alone-torn head index rests.homes tree d new
    (record { view = tree_view head index tree; listed = (0, omega arith, refl); recovers = recovered-picked head index d (first_candidates d) tree is rests (first-given d) has })
    (rest-holds head index d tree is rests has) whole lone crash
    (RecoversWholly-rest head rests.homes rests.journal d new is.can.range is.can.closed disk rests.rests (all-unharmed head [] Rested d whole) crash)
