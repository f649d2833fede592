-- Each step of a commit on which nothing that counts is hurt leaves it so.
use Rattle.std.proofs.Common.{◌≡◌, ◌⊎◌, ℕ, ◌+◌, ◌*◌, ◌≤◌, Bool, true, false, cond, eqb, ltb, List, [], ◌∷◌, length, map, Option, Some, None, Result, Ok, Err, refl, sym, ap, subst, ◌∙◌, inl, inr}
use Rattle.std.proofs.lemmas.Bool.{cases_eq, eq-eqb, ne_eqb}
use Rattle.std.proofs.lemmas.List.Elements.{All-cons, All-contains, All-contains_itself, All-head, All-nil, All-tail, All-weaker}
use Rattle.std.specs.List.{All, Contains}
use Rattle.vb_commit.specs.Steps.{WaySteps}
use Rattle.vb_commit.specs.Ways.{Waits, WayState, after_first, call_at, first_call, given_bytes, next_of, stage_after}
use Rattle.vb_commit.proofs.PageCells.{call-leaves}
use Rattle.vb_disk.specs.declared.cell.Cell.{Cell}
use Rattle.vb_disk.specs.declared.disk_error.DiskError.{DiskError}
use Rattle.vb_disk.specs.Cells.{synced_cell, written_cell}
use Rattle.vb_disk.specs.States.{DiskCall, DiskState, Resize, Sync, Write, after_call, synced, written}
use Rattle.vb_head.specs.declared.head.Head.{Head}
use Rattle.vb_index.specs.Indexes.{IndexState}
use Rattle.vb_journal.specs.declared.commit_stage.CommitStep.{CommitStep}
use Rattle.vb_journal.specs.declared.commit_stage.Stage.{Stage}
use Rattle.vb_journal.specs.declared.commit_stage.Stage.TheVariants.{Journal, Opening, Homes, Closing, Rested}
use Rattle.vb_journal.specs.declared.commit_stage.Turn.TheVariants.{First, FirstSync, Second, SecondSync}
use Rattle.vb_journal.specs.Images.{image_at}
use Rattle.vb_journal.specs.Plans as journals
use Rattle.vb_journal.specs.Plans.{CanFinish, CanGoOn, due_call, next_stage}
use Rattle.vb_journal.specs.Progress.{IsUnharmed, IsWholeAt}
use Rattle.vb_journal.proofs.DataPlaces.{IsBelow, due_below, is_sync_call}
use Rattle.vb_journal.proofs.Unharmed.{IsUnharmed-due, IsUnharmed-tried, whole_after}
use Rattle.vb_plan.specs.declared.plan_page.PlanPage.{PlanPage}
use Rattle.vb_plan.specs.Laws.{place_of, slots_next}
use Rattle.vb_plan.proofs.PlacesNext.{next_named}
use Rattle.vb_steps.specs.Calls.{ChangeMayFailTo, MayFailTo, after}
use Rattle.vb_steps.specs.Disks.{DiskView}
use Rattle.vb_store.specs.Views.{places_in}
use Rattle.vb_views.specs.AtRest.{IsViewOf}
use Rattle.vb_views.specs.Commits.{HasWholePlaces, HasWholePlacesAt}
use Rattle.vb_views.proofs.PlacesInOrder.{all_rest}
use Rattle.vb_during.proofs.NextHeld.{at-own}
use Rattle.vb_during.specs.During.{Follows, IsCommittingView, IsWayOf, IsWholeView, StaysWhole, ViewCommit, basis_for, head_after, plan_for}

-- ---- places of views

-- a place that is whole and has one candidate
abbrev pub IsOne : Cell → Type 0
IsOne cell = (cell.hurt ≡ None) × (cell.later ≡ [])

one_after : (b : Bool) (cell : Cell) → IsOne cell → IsOne (cond b (synced_cell cell) cell)
one_after true cell is = (is.0, refl)
one_after false cell is = is

-- a call below the places of data
places_after : (head : Head) (index : IndexState) (d : DiskState) (call : DiskCall) → IsViewOf head index → IsBelow (2 + 2 * head.nodes) call → HasWholePlaces index d → HasWholePlaces index (after_call d call)
places_after head index d call is below are place named =
    let past : 2 + 2 * head.nodes ≤ place = All-contains (λ p. 2 + 2 * head.nodes ≤ p) (places_in index.nodes) place is.can.above named in
    subst IsOne (sym (call-leaves (2 + 2 * head.nodes) d call place below past)) (one_after (is_sync_call call) (d.cells place) (are place named))

-- both views of a commit are views
pub record HasBoth (v : ViewCommit) : Type 0 where
  pub old : IsViewOf v.head v.old
  pub new : IsViewOf (head_after v) v.new

stage_places : (v : ViewCommit) (stage : Stage) (d : DiskState) (call : DiskCall) → HasBoth v → IsBelow (2 + 2 * v.head.nodes) call → HasWholePlacesAt stage v.old v.new d → HasWholePlacesAt stage v.old v.new (after_call d call)
stage_places v (Journal next) d call both below are = places_after v.head v.old d call both.old below are
stage_places v (Opening turn) d call both below are = (places_after v.head v.old d call both.old below are.0, places_after (head_after v) v.new d call both.new below are.1)
stage_places v (Homes next) d call both below are = places_after (head_after v) v.new d call both.new below are
stage_places v (Closing turn) d call both below are = places_after (head_after v) v.new d call both.new below are
stage_places v Rested d call both below are = places_after (head_after v) v.new d call both.new below are

-- ---- at the first sync

each_mapped : (P : ℕ → Type 0) (pages : List PlanPage) → All (λ p. P (place_of p)) pages → All P (map place_of pages)
each_mapped P [] all = All-nil P
each_mapped P (p ∷ pages) all = All-cons P (place_of p) (map place_of pages) (All-head (λ q. P (place_of q)) p pages all) (each_mapped P pages (All-tail (λ q. P (place_of q)) p pages all))

-- once all pages are placed and whole, a sync leaves each place of the next view with one candidate
new_synced : (v : ViewCommit) (d : DiskState) → Follows v → HasWholePlaces v.old d → All (λ p. IsWholeAt d (place_of p)) (plan_for v).pages → HasWholePlaces v.new (synced d)
new_synced v d follows are placed place named =
    let there : Contains (places_in (slots_next (basis_for v) v.nodes)) place = subst (λ l. Contains (places_in l) place) follows.is named in
    elim (next_named (basis_for v) v.nodes place follows.can there) [
      | inl old ↦ ((are place old).0, refl)
      | inr planned ↦ (All-contains (IsWholeAt d) (map place_of (plan_for v).pages) place (each_mapped (IsWholeAt d) (plan_for v).pages placed) planned, refl)
    ]

journal_on : (v : ViewCommit) (d : DiskState) (b : Bool) (next place : ℕ) (page : List ℕ) → HasWholePlaces v.old (after_call d (cond b (Write place page) Sync)) → HasWholePlaces v.new (synced d) → HasWholePlacesAt (cond b (Journal (next + 1)) (Opening First)) v.old v.new (after_call d (cond b (Write place page) Sync))
journal_on v d true next place page old new = old
journal_on v d false next place page old new = (old, new)

homes_on : (v : ViewCommit) (e : DiskState) (b : Bool) (next : ℕ) → HasWholePlaces v.new e → HasWholePlacesAt (cond b (Homes (next + 1)) (Closing First)) v.old v.new e
homes_on v e true next new = new
homes_on v e false next new = new

-- the call that is due, and the next stage
due_places : (v : ViewCommit) (images : List (List ℕ)) (stage : Stage) (d : DiskState) → HasBoth v → Follows v → CanFinish v.head v.epoch images → All (λ p. IsWholeAt d (place_of p)) (plan_for v).pages → HasWholePlacesAt stage v.old v.new d → HasWholePlacesAt (next_stage (length images) stage) v.old v.new (after_call d (due_call v.head v.epoch images stage))
due_places v images (Journal next) d both follows can placed are =
    journal_on v d (ltb next (length images)) next (2 + v.head.nodes + next) (image_at images next)
    (stage_places v (Journal next) d (due_call v.head v.epoch images (Journal next)) both (due_below v.head v.epoch images (Journal next) can) are)
    (new_synced v d follows are placed)
due_places v images (Opening First) d both follows can placed are = stage_places v (Opening First) d (due_call v.head v.epoch images (Opening First)) both (due_below v.head v.epoch images (Opening First) can) are
due_places v images (Opening FirstSync) d both follows can placed are = stage_places v (Opening FirstSync) d (due_call v.head v.epoch images (Opening FirstSync)) both (due_below v.head v.epoch images (Opening FirstSync) can) are
due_places v images (Opening Second) d both follows can placed are = stage_places v (Opening Second) d (due_call v.head v.epoch images (Opening Second)) both (due_below v.head v.epoch images (Opening Second) can) are
due_places v images (Opening SecondSync) d both follows can placed are = (stage_places v (Opening SecondSync) d (due_call v.head v.epoch images (Opening SecondSync)) both (due_below v.head v.epoch images (Opening SecondSync) can) are).1
due_places v images (Homes next) d both follows can placed are =
    homes_on v (after_call d (due_call v.head v.epoch images (Homes next))) (ltb next (length images)) next
    (stage_places v (Homes next) d (due_call v.head v.epoch images (Homes next)) both (due_below v.head v.epoch images (Homes next) can) are)
due_places v images (Closing First) d both follows can placed are = stage_places v (Closing First) d (due_call v.head v.epoch images (Closing First)) both (due_below v.head v.epoch images (Closing First) can) are
due_places v images (Closing FirstSync) d both follows can placed are = stage_places v (Closing FirstSync) d (due_call v.head v.epoch images (Closing FirstSync)) both (due_below v.head v.epoch images (Closing FirstSync) can) are
due_places v images (Closing Second) d both follows can placed are = stage_places v (Closing Second) d (due_call v.head v.epoch images (Closing Second)) both (due_below v.head v.epoch images (Closing Second) can) are
due_places v images (Closing SecondSync) d both follows can placed are = stage_places v (Closing SecondSync) d (due_call v.head v.epoch images (Closing SecondSync)) both (due_below v.head v.epoch images (Closing SecondSync) can) are
due_places v images Rested d both follows can placed are = stage_places v Rested d Sync both tt are

-- ---- a commit by its parts

-- what stays whole, by the pages that are left and the stage
pub record IsKeptWhole (v : ViewCommit) (pages : List PlanPage) (stage : Stage) (d : DiskState) : Type 0 where
  pub unharmed : IsUnharmed v.head (plan_for v).images stage d
  pub places : HasWholePlacesAt stage v.old v.new d
  pub placed : (p : PlanPage) → Contains (plan_for v).pages p → (Contains pages p → ⊥) → IsWholeAt d (place_of p)

none_in : (p : PlanPage) → Contains [] p → ⊥
none_in p among = All-contains (λ q. ⊥) [] p (All-nil (λ q. ⊥)) among

all_placed : (v : ViewCommit) (stage : Stage) (d : DiskState) → IsKeptWhole v [] stage d → All (λ p. IsWholeAt d (place_of p)) (plan_for v).pages
all_placed v stage d w = All-weaker (Contains (plan_for v).pages) (λ p. IsWholeAt d (place_of p)) (λ p among. w.placed p among (none_in p)) (plan_for v).pages (All-contains_itself (plan_for v).pages)

due_whole : (v : ViewCommit) (stage : Stage) (d : DiskState) → HasBoth v → Follows v → CanFinish v.head v.epoch (plan_for v).images → IsKeptWhole v [] stage d → IsKeptWhole v [] (next_stage (length (plan_for v).images) stage) (after_call d (due_call v.head v.epoch (plan_for v).images stage))
due_whole v stage d both follows can w = record {
  unharmed = IsUnharmed-due v.head v.epoch (plan_for v).images stage d w.unharmed;
  places = due_places v (plan_for v).images stage d both follows can (all_placed v stage d w) w.places;
  placed = λ p among left. whole_after d (due_call v.head v.epoch (plan_for v).images stage) (place_of p) (w.placed p among left);
}

journal_whole : (v : ViewCommit) (stage : Stage) (d : DiskState) → HasBoth v → Follows v → CanFinish v.head v.epoch (plan_for v).images → IsKeptWhole v [] stage d → IsKeptWhole v [] (next_stage (length (plan_for v).images) stage) (after d (journals.call_at v.head v.epoch (plan_for v).images stage))
journal_whole v (Journal next) d both follows can w = due_whole v (Journal next) d both follows can w
journal_whole v (Opening turn) d both follows can w = due_whole v (Opening turn) d both follows can w
journal_whole v (Homes next) d both follows can w = due_whole v (Homes next) d both follows can w
journal_whole v (Closing turn) d both follows can w = due_whole v (Closing turn) d both follows can w
journal_whole v Rested d both follows can w = w

-- a call that failed was made or wasn't
pub tried : (call : DiskCall) (d left : DiskState) → ChangeMayFailTo call d left → (left ≡ d) ⊎ (left ≡ after_call d call)
tried (Write place page) d left may = may
tried Sync d left may = inl may
tried (Resize blocks) d left may = inl may

lost_whole : (v : ViewCommit) (stage : Stage) (d left : DiskState) (call : DiskCall) → HasBoth v → IsBelow (2 + 2 * v.head.nodes) call → ChangeMayFailTo call d left → IsKeptWhole v [] stage d → IsKeptWhole v [] stage left
lost_whole v stage d left call both below may w = elim (tried call d left may) [
  | inl same ↦ subst (IsKeptWhole v [] stage) (sym same) w
  | inr made ↦ subst (IsKeptWhole v [] stage) (sym made) (record {
    unharmed = IsUnharmed-tried v.head (plan_for v).images stage d (after_call d call) call (inr refl) w.unharmed;
    places = stage_places v stage d call both below w.places;
    placed = λ p among left. whole_after d call (place_of p) (w.placed p among left);
  })
]

journal_lost : (v : ViewCommit) (stage : Stage) (d left : DiskState) → HasBoth v → CanFinish v.head v.epoch (plan_for v).images → MayFailTo (journals.call_at v.head v.epoch (plan_for v).images stage) d left → IsKeptWhole v [] stage d → IsKeptWhole v [] stage left
journal_lost v (Journal next) d left both can may w = lost_whole v (Journal next) d left (due_call v.head v.epoch (plan_for v).images (Journal next)) both (due_below v.head v.epoch (plan_for v).images (Journal next) can) may w
journal_lost v (Opening turn) d left both can may w = lost_whole v (Opening turn) d left (due_call v.head v.epoch (plan_for v).images (Opening turn)) both (due_below v.head v.epoch (plan_for v).images (Opening turn) can) may w
journal_lost v (Homes next) d left both can may w = lost_whole v (Homes next) d left (due_call v.head v.epoch (plan_for v).images (Homes next)) both (due_below v.head v.epoch (plan_for v).images (Homes next) can) may w
journal_lost v (Closing turn) d left both can may w = lost_whole v (Closing turn) d left (due_call v.head v.epoch (plan_for v).images (Closing turn)) both (due_below v.head v.epoch (plan_for v).images (Closing turn) can) may w
journal_lost v Rested d left both can may w = subst (IsKeptWhole v [] Rested) (sym may) w

-- ---- pages

written_at : (d : DiskState) (place at : ℕ) (page : List ℕ) → place ≡ at → IsWholeAt (written d at page) place
written_at d place at page same = ap (λ (b : Bool). let cell : Cell = cond b (written_cell (d.cells place) page) (d.cells place) in cell.hurt) (eq-eqb place at same)

not_among : (p q : PlanPage) (rest : List PlanPage) → (p ≡ q → ⊥) → (Contains rest q → ⊥) → Contains (p ∷ rest) q → ⊥
not_among p q rest apart left among =
    All-contains (λ x. x ≡ q → ⊥) (p ∷ rest) q
    (All-cons (λ x. x ≡ q → ⊥) p rest apart (All-weaker (Contains rest) (λ x. x ≡ q → ⊥) (λ x has same. left (subst (Contains rest) same has)) rest (All-contains_itself rest)))
    among refl

-- a page that is written at its place is one fewer that is left
page_whole : (v : ViewCommit) (d : DiskState) (p : PlanPage) (rest : List PlanPage) (bytes : List ℕ) → (Contains (places_in v.old.nodes) (place_of p) → ⊥) → IsKeptWhole v (p ∷ rest) (Journal 0) d → IsKeptWhole v rest (Journal 0) (written d (place_of p) bytes)
page_whole v d p rest bytes apart w = record {
  unharmed = IsUnharmed-tried v.head (plan_for v).images (Journal 0) d (written d (place_of p) bytes) (Write (place_of p) bytes) (inr refl) w.unharmed;
  places = λ place named.
      let other : eqb place (place_of p) ≡ false = ne_eqb place (place_of p) (λ same. apart (subst (Contains (places_in v.old.nodes)) same named)) in
      subst (λ (b : Bool). IsOne (cond b (written_cell (d.cells place) bytes) (d.cells place))) (sym other) (w.places place named);
  placed = λ q among left. elim (cases_eq (place_of q) (place_of p)) [
    | inl same ↦ written_at d (place_of q) (place_of p) bytes same
    | inr other ↦ whole_after d (Write (place_of p) bytes) (place_of q) (w.placed q among (not_among p q rest (λ same. other (ap place_of (sym same))) left))
  ];
}

more_left : (v : ViewCommit) (d : DiskState) (p : PlanPage) (rest : List PlanPage) → IsKeptWhole v rest (Journal 0) d → ((q : PlanPage) → Contains rest q → Contains (p ∷ rest) q) → IsKeptWhole v (p ∷ rest) (Journal 0) d
more_left v d p rest w more = record { unharmed = w.unharmed; places = w.places; placed = λ q among left. w.placed q among (λ has. left (more q has)) }

still_in : (p q : PlanPage) (rest : List PlanPage) → Contains rest q → Contains (p ∷ rest) q
still_in p q rest has = All-contains (Contains (p ∷ rest)) rest q (All-tail (Contains (p ∷ rest)) p rest (All-contains_itself (p ∷ rest))) has

-- ---- each call

made_parts : (v : ViewCommit) (pages : List PlanPage) (stage : Stage) (given : Option (List ℕ)) (d : DiskState) → HasBoth v → Follows v → CanFinish v.head v.epoch (plan_for v).images → Waits pages stage → All (λ p. Contains (places_in v.old.nodes) (place_of p) → ⊥) pages → IsKeptWhole v pages stage d
    → IsKeptWhole v (after_first pages) (stage_after pages (length (plan_for v).images) stage) (after d (first_call pages given (journals.call_at v.head v.epoch (plan_for v).images stage)))
made_parts v [] stage given d both follows can waits apart w = journal_whole v stage d both follows can w
made_parts v (p ∷ rest) stage given d both follows can waits apart w =
    let own = All-head (λ q. Contains (places_in v.old.nodes) (place_of q) → ⊥) p rest apart in
    subst (λ (x : Stage). IsKeptWhole v rest x (written d (place_of p) (given_bytes p given))) (sym waits)
    (page_whole v d p rest (given_bytes p given) own (subst (λ (x : Stage). IsKeptWhole v (p ∷ rest) x d) waits w))

lost_parts : (v : ViewCommit) (pages : List PlanPage) (stage : Stage) (given : Option (List ℕ)) (d left : DiskState) → HasBoth v → CanFinish v.head v.epoch (plan_for v).images → Waits pages stage → All (λ p. Contains (places_in v.old.nodes) (place_of p) → ⊥) pages → MayFailTo (first_call pages given (journals.call_at v.head v.epoch (plan_for v).images stage)) d left → IsKeptWhole v pages stage d → IsKeptWhole v pages stage left
lost_parts v [] stage given d left both can waits apart may w = journal_lost v stage d left both can may w
lost_parts v (p ∷ rest) stage given d left both can waits apart (inl none) w = subst (IsKeptWhole v (p ∷ rest) stage) (sym none) w
lost_parts v (p ∷ rest) stage given d left both can waits apart (inr made) w =
    let own = All-head (λ q. Contains (places_in v.old.nodes) (place_of q) → ⊥) p rest apart in
    let next = page_whole v d p rest (given_bytes p given) own (subst (λ (x : Stage). IsKeptWhole v (p ∷ rest) x d) waits w) in
    subst (IsKeptWhole v (p ∷ rest) stage) (sym made)
    (subst (λ (x : Stage). IsKeptWhole v (p ∷ rest) x (written d (place_of p) (given_bytes p given))) (sym waits)
    (more_left v (written d (place_of p) (given_bytes p given)) p rest next (λ q has. still_in p q rest has)))

-- ---- a step

-- what is said of the head, the epoch and the images of a view's commit, of a commit on its way that is the view's
pub of_view : (Q : Head → ℕ → List (List ℕ) → Type 0) (v : ViewCommit) (s : WayState) → IsWayOf v s → Q v.head v.epoch (plan_for v).images → Q s.head s.epoch s.images
of_view Q v s of is =
    subst (λ (h : Head). Q h s.epoch s.images) (sym of.head)
    (subst (λ (n : ℕ). Q v.head n s.images) (sym of.epoch)
    (subst (λ (l : List (List ℕ)). Q v.head v.epoch l) (sym of.images) is))

as_parts : (v : ViewCommit) (s : WayState) (d : DiskState) → StaysWhole v s d → IsKeptWhole v s.pages s.stage d
as_parts v s d w = record { unharmed = w.view.unharmed; places = w.view.places; placed = w.placed }

of_parts : (v : ViewCommit) (s : WayState) (d : DiskState) → IsKeptWhole v s.pages s.stage d → StaysWhole v s d
of_parts v s d w = record { view = record { unharmed = w.unharmed; places = w.places }; placed = w.placed }

pub both_of : (v : ViewCommit) (s : WayState) (d : DiskState) → IsCommittingView v s d → HasBoth v
both_of v s d k = record { old = k.holds.view; new = k.follows.view }

pub apart_left : (v : ViewCommit) (s : WayState) (d : DiskState) → IsCommittingView v s d → All (λ p. Contains (places_in v.old.nodes) (place_of p) → ⊥) s.pages
apart_left v s d k =
    let Apart : PlanPage → Type 0 = λ p. Contains (places_in v.old.nodes) (place_of p) → ⊥ in
    all_rest Apart k.known.placed s.pages (subst (All Apart) (sym k.known.of_plan) k.follows.apart)

step_made : (v : ViewCommit) (s : WayState) (given : Option (List ℕ)) (d : DiskState) → IsCommittingView v s d → StaysWhole v s d → StaysWhole v (next_of s) (after d (call_at s given))
step_made v s given d k w =
    of_parts v (next_of s) (after d (call_at s given))
    (of_view (λ head epoch images. IsKeptWhole v (after_first s.pages) (stage_after s.pages (length images) s.stage) (after d (first_call s.pages given (journals.call_at head epoch images s.stage)))) v s k.of
    (made_parts v s.pages s.stage given d (both_of v s d k) k.follows (at-own CanFinish v s k.of k.of.way.can.finish) k.of.way.waits (apart_left v s d k) (as_parts v s d w)))

step_lost : (v : ViewCommit) (s : WayState) (given : Option (List ℕ)) (d left : DiskState) → MayFailTo (call_at s given) d left → IsCommittingView v s d → StaysWhole v s d → StaysWhole v s left
step_lost v s given d left may k w =
    of_parts v s left
    (lost_parts v s.pages s.stage given d left (both_of v s d k) (at-own CanFinish v s k.of k.of.way.can.finish) k.of.way.waits (apart_left v s d k)
    (at-own (λ head epoch images. MayFailTo (first_call s.pages given (journals.call_at head epoch images s.stage)) d left) v s k.of may) (as_parts v s d w))

pub same_told : (a b : DiskState) → (let x : Option DiskState = Some a in x ≡ Some b) → a ≡ b
same_told a b same = cc same

pub step-whole : (v : ViewCommit) (given : Option (List ℕ)) (old new : WayState) (before after : DiskView) (result : Result CommitStep DiskError) (d next : DiskState) → WaySteps old given new before after result → before.told ≡ Some d → after.told ≡ Some next → IsCommittingView v old d → StaysWhole v old d → StaysWhole v new next
step-whole v given old new before after (Ok step) d next steps from to k w =
    let went = steps.steps.went in
    let is : next ≡ _ = same_told next _ (sym to ∙ went.made d from) in
    subst (λ (t : WayState). StaysWhole v t next) (sym went.goes) (subst (StaysWhole v (next_of old)) (sym is) (step_made v old given d k w))
step-whole v given old new before after (Err e) d next steps from to k w =
    let failed = steps.steps.failed d from in
    let is : next ≡ failed.next = same_told next failed.next (sym to ∙ failed.told) in
    subst (λ (t : WayState). StaysWhole v t next) (sym steps.steps.stays) (subst (StaysWhole v old) (sym is) (step_lost v old given d failed.next failed.left k w))

pub start-whole : (v : ViewCommit) (s : WayState) (d : DiskState) → s.pages ≡ (plan_for v).pages → IsWholeView v s.stage d → StaysWhole v s d
start-whole v s d all w = record { view = w; placed = λ p among left. absurd (left (subst (λ (l : List PlanPage). Contains l p) (sym all) among)) }
