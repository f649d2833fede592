-- The clauses of a step, from what its call says.
use Rattle.std.proofs.Common.{◌≡◌, ◌∙◌, ℕ, ◌-◌, ◌≤◌, true, Bool, List, [], ◌∷◌, All, length, count_by, ◌==◌, Option, None, Some, Result, Ok, Err, IfOk, OnOk, OnErr, refl, sym, ap, subst, ◌⊎◌, inl, inr, arith}
use Rattle.std.proofs.lemmas.List.Elements.{All-nil, All-tail}
use Rattle.vb_cause.specs.Causes.{HasCause, UsesFailures}
use Rattle.vb_disk.specs.declared.cell.Cell.{Cell}
use Rattle.vb_disk.specs.declared.disk_error.DiskError.{DiskError}
use Rattle.vb_disk.specs.declared.disk_error.DiskError.TheVariants.{Failed, Memory}
use Rattle.vb_disk.specs.Cells.{synced_cell}
use Rattle.vb_disk.specs.States.{DiskState, Write, written}
use Rattle.vb_disk.specs.Within.{CrashesWithin}
use Rattle.vb_disk.proofs.Ways.{EachMoment-weaker}
use Rattle.vb_head.specs.declared.head.Head.{Head}
use Rattle.vb_journal.specs.declared.commit.Commit.{Commit}
use Rattle.vb_journal.specs.declared.commit_stage.CommitStep.{CommitStep}
use Rattle.vb_journal.specs.declared.commit_stage.CommitStep.TheVariants.{Wrote, Synced, Committed, Rested as RestedNow, Idle}
use Rattle.vb_journal.specs.declared.commit_stage.Stage.{Stage}
use Rattle.vb_journal.specs.declared.commit_stage.Stage.TheVariants.{Journal}
use Rattle.vb_journal.specs.Calls.{MakesFirst}
use Rattle.vb_journal.specs.Commits.{epoch_of, head_of, images_of, stage_of}
use Rattle.vb_journal.specs.CommitSteps.{CommitSteps}
use Rattle.vb_journal.specs.Data.{left_after}
use Rattle.vb_journal.specs.Progress.{IsAtRest}
use Rattle.vb_journal.specs.Plans as journals
use Rattle.vb_journal.specs.Plans.{CanCommit, CanFinish, calls_from, next_stage}
use Rattle.vb_journal.proofs.DriverSteps.{due-going}
use Rattle.vb_journal.proofs.Heads.{CanGoOn-start}
use Rattle.vb_journal.proofs.StepsOfCommits.{CanGoOn-next}
use Rattle.vb_journal.proofs.TriedCells.{written-elsewhere}
use Rattle.vb_plan.specs.declared.plan_page.PlanPage.{PlanPage}
use Rattle.vb_plan.specs.Laws.{place_of}
use Rattle.vb_plan.specs.Plans.{PlanState}
use Rattle.vb_steps.specs.declared.due.Got.{Got}
use Rattle.vb_steps.specs.Calls as calls
use Rattle.vb_steps.specs.Calls.{Call, Change, MayFailTo, is_due, is_write}
use Rattle.vb_steps.specs.Disks.{DiskView}
use Rattle.vb_steps.specs.Steps.{CallsOnce, Steps}
use Rattle.vb_commit.specs.Known.{GoesTo, IsCommittingFor, IsLast, OthersStand, places_of}
use Rattle.vb_commit.specs.declared.pages_left.PagesLeft.{PagesLeft}
use Rattle.vb_commit.specs.Shown.{placed_way, way_of}
use Rattle.vb_commit.specs.Steps.{WaySteps}
use Rattle.vb_commit.specs.Ways.{IsDataPage, IsGivenFrom, IsWay, Waits, WayState, answer_of, begun_way, call_at, calls_left, first_data, given_bytes, next_of, steps_left}
use Rattle.vb_commit.proofs.JournalCalls.{answers, done, failed-steps, first-falls, first-of, gone, journal-steps, placed-steps, sure}
use Rattle.vb_commit.proofs.WaysKept.{given-bytes, store-placed, way, way-lost, way-made}

-- ---- what is known

same_state : (told : Option DiskState) (a b : DiskState) → told ≡ Some a → told ≡ Some b → a ≡ b
same_state told a b first second = let both : Some a ≡ Some b = sym first ∙ second in cc both

pub way-known : (old new : WayState) (given : Option (List ℕ)) (before after : Option DiskState) (result : Result CommitStep DiskError) → IsWay old
    → Steps {T = CommitStep} (call_at old given) (λ got. new ≡ next_of old) (new ≡ old) before after result
    → (source : ℕ → ℕ → List ℕ) (homes journal : ℕ → List ℕ) (plan : List PlanPage) (d : DiskState) → IsGivenFrom source old.pages given → before ≡ Some d → IsCommittingFor source homes journal plan old d
    → GoesTo source homes journal plan old new d after
way-known old new given before after (Ok x) is steps source homes journal plan d from told k =
    let K : WayState → DiskState → Type 0 = λ s m. IsCommittingFor source homes journal plan s m in
    let next = calls.after d (call_at old given) in
    let then : K new next = subst (λ (s : WayState). IsCommittingFor source homes journal plan s (calls.after d (call_at old given))) (sym steps.went.goes) (way-made source homes journal plan old given d is from k) in
    record {
      next = next;
      told = steps.went.made d told;
      known = then;
      moments = EachMoment-weaker (λ m. (m ≡ d) ⊎ (m ≡ next)) (λ m. K old m ⊎ K new m) d next
          (λ m either. elim either [
            | inl first ↦ inl (subst (λ (e : DiskState). IsCommittingFor source homes journal plan old e) (sym first) k)
            | inr last ↦ inr (subst (λ (e : DiskState). IsCommittingFor source homes journal plan new e) (sym last) then)
          ]) (steps.moments d next told (steps.went.made d told));
    }
way-known old new given before after (Err e) is steps source homes journal plan d from told k =
    let K : WayState → DiskState → Type 0 = λ s m. IsCommittingFor source homes journal plan s m in
    let failed = steps.failed d told in
    let stays : K old failed.next = way-lost source homes journal plan old given d failed.next is failed.left k in
    let then : K new failed.next = subst (λ (s : WayState). IsCommittingFor source homes journal plan s failed.next) (sym steps.stays) stays in
    record {
      next = failed.next;
      told = failed.told;
      known = then;
      moments = EachMoment-weaker (λ m. (m ≡ d) ⊎ (m ≡ failed.next)) (λ m. K old m ⊎ K new m) d failed.next
          (λ m either. elim either [
            | inl first ↦ inl (subst (λ (s : DiskState). IsCommittingFor source homes journal plan old s) (sym first) k)
            | inr last ↦ inr (subst (λ (s : DiskState). IsCommittingFor source homes journal plan new s) (sym last) then)
          ]) (steps.moments d failed.next told failed.told);
    }

-- ---- what is true of each commit

waits-rest : (rest : List PlanPage) (stage : Stage) → stage ≡ Journal 0 → Waits rest stage
waits-rest [] stage is = tt
waits-rest (p ∷ rest) stage is = is

pub way-next : (head : Head) (epoch : ℕ) (images : List (List ℕ)) (pages : List PlanPage) (stage : Stage) → (pages ≡ [] → ⊥) → IsWay (way head epoch images pages stage) → IsWay (next_of (way head epoch images pages stage))
way-next head epoch images [] stage some is = absurd (some refl)
way-next head epoch images (p ∷ rest) stage some is = record { can = is.can; places = All-tail (IsDataPage head) p rest is.places; waits = waits-rest rest stage is.waits }

next-parts : (head : Head) (epoch : ℕ) (images : List (List ℕ)) (pages : List PlanPage) (stage : Stage) → IsWay (way head epoch images pages stage) → IsWay (next_of (way head epoch images pages stage))
next-parts head epoch images [] stage is = record { can = CanGoOn-next head epoch images stage is.can; places = is.places; waits = tt }
next-parts head epoch images (p ∷ rest) stage is = way-next head epoch images (p ∷ rest) stage (λ none. absurd (cc none)) is

-- it is true of it after each call
pub IsWay-next : (s : WayState) → IsWay s → IsWay (next_of s)
IsWay-next s is = next-parts s.head s.epoch s.images s.pages s.stage is

way-stays : (old new : WayState) (call : Call) (before after : Option DiskState) (result : Result CommitStep DiskError) → IsWay old → Steps {T = CommitStep} call (λ got. new ≡ next_of old) (new ≡ old) before after result → IsWay new
way-stays old new call before after (Ok x) is steps = subst IsWay (sym steps.went.goes) (IsWay-next old is)
way-stays old new call before after (Err e) is steps = subst IsWay (sym steps.stays) is

-- the head, the epoch and the images stay
kept : {A : Type 0} (part : WayState → A) (old new : WayState) (call : Call) (before after : Option DiskState) (result : Result CommitStep DiskError) → part (next_of old) ≡ part old → Steps {T = CommitStep} call (λ got. new ≡ next_of old) (new ≡ old) before after result → part new ≡ part old
kept part old new call before after (Ok x) same steps = ap part steps.went.goes ∙ same
kept part old new call before after (Err e) same steps = ap part steps.stays

-- ---- a page

page-calls : (head : Head) (epoch : ℕ) (images : List (List ℕ)) (p : PlanPage) (rest : List PlanPage) (stage : Stage) (given : Option (List ℕ)) (new : WayState) (before after : Option DiskState) (result : Result CommitStep DiskError)
    → Steps {T = CommitStep} (Change (Write (place_of p) (given_bytes p given))) (λ got. new ≡ way head epoch images rest stage) (new ≡ way head epoch images (p ∷ rest) stage) before after result
    → (source : ℕ → ℕ → List ℕ) → IsGivenFrom source (p ∷ rest) given → MakesFirst (calls_left source (way head epoch images (p ∷ rest) stage)) (calls_left source new) before after result
page-calls head epoch images p rest stage given new before after (Ok x) steps source from =
    let others = calls_left source (way head epoch images rest stage) in
    let Q : List ℕ → Type 0 = λ bytes. MakesFirst (Write (place_of p) bytes ∷ others) (calls_left source new) before after (done x) in
    subst Q (given-bytes source p rest given from)
    (first-of (Write (place_of p) (given_bytes p given)) others (calls_left source new) before after (done x) steps (ap (λ (s : WayState). calls_left source s) steps.went.goes) tt)
page-calls head epoch images p rest stage given new before after (Err e) steps source from =
    let others = calls_left source (way head epoch images rest stage) in
    let Q : List ℕ → Type 0 = λ bytes. MakesFirst (Write (place_of p) bytes ∷ others) (calls_left source new) before after (gone {T = CommitStep} e) in
    subst Q (given-bytes source p rest given from)
    (first-of (Write (place_of p) (given_bytes p given)) others (calls_left source new) before after (gone {T = CommitStep} e) steps tt
    (ap (λ (s : WayState). calls_left source s) steps.stays ∙ ap (λ (bytes : List ℕ). Write (place_of p) bytes ∷ others) (sym (given-bytes source p rest given from))))

page-falls : (head : Head) (epoch : ℕ) (images : List (List ℕ)) (p : PlanPage) (rest : List PlanPage) (stage : Stage) (call : Call) (new : WayState) (Stays : Type 0) (before after : Option DiskState) (result : Result CommitStep DiskError)
    → Steps {T = CommitStep} call (λ got. new ≡ way head epoch images rest stage) Stays before after result → OnOk result (steps_left new ≡ steps_left (way head epoch images (p ∷ rest) stage) - 1)
page-falls head epoch images p rest stage call new Stays before after (Ok x) steps =
    let fewer : steps_left (way head epoch images rest stage) ≡ steps_left (way head epoch images (p ∷ rest) stage) - 1 = omega arith in
    ap steps_left steps.went.goes ∙ fewer
page-falls head epoch images p rest stage call new Stays before after (Err e) steps = tt

page-others : {Goes : Got → Type 0} {Stays : Type 0} (from : ℕ) (p : PlanPage) (rest : List PlanPage) (bytes : List ℕ) (before after : Option DiskState) (result : Result CommitStep DiskError)
    → Steps {T = CommitStep} (Change (Write (place_of p) bytes)) Goes Stays before after result → (d next : DiskState) → before ≡ Some d → after ≡ Some next → OthersStand from (p ∷ rest) d next
page-others from p rest bytes before after (Ok x) steps d next told then place past other =
    let is : next ≡ written d (place_of p) bytes = same_state after next (written d (place_of p) bytes) then (steps.went.made d told) in
    inl (ap (λ (s : DiskState). s.cells place) is ∙ written-elsewhere d (place_of p) place bytes other)
page-others from p rest bytes before after (Err e) steps d next told then place past other =
    let failed = steps.failed d told in
    let is : next ≡ failed.next = same_state after next failed.next then failed.told in
    elim failed.left [
      | inl none ↦ inl (ap (λ (s : DiskState). s.cells place) (is ∙ none))
      | inr made ↦ inl (ap (λ (s : DiskState). s.cells place) (is ∙ made) ∙ written-elsewhere d (place_of p) place bytes other)
    ]

-- the clauses of a step that writes a page
page-clauses : (head : Head) (epoch : ℕ) (images : List (List ℕ)) (p : PlanPage) (rest : List PlanPage) (stage : Stage) (given : Option (List ℕ)) (new : WayState) (before after : DiskView) (result : Result CommitStep DiskError) → IsWay (way head epoch images (p ∷ rest) stage)
    → Steps {T = CommitStep} (Change (Write (place_of p) (given_bytes p given))) (λ got. new ≡ way head epoch images rest stage) (new ≡ way head epoch images (p ∷ rest) stage) before.told after.told result
    → IfOk result (λ step. step ≡ Wrote) → after.seen ≡ before.seen → HasCause Failed before.faults after.faults result → UsesFailures Failed before.left after.left result
    → CallsOnce Memory true before.calls after.calls result → CrashesWithin before.told after.told → WaySteps (way head epoch images (p ∷ rest) stage) given new before after result
page-clauses head epoch images p rest stage given new before after result is steps answer seen cause left called within = record {
  steps = steps;
  calls = page-calls head epoch images p rest stage given new before.told after.told result steps;
  head = kept (λ s. s.head) (way head epoch images (p ∷ rest) stage) new (Change (Write (place_of p) (given_bytes p given))) before.told after.told result refl steps;
  epoch = kept (λ s. s.epoch) (way head epoch images (p ∷ rest) stage) new (Change (Write (place_of p) (given_bytes p given))) before.told after.told result refl steps;
  images = kept (λ s. s.images) (way head epoch images (p ∷ rest) stage) new (Change (Write (place_of p) (given_bytes p given))) before.told after.told result refl steps;
  answer = answer;
  falls = page-falls head epoch images p rest stage (Change (Write (place_of p) (given_bytes p given))) new (new ≡ way head epoch images (p ∷ rest) stage) before.told after.told result steps;
  called = called;
  seen = seen;
  cause = cause;
  left = left;
  within = within;
  no_memory = λ none. absurd (cc none);
  others = page-others (first_data head) p rest (given_bytes p given) before.told after.told result steps;
  old_is = is;
  new_is = way-stays (way head epoch images (p ∷ rest) stage) new (Change (Write (place_of p) (given_bytes p given))) before.told after.told result is steps;
  known = way-known (way head epoch images (p ∷ rest) stage) new given before.told after.told result is steps;
}

-- ---- a page that was written, or not

-- what is true of a commit whose pages are yet to be written
pub IsWay-begun : (head : Head) (epoch : ℕ) (images : List (List ℕ)) (pages : List PlanPage) → CanCommit head epoch images → All (IsDataPage head) pages → IsWay (begun_way head epoch images pages)
IsWay-begun head epoch images [] can places = record { can = CanGoOn-start head epoch images (Journal 0) can; places = places; waits = tt }
IsWay-begun head epoch images (p ∷ pages) can places = record { can = CanGoOn-start head epoch images (Journal 0) can; places = places; waits = refl }

-- it was placed
pub placed-way : (head : Head) (epoch : ℕ) (images : List (List ℕ)) (p : PlanPage) (rest : List PlanPage) (given : Option (List ℕ)) (new : WayState) (before after : DiskView) (u : Unit {0}) → CanCommit head epoch images → All (IsDataPage head) (p ∷ rest) → new ≡ begun_way head epoch images rest
    → Steps {T = Unit {0}} (Change (Write (place_of p) (given_bytes p given))) (λ got. Unit {0}) (Unit {0}) before.told after.told (Ok u) → after.seen ≡ before.seen → HasCause Failed before.faults after.faults (done Wrote) → UsesFailures Failed before.left after.left (done Wrote)
    → CallsOnce Memory true before.calls after.calls (done Wrote) → CrashesWithin before.told after.told
    → WaySteps (begun_way head epoch images (p ∷ rest)) given new before after (done Wrote)
placed-way head epoch images p rest given new before after u can places goes steps seen cause left called within =
    page-clauses head epoch images p rest (Journal 0) given new before after (done Wrote) (IsWay-begun head epoch images (p ∷ rest) can places)
    (placed-steps (Change (Write (place_of p) (given_bytes p given))) before.told after.told u Wrote steps goes) refl seen cause left called within

-- or its write failed
pub failed-way : (head : Head) (epoch : ℕ) (images : List (List ℕ)) (p : PlanPage) (rest : List PlanPage) (given : Option (List ℕ)) (new : WayState) (before after : DiskView) (e : DiskError) → CanCommit head epoch images → All (IsDataPage head) (p ∷ rest) → new ≡ begun_way head epoch images (p ∷ rest)
    → Steps {T = Unit {0}} (Change (Write (place_of p) (given_bytes p given))) (λ got. Unit {0}) (Unit {0}) before.told after.told (Err e) → after.seen ≡ before.seen → HasCause Failed before.faults after.faults (gone {T = CommitStep} e) → UsesFailures Failed before.left after.left (gone {T = CommitStep} e)
    → CallsOnce Memory true before.calls after.calls (gone {T = CommitStep} e) → CrashesWithin before.told after.told
    → WaySteps (begun_way head epoch images (p ∷ rest)) given new before after (gone {T = CommitStep} e)
failed-way head epoch images p rest given new before after e can places stays steps seen cause left called within =
    page-clauses head epoch images p rest (Journal 0) given new before after (gone {T = CommitStep} e) (IsWay-begun head epoch images (p ∷ rest) can places)
    (failed-steps (Change (Write (place_of p) (given_bytes p given))) before.told after.told e steps stays) tt seen cause left called within

-- ---- the journal

same-way : (head head2 : Head) (epoch epoch2 : ℕ) (images images2 : List (List ℕ)) (stage stage2 : Stage) → head2 ≡ head → epoch2 ≡ epoch → images2 ≡ images → stage2 ≡ stage → way head2 epoch2 images2 [] stage2 ≡ way head epoch images [] stage
same-way head head2 epoch epoch2 images images2 stage stage2 a b c d =
    ap (λ (x : Head). way x epoch2 images2 [] stage2) a ∙ ap (λ (x : ℕ). way head x images2 [] stage2) b
    ∙ ap (λ (x : List (List ℕ)). way head epoch x [] stage2) c ∙ ap (λ (x : Stage). way head epoch images [] x) d

goes-on : (old new : Commit) (before after : DiskView) (result : Result CommitStep DiskError) → CommitSteps old new before after result → OnOk result (placed_way new ≡ next_of (placed_way old))
goes-on old new before after (Ok x) c = same-way (head_of old) (head_of new) (epoch_of old) (epoch_of new) (images_of old) (images_of new) (next_stage (length (images_of old)) (stage_of old)) (stage_of new) c.head c.epoch c.images c.next
goes-on old new before after (Err e) c = tt

stays-on : (old new : Commit) (before after : DiskView) (result : Result CommitStep DiskError) → CommitSteps old new before after result → OnErr result (placed_way new ≡ placed_way old)
stays-on old new before after (Ok x) c = tt
stays-on old new before after (Err e) c = same-way (head_of old) (head_of new) (epoch_of old) (epoch_of new) (images_of old) (images_of new) (stage_of old) (stage_of new) c.head c.epoch c.images c.stays

journal-answer : (old new : Commit) (before after : DiskView) (result : Result CommitStep DiskError) → CommitSteps old new before after result → IfOk result (λ step. step ≡ answer_of (placed_way old))
journal-answer old new before after (Ok x) c = answers (head_of old) (epoch_of old) (images_of old) (stage_of old) x c.answer
journal-answer old new before after (Err e) c = tt

journal-falls : (old new : Commit) (before after : DiskView) (result : Result CommitStep DiskError) → CommitSteps old new before after result → OnOk result (steps_left (placed_way new) ≡ steps_left (placed_way old) - 1)
journal-falls old new before after (Ok x) c =
    let fewer = first-falls (calls_from (head_of old) (epoch_of old) (images_of old) (stage_of old)) (calls_from (head_of new) (epoch_of new) (images_of new) (stage_of new)) before.told after.told (done x) c.calls in
    omega (arith, fewer)
journal-falls old new before after (Err e) c = tt

leaves-or-syncs : (result : Result CommitStep DiskError) (cell left : Cell) → left ≡ left_after result cell → (left ≡ cell) ⊎ (left ≡ synced_cell cell)
leaves-or-syncs (Ok Wrote) cell left is = inl is
leaves-or-syncs (Ok Synced) cell left is = inr is
leaves-or-syncs (Ok Committed) cell left is = inr is
leaves-or-syncs (Ok RestedNow) cell left is = inr is
leaves-or-syncs (Ok Idle) cell left is = inl is
leaves-or-syncs (Err e) cell left is = inl is

-- the clauses of a step of the journal's commit
pub journal-way : (old new : Commit) (given : Option (List ℕ)) (before after : DiskView) (result : Result CommitStep DiskError) → IsWay (placed_way old) → CommitSteps old new before after result → WaySteps (placed_way old) given (placed_way new) before after result
journal-way old new given before after result is c =
    let steps = journal-steps (λ got. placed_way new ≡ next_of (placed_way old)) (placed_way new ≡ placed_way old) (head_of old) (epoch_of old) (images_of old) (stage_of old) (calls_from (head_of new) (epoch_of new) (images_of new) (stage_of new)) before.told after.told result c.calls (goes-on old new before after result c) (stays-on old new before after result c) in
    record {
      steps = steps;
      calls = λ source from. c.calls;
      head = c.head;
      epoch = c.epoch;
      images = c.images;
      answer = journal-answer old new before after result c;
      falls = journal-falls old new before after result c;
      called = subst (λ (due : Bool). CallsOnce Memory due before.calls after.calls result) (sym (due-going (head_of old) (epoch_of old) (images_of old) (stage_of old))) c.called;
      seen = c.seen;
      cause = c.cause;
      left = c.left;
      within = c.within;
      no_memory = sure (head_of old) (epoch_of old) (images_of old) (stage_of old) (calls_from (head_of new) (epoch_of new) (images_of new) (stage_of new)) before.told after.told result is.can.finish c.calls c.no_memory;
      others = λ d next told then place past other. leaves-or-syncs result (d.cells place) (next.cells place) (c.data_stands.after d next told then place past);
      old_is = is;
      new_is = way-stays (placed_way old) (placed_way new) (journals.call_at (head_of old) (epoch_of old) (images_of old) (stage_of old)) before.told after.told result is steps;
      known = way-known (placed_way old) (placed_way new) given before.told after.told result is steps;
    }

-- so it is where no page is left
pub commit-way : (old new : Commit) (pages left : Option PagesLeft) (s : WayState) (given : Option (List ℕ)) (before after : DiskView) (result : Result CommitStep DiskError) → pages ≡ None → left ≡ None → way_of pages old ≡ s → IsWay (way_of pages old) → CommitSteps old new before after result → WaySteps s given (way_of left new) before after result
commit-way old new None None s given before after result none gone same is c =
    subst (λ (s : WayState). WaySteps s given (placed_way new) before after result) same (journal-way old new given before after result is c)
commit-way old new None (Some left) s given before after result none gone same is c = absurd (cc gone)
commit-way old new (Some pages) left s given before after result none gone same is c = absurd (cc none)

-- ---- its parts

-- the plan's next page is due now
pub taken-up : (s : WayState) (head : Head) (epoch : ℕ) (old new : PlanState) (due : PlanPage) → head ≡ s.head → epoch ≡ s.epoch → CanCommit s.head s.epoch old.images → All (IsDataPage s.head) old.pages → old ≡ record new { pages = due ∷ new.pages } → IsWay (begun_way head epoch new.images (due ∷ new.pages))
taken-up s head epoch old new due at one can places is =
    let pages : old.pages ≡ due ∷ new.pages = ap (λ (p : PlanState). p.pages) is in
    let images : old.images ≡ new.images = ap (λ (p : PlanState). p.images) is in
    let way : IsWay (begun_way s.head s.epoch new.images (due ∷ new.pages)) =
    IsWay-begun s.head s.epoch new.images (due ∷ new.pages) (subst (λ (is : List (List ℕ)). CanCommit s.head s.epoch is) images can) (subst (λ (ps : List PlanPage). All (IsDataPage s.head) ps) pages places) in
    subst (λ (h : Head). IsWay (begun_way h epoch new.images (due ∷ new.pages))) (sym at)
    (subst (λ (e : ℕ). IsWay (begun_way s.head e new.images (due ∷ new.pages))) (sym one) way)

-- the same head and epoch
pub same-begun : (s : WayState) (head : Head) (epoch : ℕ) (images : List (List ℕ)) (pages : List PlanPage) → head ≡ s.head → epoch ≡ s.epoch → begun_way head epoch images pages ≡ begun_way s.head s.epoch images pages
same-begun s head epoch images pages at one = ap (λ (h : Head). begun_way h epoch images pages) at ∙ ap (λ (e : ℕ). begun_way s.head e images pages) one

-- ---- its begin

-- over a store at rest it is known
pub begun-known : (source : ℕ → ℕ → List ℕ) (homes journal : ℕ → List ℕ) (head : Head) (epoch : ℕ) (images : List (List ℕ)) (plan : List PlanPage) (d : DiskState) → CanFinish head epoch images → All (IsDataPage head) plan → ((place : ℕ) → count_by (λ p. p == place) (places_of plan) ≤ 1) → IsAtRest head homes journal d → IsCommittingFor source homes journal plan (begun_way head epoch images plan) d
begun-known source homes journal head epoch images plan d can places once rests = record {
  placed = [];
  of_plan = refl;
  places = places;
  once = once;
  store = store-placed homes journal head epoch images plan d can rests;
  pages = All-nil (IsLast source d);
}
