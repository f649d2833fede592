-- No call of a commit writes a place of data.
use Rattle.std.proofs.Common.{◌≡◌, ℕ, ◌+◌, ◌*◌, ◌<◌, ◌≤◌, Bool, true, false, cond, ltb, List, length, Option, Some, Result, Ok, Err, refl, sym, ap, subst, ◌∙◌, ◌⊎◌, inl, inr, arith}
use Rattle.std.proofs.lemmas.Bool.{cases_lt, lt-ltb, le-ltb}
use Rattle.vb_disk.specs.declared.cell.Cell.{Cell}
use Rattle.vb_disk.specs.declared.disk_error.DiskError.{DiskError}
use Rattle.vb_disk.specs.declared.disk_error.DiskError.TheVariants.{Failed, Memory}
use Rattle.vb_disk.specs.Cells.{synced_cell}
use Rattle.vb_disk.specs.Moments.{EachMoment}
use Rattle.vb_disk.specs.States.{DiskCall, DiskState, Resize, Sync, Write, after_call, written}
use Rattle.vb_disk.proofs.Ways.{EachMoment-call, EachMoment-none, EachMoment-tried}
use Rattle.vb_head.specs.declared.head.Head.{Head}
use Rattle.vb_head.specs.Heads.{head_page}
use Rattle.vb_journal.specs.declared.commit_stage.CommitStep.{CommitStep}
use Rattle.vb_journal.specs.declared.commit_stage.CommitStep.TheVariants.{Wrote, Synced, Committed, Rested as RestedNow}
use Rattle.vb_journal.specs.declared.commit_stage.Stage.{Stage}
use Rattle.vb_journal.specs.declared.commit_stage.Stage.TheVariants.{Journal, Opening, Homes, Closing, Rested}
use Rattle.vb_journal.specs.declared.commit_stage.Turn.{Turn}
use Rattle.vb_journal.specs.declared.commit_stage.Turn.TheVariants.{First, FirstSync, Second, SecondSync}
use Rattle.vb_journal.specs.Calls.{Makes, MayFailTo, turn_call}
use Rattle.vb_journal.specs.Data.{LeavesFrom, StandOrSynced, is_sync, left_after}
use Rattle.vb_journal.specs.Images.{image_at, slot_of}
use Rattle.vb_journal.specs.Plans.{CanFinish, answer_at, closed_head, due_call, is_rested, opened_head, turn_answer}
use Rattle.vb_journal.proofs.FirstCalls.{gone}
use Rattle.vb_journal.proofs.TriedCells.{written-elsewhere}

-- ---- which calls a commit makes

-- a call that writes no place from this one on
abbrev pub IsBelow : ℕ → DiskCall → Type 0
IsBelow from (Write place page) = place < from
IsBelow from Sync = Unit {0}
IsBelow from (Resize blocks) = ⊥

turn_below : (nodes : ℕ) (page : List ℕ) (turn : Turn) → IsBelow (2 + 2 * nodes) (turn_call page turn)
turn_below nodes page First = omega arith
turn_below nodes page FirstSync = tt
turn_below nodes page Second = omega arith
turn_below nodes page SecondSync = tt

below_if : (from count next place : ℕ) (page : List ℕ) → (next < count → place < from) → IsBelow from (cond (ltb next count) (Write place page) Sync)
below_if from count next place page low =
    let Q : Bool → Type 0 = λ b. IsBelow from (cond b (Write place page) Sync) in
    elim (cases_lt next count) [
      | inl left ↦ subst Q (sym (lt-ltb next count left)) (low left)
      | inr none ↦ subst Q (sym (le-ltb next count none)) tt
    ]

pub due_below : (head : Head) (epoch : ℕ) (images : List (List ℕ)) (stage : Stage) → CanFinish head epoch images → IsBelow (2 + 2 * head.nodes) (due_call head epoch images stage)
due_below head epoch images (Journal next) can =
    let few : length images ≤ head.nodes = can.opened.count in
    below_if (2 + 2 * head.nodes) (length images) next (2 + head.nodes + next) (image_at images next) (λ left. omega arith)
due_below head epoch images (Opening turn) can = turn_below head.nodes (head_page (opened_head head epoch images)) turn
due_below head epoch images (Homes next) can =
    below_if (2 + 2 * head.nodes) (length images) next (2 + slot_of (image_at images next)) (image_at images next) (λ left. let low = can.images_are.slots next left in omega arith)
due_below head epoch images (Closing turn) can = turn_below head.nodes (head_page (closed_head head epoch)) turn
due_below head epoch images Rested can = tt

-- whether a call is a sync
abbrev pub is_sync_call : DiskCall → Bool
is_sync_call (Write place page) = false
is_sync_call Sync = true
is_sync_call (Resize blocks) = false

turn_answers : (last : CommitStep) (page : List ℕ) (turn : Turn) → is_sync last ≡ true → is_sync (turn_answer last turn) ≡ is_sync_call (turn_call page turn)
turn_answers last page First is = refl
turn_answers last page FirstSync is = refl
turn_answers last page Second is = refl
turn_answers last page SecondSync is = is

answers_if : (b : Bool) (place : ℕ) (page : List ℕ) → is_sync (cond b Wrote Synced) ≡ is_sync_call (cond b (Write place page) Sync)
answers_if true place page = refl
answers_if false place page = refl

-- the answer says whether the call that was due is a sync
pub answers_sync : (head : Head) (epoch : ℕ) (images : List (List ℕ)) (stage : Stage) → is_rested stage ≡ false → is_sync (answer_at (length images) stage) ≡ is_sync_call (due_call head epoch images stage)
answers_sync head epoch images (Journal next) going = answers_if (ltb next (length images)) (2 + head.nodes + next) (image_at images next)
answers_sync head epoch images (Opening turn) going = turn_answers Committed (head_page (opened_head head epoch images)) turn refl
answers_sync head epoch images (Homes next) going = answers_if (ltb next (length images)) (2 + slot_of (image_at images next)) (image_at images next)
answers_sync head epoch images (Closing turn) going = turn_answers RestedNow (head_page (closed_head head epoch)) turn refl
answers_sync head epoch images Rested going = absurd (cc going)

-- ---- what they leave

call_leaves : (from : ℕ) (d : DiskState) (call : DiskCall) (place : ℕ) → IsBelow from call → from ≤ place → (after_call d call).cells place ≡ cond (is_sync_call call) (synced_cell (d.cells place)) (d.cells place)
call_leaves from d (Write at page) place below past = written-elsewhere d at place page (λ same. omega arith)
call_leaves from d Sync place below past = refl
call_leaves from d (Resize blocks) place below past = absurd below

one_or_other : (b : Bool) (cell after : Cell) → after ≡ cond b (synced_cell cell) cell → (after ≡ cell) ⊎ (after ≡ synced_cell cell)
one_or_other true cell after is = inr is
one_or_other false cell after is = inl is

StandOrSynced-call : (from : ℕ) (d : DiskState) (call : DiskCall) → IsBelow from call → StandOrSynced from d (after_call d call)
StandOrSynced-call from d call below place past = one_or_other (is_sync_call call) (d.cells place) ((after_call d call).cells place) (call_leaves from d call place below past)

same_state : (a b : DiskState) → Some a ≡ Some b → a ≡ b
same_state a b is = cc

-- the call was made
pub LeavesFrom-made : (from : ℕ) (call : DiskCall) (old new : Option DiskState) (step : CommitStep) → IsBelow from call → is_sync step ≡ is_sync_call call → ((d : DiskState) → old ≡ Some d → new ≡ Some (after_call d call)) → LeavesFrom from old new (Ok step)
LeavesFrom-made from call old new step below same made = record {
  after = λ d next told then place past.
      let is : next ≡ after_call d call = same_state next (after_call d call) (sym then ∙ made d told) in
      ap (λ (s : DiskState). s.cells place) is ∙ call_leaves from d call place below past ∙ ap (λ (b : Bool). cond b (synced_cell (d.cells place)) (d.cells place)) (sym same);
  moments = λ d next told then.
      let is : after_call d call ≡ next = same_state (after_call d call) next (sym (made d told) ∙ then) in
      subst (EachMoment (StandOrSynced from d) d) is (EachMoment-call (StandOrSynced from d) d call (λ place past. inl refl) (StandOrSynced-call from d call below));
}

-- nothing was done
pub LeavesFrom-none : (from : ℕ) (old new : Option DiskState) (result : Result CommitStep DiskError) → ((cell : Cell) → left_after result cell ≡ cell) → new ≡ old → LeavesFrom from old new result
LeavesFrom-none from old new result leaves same = record {
  after = λ d next told then place past.
      let is : next ≡ d = same_state next d (sym then ∙ same ∙ told) in
      ap (λ (s : DiskState). s.cells place) is ∙ sym (leaves (d.cells place));
  moments = λ d next told then.
      let is : d ≡ next = same_state d next (sym told ∙ sym same ∙ then) in
      subst (EachMoment (StandOrSynced from d) d) is (EachMoment-none (StandOrSynced from d) d (λ place past. inl refl));
}

failed_to : (from : ℕ) (d next : DiskState) (call : DiskCall) (told : Option DiskState) → IsBelow from call → MayFailTo call d told → told ≡ Some next → ((next ≡ d) ⊎ (next ≡ after_call d call)) × ((place : ℕ) → from ≤ place → next.cells place ≡ d.cells place)
failed_to from d next (Write at page) told below (inl stood) is =
    let same : next ≡ d = same_state next d (sym is ∙ stood) in
    (inl same, λ place past. ap (λ (s : DiskState). s.cells place) same)
failed_to from d next (Write at page) told below (inr made) is =
    let same : next ≡ written d at page = same_state next (written d at page) (sym is ∙ made) in
    (inr same, λ place past. ap (λ (s : DiskState). s.cells place) same ∙ call_leaves from d (Write at page) place below past)
failed_to from d next Sync told below stood is =
    let same : next ≡ d = same_state next d (sym is ∙ stood) in
    (inl same, λ place past. ap (λ (s : DiskState). s.cells place) same)
failed_to from d next (Resize blocks) told below stood is = absurd below

-- the call failed
pub LeavesFrom-failed : (from : ℕ) (call : DiskCall) (old new : Option DiskState) (e : DiskError) → IsBelow from call → ((d : DiskState) → old ≡ Some d → MayFailTo call d new) → LeavesFrom from old new (Err e)
LeavesFrom-failed from call old new e below failed = record {
  after = λ d next told then. (failed_to from d next call new below (failed d told) then).1;
  moments = λ d next told then.
      let to = failed_to from d next call new below (failed d told) then in
      EachMoment-tried (StandOrSynced from d) d next call to.0 (λ place past. inl refl) (λ place past. inl (to.1 place past));
}

-- after an error
pub LeavesFrom-gone : (from : ℕ) (call : DiskCall) (old new : Option DiskState) (e : DiskError) → IsBelow from call → Makes call old new (gone {T = Unit {0}} e) → LeavesFrom from old new (Err e)
LeavesFrom-gone from call old new Failed below makes = LeavesFrom-failed from call old new Failed below (λ d told. makes.failed d told refl)
LeavesFrom-gone from call old new Memory below makes = LeavesFrom-none from old new (Err Memory) (λ cell. refl) (makes.memory refl)
