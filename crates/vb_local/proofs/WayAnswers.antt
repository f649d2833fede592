-- The answers of a commit on its way: the first of those that are left is given, and the others are left.
use Rattle.std.proofs.Common.{◌≡◌, ◌≢◌, ℕ, zero, suc, ◌+◌, ◌-◌, ◌≤◌, ◌<◌, Bool, true, false, cond, nat_lt, List, [], ◌∷◌, ◌++◌, length, replicate, Option, Some, None, refl, sym, ap, subst, ◌∙◌, arith, inl, inr}
use Rattle.std.proofs.lemmas.Bool.{cases_Bool, false≢true}
use Rattle.std.proofs.lemmas.Bool.Decides.{Decides-ltb, nat_tests}
use Rattle.vb_commit.specs.Ways.{answer_of, call_at, next_of, IsWay, WayState}
use Rattle.vb_head.specs.declared.head.Head.{Head}
use Rattle.vb_journal.specs.declared.commit_stage.CommitStep.{CommitStep}
use Rattle.vb_journal.specs.declared.commit_stage.CommitStep.TheVariants.{Wrote, Synced, Committed, Idle, Rested as RestedNow}
use Rattle.vb_journal.specs.declared.commit_stage.Stage.{Stage}
use Rattle.vb_journal.specs.declared.commit_stage.Stage.TheVariants.{Journal, Opening, Homes, Closing, Rested}
use Rattle.vb_journal.specs.declared.commit_stage.Turn.{Turn}
use Rattle.vb_journal.specs.declared.commit_stage.Turn.TheVariants.{First, FirstSync, Second, SecondSync}
use Rattle.vb_journal.specs.Plans as journal
use Rattle.vb_journal.specs.Plans.{answer_at, is_rested, next_stage}
use Rattle.vb_plan.specs.declared.plan_page.PlanPage.{PlanPage}
use Rattle.vb_steps.specs.Calls.{is_due}
use Rattle.vb_local.specs.Answers.{answers_from, answers_of_way, turn_answers, writes_then}

-- ---- the journal

-- a write where one is left, and else the sync
writes-first : (count next : ℕ) (then : List CommitStep) (after : List CommitStep) (stage : Stage) → (b : Bool) → nat_lt next count ≡ b
    → writes_then (count - next) then ≡ cond b Wrote Synced ∷ cond b (writes_then (count - (next + 1)) then) then
writes-first count next then after stage true less =
    let l : next < count = (Decides-ltb next count).0 less in
    let one : count - next ≡ suc (count - (next + 1)) = omega (arith, l) in
    ap (λ (n : ℕ). replicate n Wrote ++ Synced ∷ then) one
writes-first count next then after stage false more =
    let m : count ≤ next = grind (arith, nat_tests) in
    let none : count - next ≡ 0 = omega (arith, m) in
    ap (λ (n : ℕ). replicate n Wrote ++ Synced ∷ then) none

abbrev opened : ℕ → List CommitStep
opened count = turn_answers Committed First ++ writes_then count (turn_answers RestedNow First)

pub stage-answers : (count : ℕ) (stage : Stage) → is_rested stage ≡ false → answers_from count stage ≡ answer_at count stage ∷ answers_from count (next_stage count stage)
stage-answers count (Journal next) going = by (nat_lt next count) refl where
  by : (b : Bool) → nat_lt next count ≡ b → writes_then (count - next) (opened count) ≡ answer_at count (Journal next) ∷ answers_from count (next_stage count (Journal next))
  by b is = writes-first count next (opened count) [] Rested b is ∙ sym (ap (λ (x : Bool). cond x Wrote Synced ∷ answers_from count (cond x (Journal (next + 1)) (Opening First))) is ∙ each b) where
    each : (b : Bool) → cond b Wrote Synced ∷ answers_from count (cond b (Journal (next + 1)) (Opening First)) ≡ cond b Wrote Synced ∷ cond b (writes_then (count - (next + 1)) (opened count)) (opened count)
    each true = refl
    each false = refl
stage-answers count (Opening First) going = refl
stage-answers count (Opening FirstSync) going = refl
stage-answers count (Opening Second) going = refl
stage-answers count (Opening SecondSync) going = ap (λ (n : ℕ). Committed ∷ writes_then n (turn_answers RestedNow First)) (let e : count ≡ count - 0 = omega arith in e)
stage-answers count (Homes next) going = by (nat_lt next count) refl where
  by : (b : Bool) → nat_lt next count ≡ b → writes_then (count - next) (turn_answers RestedNow First) ≡ answer_at count (Homes next) ∷ answers_from count (next_stage count (Homes next))
  by b is = writes-first count next (turn_answers RestedNow First) [] Rested b is ∙ sym (ap (λ (x : Bool). cond x Wrote Synced ∷ answers_from count (cond x (Homes (next + 1)) (Closing First))) is ∙ each b) where
    each : (b : Bool) → cond b Wrote Synced ∷ answers_from count (cond b (Homes (next + 1)) (Closing First)) ≡ cond b Wrote Synced ∷ cond b (writes_then (count - (next + 1)) (turn_answers RestedNow First)) (turn_answers RestedNow First)
    each true = refl
    each false = refl
stage-answers count (Closing First) going = refl
stage-answers count (Closing FirstSync) going = refl
stage-answers count (Closing Second) going = refl
stage-answers count (Closing SecondSync) going = refl
stage-answers count Rested going = absurd (false≢true (sym going))

-- ---- the whole

-- a commit on its way
abbrev pub way : Head → ℕ → List (List ℕ) → List PlanPage → Stage → WayState
way head epoch images pages stage = record { head = head; epoch = epoch; images = images; pages = pages; stage = stage }

pub way-answers : (s : WayState) → is_rested s.stage ≡ false → answers_of_way s ≡ answer_of s ∷ answers_of_way (next_of s)
way-answers s going = by s.pages where
  by : (pages : List PlanPage) → answers_of_way (way s.head s.epoch s.images pages s.stage) ≡ answer_of (way s.head s.epoch s.images pages s.stage) ∷ answers_of_way (next_of (way s.head s.epoch s.images pages s.stage))
  by [] = stage-answers (length s.images) s.stage going
  by (p ∷ pages) = refl

-- ---- its end

turn-rests : (turn : Turn) (step : CommitStep) → (step ≡ RestedNow → ⊥) → journal.turn_answer step turn ≡ RestedNow → ⊥
turn-rests First step apart is = cc is
turn-rests FirstSync step apart is = cc is
turn-rests Second step apart is = cc is
turn-rests SecondSync step apart is = apart is

write-rests : (b : Bool) → cond b Wrote Synced ≡ RestedNow → ⊥
write-rests true is = cc is
write-rests false is = cc is

-- the answer that a commit rests is that of its last sync
pub stage-rests : (count : ℕ) (stage : Stage) → answer_at count stage ≡ RestedNow → stage ≡ Closing SecondSync
stage-rests count (Journal next) is = absurd (write-rests (nat_lt next count) is)
stage-rests count (Opening turn) is = absurd (turn-rests turn Committed (λ e. cc e) is)
stage-rests count (Homes next) is = absurd (write-rests (nat_lt next count) is)
stage-rests count (Closing First) is = absurd (cc is)
stage-rests count (Closing FirstSync) is = absurd (cc is)
stage-rests count (Closing Second) is = absurd (cc is)
stage-rests count (Closing SecondSync) is = refl
stage-rests count Rested is = absurd (cc is)

-- no page is left then
pub record EndsNow (s : WayState) : Type 0 where
  pub none : s.pages ≡ []
  pub last : s.stage ≡ Closing SecondSync

pub way-rests : (s : WayState) → answer_of s ≡ RestedNow → EndsNow s
way-rests s is = by s.pages refl is where
  by : (pages : List PlanPage) → s.pages ≡ pages → answer_of (way s.head s.epoch s.images pages s.stage) ≡ RestedNow → EndsNow s
  by [] none is = record { none = none; last = stage-rests (length s.images) s.stage is }
  by (p ∷ pages) some is = absurd (cc is)

-- and after it none is due
pub record HasEnded (s : WayState) : Type 0 where
  pub none : s.pages ≡ []
  pub rested : s.stage ≡ Rested

pub way-ended : (s : WayState) → answer_of s ≡ RestedNow → HasEnded (next_of s)
way-ended s is =
    let ends = way-rests s is in
    subst (λ (ps : List PlanPage). HasEnded (next_of (way s.head s.epoch s.images ps s.stage))) (sym ends.none)
    (subst (λ (st : Stage). HasEnded (next_of (way s.head s.epoch s.images [] st))) (sym ends.last) (record { none = refl; rested = refl }))

-- after each other answer it goes on
stage-goes : (count : ℕ) (stage : Stage) → is_rested stage ≡ false → (answer_at count stage ≡ RestedNow → ⊥) → is_rested (next_stage count stage) ≡ false
stage-goes count (Journal next) going other = by (nat_lt next count) where
  by : (b : Bool) → is_rested (cond b (Journal (next + 1)) (Opening First)) ≡ false
  by true = refl
  by false = refl
stage-goes count (Opening First) going other = refl
stage-goes count (Opening FirstSync) going other = refl
stage-goes count (Opening Second) going other = refl
stage-goes count (Opening SecondSync) going other = refl
stage-goes count (Homes next) going other = by (nat_lt next count) where
  by : (b : Bool) → is_rested (cond b (Homes (next + 1)) (Closing First)) ≡ false
  by true = refl
  by false = refl
stage-goes count (Closing First) going other = refl
stage-goes count (Closing FirstSync) going other = refl
stage-goes count (Closing Second) going other = refl
stage-goes count (Closing SecondSync) going other = absurd (other refl)
stage-goes count Rested going other = going

pub way-goes : (s : WayState) → is_rested s.stage ≡ false → (answer_of s ≡ RestedNow → ⊥) → is_rested (next_of s).stage ≡ false
way-goes s going other = by s.pages other where
  by : (pages : List PlanPage) → (answer_of (way s.head s.epoch s.images pages s.stage) ≡ RestedNow → ⊥) → is_rested (next_of (way s.head s.epoch s.images pages s.stage)).stage ≡ false
  by [] other = stage-goes (length s.images) s.stage going other
  by (p ∷ pages) other = going

-- a call is due until then
stage-due : (head : Head) (epoch : ℕ) (images : List (List ℕ)) (stage : Stage) → is_rested stage ≡ false → is_due (journal.call_at head epoch images stage) ≡ true
stage-due head epoch images (Journal next) going = refl
stage-due head epoch images (Opening turn) going = refl
stage-due head epoch images (Homes next) going = refl
stage-due head epoch images (Closing turn) going = refl
stage-due head epoch images Rested going = absurd (false≢true (sym going))

pub way-due : (s : WayState) (given : Option (List ℕ)) → is_rested s.stage ≡ false → is_due (call_at s given) ≡ true
way-due s given going = by s.pages where
  by : (pages : List PlanPage) → is_due (call_at (way s.head s.epoch s.images pages s.stage) given) ≡ true
  by [] = stage-due s.head s.epoch s.images s.stage going
  by (p ∷ pages) = refl
