-- The calls of a commit, one at a time: how many are left at each stage, which is the first, and what its step answers.
use Rattle.std.proofs.Common.{◌≡◌, ◌≢◌, ℕ, suc, ◌+◌, ◌-◌, ◌<◌, ◌≤◌, Bool, true, false, cond, ltb, List, [], ◌∷◌, ◌++◌, length, drop, refl, sym, ap, subst, ◌∙◌, arith, inl, inr}
use Rattle.std.proofs.lemmas.Bool.{cases_lt, eq-eqb, lt-ltb, ltb-false, ltb-true, le-ltb, ne_eqb}
use Rattle.std.proofs.lemmas.List.{drop_all, length-append, length-drop}
use Rattle.std.proofs.Math.Seq.{drop-cons}
use Rattle.vb_disk.specs.States.{DiskCall, Write, Sync}
use Rattle.vb_head.specs.declared.head.Head.{Head}
use Rattle.vb_head.specs.Heads.{head_page}
use Rattle.vb_journal.specs.declared.commit_stage.CommitStep.TheVariants.{Wrote, Synced, Committed, Rested as RestedNow}
use Rattle.vb_journal.specs.declared.commit_stage.Stage.{Stage}
use Rattle.vb_journal.specs.declared.commit_stage.Stage.TheVariants.{Journal, Opening, Homes, Closing, Rested}
use Rattle.vb_journal.specs.declared.commit_stage.Turn.{Turn}
use Rattle.vb_journal.specs.declared.commit_stage.Turn.TheVariants.{First, FirstSync, Second, SecondSync}
use Rattle.vb_journal.specs.Calls.{turn_calls}
use Rattle.vb_journal.specs.Images.{image_at, slot_of}
use Rattle.vb_journal.specs.Plans.{answer_at, answer_to, calls_from, closed_head, due_call, home_calls, is_rested, journal_calls, kind_of, next_stage, opened_head, position_of}

-- ---- how many calls are left

length-journal_calls : (place : ℕ) (images : List (List ℕ)) → length (journal_calls place images) ≡ length images
length-journal_calls place [] = refl
length-journal_calls place (image ∷ images) = ap suc (length-journal_calls (place + 1) images)

length-home_calls : (images : List (List ℕ)) → length (home_calls images) ≡ length images
length-home_calls [] = refl
length-home_calls (image ∷ images) = ap suc (length-home_calls images)

-- the turns that are left
abbrev pub turns_left : Turn → ℕ
turns_left First = 4
turns_left FirstSync = 3
turns_left Second = 2
turns_left SecondSync = 1

-- the calls that are left
abbrev pub left_at : ℕ → Stage → ℕ
left_at count (Journal next) = count - next + (count + 10)
left_at count (Opening turn) = turns_left turn + (count + 5)
left_at count (Homes next) = count - next + 5
left_at count (Closing turn) = turns_left turn
left_at count Rested = 0

length-turn_calls : (page : List ℕ) (turn : Turn) → length (turn_calls page turn) ≡ turns_left turn
length-turn_calls page First = refl
length-turn_calls page FirstSync = refl
length-turn_calls page Second = refl
length-turn_calls page SecondSync = refl

length-parts : (a b : List DiskCall) (m n : ℕ) → length a ≡ m → length b ≡ n → length (a ++ b) ≡ m + n
length-parts a b m n is also = omega (arith, length-append a b)

pub length-calls_from : (head : Head) (epoch : ℕ) (images : List (List ℕ)) (stage : Stage) → length (calls_from head epoch images stage) ≡ left_at (length images) stage
length-calls_from head epoch images (Journal next) =
    let closing = turn_calls (head_page (closed_head head epoch)) First in
    let homes : length (home_calls images ++ (Sync ∷ closing)) ≡ length images + 5 = length-parts (home_calls images) (Sync ∷ closing) (length images) 5 (length-home_calls images) refl in
    let opening = turn_calls (head_page (opened_head head epoch images)) First in
    let rest : length (opening ++ (home_calls images ++ (Sync ∷ closing))) ≡ 4 + (length images + 5) = length-parts opening (home_calls images ++ (Sync ∷ closing)) 4 (length images + 5) refl homes in
    let after : length (Sync ∷ (opening ++ (home_calls images ++ (Sync ∷ closing)))) ≡ length images + 10 = omega (arith, rest) in
    length-parts (journal_calls (2 + head.nodes + next) (drop next images)) (Sync ∷ (opening ++ (home_calls images ++ (Sync ∷ closing)))) (length images - next) (length images + 10) (length-journal_calls (2 + head.nodes + next) (drop next images) ∙ length-drop next images) after
length-calls_from head epoch images (Opening turn) =
    let closing = turn_calls (head_page (closed_head head epoch)) First in
    let homes : length (home_calls images ++ (Sync ∷ closing)) ≡ length images + 5 = length-parts (home_calls images) (Sync ∷ closing) (length images) 5 (length-home_calls images) refl in
    length-parts (turn_calls (head_page (opened_head head epoch images)) turn) (home_calls images ++ (Sync ∷ closing)) (turns_left turn) (length images + 5) (length-turn_calls (head_page (opened_head head epoch images)) turn) homes
length-calls_from head epoch images (Homes next) =
    let closing = turn_calls (head_page (closed_head head epoch)) First in
    length-parts (home_calls (drop next images)) (Sync ∷ closing) (length images - next) 5 (length-home_calls (drop next images) ∙ length-drop next images) refl
length-calls_from head epoch images (Closing turn) = length-turn_calls (head_page (closed_head head epoch)) turn
length-calls_from head epoch images Rested = refl

-- ---- the first call, and those after it

front_image : (images : List (List ℕ)) (next : ℕ) → next < length images → drop next images ≡ image_at images next ∷ drop (next + 1) images
front_image images next left = drop-cons images next [] left ∙ ap (λ (n : ℕ). image_at images next ∷ drop n images) (let same : suc next ≡ next + 1 = omega arith in same)

-- while images are left, and after them
abbrev JournalNext : Head → ℕ → List (List ℕ) → ℕ → Bool → Type 0
JournalNext head epoch images next left =
    calls_from head epoch images (Journal next) ≡ cond left (Write (2 + head.nodes + next) (image_at images next)) Sync ∷ calls_from head epoch images (cond left (Journal (next + 1)) (Opening First))

abbrev HomesNext : Head → ℕ → List (List ℕ) → ℕ → Bool → Type 0
HomesNext head epoch images next left =
    calls_from head epoch images (Homes next) ≡ cond left (Write (2 + slot_of (image_at images next)) (image_at images next)) Sync ∷ calls_from head epoch images (cond left (Homes (next + 1)) (Closing First))

journal_next : (head : Head) (epoch : ℕ) (images : List (List ℕ)) (next : ℕ) → JournalNext head epoch images next (ltb next (length images))
journal_next head epoch images next = elim (cases_lt next (length images)) [
  | inl left ↦
      let rest = calls_from head epoch images (Opening First) in
      let place : 2 + head.nodes + next + 1 ≡ 2 + head.nodes + (next + 1) = omega arith in
      subst (JournalNext head epoch images next) (sym (lt-ltb next (length images) left))
      (ap (λ (l : List (List ℕ)). journal_calls (2 + head.nodes + next) l ++ (Sync ∷ rest)) (front_image images next left)
      ∙ ap (λ (p : ℕ). Write (2 + head.nodes + next) (image_at images next) ∷ (journal_calls p (drop (next + 1) images) ++ (Sync ∷ rest))) place)
  | inr none ↦
      let rest = calls_from head epoch images (Opening First) in
      subst (JournalNext head epoch images next) (sym (le-ltb next (length images) none))
      (ap (λ (l : List (List ℕ)). journal_calls (2 + head.nodes + next) l ++ (Sync ∷ rest)) (drop_all next images none))
]

homes_next : (head : Head) (epoch : ℕ) (images : List (List ℕ)) (next : ℕ) → HomesNext head epoch images next (ltb next (length images))
homes_next head epoch images next = elim (cases_lt next (length images)) [
  | inl left ↦
      let rest = calls_from head epoch images (Closing First) in
      subst (HomesNext head epoch images next) (sym (lt-ltb next (length images) left))
      (ap (λ (l : List (List ℕ)). home_calls l ++ (Sync ∷ rest)) (front_image images next left))
  | inr none ↦
      let rest = calls_from head epoch images (Closing First) in
      subst (HomesNext head epoch images next) (sym (le-ltb next (length images) none))
      (ap (λ (l : List (List ℕ)). home_calls l ++ (Sync ∷ rest)) (drop_all next images none))
]

pub calls_from-next : (head : Head) (epoch : ℕ) (images : List (List ℕ)) (stage : Stage) → is_rested stage ≡ false → calls_from head epoch images stage ≡ due_call head epoch images stage ∷ calls_from head epoch images (next_stage (length images) stage)
calls_from-next head epoch images (Journal next) going = journal_next head epoch images next
calls_from-next head epoch images (Opening First) going = refl
calls_from-next head epoch images (Opening FirstSync) going = refl
calls_from-next head epoch images (Opening Second) going = refl
calls_from-next head epoch images (Opening SecondSync) going = refl
calls_from-next head epoch images (Homes next) going = homes_next head epoch images next
calls_from-next head epoch images (Closing First) going = refl
calls_from-next head epoch images (Closing FirstSync) going = refl
calls_from-next head epoch images (Closing Second) going = refl
calls_from-next head epoch images (Closing SecondSync) going = refl
calls_from-next head epoch images Rested going = absurd (cc going)

-- ---- what a step answers

plain : (count : ℕ) (call : DiskCall) (calls : List DiskCall) (n : ℕ) → length calls ≡ n → n ≢ 0 → n ≢ count + 5 → answer_to count (call ∷ calls) ≡ kind_of call
plain count call calls n is some other = rw (is, ne_eqb n 0 some, ne_eqb n (count + 5) other) refl

committing : (count : ℕ) (call : DiskCall) (calls : List DiskCall) (n : ℕ) → length calls ≡ n → n ≡ count + 5 → answer_to count (call ∷ calls) ≡ Committed
committing count call calls n is all = rw (is, ne_eqb n 0 (λ none. omega arith), eq-eqb n (count + 5) all) refl

resting : (count : ℕ) (call : DiskCall) (calls : List DiskCall) → length calls ≡ 0 → answer_to count (call ∷ calls) ≡ RestedNow
resting count call calls none = rw none refl

-- the answer by the calls that are left is the one of the stage
abbrev Answers : Head → ℕ → List (List ℕ) → Stage → Type 0
Answers head epoch images stage = answer_to (length images) (due_call head epoch images stage ∷ calls_from head epoch images (next_stage (length images) stage)) ≡ answer_at (length images) stage

answer_journal : (head : Head) (epoch : ℕ) (images : List (List ℕ)) (next : ℕ) (left : Bool) → answer_to (length images) (cond left (Write (2 + head.nodes + next) (image_at images next)) Sync ∷ calls_from head epoch images (cond left (Journal (next + 1)) (Opening First))) ≡ cond left Wrote Synced
answer_journal head epoch images next true =
    plain (length images) (Write (2 + head.nodes + next) (image_at images next)) (calls_from head epoch images (Journal (next + 1))) (left_at (length images) (Journal (next + 1))) (length-calls_from head epoch images (Journal (next + 1))) (λ none. omega arith) (λ all. omega arith)
answer_journal head epoch images next false =
    plain (length images) Sync (calls_from head epoch images (Opening First)) (left_at (length images) (Opening First)) (length-calls_from head epoch images (Opening First)) (λ none. omega arith) (λ all. omega arith)

answer_homes : (head : Head) (epoch : ℕ) (images : List (List ℕ)) (next : ℕ) (left : Bool) → ltb next (length images) ≡ left → answer_to (length images) (cond left (Write (2 + slot_of (image_at images next)) (image_at images next)) Sync ∷ calls_from head epoch images (cond left (Homes (next + 1)) (Closing First))) ≡ cond left Wrote Synced
answer_homes head epoch images next true test =
    let left : next < length images = ltb-true next (length images) test in
    plain (length images) (Write (2 + slot_of (image_at images next)) (image_at images next)) (calls_from head epoch images (Homes (next + 1))) (left_at (length images) (Homes (next + 1))) (length-calls_from head epoch images (Homes (next + 1))) (λ none. omega arith) (λ all. omega arith)
answer_homes head epoch images next false test =
    let none_left : length images ≤ next = ltb-false next (length images) test in
    plain (length images) Sync (calls_from head epoch images (Closing First)) 4 (length-calls_from head epoch images (Closing First)) (λ none. omega arith) (λ all. omega arith)

answer-stage : (head : Head) (epoch : ℕ) (images : List (List ℕ)) (stage : Stage) → is_rested stage ≡ false → Answers head epoch images stage
answer-stage head epoch images (Journal next) going = answer_journal head epoch images next (ltb next (length images))
answer-stage head epoch images (Opening First) going =
    plain (length images) (Write 0 (head_page (opened_head head epoch images))) (calls_from head epoch images (Opening FirstSync)) (3 + (length images + 5)) (length-calls_from head epoch images (Opening FirstSync)) (λ none. omega arith) (λ all. omega arith)
answer-stage head epoch images (Opening FirstSync) going =
    plain (length images) Sync (calls_from head epoch images (Opening Second)) (2 + (length images + 5)) (length-calls_from head epoch images (Opening Second)) (λ none. omega arith) (λ all. omega arith)
answer-stage head epoch images (Opening Second) going =
    plain (length images) (Write 1 (head_page (opened_head head epoch images))) (calls_from head epoch images (Opening SecondSync)) (1 + (length images + 5)) (length-calls_from head epoch images (Opening SecondSync)) (λ none. omega arith) (λ all. omega arith)
answer-stage head epoch images (Opening SecondSync) going =
    committing (length images) Sync (calls_from head epoch images (Homes 0)) (length images - 0 + 5) (length-calls_from head epoch images (Homes 0)) (omega arith)
answer-stage head epoch images (Homes next) going = answer_homes head epoch images next (ltb next (length images)) refl
answer-stage head epoch images (Closing First) going = plain (length images) (Write 0 (head_page (closed_head head epoch))) (calls_from head epoch images (Closing FirstSync)) 3 refl (λ none. omega arith) (λ all. omega arith)
answer-stage head epoch images (Closing FirstSync) going = plain (length images) Sync (calls_from head epoch images (Closing Second)) 2 refl (λ none. omega arith) (λ all. omega arith)
answer-stage head epoch images (Closing Second) going = plain (length images) (Write 1 (head_page (closed_head head epoch))) (calls_from head epoch images (Closing SecondSync)) 1 refl (λ none. omega arith) (λ all. omega arith)
answer-stage head epoch images (Closing SecondSync) going = refl
answer-stage head epoch images Rested going = absurd (cc going)

pub answer_to-calls_from : (head : Head) (epoch : ℕ) (images : List (List ℕ)) (stage : Stage) → is_rested stage ≡ false → answer_to (length images) (calls_from head epoch images stage) ≡ answer_at (length images) stage
answer_to-calls_from head epoch images stage going =
    ap (answer_to (length images)) (calls_from-next head epoch images stage going) ∙ answer-stage head epoch images stage going

-- where none is due, none is left
pub calls_from-rested : (head : Head) (epoch : ℕ) (images : List (List ℕ)) (stage : Stage) → is_rested stage ≡ true → calls_from head epoch images stage ≡ []
calls_from-rested head epoch images (Journal next) is = absurd (cc is)
calls_from-rested head epoch images (Opening turn) is = absurd (cc is)
calls_from-rested head epoch images (Homes next) is = absurd (cc is)
calls_from-rested head epoch images (Closing turn) is = absurd (cc is)
calls_from-rested head epoch images Rested is = refl

-- a stage after a call is one of the commit
within_cond : (count next : ℕ) (stage : ℕ → Stage) (done : Stage) → ((n : ℕ) → position_of (stage n) ≡ n) → position_of done ≡ 0 → position_of (cond (ltb next count) (stage (next + 1)) done) ≤ count
within_cond count next stage done is none = elim (cases_lt next count) [
  | inl left ↦ subst (λ b. position_of (cond b (stage (next + 1)) done) ≤ count) (sym (lt-ltb next count left)) (omega (arith, is (next + 1)))
  | inr past ↦ subst (λ b. position_of (cond b (stage (next + 1)) done) ≤ count) (sym (le-ltb next count past)) (omega (arith, none))
]

pub position_of-next_stage : (count : ℕ) (stage : Stage) → position_of (next_stage count stage) ≤ count
position_of-next_stage count (Journal next) = within_cond count next Journal (Opening First) (λ n. refl) refl
position_of-next_stage count (Opening First) = omega arith
position_of-next_stage count (Opening FirstSync) = omega arith
position_of-next_stage count (Opening Second) = omega arith
position_of-next_stage count (Opening SecondSync) = omega arith
position_of-next_stage count (Homes next) = within_cond count next Homes (Closing First) (λ n. refl) refl
position_of-next_stage count (Closing First) = omega arith
position_of-next_stage count (Closing FirstSync) = omega arith
position_of-next_stage count (Closing Second) = omega arith
position_of-next_stage count (Closing SecondSync) = omega arith
position_of-next_stage count Rested = omega arith

-- equal commits have equal calls left
pub calls_from-same : (head head' : Head) (epoch epoch' : ℕ) (images images' : List (List ℕ)) (stage stage' : Stage) → head' ≡ head → epoch' ≡ epoch → images' ≡ images → stage' ≡ stage → calls_from head' epoch' images' stage' ≡ calls_from head epoch images stage
calls_from-same head head' epoch epoch' images images' stage stage' a b c d =
    ap (λ (h : Head). calls_from h epoch' images' stage') a ∙ ap (λ (e : ℕ). calls_from head e images' stage') b ∙ ap (λ (l : List (List ℕ)). calls_from head epoch l stage') c ∙ ap (calls_from head epoch images) d
