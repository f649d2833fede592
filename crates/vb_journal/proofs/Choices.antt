-- Which head is chosen.
use Rattle.std.proofs.Common.{◌≡◌, ℕ, Bool, true, false, not, ◌&&◌, cond, ltb, eqb, List, Option, Some, None, Result, Ok, Err, refl, sym, ap, ◌∙◌, ◌⊎◌, inl, inr}
use Rattle.std.specs.Str.{bytes_eq}
use Rattle.std.proofs.lemmas.Bool.{and_parts, eqb-true}
use Rattle.std.proofs.lemmas.Slice.Eq.{bytes_eq-Decides}
use Rattle.vb_head.specs.declared.head.State.{State}
use Rattle.vb_head.specs.declared.head.State.TheVariants.{Closed, Opened, Rebuilding as IsBeingMade}
use Rattle.vb_head.specs.declared.head.Head.{Head}
use Rattle.vb_head.specs.declared.head.HeadRead.{HeadRead}
use Rattle.vb_head.specs.declared.head.HeadRead.TheVariants.{Good, Bad, Alien, Unsealed, Blank}
use Rattle.vb_journal.specs.declared.recover_error.RecoverError.{RecoverError}
use Rattle.vb_journal.specs.declared.recover_error.RecoverError.TheVariants.{NotAStore, Unfit, Rebuilding}
use Rattle.vb_block.specs.declared.why.Why.TheVariants.{Blocks}
use Rattle.vb_journal.specs.Recoveries.{are_one_head, greater_place, head_among, head_choice, is_rebuilding, is_same_head, is_same_state}
use Rattle.vb_journal.specs.Shown.{good_of, greater}

-- results of a choice, with the types written out
abbrev pub chosen : Head → Result Head RecoverError
chosen head = Ok head

abbrev pub some_head : Head → Option Head
some_head h = Some h

abbrev pub refused : RecoverError → Result Head RecoverError
refused e = Err e

-- a head that was chosen counts, is for this size, and no store is being made
pub record IsChosen (size : ℕ) (a b : HeadRead) (head : Head) : Type 0 where
  pub enough : ltb size 38 ≡ false
  pub greatest : greater (good_of a) (good_of b) ≡ Some head
  pub fits : eqb head.blocks size ≡ true
  pub made : is_rebuilding head.state ≡ false

fitting_ok : (size place : ℕ) (h head : Head) (t r : Bool) → cond (not t) (refused (Unfit place Blocks)) (cond r (refused Rebuilding) (chosen h)) ≡ chosen head → (t ≡ true) × (r ≡ false) × (h ≡ head)
fitting_ok size place h head false r is = absurd (cc is)
fitting_ok size place h head true true is = absurd (cc is)
fitting_ok size place h head true false is = (refl, refl, cc is)

among_ok : (size : ℕ) (a b : HeadRead) (o : Option Head) (head : Head) → head_among size a b o ≡ chosen head → (o ≡ Some head) × (eqb head.blocks size ≡ true) × (is_rebuilding head.state ≡ false)
among_ok size a b None head is = absurd (cc is)
among_ok size a b (Some h) head is =
    let parts = fitting_ok size (greater_place (good_of a) (good_of b)) h head (eqb h.blocks size) (is_rebuilding h.state) is in
    (ap (λ (x : Head). let o : Option Head = Some x in o) parts.2, ap (λ (x : Head). eqb x.blocks size) (sym parts.2) ∙ parts.0, ap (λ (x : Head). is_rebuilding x.state) (sym parts.2) ∙ parts.1)

choice_ok : (size : ℕ) (a b : HeadRead) (head : Head) (few : Bool) → cond few (refused (NotAStore 0)) (head_among size a b (greater (good_of a) (good_of b))) ≡ chosen head → (few ≡ false) × (head_among size a b (greater (good_of a) (good_of b)) ≡ chosen head)
choice_ok size a b head true is = absurd (cc is)
choice_ok size a b head false is = (refl, is)

pub IsChosen-from : (size : ℕ) (a b : HeadRead) (head : Head) → head_choice size a b ≡ chosen head → IsChosen size a b head
IsChosen-from size a b head is =
    let parts = choice_ok size a b head (ltb size 38) is in
    let more = among_ok size a b (greater (good_of a) (good_of b)) head parts.1 in
    record { enough = parts.0; greatest = more.0; fits = more.1; made = more.2 }

-- and it is chosen
pub head_choice-chosen : (size : ℕ) (a b : HeadRead) (head : Head) → IsChosen size a b head → head_choice size a b ≡ chosen head
head_choice-chosen size a b head is =
    ap (λ (t : Bool). cond t (refused (NotAStore 0)) (head_among size a b (greater (good_of a) (good_of b)))) is.enough
    ∙ ap (head_among size a b) is.greatest
    ∙ ap (λ (t : Bool). cond (not t) (refused (Unfit (greater_place (good_of a) (good_of b)) Blocks)) (cond (is_rebuilding head.state) (refused Rebuilding) (chosen head))) is.fits
    ∙ ap (λ (t : Bool). cond t (refused Rebuilding) (chosen head)) is.made

-- a head of which one was chosen is chosen again where it counts
pub chosen-again : (size : ℕ) (a b c d : HeadRead) (head : Head) → head_choice size a b ≡ chosen head → greater (good_of c) (good_of d) ≡ Some head → head_choice size c d ≡ chosen head
chosen-again size a b c d head is greatest =
    let was = IsChosen-from size a b head is in
    head_choice-chosen size c d head (record { enough = was.enough; greatest = greatest; fits = was.fits; made = was.made })

-- the head that counts, and its place
abbrev pub StandsAt : Option Head → Option Head → Head → ℕ → Type 0
StandsAt a b head place = ((place ≡ 0) × (a ≡ Some head)) ⊎ ((place ≡ 1) × (b ≡ Some head))

place_by : (a b head : Head) (t : Bool) → some_head (cond t b a) ≡ some_head head → StandsAt (some_head a) (some_head b) head (cond t 1 0)
place_by a b head true is = inr (refl, is)
place_by a b head false is = inl (refl, is)

pub greater-stands : (a b : Option Head) (head : Head) → greater a b ≡ Some head → StandsAt a b head (greater_place a b)
greater-stands (Some a) (Some b) head is = place_by a b head (ltb a.sequence b.sequence) is
greater-stands (Some a) None head is = inl (refl, is)
greater-stands None (Some b) head is = inr (refl, is)
greater-stands None None head is = absurd (cc is)

pub good-from_good_of : (read : HeadRead) (head : Head) → good_of read ≡ Some head → read ≡ Good head
good-from_good_of (Good h) head is = let same : h ≡ head = cc is in ap Good same
good-from_good_of (Bad why) head is = absurd (cc is)
good-from_good_of Alien head is = absurd (cc is)
good-from_good_of (Unsealed kept found) head is = absurd (cc is)
good-from_good_of Blank head is = absurd (cc is)

-- heads that are tested equal are one
same_states : (a b : State) → is_same_state a b ≡ true → a ≡ b
same_states Closed Closed is = refl
same_states Closed (Opened n) is = absurd (cc is)
same_states Closed IsBeingMade is = absurd (cc is)
same_states (Opened m) Closed is = absurd (cc is)
same_states (Opened m) (Opened n) is = ap Opened (eqb-true m n is)
same_states (Opened m) IsBeingMade is = absurd (cc is)
same_states IsBeingMade Closed is = absurd (cc is)
same_states IsBeingMade (Opened n) is = absurd (cc is)
same_states IsBeingMade IsBeingMade is = refl

same_fields : (a b : Head) → a.id ≡ b.id → a.blocks ≡ b.blocks → a.nodes ≡ b.nodes → a.sequence ≡ b.sequence → a.epoch ≡ b.epoch → a.state ≡ b.state → a ≡ b
same_fields a b id blocks nodes sequence epoch state =
    ap (λ (x : List ℕ). let h : Head = record { id = x; blocks = a.blocks; nodes = a.nodes; sequence = a.sequence; epoch = a.epoch; state = a.state } in h) id
    ∙ ap (λ (x : ℕ). let h : Head = record { id = b.id; blocks = x; nodes = a.nodes; sequence = a.sequence; epoch = a.epoch; state = a.state } in h) blocks
    ∙ ap (λ (x : ℕ). let h : Head = record { id = b.id; blocks = b.blocks; nodes = x; sequence = a.sequence; epoch = a.epoch; state = a.state } in h) nodes
    ∙ ap (λ (x : ℕ). let h : Head = record { id = b.id; blocks = b.blocks; nodes = b.nodes; sequence = x; epoch = a.epoch; state = a.state } in h) sequence
    ∙ ap (λ (x : ℕ). let h : Head = record { id = b.id; blocks = b.blocks; nodes = b.nodes; sequence = b.sequence; epoch = x; state = a.state } in h) epoch
    ∙ ap (λ (x : State). let h : Head = record { id = b.id; blocks = b.blocks; nodes = b.nodes; sequence = b.sequence; epoch = b.epoch; state = x } in h) state

same_heads : (a b : Head) → is_same_head a b ≡ true → a ≡ b
same_heads a b is =
    let states = and_parts (bytes_eq a.id b.id && eqb a.blocks b.blocks && eqb a.nodes b.nodes && eqb a.sequence b.sequence && eqb a.epoch b.epoch) (is_same_state a.state b.state) is in
    let epochs = and_parts (bytes_eq a.id b.id && eqb a.blocks b.blocks && eqb a.nodes b.nodes && eqb a.sequence b.sequence) (eqb a.epoch b.epoch) states.0 in
    let sequences = and_parts (bytes_eq a.id b.id && eqb a.blocks b.blocks && eqb a.nodes b.nodes) (eqb a.sequence b.sequence) epochs.0 in
    let nodes = and_parts (bytes_eq a.id b.id && eqb a.blocks b.blocks) (eqb a.nodes b.nodes) sequences.0 in
    let blocks = and_parts (bytes_eq a.id b.id) (eqb a.blocks b.blocks) nodes.0 in
    same_fields a b ((bytes_eq-Decides a.id b.id).0 blocks.0) (eqb-true a.blocks b.blocks blocks.1) (eqb-true a.nodes b.nodes nodes.1) (eqb-true a.sequence b.sequence sequences.1) (eqb-true a.epoch b.epoch epochs.1) (same_states a.state b.state states.1)

pub one-head : (a b : HeadRead) → are_one_head a b ≡ true → a ≡ b
one-head (Good a) (Good b) is = ap Good (same_heads a b is)
one-head (Good a) (Bad why) is = absurd (cc is)
one-head (Good a) Alien is = absurd (cc is)
one-head (Good a) (Unsealed kept found) is = absurd (cc is)
one-head (Good a) Blank is = absurd (cc is)
one-head (Bad why) b is = absurd (cc is)
one-head Alien b is = absurd (cc is)
one-head (Unsealed kept found) b is = absurd (cc is)
one-head Blank b is = absurd (cc is)
