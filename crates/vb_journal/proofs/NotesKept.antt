-- What a step of a recovery notes.
use Rattle.std.proofs.Common.{◌≡◌, ℕ, ◌-◌, ◌≤◌, Bool, true, false, cond, ltb, List, [], ◌∷◌, ◌++◌, map, Option, Some, None, sym, ap, ◌∙◌, inl, inr, arith}
use Rattle.std.proofs.lemmas.Bool.{le-ltb}
use Rattle.std.proofs.lemmas.List.{map-append}
use Rattle.vb_disk.specs.States.{DiskState, read_at}
use Rattle.vb_head.specs.declared.head.Head.{Head}
use Rattle.vb_head.specs.declared.head.HeadRead.{HeadRead}
use Rattle.vb_head.specs.declared.head.HeadRead.TheVariants.{Good}
use Rattle.vb_head.specs.Heads.{head_read}
use Rattle.vb_journal.specs.declared.mending.FirstRead.{FirstRead}
use Rattle.vb_journal.specs.Images.{slot_of}
use Rattle.vb_journal.specs.Notes.{head_place, slots_with}
use Rattle.vb_journal.specs.Outcomes.{reads_of}
use Rattle.vb_journal.specs.Recoveries.{greater_place, head_choice}
use Rattle.vb_journal.specs.Recovering.{HasReadFirst}
use Rattle.vb_journal.specs.Recovers.{last_of}
use Rattle.vb_journal.specs.Shown.{good_of}
use Rattle.vb_journal.proofs.Answering.{last_of-more}
use Rattle.vb_journal.proofs.Choices.{IsChosen-from, chosen, good-from_good_of, greater-stands}

-- ---- the place

one_or_none : (t : Bool) → cond t 1 0 ≤ 1
one_or_none true = omega arith
one_or_none false = omega arith

place_low : (a b : Option Head) → greater_place a b ≤ 1
place_low (Some a) (Some b) = one_or_none (ltb a.sequence b.sequence)
place_low (Some a) None = omega arith
place_low None b = omega arith

-- the other place is that of the head that counts
pub other-place : (begun : DiskState) (other : ℕ) → other ≡ 1 - head_place (reads_of begun) → 1 - other ≡ head_place (reads_of begun)
other-place begun other is =
    let low : head_place (reads_of begun) ≤ 1 = place_low (good_of (head_read (read_at begun 0))) (good_of (head_read (read_at begun 1))) in
    omega (arith, is, low)

-- where both places read as one head, the first one counts
first_place : (h : Head) → greater_place (Some h) (Some h) ≡ 0
first_place h = ap (λ (t : Bool). cond t 1 0) (le-ltb h.sequence h.sequence (omega arith))

pub place-one : (begun d : DiskState) (first : FirstRead) (second : HeadRead) (head : Head) → HasReadFirst begun first d → second ≡ head_read (read_at begun 1) → head_choice first.size.places first.read second ≡ chosen head → first.read ≡ second → 0 ≡ head_place (reads_of begun)
place-one begun d first second head has second_is is same =
    let good : first.read ≡ Good head = elim (greater-stands (good_of first.read) (good_of second) head (IsChosen-from first.size.places first.read second head is).greatest) [
      | inl at ↦ good-from_good_of first.read head at.1
      | inr at ↦ same ∙ good-from_good_of second head at.1
    ] in
    let here : head_read (read_at begun 0) ≡ Good head = sym has.read ∙ good in
    let there : head_read (read_at begun 1) ≡ Good head = sym second_is ∙ sym same ∙ good in
    sym (ap (λ (r : HeadRead). greater_place (good_of r) (good_of (head_read (read_at begun 1)))) here ∙ ap (λ (r : HeadRead). greater_place (Some head) (good_of r)) there ∙ first_place head)

-- ---- the slots

-- one image more was read
pub slots-more : (slots : List ℕ) (before after : List (List ℕ)) (image : List ℕ) → after ≡ before ++ image ∷ [] → slots ≡ map slot_of before → slots_with slots (last_of after) ≡ map slot_of after
slots-more slots before after image after_is slots_are =
    ap (slots_with slots) (ap last_of after_is ∙ last_of-more before image)
    ∙ ap (λ (s : List ℕ). s ++ slot_of image ∷ []) slots_are
    ∙ sym (map-append slot_of before (image ∷ []))
    ∙ ap (map slot_of) (sym after_is)
