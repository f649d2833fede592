-- Where no home was hurt the images are found exactly, and an unharmed disk stays so while a commit goes on.
use Rattle.std.proofs.Common.{◌≡◌, ℕ, ◌+◌, ◌<◌, ◌≤◌, Bool, true, false, cond, eqb, ltb, List, [], ◌∷◌, length, get_or, None, Result, Ok, refl, sym, ap, subst, ◌∙◌, ◌⊎◌, inl, inr, arith}
use Rattle.std.proofs.lemmas.Bool.{cases_eq, cases_lt, lt-ltb, le-ltb}
use Rattle.std.proofs.lemmas.List.{ext_get_or}
use Rattle.std.specs.List.{All}
use Rattle.std.proofs.lemmas.List.Elements.{All-cons, All-nil}
use Rattle.vb_disk.specs.declared.cell.Cell.{Cell}
use Rattle.vb_disk.specs.Cells.{blank_cell, written_cell}
use Rattle.vb_disk.specs.States.{DiskCall, DiskState, Resize, Sync, Write, after_call, synced, written}
use Rattle.vb_head.specs.declared.head.Head.{Head}
use Rattle.vb_head.specs.Heads.{head_page}
use Rattle.vb_journal.specs.declared.commit_stage.Stage.{Stage}
use Rattle.vb_journal.specs.declared.commit_stage.Stage.TheVariants.{Journal, Opening, Homes, Closing, Rested}
use Rattle.vb_journal.specs.declared.commit_stage.Turn.TheVariants.{First, FirstSync, Second, SecondSync}
use Rattle.vb_journal.specs.Images.{image_at, slot_of}
use Rattle.vb_journal.specs.declared.recover_error.RecoverError.{RecoverError}
use Rattle.vb_journal.specs.Outcomes.{Recovers, RecoversWholly}
use Rattle.vb_journal.specs.Plans.{closed_head, due_call, next_stage, opened_head}
use Rattle.vb_journal.specs.Progress.{EachCrashRecoversWholly, IsUnharmed, IsWholeAt, OldOrNew, heads_needed, homes_needed, images_needed}
use Rattle.vb_journal.specs.Recoveries.{Recovered}
use Rattle.vb_journal.specs.Shown.{pages_from}
use Rattle.vb_journal.proofs.Found.{length-pages_from, pages_from-at}
use Rattle.vb_journal.proofs.TriedCells.{written-here}

-- ---- recovering wholly

-- where no home was hurt, the images are exactly these
pub whole_found : (old new : DiskState) (head : Head) (images : ℕ → List ℕ) → ((slot : ℕ) → slot < head.nodes → IsWholeAt old (2 + slot)) → Recovers old new head images → RecoversWholly new head images
whole_found old new head images unhurt recovers =
    let due = pages_from images 0 head.nodes in
    let gives : List (List ℕ) → Result Recovered RecoverError = λ l. Ok (record { head = head; images = l }) in
    let same : recovers.found ≡ due = ext_get_or [] recovers.found due (recovers.count ∙ sym (length-pages_from images 0 head.nodes))
    (λ slot within.
    let low : slot < head.nodes = omega (arith, recovers.count) in
    let front : 0 + slot ≡ slot = omega arith in
    let at : image_at due slot ≡ images slot = pages_from-at images 0 head.nodes slot low ∙ ap images front in
    elim (recovers.each slot low) [
      | inl is ↦ is ∙ sym at
      | inr hurt ↦ absurd (let whole = unhurt slot low in cc)
    ]) in
    recovers.is ∙ ap gives same

-- what holds of the old or the new images at the next stage holds so at this one
journal_before : (head : Head) (epoch : ℕ) (images : List (List ℕ)) (homes : ℕ → List ℕ) (P : Head → (ℕ → List ℕ) → Type 0) (b : Bool) (next : ℕ) → OldOrNew head epoch images homes P (cond b (Journal (next + 1)) (Opening First)) → OldOrNew head epoch images homes P (Journal next)
journal_before head epoch images homes P true next holds = holds
journal_before head epoch images homes P false next holds = holds

homes_before : (head : Head) (epoch : ℕ) (images : List (List ℕ)) (homes : ℕ → List ℕ) (P : Head → (ℕ → List ℕ) → Type 0) (b : Bool) (next : ℕ) → OldOrNew head epoch images homes P (cond b (Homes (next + 1)) (Closing First)) → OldOrNew head epoch images homes P (Homes next)
homes_before head epoch images homes P true next holds = holds
homes_before head epoch images homes P false next holds = holds

OldOrNew-before : (head : Head) (epoch : ℕ) (images : List (List ℕ)) (homes : ℕ → List ℕ) (P : Head → (ℕ → List ℕ) → Type 0) (stage : Stage) → OldOrNew head epoch images homes P (next_stage (length images) stage) → OldOrNew head epoch images homes P stage
OldOrNew-before head epoch images homes P (Journal next) holds = journal_before head epoch images homes P (ltb next (length images)) next holds
OldOrNew-before head epoch images homes P (Opening First) holds = holds
OldOrNew-before head epoch images homes P (Opening FirstSync) holds = holds
OldOrNew-before head epoch images homes P (Opening Second) holds = holds
OldOrNew-before head epoch images homes P (Opening SecondSync) holds = inr holds
OldOrNew-before head epoch images homes P (Homes next) holds = homes_before head epoch images homes P (ltb next (length images)) next holds
OldOrNew-before head epoch images homes P (Closing First) holds = holds
OldOrNew-before head epoch images homes P (Closing FirstSync) holds = holds
OldOrNew-before head epoch images homes P (Closing Second) holds = holds
OldOrNew-before head epoch images homes P (Closing SecondSync) holds = holds
OldOrNew-before head epoch images homes P Rested holds = holds

pub EachCrashRecoversWholly-before : (head : Head) (epoch : ℕ) (images : List (List ℕ)) (homes : ℕ → List ℕ) (stage : Stage) (d : DiskState) → EachCrashRecoversWholly head epoch images homes (next_stage (length images) stage) d → EachCrashRecoversWholly head epoch images homes stage d
EachCrashRecoversWholly-before head epoch images homes stage d each new crash = OldOrNew-before head epoch images homes (λ h pages. RecoversWholly new h pages) stage (each new crash)

-- ---- staying unharmed

if_written : (b : Bool) (cell : Cell) (page : List ℕ) → cell.hurt ≡ None → (cond b (written_cell cell page) cell).hurt ≡ None
if_written true cell page whole = refl
if_written false cell page whole = whole

if_kept : (b : Bool) (cell : Cell) → cell.hurt ≡ None → (cond b cell blank_cell).hurt ≡ None
if_kept true cell whole = whole
if_kept false cell whole = refl

-- no call hurts a place
pub whole_after : (d : DiskState) (call : DiskCall) (place : ℕ) → (d.cells place).hurt ≡ None → ((after_call d call).cells place).hurt ≡ None
whole_after d (Write at page) place whole = if_written (eqb place at) (d.cells place) page whole
whole_after d Sync place whole = whole
whole_after d (Resize blocks) place whole = if_kept (ltb place blocks) (d.cells place) whole

-- the places of a list that were whole
all_after : (d : DiskState) (call : DiskCall) (places : List ℕ) → All (IsWholeAt d) places → All (IsWholeAt (after_call d call)) places
all_after d call places all k other within = whole_after d call (get_or places k other) (all k other within)

-- at a stage at which no more images and homes are needed
pub IsUnharmed-call : (head : Head) (images : List (List ℕ)) (stage next : Stage) (d : DiskState) (call : DiskCall) → images_needed (length images) next ≤ images_needed (length images) stage → ((i : ℕ) → i < length images → i < homes_needed (length images) next → i < homes_needed (length images) stage) → All (IsWholeAt (after_call d call)) (heads_needed next) → IsUnharmed head images stage d → IsUnharmed head images next (after_call d call)
IsUnharmed-call head images stage next d call less fewer heads u = record {
  heads = heads;
  in_journal = λ i within. whole_after d call (2 + head.nodes + i) (u.in_journal i (omega arith));
  at_home = λ i within needed. whole_after d call (2 + slot_of (image_at images i)) (u.at_home i within (fewer i within needed));
  others = λ slot within unnamed. whole_after d call (2 + slot) (u.others slot within unnamed);
}

-- a list of one place, and of both heads
one_whole : (d : DiskState) (place : ℕ) → IsWholeAt d place → All (IsWholeAt d) (place ∷ [])
one_whole d place whole = All-cons (IsWholeAt d) place [] whole (All-nil (IsWholeAt d))

both_whole : (d : DiskState) → IsWholeAt d 0 → IsWholeAt d 1 → All (IsWholeAt d) (0 ∷ 1 ∷ [])
both_whole d first second = All-cons (IsWholeAt d) 0 (1 ∷ []) first (one_whole d 1 second)

-- a place is whole after a write to it
whole_written : (d : DiskState) (place : ℕ) (page : List ℕ) → IsWholeAt (written d place page) place
whole_written d place page = ap (λ (c : Cell). c.hurt) (written-here d place page)

-- an image more went into the journal
one_more : (head : Head) (images : List (List ℕ)) (next : ℕ) (d : DiskState) (page : List ℕ) → IsUnharmed head images (Journal next) d → IsUnharmed head images (Journal (next + 1)) (written d (2 + head.nodes + next) page)
one_more head images next d page u =
    let call = Write (2 + head.nodes + next) page in
    record {
      heads = all_after d call (1 ∷ []) u.heads;
      in_journal = λ i within. elim (cases_eq i next) [
        | inl same ↦ subst (λ (n : ℕ). ((written d (2 + head.nodes + next) page).cells (2 + head.nodes + n)).hurt ≡ None) (sym same) (whole_written d (2 + head.nodes + next) page)
        | inr apart ↦ whole_after d call (2 + head.nodes + i) (u.in_journal i (omega arith))
      ];
      at_home = λ i within needed. whole_after d call (2 + slot_of (image_at images i)) (u.at_home i within needed);
      others = λ slot within unnamed. whole_after d call (2 + slot) (u.others slot within unnamed);
    }

-- an image more went home
one_home : (head : Head) (images : List (List ℕ)) (next : ℕ) (d : DiskState) (page : List ℕ) → IsUnharmed head images (Homes next) d → IsUnharmed head images (Homes (next + 1)) (written d (2 + slot_of (image_at images next)) page)
one_home head images next d page u =
    let home = 2 + slot_of (image_at images next) in
    let call = Write home page in
    record {
      heads = all_after d call (1 ∷ []) u.heads;
      in_journal = λ i within. whole_after d call (2 + head.nodes + i) (u.in_journal i within);
      at_home = λ i within needed. elim (cases_eq i next) [
        | inl same ↦ subst (λ (n : ℕ). ((written d home page).cells (2 + slot_of (image_at images n))).hurt ≡ None) (sym same) (whole_written d home page)
        | inr apart ↦ whole_after d call (2 + slot_of (image_at images i)) (u.at_home i within (omega arith))
      ];
      others = λ slot within unnamed. whole_after d call (2 + slot) (u.others slot within unnamed);
    }

-- the call that is due leaves an unharmed disk at the next stage
pub IsUnharmed-due : (head : Head) (epoch : ℕ) (images : List (List ℕ)) (stage : Stage) (d : DiskState) → IsUnharmed head images stage d → IsUnharmed head images (next_stage (length images) stage) (after_call d (due_call head epoch images stage))
IsUnharmed-due head epoch images (Journal next) d u =
    let Q : Bool → Type 0 = λ b. IsUnharmed head images (cond b (Journal (next + 1)) (Opening First)) (after_call d (cond b (Write (2 + head.nodes + next) (image_at images next)) Sync)) in
    elim (cases_lt next (length images)) [
      | inl left ↦ subst Q (sym (lt-ltb next (length images) left)) (one_more head images next d (image_at images next) u)
      | inr none ↦ subst Q (sym (le-ltb next (length images) none)) (IsUnharmed-call head images (Journal next) (Opening First) d Sync none (λ i within needed. needed) u.heads u)
    ]
IsUnharmed-due head epoch images (Opening First) d u =
    let page = head_page (opened_head head epoch images) in
    IsUnharmed-call head images (Opening First) (Opening FirstSync) d (Write 0 page) (omega arith) (λ i within needed. needed)
    (both_whole (written d 0 page) (whole_written d 0 page) (whole_after d (Write 0 page) 1 (u.heads 0 0 (omega arith)))) u
IsUnharmed-due head epoch images (Opening FirstSync) d u =
    IsUnharmed-call head images (Opening FirstSync) (Opening Second) d Sync (omega arith) (λ i within needed. within) (one_whole (synced d) 0 (u.heads 0 0 (omega arith))) u
IsUnharmed-due head epoch images (Opening Second) d u =
    let page = head_page (opened_head head epoch images) in
    IsUnharmed-call head images (Opening Second) (Opening SecondSync) d (Write 1 page) (omega arith) (λ i within needed. needed)
    (both_whole (written d 1 page) (whole_after d (Write 1 page) 0 (u.heads 0 0 (omega arith))) (whole_written d 1 page)) u
IsUnharmed-due head epoch images (Opening SecondSync) d u =
    IsUnharmed-call head images (Opening SecondSync) (Homes 0) d Sync (omega arith) (λ i within needed. needed) (one_whole (synced d) 1 (u.heads 1 0 (omega arith))) u
IsUnharmed-due head epoch images (Homes next) d u =
    let Q : Bool → Type 0 = λ b. IsUnharmed head images (cond b (Homes (next + 1)) (Closing First)) (after_call d (cond b (Write (2 + slot_of (image_at images next)) (image_at images next)) Sync)) in
    elim (cases_lt next (length images)) [
      | inl left ↦ subst Q (sym (lt-ltb next (length images) left)) (one_home head images next d (image_at images next) u)
      | inr none ↦ subst Q (sym (le-ltb next (length images) none)) (IsUnharmed-call head images (Homes next) (Closing First) d Sync (omega arith) (λ i within needed. omega arith) u.heads u)
    ]
IsUnharmed-due head epoch images (Closing First) d u =
    let page = head_page (closed_head head epoch) in
    IsUnharmed-call head images (Closing First) (Closing FirstSync) d (Write 0 page) (omega arith) (λ i within needed. needed)
    (both_whole (written d 0 page) (whole_written d 0 page) (whole_after d (Write 0 page) 1 (u.heads 0 0 (omega arith)))) u
IsUnharmed-due head epoch images (Closing FirstSync) d u =
    IsUnharmed-call head images (Closing FirstSync) (Closing Second) d Sync (omega arith) (λ i within needed. needed) (one_whole (synced d) 0 (u.heads 0 0 (omega arith))) u
IsUnharmed-due head epoch images (Closing Second) d u =
    let page = head_page (closed_head head epoch) in
    IsUnharmed-call head images (Closing Second) (Closing SecondSync) d (Write 1 page) (omega arith) (λ i within needed. needed)
    (both_whole (written d 1 page) (whole_after d (Write 1 page) 0 (u.heads 0 0 (omega arith))) (whole_written d 1 page)) u
IsUnharmed-due head epoch images (Closing SecondSync) d u =
    IsUnharmed-call head images (Closing SecondSync) Rested d Sync (omega arith) (λ i within needed. needed) (one_whole (synced d) 1 (u.heads 1 0 (omega arith))) u
IsUnharmed-due head epoch images Rested d u = IsUnharmed-call head images Rested Rested d Sync (omega arith) (λ i within needed. needed) u.heads u

-- a call that was made or wasn't, at the same stage
pub IsUnharmed-tried : (head : Head) (images : List (List ℕ)) (stage : Stage) (d new : DiskState) (call : DiskCall) → (new ≡ d) ⊎ (new ≡ after_call d call) → IsUnharmed head images stage d → IsUnharmed head images stage new
IsUnharmed-tried head images stage d new call (inl same) u = subst (IsUnharmed head images stage) (sym same) u
IsUnharmed-tried head images stage d new call (inr made) u = subst (IsUnharmed head images stage) (sym made) (IsUnharmed-call head images stage stage d call (omega arith) (λ i within needed. needed) (all_after d call (heads_needed stage) u.heads) u)

-- a whole place stays whole then
pub whole_tried : (d new : DiskState) (call : DiskCall) → (new ≡ d) ⊎ (new ≡ after_call d call) → (place : ℕ) → (d.cells place).hurt ≡ None → (new.cells place).hurt ≡ None
whole_tried d new call (inl same) place whole = subst (λ (s : DiskState). (s.cells place).hurt ≡ None) (sym same) whole
whole_tried d new call (inr made) place whole = subst (λ (s : DiskState). (s.cells place).hurt ≡ None) (sym made) (whole_after d call place whole)
