-- A place in the midst of a commit: what a write and a sync make of it, and what a crash may leave.
use Rattle.std.proofs.Common.{◌≡◌, ◌≢◌, ℕ, zero, suc, ◌<◌, eqb, List, [], ◌∷◌, ◌++◌, length, get_or, replicate, Option, Some, None, unwrap_or, refl, sym, ap, subst, ◌∙◌, ◌⊎◌, inl, inr, arith}
use Rattle.std.specs.List.{Contains}
use Rattle.std.proofs.lemmas.Bool.{cond-true, cond-false, eq-eqb, ne_eqb}
use Rattle.std.proofs.lemmas.List.{length-replicate}
use Rattle.vb_block.specs.Pages.{IsSealed}
use Rattle.vb_disk.specs.declared.cell.Cell.{Cell}
use Rattle.vb_disk.specs.Cells.{candidate_at, candidates, read_of, synced_cell, written_cell}
use Rattle.vb_disk.specs.Crashes.{CellMayCrashTo, IsTorn}
use Rattle.vb_disk.specs.States.{DiskState, IsDiskState, written}
use Rattle.vb_journal.specs.Progress.{Progress, Fixed, Trying, Tried, Has}

replicate-snoc : (n : ℕ) (x : List ℕ) → replicate n x ++ x ∷ [] ≡ replicate (suc n) x
replicate-snoc zero x = refl
replicate-snoc (suc n) x = ap (λ (l : List (List ℕ)). x ∷ l) (replicate-snoc n x)

-- a write of the new page
pub Has-written : (old new : List ℕ) (cell : Cell) → Has (Trying old new) cell → Has (Tried old new) (written_cell cell new)
Has-written old new cell has =
    (has.0, ap (λ (l : List (List ℕ)). l ++ new ∷ []) has.1 ∙ ap (λ (l : List (List ℕ)). old ∷ l) (replicate-snoc has.0 new))

-- what was written was perhaps written, and what stands was perhaps written no time
pub Trying-from_Tried : (old new : List ℕ) (cell : Cell) → Has (Tried old new) cell → Has (Trying old new) cell
Trying-from_Tried old new cell has = (suc has.0, has.1)

pub Trying-from_Fixed : (old new : List ℕ) (cell : Cell) → Has (Fixed old) cell → Has (Trying old new) cell
Trying-from_Fixed old new cell has = (0, has)

newest-replicate : (n : ℕ) (x d : List ℕ) → get_or (replicate (suc n) x) n d ≡ x
newest-replicate zero x d = refl
newest-replicate (suc n) x d = newest-replicate n x d

-- the newest of some candidates
newest_of : (cell : Cell) (first : List ℕ) (later : List (List ℕ)) → candidates cell ≡ first ∷ later → candidate_at cell (length cell.later) ≡ get_or (first ∷ later) (length later) first
newest_of cell first later is =
    let front : cell.first ≡ first = cc is in
    let rest : cell.later ≡ later = cc is in
    ap (λ (p : List ℕ). get_or (p ∷ cell.later) (length cell.later) p) front ∙ ap (λ (l : List (List ℕ)). get_or (first ∷ l) (length l) first) rest

-- a sync leaves the new page, and what stands alone
pub Fixed-synced : (old new : List ℕ) (cell : Cell) → Has (Tried old new) cell → Has (Fixed new) (synced_cell cell)
Fixed-synced old new cell has =
    let long : length (replicate (suc has.0) new) ≡ suc has.0 = length-replicate {A = List ℕ} (suc has.0) new in
    let newest : get_or (old ∷ replicate (suc has.0) new) (length (replicate (suc has.0) new)) old ≡ new = ap (λ (n : ℕ). get_or (old ∷ replicate (suc has.0) new) n old) long ∙ newest-replicate has.0 new old in
    ap (λ (p : List ℕ). p ∷ []) (newest_of cell old (replicate (suc has.0) new) has.1 ∙ newest)

pub Fixed-stays : (page : List ℕ) (cell : Cell) → Has (Fixed page) cell → Has (Fixed page) (synced_cell cell)
Fixed-stays page cell has = ap (λ (p : List ℕ). p ∷ []) (newest_of cell page [] has)

-- the same candidates have come as far
pub Has-same : (p : Progress) (old new : Cell) → candidates new ≡ candidates old → Has p old → Has p new
Has-same (Fixed page) old new same has = same ∙ has
Has-same (Trying before after) old new same has = (has.0, same ∙ has.1)
Has-same (Tried before after) old new same has = (has.0, same ∙ has.1)

-- ---- places

-- what stands at the place of a write, and elsewhere
pub written-here : (d : DiskState) (place : ℕ) (page : List ℕ) → (written d place page).cells place ≡ written_cell (d.cells place) page
written-here d place page = cond-true (eqb place place) (written_cell (d.cells place) page) (d.cells place) (eq-eqb place place refl)

pub written-elsewhere : (d : DiskState) (place other : ℕ) (page : List ℕ) → other ≢ place → (written d place page).cells other ≡ d.cells other
written-elsewhere d place other page apart = cond-false (eqb other place) (written_cell (d.cells other) page) (d.cells other) (ne_eqb other place apart)

-- a place that isn't written has come as far as before
pub Has-elsewhere : (p : Progress) (d : DiskState) (place other : ℕ) (page : List ℕ) → other ≢ place → Has p (d.cells other) → Has p ((written d place page).cells other)
Has-elsewhere p d place other page apart has = subst (Has p) (sym (written-elsewhere d place other page apart)) has

-- the place of the write has the new page
pub Has-here : (old new : List ℕ) (d : DiskState) (place : ℕ) → Has (Trying old new) (d.cells place) → Has (Tried old new) ((written d place new).cells place)
Has-here old new d place has = subst (Has (Tried old new)) (sym (written-here d place new)) (Has-written old new (d.cells place) has)

-- ---- crashes

-- what a hurt place reads as isn't sealed
abbrev pub ReadsUnsealed : Cell → Type 0
ReadsUnsealed cell = (bytes : List ℕ) → cell.hurt ≡ Some bytes → ¬ IsSealed bytes

-- so is it on each disk
pub ReadsUnsealed-disk : (d : DiskState) (place : ℕ) → IsDiskState d → ReadsUnsealed (d.cells place)
ReadsUnsealed-disk d place disk bytes hurt = (disk.hurt_are_misses place bytes hurt).unsealed

-- a place is hurt after a crash, and reads as bytes that aren't sealed
pub record EndsHurt (new : Cell) : Type 0 where
  pub bytes : List ℕ
  pub hurt : new.hurt ≡ Some bytes
  pub reads : read_of new ≡ bytes
  pub unsealed : ¬ IsSealed bytes

-- it was hurt before, and reads as it did
pub record StaysHurt (old new : Cell) : Type 0 where
  pub ends : EndsHurt new
  pub was : old.hurt ≡ Some ends.bytes

-- what a place may read as after a crash while it changes: the old page, the new one, or bytes that aren't sealed
abbrev pub MayRead : List ℕ → List ℕ → List ℕ → Type 0
MayRead old new page = (page ≡ old) ⊎ ((page ≡ new) ⊎ (¬ IsSealed page))

replicate-at : (n i : ℕ) (x d : List ℕ) → i < n → get_or (replicate n x) i d ≡ x
replicate-at zero i x d past = absurd (omega arith)
replicate-at (suc n) zero x d within = refl
replicate-at (suc n) (suc i) x d within = replicate-at n i x d (omega arith)

tried_at : (old new : List ℕ) (times i : ℕ) (d : List ℕ) → i < length (old ∷ replicate times new) → (get_or (old ∷ replicate times new) i d ≡ old) ⊎ (get_or (old ∷ replicate times new) i d ≡ new)
tried_at old new times zero d within = inl refl
tried_at old new times (suc i) d within = inr (replicate-at times i new d (omega (arith, length-replicate {A = List ℕ} times new)))

-- the read of a place that is whole and has one candidate
read_alone : (cell : Cell) → cell.later ≡ [] → cell.hurt ≡ None → read_of cell ≡ cell.first
read_alone cell alone whole =
    ap (λ (h : Option (List ℕ)). unwrap_or h (candidate_at cell (length cell.later))) whole ∙ ap (λ (l : List (List ℕ)). get_or (cell.first ∷ l) (length l) cell.first) alone

-- the read of a torn place
read_torn : (cell : Cell) (bytes : List ℕ) → cell.hurt ≡ Some bytes → read_of cell ≡ bytes
read_torn cell bytes hurt = ap (λ (h : Option (List ℕ)). unwrap_or h (candidate_at cell (length cell.later))) hurt

-- what a list of candidates contains. The second part of `Contains` is that its position lies in the list.
pub picked_of : (old new : List ℕ) (times : ℕ) (page : List ℕ) → Contains (old ∷ replicate times new) page → (page ≡ old) ⊎ (page ≡ new)
picked_of old new times page has =
    let P : List ℕ → Type 0 = λ p. (p ≡ old) ⊎ (p ≡ new) in
    subst P has.2 (tried_at old new times has.0 page has.1)

pub alone_of : (page first : List ℕ) → Contains (page ∷ []) first → first ≡ page
alone_of page first has = elim (tried_at page page 0 has.0 first has.1) [ inl is ↦ sym has.2 ∙ is | inr is ↦ sym has.2 ∙ is ]

hurt_or_whole : (hurt : Option (List ℕ)) → (hurt ≡ None) ⊎ ((bytes : List ℕ) × (hurt ≡ Some bytes))
hurt_or_whole None = inl refl
hurt_or_whole (Some bytes) = inr (bytes, refl)

ends_torn : (before after : Cell) → IsTorn before after → EndsHurt after
ends_torn before after torn = record {
  bytes = torn.bytes;
  hurt = torn.reads;
  reads = read_torn after torn.bytes torn.reads;
  unsealed = torn.miss.unsealed;
}

stays : (before after : Cell) (bytes : List ℕ) → ReadsUnsealed before → before.hurt ≡ Some bytes → after.hurt ≡ before.hurt → StaysHurt before after
stays before after bytes unsealed was same = record {
  ends = record { bytes = bytes; hurt = same ∙ was; reads = read_torn after bytes (same ∙ was); unsealed = unsealed bytes was };
  was = was;
}

-- a whole place that changes reads as the old page or the new one, or is torn
whole_trying : (old new : List ℕ) (before after : Cell) → before.hurt ≡ None → Has (Trying old new) before → CellMayCrashTo before after → (read_of after ≡ old) ⊎ ((read_of after ≡ new) ⊎ EndsHurt after)
whole_trying old new before after whole has crash = elim crash.hurt [
  | inl as_before ↦
      let reads = read_alone after crash.alone (as_before ∙ whole) in
      elim (picked_of old new has.0 after.first (subst (λ (l : List (List ℕ)). Contains l after.first) has.1 crash.picked)) [
        | inl is ↦ inl (reads ∙ is)
        | inr is ↦ inr (inl (reads ∙ is))
      ]
  | inr torn ↦ inr (inr (ends_torn before after torn))
]

-- a place that stands has one candidate, so that no crash tears it
none_later : (page : List ℕ) (cell : Cell) → Has (Fixed page) cell → length cell.later ≡ 0
none_later page cell has = let none : cell.later ≡ [] = cc has in ap length none

-- a whole place that stands reads as before
pub read-Fixed : (page : List ℕ) (before after : Cell) → before.hurt ≡ None → Has (Fixed page) before → CellMayCrashTo before after → read_of after ≡ page
read-Fixed page before after whole has crash = elim crash.hurt [
  | inl as_before ↦ read_alone after crash.alone (as_before ∙ whole) ∙ alone_of page after.first (subst (λ (l : List (List ℕ)). Contains l after.first) has crash.picked)
  | inr torn ↦ absurd (omega (arith, torn.several, none_later page before has))
]

-- what a whole place may read as that changes
pub MayRead-Trying : (old new : List ℕ) (before after : Cell) → before.hurt ≡ None → Has (Trying old new) before → CellMayCrashTo before after → MayRead old new (read_of after)
MayRead-Trying old new before after whole has crash = elim (whole_trying old new before after whole has crash) [
  | inl is ↦ inl is
  | inr other ↦ elim other [
    | inl is ↦ inr (inl is)
    | inr hurt ↦ inr (inr (λ sealed. hurt.unsealed (subst IsSealed hurt.reads sealed)))
  ]
]

-- what a place may read as that changes: the old page, the new one, or as it is hurt
pub trying_or_hurt : (old new : List ℕ) (before after : Cell) → ReadsUnsealed before → Has (Trying old new) before → CellMayCrashTo before after → (read_of after ≡ old) ⊎ ((read_of after ≡ new) ⊎ EndsHurt after)
trying_or_hurt old new before after unsealed has crash = elim (hurt_or_whole before.hurt) [
  | inl whole ↦ whole_trying old new before after whole has crash
  | inr hurt ↦ elim crash.hurt [
    | inl as_before ↦ inr (inr (stays before after hurt.0 unsealed hurt.1 as_before).ends)
    | inr torn ↦ inr (inr (ends_torn before after torn))
  ]
]

-- a place that stands reads as before, or was hurt and stays so
pub fixed_or_hurt : (page : List ℕ) (before after : Cell) → ReadsUnsealed before → Has (Fixed page) before → CellMayCrashTo before after → (read_of after ≡ page) ⊎ StaysHurt before after
fixed_or_hurt page before after unsealed has crash = elim (hurt_or_whole before.hurt) [
  | inl whole ↦ inl (read-Fixed page before after whole has crash)
  | inr hurt ↦ elim crash.hurt [
    | inl as_before ↦ inr (stays before after hurt.0 unsealed hurt.1 as_before)
    | inr torn ↦ absurd (omega (arith, torn.several, none_later page before has))
  ]
]
