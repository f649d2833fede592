-- A crash of a clear disk leaves a clear disk.
use Rattle.std.proofs.Common.{◌≡◌, ℕ, Bool, true, false, List, [], ◌∷◌, length, refl, sym, ap, subst, ◌∙◌, ◌⊎◌, inl, inr, arith}
use Rattle.std.specs.List.{Contains}
use Rattle.std.proofs.lemmas.List.Elements.{All-contains, All-cons, All-nil}
use Rattle.vb_disk.specs.declared.cell.Cell.{Cell}
use Rattle.vb_disk.specs.Cells.{candidates}
use Rattle.vb_disk.specs.Crashes.{CellMayCrashTo, IsTorn, MayCrashTo}
use Rattle.vb_disk.specs.States.{DiskState}
use Rattle.vb_store.specs.Clear.{IsClear, taken_cell}

-- the candidates of a place don't depend on whether it is taken as whole
pub candidates-taken : (whole : Bool) (cell : Cell) → candidates (taken_cell whole cell) ≡ candidates cell
candidates-taken true cell = refl
candidates-taken false cell = refl

-- a place with one candidate has that one alone
alone : (cell : Cell) (page : List ℕ) → cell.later ≡ [] → Contains (candidates cell) page → cell.first ≡ page
alone cell page one found =
    let only : Contains (cell.first ∷ []) page = subst (λ (later : List (List ℕ)). Contains (cell.first ∷ later) page) one found in
    All-contains (λ (p : List ℕ). cell.first ≡ p) (cell.first ∷ []) page (All-cons (λ (p : List ℕ). cell.first ≡ p) cell.first [] refl (All-nil (λ (p : List ℕ). cell.first ≡ p))) only

-- a settled place can't be torn
untorn : (cell new : Cell) → cell.later ≡ [] → (new.hurt ≡ cell.hurt) ⊎ IsTorn cell new → new.hurt ≡ cell.hurt
untorn cell new one (inl same) = same
untorn cell new one (inr torn) = absurd (omega (arith, torn.several, ap length one))

-- what two crashes leave of a place, of which the first may have torn it, one crash may leave
hurt_through : (whole : Bool) (old mid new : Cell) → (new.hurt ≡ (taken_cell whole mid).hurt) → (mid.hurt ≡ old.hurt) ⊎ IsTorn old mid → (new.hurt ≡ (taken_cell whole old).hurt) ⊎ IsTorn (taken_cell whole old) new
hurt_through true old mid new last first = inl last
hurt_through false old mid new last (inl same) = inl (last ∙ same)
hurt_through false old mid new last (inr torn) = inr (record { several = torn.several; bytes = torn.bytes; reads = last ∙ torn.reads; page = torn.page; miss = torn.miss })

later-taken : (whole : Bool) (cell : Cell) → (taken_cell whole cell).later ≡ cell.later
later-taken true cell = refl
later-taken false cell = refl

first-taken : (whole : Bool) (cell : Cell) → (taken_cell whole cell).first ≡ cell.first
first-taken true cell = refl
first-taken false cell = refl

-- a place after two crashes, with the same choice of what is taken as whole before the second one
crash_through : (whole : Bool) (old mid new : Cell) → CellMayCrashTo old mid → CellMayCrashTo (taken_cell whole mid) new → CellMayCrashTo (taken_cell whole old) new
crash_through whole old mid new first last =
    let one : (taken_cell whole mid).later ≡ [] = later-taken whole mid ∙ first.alone in
    let kept : mid.first ≡ new.first = sym (first-taken whole mid) ∙ alone (taken_cell whole mid) new.first one last.picked in
    record {
      picked = subst (λ (l : List (List ℕ)). Contains l new.first) (sym (candidates-taken whole old)) (subst (λ (p : List ℕ). Contains (candidates old) p) kept first.picked);
      alone = last.alone;
      hurt = hurt_through whole old mid new (untorn (taken_cell whole mid) new one last.hurt) first.hurt;
    }

-- what is taken as whole in the new disk is taken as whole in the old one
pub IsClear-crashed : (old new : DiskState) → IsClear old → MayCrashTo old new → IsClear new
IsClear-crashed old new clear crash whole after again =
    clear whole after (record {
      size = again.size ∙ crash.size;
      writes = again.writes ∙ crash.writes;
      resizes = again.resizes ∙ crash.resizes;
      synced_at = again.synced_at ∙ crash.synced_at;
      each = λ place. crash_through (whole place) (old.cells place) (new.cells place) (after.cells place) (crash.each place) (again.each place);
    })
