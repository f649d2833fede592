-- The freezes of a list of entries count up by one, and a doubt is of the last epoch before it.
use Rattle.std.proofs.Common.{◌≡◌, ◌≢◌, ℕ, ◌+◌, ◌<◌, ◌≤◌, ◌⊎◌, inl, inr, Bool, true, false, ◌||◌, ◌==◌, if◌then◌else◌, List, [], ◌∷◌, ◌++◌, refl, subst, arith}
use Rattle.std.specs.List.{fold, list_any}
use Rattle.std.proofs.lemmas.Bool.Decides.{eqb_tells}
use Rattle.vb_hist.specs.declared.entry.Entry.{Entry}
use Rattle.vb_hist.specs.declared.entry.Entry.TheVariants.{Freeze, Doubt}
use Rattle.vb_hist.specs.Histories.{is_freeze_of, up_to_freeze}
use Rattle.vb_hist.specs.Quiet.{epoch_after}
use Rattle.vb_hist.specs.Epochs.{freezes_of, RiseAbove, last_or}

-- a freeze is of the next epoch, and a doubt of the last one
abbrev pub FitsEpoch : ℕ → Entry → Type 0
FitsEpoch last (Freeze by epoch) = epoch ≡ last + 1
FitsEpoch last (Doubt epoch) = epoch ≡ last
FitsEpoch last other = Unit {0}

-- the last epoch after entries that begin at this one
abbrev pub last_after : ℕ → List Entry → ℕ
last_after last entries = fold epoch_after last entries

-- each entry fits the number that the entries before it leave
abbrev pub FitAlong : (ℕ → Entry → ℕ) → (ℕ → Entry → Type 0) → ℕ → List Entry → Type 0
FitAlong next Fits low [] = Unit {0}
FitAlong next Fits low (entry ∷ entries) = Fits low entry × FitAlong next Fits (next low entry) entries

abbrev pub IsInOrder : ℕ → List Entry → Type 0
IsInOrder last entries = FitAlong epoch_after FitsEpoch last entries

pub along-append : (next : ℕ → Entry → ℕ) (Fits : ℕ → Entry → Type 0) (low : ℕ) (xs ys : List Entry) → FitAlong next Fits low xs → FitAlong next Fits (fold next low xs) ys → FitAlong next Fits low (xs ++ ys)
along-append next Fits low [] ys first later = later
along-append next Fits low (x ∷ xs) ys first later = (first.0, along-append next Fits (next low x) xs ys first.1 later)

pub along-front : (next : ℕ → Entry → ℕ) (Fits : ℕ → Entry → Type 0) (low : ℕ) (xs ys : List Entry) → FitAlong next Fits low (xs ++ ys) → FitAlong next Fits low xs
along-front next Fits low [] ys all = tt
along-front next Fits low (x ∷ xs) ys all = (all.0, along-front next Fits (next low x) xs ys all.1)

pub along-rest : (next : ℕ → Entry → ℕ) (Fits : ℕ → Entry → Type 0) (low : ℕ) (xs ys : List Entry) → FitAlong next Fits low (xs ++ ys) → FitAlong next Fits (fold next low xs) ys
along-rest next Fits low [] ys all = all
along-rest next Fits low (x ∷ xs) ys all = along-rest next Fits (next low x) xs ys all.1

-- the last epoch never falls
pub last-grows : (last : ℕ) (xs : List Entry) → IsInOrder last xs → last ≤ last_after last xs
last-grows last [] all = omega arith
last-grows last (Freeze by epoch ∷ xs) all = let more : epoch ≤ last_after epoch xs = last-grows epoch xs all.1 in let e : epoch ≡ last + 1 = all.0 in omega arith
last-grows last (other ∷ xs) all = last-grows last xs all.1

-- what two numbers are, by the test of their equality
abbrev pub IsSameOrNot : ℕ → ℕ → Type 0
IsSameOrNot a b = (((a == b) ≡ true) × (a ≡ b)) ⊎ (((a == b) ≡ false) × (a ≢ b))

-- an epoch that is frozen lies above the first and is at most the last
pub frozen-within : (last epoch : ℕ) (xs : List Entry) → IsInOrder last xs → list_any (is_freeze_of epoch) xs ≡ true → (last < epoch) × (epoch ≤ last_after last xs)
frozen-within last epoch [] all there = cc
frozen-within last epoch (Freeze by frozen ∷ xs) all there =
    at all.0 (last-grows frozen xs all.1) (frozen-within frozen epoch xs all.1) there (eqb_tells frozen epoch)
  where
    at : {top : ℕ} {later : Bool} → frozen ≡ last + 1 → frozen ≤ top → (later ≡ true → (frozen < epoch) × (epoch ≤ top)) → ((frozen == epoch) || later) ≡ true → IsSameOrNot frozen epoch → (last < epoch) × (epoch ≤ top)
    at {top} {later} next grows rest there (inl is) = (omega (arith, is.1), omega (arith, is.1))
    at {top} {later} next grows rest there (inr not) =
        let r = rest (subst (λ b. (b || later) ≡ true) not.0 there) in (omega (arith, r.0), r.1)
frozen-within last epoch (other ∷ xs) all there = frozen-within last epoch xs all.1 there

-- each epoch above the first and up to the last is frozen
pub within-frozen : (last epoch : ℕ) (xs : List Entry) → IsInOrder last xs → last < epoch → epoch ≤ last_after last xs → list_any (is_freeze_of epoch) xs ≡ true
within-frozen last epoch [] all above below = absurd (omega arith)
within-frozen last epoch (Freeze by frozen ∷ xs) all above below =
    at all.0 (λ h. within-frozen frozen epoch xs all.1 h below) (eqb_tells frozen epoch)
  where
    at : {later : Bool} → frozen ≡ last + 1 → (frozen < epoch → later ≡ true) → IsSameOrNot frozen epoch → ((frozen == epoch) || later) ≡ true
    at {later} next rest (inl is) = rw (is.0) refl
    at {later} next rest (inr not) = rw (not.0) (rest (omega (arith, next, not.1)))
within-frozen last epoch (other ∷ xs) all above below = within-frozen last epoch xs all.1 above below

-- up to a freeze that is there, its epoch is the last
pub up_to-last : (last epoch : ℕ) (xs : List Entry) → list_any (is_freeze_of epoch) xs ≡ true → last_after last (up_to_freeze epoch xs) ≡ epoch
up_to-last last epoch [] there = cc
up_to-last last epoch (Freeze by frozen ∷ xs) there = at (up_to_freeze epoch xs) (list_any (is_freeze_of epoch) xs) (up_to-last frozen epoch xs) there (eqb_tells frozen epoch)
  where
    at : (front : List Entry) (later : Bool) → (later ≡ true → last_after frozen front ≡ epoch) → ((frozen == epoch) || later) ≡ true → IsSameOrNot frozen epoch
        → last_after last (if frozen == epoch then Freeze by frozen ∷ [] else Freeze by frozen ∷ front) ≡ epoch
    at front later rest there (inl is) = rw (is.0) is.1
    at front later rest there (inr not) = rw (not.0) (rest (subst (λ b. (b || later) ≡ true) not.0 there))
up_to-last last epoch (other ∷ xs) there = up_to-last last epoch xs there

-- so the epochs of its freezes rise
pub order-rises : (last : ℕ) (xs : List Entry) → IsInOrder last xs → RiseAbove last (freezes_of xs)
order-rises last [] all = tt
order-rises last (Freeze by epoch ∷ xs) all = (omega (arith, all.0), order-rises epoch xs all.1)
order-rises last (other ∷ xs) all = order-rises last xs all.1

-- and the last of them is the last epoch
pub last_or-last : (last : ℕ) (xs : List Entry) → last_or last (freezes_of xs) ≡ last_after last xs
last_or-last last [] = refl
last_or-last last (Freeze by epoch ∷ xs) = last_or-last epoch xs
last_or-last last (other ∷ xs) = last_or-last last xs
