-- Publications and doubts are newer than what was published before them.
use Rattle.std.proofs.Common.{◌≡◌, ℕ, ◌<◌, ◌≤◌, ◌⊎◌, IfSome, List, [], ◌∷◌, Option, Some, None, refl, arith}
use Rattle.std.specs.List.{fold, filter}
use Rattle.vb_hist.specs.declared.entry.Entry.{Entry}
use Rattle.vb_hist.specs.declared.entry.Entry.TheVariants.{Freeze, Publish, Doubt}
use Rattle.vb_hist.specs.Histories.{outlives_cut}
use Rattle.vb_hist.specs.Epochs.{publications_of, RiseAbove, last_or}
use Rattle.vb_hist.proofs.Order.{FitAlong, IsInOrder}
use Rattle.vb_hist.proofs.Outlived.{doubt_after}

-- the published epoch after one more entry
abbrev pub published_after : ℕ → Entry → ℕ
published_after published (Publish epoch) = epoch
published_after published other = published

-- an epoch is newer than the published one, or nothing was published since an opening that was behind what the cloud showed
abbrev pub IsNewer : ℕ → ℕ → ℕ → ℕ → Type 0
IsNewer start opening published epoch = ((published ≡ opening) × (start < opening)) ⊎ (published < epoch)

-- a publication is of a later epoch, and a doubt of a newer one
abbrev pub FitsPublished : ℕ → ℕ → ℕ → Entry → Type 0
FitsPublished start opening published (Publish epoch) = published < epoch
FitsPublished start opening published (Doubt epoch) = IsNewer start opening published epoch
FitsPublished start opening published other = Unit {0}

abbrev pub AreNewer : ℕ → ℕ → ℕ → List Entry → Type 0
AreNewer start opening published entries = FitAlong published_after (FitsPublished start opening) published entries

pub newer-rise : (start opening published : ℕ) (xs : List Entry) → AreNewer start opening published xs → RiseAbove published (publications_of xs)
newer-rise start opening published [] all = tt
newer-rise start opening published (Publish epoch ∷ xs) all = (all.0, newer-rise start opening epoch xs all.1)
newer-rise start opening published (other ∷ xs) all = newer-rise start opening published xs all.1

pub published-last : (published : ℕ) (xs : List Entry) → fold published_after published xs ≡ last_or published (publications_of xs)
published-last published [] = refl
published-last published (Publish epoch ∷ xs) = published-last epoch xs
published-last published (other ∷ xs) = published-last published xs

-- what outlives a cut keeps its order
pub kept-newer : (start opening published : ℕ) (xs : List Entry) → AreNewer start opening published xs → AreNewer start opening published (filter outlives_cut xs)
kept-newer start opening published [] all = tt
kept-newer start opening published (Publish epoch ∷ xs) all = (all.0, kept-newer start opening epoch xs all.1)
kept-newer start opening published (other ∷ xs) all = kept-newer start opening published xs all.1

pub kept-order : (last : ℕ) (xs : List Entry) → IsInOrder last (filter outlives_cut xs)
kept-order last [] = tt
kept-order last (Publish epoch ∷ xs) = (tt, kept-order last xs)
kept-order last (other ∷ xs) = kept-order last xs

-- a doubt is newer than what is published
pub doubt-newer : (start opening published : ℕ) (doubt : Option ℕ) (xs : List Entry) → AreNewer start opening published xs → IfSome doubt (λ d. IsNewer start opening published d)
    → IfSome (fold doubt_after doubt xs) (λ d. IsNewer start opening (last_or published (publications_of xs)) d)
doubt-newer start opening published doubt [] all from = from
doubt-newer start opening published doubt (Publish epoch ∷ xs) all from = doubt-newer start opening epoch None xs all.1 tt
doubt-newer start opening published doubt (Doubt epoch ∷ xs) all from = doubt-newer start opening published (Some epoch) xs all.1 all.0
doubt-newer start opening published doubt (other ∷ xs) all from = doubt-newer start opening published doubt xs all.1 from

-- a doubt isn't below where the entries begin
pub doubt-from : (start last : ℕ) (doubt : Option ℕ) (xs : List Entry) → start ≤ last → IsInOrder last xs → IfSome doubt (λ d. start ≤ d) → IfSome (fold doubt_after doubt xs) (λ d. start ≤ d)
doubt-from start last doubt [] low all from = from
doubt-from start last doubt (Publish epoch ∷ xs) low all from = doubt-from start last None xs low all.1 tt
doubt-from start last doubt (Doubt epoch ∷ xs) low all from = doubt-from start last (Some epoch) xs low all.1 (omega (arith, all.0))
doubt-from start last doubt (Freeze by epoch ∷ xs) low all from = doubt-from start epoch doubt xs (omega (arith, all.0)) all.1 from
doubt-from start last doubt (other ∷ xs) low all from = doubt-from start last doubt xs low all.1 from
