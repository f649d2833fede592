-- What outlives a cut: the publications, and what they make of marks.
use Rattle.std.proofs.Common.{◌≡◌, ℕ, ◌<◌, ◌≤◌, ◌⊎◌, inl, inr, Bool, true, false, ◌==◌, if◌then◌else◌, List, [], ◌∷◌, ◌++◌, Option, Some, None, refl, ap, ◌∙◌, arith}
use Rattle.std.specs.Prelude.{nat_lt}
use Rattle.std.specs.List.{fold, filter}
use Rattle.std.proofs.lemmas.Bool.Decides.{nat_tests}
use Rattle.vb_hist.specs.declared.entry.Entry.{Entry}
use Rattle.vb_hist.specs.declared.entry.Entry.TheVariants.{Publish, Doubt}
use Rattle.vb_hist.specs.Histories.{outlives_cut}
use Rattle.vb_hist.specs.Epochs.{publications_of, RiseAbove, last_or}
use Rattle.vb_hist.specs.declared.marks.Marks.{Marks}
use Rattle.vb_hist.specs.Legal.{marks_after, standing_without, waiting_view}

-- the doubt after one more entry
abbrev pub doubt_after : Option ℕ → Entry → Option ℕ
doubt_after doubt (Doubt epoch) = Some epoch
doubt_after doubt (Publish epoch) = None
doubt_after doubt other = doubt

doubt-step : (m : Marks) (entry : Entry) → (marks_after m entry).doubt ≡ doubt_after m.doubt entry
doubt-step m (Doubt epoch) = refl
doubt-step m other = refl

pub doubt-fold : (m : Marks) (xs : List Entry) → (fold marks_after m xs).doubt ≡ fold doubt_after m.doubt xs
doubt-fold m [] = refl
doubt-fold m (x ∷ xs) = doubt-fold (marks_after m x) xs ∙ ap (λ d. fold doubt_after d xs) (doubt-step m x)

pub published-fold : (m : Marks) (xs : List Entry) → (fold marks_after m xs).published ≡ last_or m.published (publications_of xs)
published-fold m [] = refl
published-fold m (Publish epoch ∷ xs) = published-fold (marks_after m (Publish epoch)) xs
published-fold m (other ∷ xs) = published-fold (marks_after m other) xs

pub last_or-append : (low : ℕ) (ms ns : List ℕ) → last_or low (ms ++ ns) ≡ last_or (last_or low ms) ns
last_or-append low [] ns = refl
last_or-append low (m ∷ ms) ns = last_or-append m ms ns

pub rise-append : (low : ℕ) (ms ns : List ℕ) → RiseAbove low ms → RiseAbove (last_or low ms) ns → RiseAbove low (ms ++ ns)
rise-append low [] ns first later = later
rise-append low (m ∷ ms) ns first later = (first.0, rise-append m ms ns first.1 later)

pub rise-front : (low : ℕ) (ms ns : List ℕ) → RiseAbove low (ms ++ ns) → RiseAbove low ms
rise-front low [] ns all = tt
rise-front low (m ∷ ms) ns all = (all.0, rise-front m ms ns all.1)

pub rise-rest : (low : ℕ) (ms ns : List ℕ) → RiseAbove low (ms ++ ns) → RiseAbove (last_or low ms) ns
rise-rest low [] ns all = all
rise-rest low (m ∷ ms) ns all = rise-rest m ms ns all.1

pub rise-grows : (low : ℕ) (ns : List ℕ) → RiseAbove low ns → low ≤ last_or low ns
rise-grows low [] all = omega arith
rise-grows low (n ∷ ns) all = omega (arith, all.0, rise-grows n ns all.1)

-- numbers that rise and end where they began are none
pub rise-none : (low : ℕ) (ns : List ℕ) → RiseAbove low ns → last_or low ns ≡ low → ns ≡ []
rise-none low [] all ends = refl
rise-none low (n ∷ ns) all ends = absurd (omega (arith, all.0, rise-grows n ns all.1, ends))

pub publications_of-kept : (xs : List Entry) → publications_of (filter outlives_cut xs) ≡ publications_of xs
publications_of-kept [] = refl
publications_of-kept (Publish epoch ∷ xs) = ap (λ l. epoch ∷ l) (publications_of-kept xs)
publications_of-kept (other ∷ xs) = publications_of-kept xs

-- what is kept is kept again
pub kept-kept : (xs : List Entry) → filter outlives_cut (filter outlives_cut xs) ≡ filter outlives_cut xs
kept-kept [] = refl
kept-kept (Publish epoch ∷ xs) = ap (λ l. Publish epoch ∷ l) (kept-kept xs)
kept-kept (other ∷ xs) = kept-kept xs

pub kept-none : (xs : List Entry) → publications_of xs ≡ [] → filter outlives_cut xs ≡ []
kept-none [] none = refl
kept-none (Publish epoch ∷ xs) none = cc
kept-none (other ∷ xs) none = kept-none xs none

-- the marks that what outlives a cut leaves
pub record StaysIn (m n : Marks) : Type 0 where
  pub last : n.last ≡ m.last
  pub stage : n.stage ≡ m.stage
  pub limits : n.limits ≡ m.limits

pub kept-stays : (m : Marks) (xs : List Entry) → StaysIn m (fold marks_after m (filter outlives_cut xs))
kept-stays m [] = record { last = refl; stage = refl; limits = refl }
kept-stays m (Publish epoch ∷ xs) = let s = kept-stays (marks_after m (Publish epoch)) xs in record { last = s.last; stage = s.stage; limits = s.limits }
kept-stays m (other ∷ xs) = kept-stays m xs

pub kept-published : (m : Marks) (xs : List Entry) → (fold marks_after m (filter outlives_cut xs)).published ≡ last_or m.published (publications_of xs)
kept-published m xs = published-fold m (filter outlives_cut xs) ∙ ap (last_or m.published) (publications_of-kept xs)

-- what stands of a waiting view after a later publication that isn't above it
pub waiting-published : (epoch low next : ℕ) → low < next → next ≤ epoch → standing_without (waiting_view epoch low) next ≡ waiting_view epoch next
waiting-published epoch low next rises below =
    let waits : nat_lt low epoch ≡ true = grind (arith, nat_tests) in
    rw waits (at (nat_lt next epoch) (epoch == next) (grind (arith, nat_tests)))
  where
    at : (b c : Bool) → ((b ≡ true) × (c ≡ false)) ⊎ ((b ≡ false) × (c ≡ true)) → (if c then None else Some epoch) ≡ (if b then Some epoch else None)
    at b c (inl is) = rw (is.0, is.1) refl
    at b c (inr is) = rw (is.0, is.1) refl

pub kept-standing : (m : Marks) (epoch : ℕ) (xs : List Entry) → RiseAbove m.published (publications_of xs) → m.standing ≡ waiting_view epoch m.published → last_or m.published (publications_of xs) ≤ epoch
    → (fold marks_after m (filter outlives_cut xs)).standing ≡ waiting_view epoch (last_or m.published (publications_of xs))
kept-standing m epoch [] rise waits below = waits
kept-standing m epoch (Publish next ∷ xs) rise waits below =
    let grows : next ≤ last_or next (publications_of xs) = rise-grows next (publications_of xs) rise.1 in
    kept-standing (marks_after m (Publish next)) epoch xs rise.1 (ap (λ s. standing_without s next) waits ∙ waiting-published epoch m.published next rise.0 (omega arith)) below
kept-standing m epoch (other ∷ xs) rise waits below = kept-standing m epoch xs rise waits below

-- without a publication among them nothing is changed, and else no doubt is left whatever it was
pub kept-clears : (xs : List Entry) → ((a b : Option ℕ) → fold doubt_after a (filter outlives_cut xs) ≡ fold doubt_after b (filter outlives_cut xs)) ⊎ (filter outlives_cut xs ≡ [])
kept-clears [] = inr refl
kept-clears (Publish epoch ∷ xs) = inl (λ a b. refl)
kept-clears (other ∷ xs) = kept-clears xs
