-- A cut: the list that it splits, and the marks after it.
use Rattle.std.proofs.Common.{◌≡◌, ◌≢◌, ℕ, ◌<◌, ◌≤◌, ◌⊎◌, inl, inr, Bool, true, false, ◌||◌, ◌==◌, if◌then◌else◌, IsTrue, IfSome, List, [], ◌∷◌, ◌++◌, length, drop, Option, Some, None, refl, ap, sym, ◌∙◌, subst, arith}
use Rattle.std.specs.List.{fold, filter, list_any}
use Rattle.std.proofs.lemmas.List.{drop_at}
use Rattle.std.proofs.lemmas.Bool.Decides.{eqb_tells}
use Rattle.vb_tree.specs.declared.tree.Limits.{Limits}
use Rattle.vb_hist.specs.declared.entry.Entry.{Entry}
use Rattle.vb_hist.specs.declared.entry.Entry.TheVariants.{Publish, Cut}
use Rattle.vb_hist.specs.Histories.{IsFrozenAt, is_freeze_of, outlives_cut, survivors_after, up_to_epoch, up_to_freeze}
use Rattle.vb_hist.specs.Cuts.{HasDoubtBelow, IsCutBack}
use Rattle.vb_hist.specs.Epochs.{publications_of, RiseAbove, last_or}
use Rattle.vb_hist.specs.declared.marks.Marks.{Marks}
use Rattle.vb_hist.specs.Legal.{Opening, marks_after, marks_at_start, waiting_view}
use Rattle.vb_hist.proofs.Fronts.{up_to_freeze-front}
use Rattle.vb_hist.proofs.Order.{IsInOrder, last_after, up_to-last}
use Rattle.vb_hist.proofs.Outlived.{doubt_after, doubt-fold, kept-none, kept-published, kept-standing, kept-stays, published-fold}
use Rattle.vb_hist.proofs.Doubts.{IsKeptOrLate, doubt-before, doubt-behind}

-- the marks after these entries
abbrev pub line_marks : Opening → List Entry → Marks
line_marks o line = fold marks_after (marks_at_start o) line

-- a list parted at the freeze of an epoch, or at its beginning
pub record IsParted (start epoch : ℕ) (line front rest : List Entry) : Type 0 where
  pub whole : front ++ rest ≡ line
  pub last : last_after start front ≡ epoch
  pub doubt : IfSome (fold doubt_after None front) (λ d. d < epoch)

abbrev pub Parted : ℕ → ℕ → List Entry → Type 0
Parted start epoch line = (rest : List Entry) × IsParted start epoch line (up_to_epoch start epoch line) rest

pub parted : (start epoch : ℕ) (line : List Entry) → IsInOrder start line → IsFrozenAt start epoch line → Parted start epoch line
parted start epoch line order frozen = at (epoch == start) (eqb_tells epoch start) frozen
  where
    at : (b : Bool) → ((b ≡ true) × (epoch ≡ start)) ⊎ ((b ≡ false) × (epoch ≢ start)) → IsTrue (b || list_any (is_freeze_of epoch) line)
        → (rest : List Entry) × IsParted start epoch line (if b then [] else up_to_freeze epoch line) rest
    at true is there = elim is [ inl h ↦ (line, record { whole = refl; last = sym h.1; doubt = tt }) | inr h ↦ cc ]
    at false is there =
        let front = up_to_freeze-front epoch line in
        (front.0, record { whole = front.1; last = up_to-last start epoch line there; doubt = doubt-before epoch start None line order tt there })

-- what a cut leaves of a parted list
pub cut-parted : (start epoch : ℕ) (limits : Limits) (line : List Entry) (p : Parted start epoch line)
    → survivors_after start line (Cut epoch limits) ≡ up_to_epoch start epoch line ++ Cut epoch limits ∷ filter outlives_cut p.0
cut-parted start epoch limits line p =
    let front = up_to_epoch start epoch line in
    let dropped : drop (length (up_to_epoch start epoch line)) line ≡ p.0 =
    ap (drop (length (up_to_epoch start epoch line))) (sym p.1.whole) ∙ drop_at (up_to_epoch start epoch line) p.0 (length (up_to_epoch start epoch line)) refl in
    ap (λ (l : List Entry). up_to_epoch start epoch line ++ Cut epoch limits ∷ filter outlives_cut l) dropped

-- what holds of a doubt holds of one that what outlives a cut leaves
pub kept-doubt : (P : ℕ → Type 0) (doubt : Option ℕ) (xs : List Entry) → IfSome doubt P → IfSome (fold doubt_after doubt (filter outlives_cut xs)) P
kept-doubt P doubt [] h = h
kept-doubt P doubt (Publish epoch ∷ xs) h = kept-doubt P None xs tt
kept-doubt P doubt (other ∷ xs) h = kept-doubt P doubt xs h

-- the marks after the cut of entries that follow these marks
pub cut-back : (m : Marks) (epoch : ℕ) (limits : Limits) (rest : List Entry) → RiseAbove m.published (publications_of rest)
    → (publications_of rest ≡ []) ⊎ ((fold marks_after m rest).published ≤ epoch)
    → IsCutBack (fold marks_after m rest) epoch limits (fold marks_after (marks_after m (Cut epoch limits)) (filter outlives_cut rest))
cut-back m epoch limits rest rise above =
    let keeps = kept-stays (marks_after m (Cut epoch limits)) rest in
    let shown : (fold marks_after m rest).published ≡ last_or m.published (publications_of rest) = published-fold m rest in
    let after : (fold marks_after (marks_after m (Cut epoch limits)) (filter outlives_cut rest)).published ≡ last_or m.published (publications_of rest) = kept-published (marks_after m (Cut epoch limits)) rest in
    record {
      last = keeps.last;
      stage = keeps.stage;
      standing = stands above ∙ ap (waiting_view epoch) (sym shown);
      published = after ∙ sym shown;
      limits_are = keeps.limits;
    }
  where
    stands : (publications_of rest ≡ []) ⊎ ((fold marks_after m rest).published ≤ epoch)
        → (fold marks_after (marks_after m (Cut epoch limits)) (filter outlives_cut rest)).standing ≡ waiting_view epoch (last_or m.published (publications_of rest))
    stands (inl none) =
        ap (λ l. (fold marks_after (marks_after m (Cut epoch limits)) l).standing) (kept-none rest none) ∙ ap (λ l. waiting_view epoch (last_or m.published l)) (sym none)
    stands (inr below) = kept-standing (marks_after m (Cut epoch limits)) epoch rest rise refl (subst (λ q. q ≤ epoch) (published-fold m rest) below)

-- and its doubt
pub cut-doubt : (m : Marks) (epoch : ℕ) (limits : Limits) (rest : List Entry) → IsInOrder epoch rest → IfSome m.doubt (λ d. d < epoch)
    → HasDoubtBelow (fold marks_after m rest) epoch (fold marks_after (marks_after m (Cut epoch limits)) (filter outlives_cut rest))
cut-doubt m epoch limits rest order low =
    let old : (fold marks_after m rest).doubt ≡ fold doubt_after m.doubt rest = doubt-fold m rest in
    let new : (fold marks_after (marks_after m (Cut epoch limits)) (filter outlives_cut rest)).doubt ≡ fold doubt_after m.doubt (filter outlives_cut rest) = doubt-fold (marks_after m (Cut epoch limits)) (filter outlives_cut rest) in
    let which = doubt-behind epoch epoch m.doubt rest order (omega arith) in
    record {
      stays = λ d is below. new ∙ stays d (sym old ∙ is) below which;
      none = λ is. new ∙ none (sym old ∙ is) which;
      below = subst (λ x. IfSome x (λ d. d < epoch)) (sym new) (kept-doubt (λ d. d < epoch) m.doubt rest low);
    }
  where
    stays : (d : ℕ) → fold doubt_after m.doubt rest ≡ Some d → d < epoch → IsKeptOrLate epoch m.doubt rest → fold doubt_after m.doubt (filter outlives_cut rest) ≡ Some d
    stays d is below (inl same) = sym same ∙ is
    stays d is below (inr late) = let e : d ≡ late.0 = cc (late.2) in absurd (omega (arith, late.1, e, below))

    none : fold doubt_after m.doubt rest ≡ None → IsKeptOrLate epoch m.doubt rest → fold doubt_after m.doubt (filter outlives_cut rest) ≡ None
    none is (inl same) = sym same ∙ is
    none is (inr late) = cc (late.2)
