-- What the cloud shows of a legal history only grows.
use Rattle.std.proofs.Common.{◌≡◌, ◌≢◌, ℕ, ◌≤◌, ◌⊎◌, inl, inr, Bool, true, false, ◌==◌, if◌then◌else◌, List, [], ◌∷◌, ◌++◌, append_assoc, append-nil, refl, ap, sym, ◌∙◌, subst, arith}
use Rattle.std.specs.List.{fold}
use Rattle.std.proofs.lemmas.List.Sums.{fold-append}
use Rattle.std.proofs.lemmas.Bool.Decides.{eqb_tells}
use mathlib.Core.List.{IsPrefix}
use Rattle.vb_tree.specs.declared.tree.Limits.{Limits}
use Rattle.vb_tree.specs.declared.tree.TreeEntry.{TreeEntry}
use Rattle.vb_hist.specs.declared.entry.Entry.{Entry}
use Rattle.vb_hist.specs.declared.entry.Entry.TheVariants.{Publish, Cut}
use Rattle.vb_hist.specs.Histories.{IsFrozenAt, folder_after, survivors_after, surviving, up_to_epoch}
use Rattle.vb_hist.specs.declared.marks.Marks.{Marks}
use Rattle.vb_hist.specs.Legal.{AreLegalAfter, GoesBackToFreeze, IsLegal, MayFollow, Opening, marks_after, marks_at_start, marks_of}
use Rattle.vb_hist.specs.Openings.{published_front}
use Rattle.vb_hist.proofs.Fronts.{up_to_epoch-append}
use Rattle.vb_hist.proofs.Outlived.{published-fold, rise-grows}
use Rattle.vb_hist.proofs.Newer.{newer-rise}
use Rattle.vb_hist.proofs.Marked.{publishes-past}
use Rattle.vb_hist.proofs.Cuts.{line_marks, parted}
use Rattle.vb_hist.proofs.Ordered.{IsNotBelow, IsOrdered, cut-marks, cut-not_below, ordered, ordered-all, ordered-start, ordered-step}
use Rattle.vb_hist.proofs.Earlier.{bounds-frozen, earlier-cut, fronts-extend}
use Rattle.vb_hist.proofs.Going.{legal-first, legal-later}

-- what the cloud shows of a surviving list
abbrev pub shown_of : Opening → List Entry → List Entry
shown_of o line = published_front o line (line_marks o line).published

-- the one goes on from the other, and its published epoch isn't below
pub record Extends (o : Opening) (before after : List Entry) : Type 0 where
  pub front : IsPrefix (shown_of o before) (shown_of o after)
  pub epoch : (line_marks o before).published ≤ (line_marks o after).published

pub prefix-then : {X : Type 0} (xs ys zs : List X) → IsPrefix xs ys → IsPrefix ys zs → IsPrefix xs zs
prefix-then xs ys zs p q = (p.0 ++ q.0, sym (append_assoc xs p.0 q.0) ∙ ap (λ l. l ++ q.0) p.1 ∙ q.1)

pub prefix-same : {X : Type 0} (xs ys : List X) → xs ≡ ys → IsPrefix xs ys
prefix-same xs ys is = ([], append-nil xs ∙ is)

-- the list that is shown is the same where its epoch is, and the entries up to that
shown-same : (o : Opening) (before after : List Entry) (epoch : ℕ) → (line_marks o before).published ≡ epoch → (line_marks o after).published ≡ epoch
    → ((epoch ≡ o.published) ⊎ (up_to_epoch o.start epoch after ≡ up_to_epoch o.start epoch before)) → Extends o before after
shown-same o before after epoch was is which = record {
  front = prefix-same (shown_of o before) (shown_of o after) (ap (published_front o before) was ∙ at (epoch == o.published) (eqb_tells epoch o.published) which ∙ ap (published_front o after) (sym is));
  epoch = omega (arith, was, is);
}
  where
    at : (b : Bool) → ((b ≡ true) × (epoch ≡ o.published)) ⊎ ((b ≡ false) × (epoch ≢ o.published)) → ((epoch ≡ o.published) ⊎ (up_to_epoch o.start epoch after ≡ up_to_epoch o.start epoch before))
        → (if b then [] else up_to_epoch o.start epoch before) ≡ (if b then [] else up_to_epoch o.start epoch after)
    at true h which = refl
    at false (inl h) which = cc
    at false (inr h) (inl same) = absurd (h.1 same)
    at false (inr h) (inr same) = sym same

-- the published epoch is the opening's or has its freeze
published-frozen : (o : Opening) (line : List Entry) → IsOrdered o line → ((line_marks o line).published ≡ o.published) ⊎ IsFrozenAt o.start (line_marks o line).published line
published-frozen o line s = elim s.sound.published [ inl is ↦ inl is | inr past ↦ inr (bounds-frozen o.start (line_marks o line).published line s.order past.0 (omega (arith, past.1, s.last))) ]

-- an entry that publishes nothing and cuts nothing
extends-plain : (o : Opening) (line : List Entry) (entry : Entry) → IsOrdered o line → (marks_after (line_marks o line) entry).published ≡ (line_marks o line).published → Extends o line (line ++ entry ∷ [])
extends-plain o line entry s same =
    shown-same o line (line ++ entry ∷ []) (line_marks o line).published refl
    (ap (λ (m : Marks). m.published) (fold-append marks_after (marks_at_start o) line (entry ∷ [])) ∙ same)
    (elim (published-frozen o line s) [ inl is ↦ inl is | inr frozen ↦ inr (up_to_epoch-append o.start (line_marks o line).published line (entry ∷ []) frozen) ])

extends-publish : (o : Opening) (line : List Entry) (folder : List TreeEntry) (epoch : ℕ) → IsOrdered o line → MayFollow (line_marks o line) folder (Publish epoch) → Extends o line (line ++ Publish epoch ∷ [])
extends-publish o line folder epoch s may =
    let past = publishes-past o.start o.published (line_marks o line) folder epoch s.sound may in
    let frozen : IsFrozenAt o.start epoch line = bounds-frozen o.start epoch line s.order past.0 (omega (arith, past.1, s.last)) in
    let is : (line_marks o (line ++ Publish epoch ∷ [])).published ≡ epoch = ap (λ (m : Marks). m.published) (fold-append marks_after (marks_at_start o) line (Publish epoch ∷ [])) in
    let rose : o.published ≤ (line_marks o line).published = subst (λ q. o.published ≤ q) (sym (published-fold (marks_at_start o) line)) (rise-grows o.published _ (newer-rise o.start o.published o.published line s.newer)) in
    let other : (epoch == o.published) ≡ false = elim (eqb_tells epoch o.published) [ inl same ↦ absurd (omega (arith, same.1, rose, may.0)) | inr unlike ↦ unlike.0 ] in
    let new : shown_of o (line ++ Publish epoch ∷ []) ≡ up_to_epoch o.start epoch line =
    ap (published_front o (line ++ Publish epoch ∷ [])) is ∙ ap (λ b. if b then [] else up_to_epoch o.start epoch (line ++ Publish epoch ∷ [])) other ∙ up_to_epoch-append o.start epoch line (Publish epoch ∷ []) frozen in
    record {
      front = subst (λ l. IsPrefix (shown_of o line) l) (sym new) (at ((line_marks o line).published == o.published) (eqb_tells (line_marks o line).published o.published) (published-frozen o line s) frozen);
      epoch = omega (arith, is, may.0);
    }
  where
    at : (b : Bool) → ((b ≡ true) × ((line_marks o line).published ≡ o.published)) ⊎ ((b ≡ false) × ((line_marks o line).published ≢ o.published))
        → ((line_marks o line).published ≡ o.published) ⊎ IsFrozenAt o.start (line_marks o line).published line → IsFrozenAt o.start epoch line
        → IsPrefix (if b then [] else up_to_epoch o.start (line_marks o line).published line) (up_to_epoch o.start epoch line)
    at true h which frozen = (up_to_epoch o.start epoch line, refl)
    at false (inl h) which frozen = cc
    at false (inr h) (inl same) frozen = absurd (h.1 same)
    at false (inr h) (inr there) frozen = fronts-extend o.start (line_marks o line).published epoch line s.order there frozen (omega (arith, may.0))

extends-cut : (o : Opening) (line : List Entry) (epoch : ℕ) (limits : Limits) → IsOrdered o line → IsNotBelow o line epoch → IsFrozenAt o.start epoch line → Extends o line (survivors_after o.start line (Cut epoch limits))
extends-cut o line epoch limits s above frozen =
    let c = cut-marks o line epoch limits s above (parted o.start epoch line s.order frozen) in
    shown-same o line (survivors_after o.start line (Cut epoch limits)) (line_marks o line).published refl c.published (at above (published-frozen o line s))
  where
    at : IsNotBelow o line epoch → ((line_marks o line).published ≡ o.published) ⊎ IsFrozenAt o.start (line_marks o line).published line
        → ((line_marks o line).published ≡ o.published) ⊎ (up_to_epoch o.start (line_marks o line).published (survivors_after o.start line (Cut epoch limits)) ≡ up_to_epoch o.start (line_marks o line).published line)
    at (inl is) which = inl is
    at (inr below) (inl is) = inl is
    at (inr below) (inr there) = inr (earlier-cut o.start (line_marks o line).published epoch limits line s.order there frozen below)

extends-step : (o : Opening) (line : List Entry) (folder : List TreeEntry) (entry : Entry) → IsOrdered o line → MayFollow (line_marks o line) folder entry → GoesBackToFreeze o.start line entry → Extends o line (survivors_after o.start line entry)
extends-step o line folder (Publish epoch) s may back = extends-publish o line folder epoch s may
extends-step o line folder (Cut epoch limits) s may back = extends-cut o line epoch limits s (cut-not_below o line folder epoch limits s may) back
extends-step o line folder other s may back = extends-plain o line other s refl

extends-all : (o : Opening) (line entries : List Entry) → IsOrdered o line → AreLegalAfter o line entries → Extends o line (fold (survivors_after o.start) line entries)
extends-all o line [] s legal = record { front = prefix-same (shown_of o line) (shown_of o line) refl; epoch = omega arith }
extends-all o line (entry ∷ entries) s legal =
    let next = survivors_after o.start line entry in
    let first = extends-step o line (folder_after o.base line) entry s legal.0 legal.1 in
    let rest = extends-all o next entries (ordered-step o line (folder_after o.base line) entry s legal.0 legal.1) legal.2 in
    record {
      front = prefix-then (shown_of o line) (shown_of o next) (shown_of o (fold (survivors_after o.start) next entries)) first.front rest.front;
      epoch = omega (arith, first.epoch, rest.epoch);
    }

-- what is published of a legal history is a front of what is published later
pub extends-later : (o : Opening) (history later : List Entry) → IsLegal o (history ++ later) → Extends o (surviving o.start history) (surviving o.start (history ++ later))
extends-later o history later legal =
    subst (Extends o (surviving o.start history)) (sym (fold-append (survivors_after o.start) [] history later))
    (extends-all o (surviving o.start history) later (ordered-all o [] history (ordered-start o) (legal-first o [] history later legal)) (legal-later o [] history later legal))

-- over one cut alone, wherever it goes back to but below what is published
pub extends-over_cut : (o : Opening) (history : List Entry) (epoch : ℕ) (limits : Limits) → IsLegal o history → IsFrozenAt o.start epoch (surviving o.start history) → (marks_of o history).published ≤ epoch
    → Extends o (surviving o.start history) (surviving o.start (history ++ Cut epoch limits ∷ []))
extends-over_cut o history epoch limits legal frozen above =
    subst (Extends o (surviving o.start history)) (sym (fold-append (survivors_after o.start) [] history (Cut epoch limits ∷ [])))
    (extends-cut o (surviving o.start history) epoch limits (ordered o history legal) (inr above) frozen)
