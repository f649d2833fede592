-- Which histories make openings.
use Rattle.std.proofs.Common.{◌≡◌, ℕ, inl, inr, if◌then◌else◌, List, [], ◌∷◌, ◌++◌, append_assoc, refl, ap, sym, ◌∙◌, subst, arith}
use Rattle.std.proofs.lemmas.Bool.Decides.{eqb_tells}
use Rattle.vb_tree.specs.declared.tree.Limits.{Limits}
use Rattle.vb_hist.specs.declared.entry.Entry.{Entry}
use Rattle.vb_hist.specs.declared.entry.Entry.TheVariants.{Publish, Cut}
use Rattle.vb_hist.specs.Histories.{IsFrozenAt, folder_after, surviving, up_to_epoch}
use Rattle.vb_hist.specs.declared.marks.Marks.{Marks}
use Rattle.vb_hist.specs.Legal.{IsLegal, Opening, folder_at, folder_of, marks_after, marks_of, standing_without, waiting_view}
use Rattle.vb_hist.specs.Openings.{MakesOpening}
use Rattle.vb_hist.proofs.Fronts.{up_to_epoch-append}
use Rattle.vb_hist.proofs.Pushed.{folder_of-push, marks_of-push, surviving-push}
use Rattle.vb_hist.proofs.Growth.{legal-back, legal-front, legal-last}
use Rattle.vb_hist.proofs.Outlived.{waiting-published}
use Rattle.vb_hist.proofs.Marked.{publishes-past}
use Rattle.vb_hist.proofs.Ordered.{ordered}
use Rattle.vb_hist.proofs.Earlier.{bounds-frozen, earlier-cut}
use Rattle.vb_hist.proofs.Followed.{folder-cut, legal_cut-marks, surviving-step}

pub makes-none : (o : Opening) → MakesOpening o []
makes-none o = record { rested = refl; waits = refl; tree = elim (eqb_tells o.start o.start) [ inl is ↦ ap (λ b. folder_after o.base (if b then [] else [])) (sym is.0) | inr not ↦ absurd (not.1 refl) ] }

pub makes-cut : (o : Opening) (history : List Entry) (epoch : ℕ) (limits : Limits) → IsLegal o (history ++ Cut epoch limits ∷ []) → MakesOpening o (history ++ Cut epoch limits ∷ [])
makes-cut o history epoch limits legal =
    let c = legal_cut-marks o history epoch limits legal in
    let front = legal-front o [] history (Cut epoch limits) legal in
    let frozen = legal-back o [] history (Cut epoch limits) legal in
    let s = ordered o history front in
    let same : folder_at o (history ++ Cut epoch limits ∷ []) epoch ≡ folder_at o history epoch =
    ap (λ l. folder_after o.base (up_to_epoch o.start epoch l)) (surviving-step o.start history (Cut epoch limits))
    ∙ ap (folder_after o.base) (earlier-cut o.start epoch epoch limits (surviving o.start history) s.order frozen frozen (omega arith)) in
    record {
      rested = c.stage;
      waits = c.standing ∙ ap (waiting_view epoch) (sym c.published) ∙ ap (λ l. waiting_view l (marks_of o (history ++ Cut epoch limits ∷ [])).published) (sym c.last);
      tree = folder-cut o history epoch limits front frozen ∙ sym same ∙ ap (folder_at o (history ++ Cut epoch limits ∷ [])) (sym c.last);
    }

-- a publication leaves an opening, whose waiting view goes where it is the one that is published
pub makes-publish : (o : Opening) (history : List Entry) (epoch : ℕ) → IsLegal o (history ++ Publish epoch ∷ []) → MakesOpening o history → MakesOpening o (history ++ Publish epoch ∷ [])
makes-publish o history epoch legal makes =
    let front = legal-front o [] history (Publish epoch) legal in
    let may = legal-last o [] history (Publish epoch) legal in
    let s = ordered o history front in
    let past = publishes-past o.start o.published (marks_of o history) (folder_of o history) epoch s.sound may in
    let step : marks_of o (history ++ Publish epoch ∷ []) ≡ marks_after (marks_of o history) (Publish epoch) = marks_of-push o history (Publish epoch) refl in
    let there : IsFrozenAt o.start (marks_of o history).last (surviving o.start history) =
    bounds-frozen o.start (marks_of o history).last (surviving o.start history) s.order s.sound.from (omega (arith, s.last)) in
    let same : folder_at o (history ++ Publish epoch ∷ []) (marks_of o history).last ≡ folder_at o history (marks_of o history).last =
    ap (λ l. folder_after o.base (up_to_epoch o.start (marks_of o history).last l)) (surviving-push o.start history (Publish epoch) refl)
    ∙ ap (folder_after o.base) (up_to_epoch-append o.start (marks_of o history).last (surviving o.start history) (Publish epoch ∷ []) there) in
    record {
      rested = ap (λ (m : Marks). m.stage) step ∙ makes.rested;
      waits = ap (λ (m : Marks). m.standing) step ∙ ap (λ x. standing_without x epoch) makes.waits ∙ waiting-published (marks_of o history).last (marks_of o history).published epoch may.0 past.1
          ∙ ap (λ (m : Marks). waiting_view m.last m.published) (sym step);
      tree = folder_of-push o history (Publish epoch) refl ∙ makes.tree ∙ sym same ∙ ap (λ (m : Marks). folder_at o (history ++ Publish epoch ∷ []) m.last) (sym step);
    }

pub makes-cut_published : (o : Opening) (history : List Entry) (epoch published : ℕ) (limits : Limits) → IsLegal o (history ++ Cut epoch limits ∷ Publish published ∷ []) → MakesOpening o (history ++ Cut epoch limits ∷ Publish published ∷ [])
makes-cut_published o history epoch published limits legal =
    let joined : (history ++ Cut epoch limits ∷ []) ++ Publish published ∷ [] ≡ history ++ Cut epoch limits ∷ Publish published ∷ [] = append_assoc history (Cut epoch limits ∷ []) (Publish published ∷ []) in
    let all : IsLegal o ((history ++ Cut epoch limits ∷ []) ++ Publish published ∷ []) = subst (IsLegal o) (sym joined) legal in
    subst (MakesOpening o) joined (makes-publish o (history ++ Cut epoch limits ∷ []) published all (makes-cut o history epoch limits (legal-front o [] (history ++ Cut epoch limits ∷ []) (Publish published) all)))
