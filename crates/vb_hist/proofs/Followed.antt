-- A history with a cut at its end, and the publication that may follow it.
use Rattle.std.proofs.Common.{◌≡◌, ◌≢◌, ℕ, ◌<◌, ◌≤◌, ◌⊎◌, inl, inr, true, IfSome, List, [], ◌∷◌, ◌++◌, append_assoc, Some, refl, ap, sym, ◌∙◌, subst, arith}
use Rattle.std.specs.Prelude.{nat_lt}
use Rattle.std.proofs.lemmas.List.Sums.{fold-append}
use Rattle.std.proofs.lemmas.Bool.{cases_lt}
use Rattle.std.proofs.lemmas.Bool.Decides.{nat_tests}
use Rattle.vb_tree.specs.declared.tree.Limits.{Limits}
use Rattle.vb_tree.specs.declared.tree.TreeEntry.{TreeEntry}
use Rattle.vb_hist.specs.declared.entry.Entry.{Entry}
use Rattle.vb_hist.specs.declared.entry.Entry.TheVariants.{Publish, Cut}
use Rattle.vb_hist.specs.declared.entry.Stage.TheVariants.{Written}
use Rattle.vb_hist.specs.Histories.{IsFrozenAt, folder_after, survivors_after, surviving}
use Rattle.vb_hist.specs.Cuts.{HasDoubtBelow, IsCutBack}
use Rattle.vb_hist.specs.declared.marks.Marks.{Marks}
use Rattle.vb_hist.specs.Legal.{IsLegal, MayFollow, Opening, folder_at, folder_of, marks_of, waiting_view}
use Rattle.vb_hist.proofs.Growth.{legal-back, legal-front, legal-last, legal-push}
use Rattle.vb_hist.proofs.Marked.{IsPast}
use Rattle.vb_hist.proofs.Newer.{IsNewer}
use Rattle.vb_hist.proofs.Cuts.{cut-parted, line_marks, parted}
use Rattle.vb_hist.proofs.Ordered.{IsNotBelow, cut-doubts, cut-marks, cut-not_below, ordered}
use Rattle.vb_hist.proofs.Earlier.{cut-folder}

-- what survives of a history with one more entry
pub surviving-step : (start : ℕ) (history : List Entry) (entry : Entry) → surviving start (history ++ entry ∷ []) ≡ survivors_after start (surviving start history) entry
surviving-step start history entry = fold-append (survivors_after start) [] history (entry ∷ [])

pub marks-cut : (o : Opening) (history : List Entry) (epoch : ℕ) (limits : Limits) → IsLegal o history → IsFrozenAt o.start epoch (surviving o.start history) → IsNotBelow o (surviving o.start history) epoch
    → IsCutBack (marks_of o history) epoch limits (marks_of o (history ++ Cut epoch limits ∷ []))
marks-cut o history epoch limits legal frozen above =
    let s = ordered o history legal in
    subst (λ l. IsCutBack (marks_of o history) epoch limits (line_marks o l)) (sym (surviving-step o.start history (Cut epoch limits)))
    (cut-marks o (surviving o.start history) epoch limits s above (parted o.start epoch (surviving o.start history) s.order frozen))

pub doubt-cut : (o : Opening) (history : List Entry) (epoch : ℕ) (limits : Limits) → IsLegal o history → IsFrozenAt o.start epoch (surviving o.start history)
    → HasDoubtBelow (marks_of o history) epoch (marks_of o (history ++ Cut epoch limits ∷ []))
doubt-cut o history epoch limits legal frozen =
    let s = ordered o history legal in
    subst (λ l. HasDoubtBelow (marks_of o history) epoch (line_marks o l)) (sym (surviving-step o.start history (Cut epoch limits)))
    (cut-doubts o (surviving o.start history) epoch limits s (parted o.start epoch (surviving o.start history) s.order frozen))

pub legal_cut-not_below : (o : Opening) (history : List Entry) (epoch : ℕ) (limits : Limits) → IsLegal o (history ++ Cut epoch limits ∷ []) → IsNotBelow o (surviving o.start history) epoch
legal_cut-not_below o history epoch limits legal =
    cut-not_below o (surviving o.start history) (folder_of o history) epoch limits (ordered o history (legal-front o [] history (Cut epoch limits) legal)) (legal-last o [] history (Cut epoch limits) legal)

pub legal_cut-marks : (o : Opening) (history : List Entry) (epoch : ℕ) (limits : Limits) → IsLegal o (history ++ Cut epoch limits ∷ []) → IsCutBack (marks_of o history) epoch limits (marks_of o (history ++ Cut epoch limits ∷ []))
legal_cut-marks o history epoch limits legal =
    marks-cut o history epoch limits (legal-front o [] history (Cut epoch limits) legal) (legal-back o [] history (Cut epoch limits) legal) (legal_cut-not_below o history epoch limits legal)

pub folder-cut : (o : Opening) (history : List Entry) (epoch : ℕ) (limits : Limits) → IsLegal o history → IsFrozenAt o.start epoch (surviving o.start history) → folder_of o (history ++ Cut epoch limits ∷ []) ≡ folder_at o history epoch
folder-cut o history epoch limits legal frozen =
    let s = ordered o history legal in
    let p = parted o.start epoch (surviving o.start history) s.order frozen in
    ap (folder_after o.base) (surviving-step o.start history (Cut epoch limits) ∙ cut-parted o.start epoch limits (surviving o.start history) p)
    ∙ cut-folder o (surviving o.start history) epoch limits p.0

-- a doubt is above the published epoch, where the opening isn't behind, and has its freeze
pub doubt-above : (o : Opening) (history : List Entry) (doubt : ℕ) → IsLegal o history → o.published ≤ o.start → (marks_of o history).doubt ≡ Some doubt → ((marks_of o history).published < doubt) × IsPast o.start (marks_of o history) doubt
doubt-above o history doubt legal behind is =
    let m = marks_of o history in
    let s = ordered o history legal in
    let h = subst (λ x. IfSome x (λ e. IsPast o.start (marks_of o history) e × IsNewer o.start o.published (marks_of o history).published e)) is s.sound.doubt in
    (elim h.1 [ inl ahead ↦ absurd (omega (arith, ahead.1, behind)) | inr above ↦ above ], h.0)

-- the epoch of a legal cut isn't below the doubt, but where it is the published one
doubt-reached : (m : Marks) (folder : List TreeEntry) (start epoch doubt : ℕ) (limits : Limits) → MayFollow m folder (Cut epoch limits) → epoch ≢ m.published → m.doubt ≡ Some doubt → IsPast start m doubt → doubt ≤ epoch
doubt-reached m folder start epoch doubt limits (inl is) not here past = omega (arith, past.1, is)
doubt-reached m folder start epoch doubt limits (inr (inl is)) not here past = omega (arith, past.2 is.1, is.0)
doubt-reached m folder start epoch doubt limits (inr (inr (inl is))) not here past = absurd (not is)
doubt-reached m folder start epoch doubt limits (inr (inr (inr is))) not here past = let same : doubt ≡ epoch = cc in omega (arith, same)

waits : (published epoch : ℕ) → published < epoch → waiting_view epoch published ≡ Some epoch
waits published epoch above = let is : nat_lt published epoch ≡ true = grind (arith, nat_tests) in rw is refl

pub publication-after_cut : (o : Opening) (history : List Entry) (epoch doubt : ℕ) (limits : Limits) → IsLegal o (history ++ Cut epoch limits ∷ []) → o.published ≤ o.start → (marks_of o history).doubt ≡ Some doubt
    → epoch ≢ (marks_of o history).published → IsLegal o (history ++ Cut epoch limits ∷ Publish doubt ∷ [])
publication-after_cut o history epoch doubt limits legal behind here not =
    let front = legal-front o [] history (Cut epoch limits) legal in
    let frozen = legal-back o [] history (Cut epoch limits) legal in
    let c = legal_cut-marks o history epoch limits legal in
    let g = doubt-cut o history epoch limits front frozen in
    let above = doubt-above o history doubt front behind here in
    let reached = doubt-reached (marks_of o history) (folder_of o history) o.start epoch doubt limits (legal-last o [] history (Cut epoch limits) legal) not here above.1 in
    subst (IsLegal o) (append_assoc history (Cut epoch limits ∷ []) (Publish doubt ∷ []))
    (legal-push o [] (history ++ Cut epoch limits ∷ []) (Publish doubt) legal
    (omega (arith, c.published, above.0), follows c g above.0 reached (cases_lt doubt epoch)) tt)
  where
    follows : {n : Marks} → IsCutBack (marks_of o history) epoch limits n → HasDoubtBelow (marks_of o history) epoch n → (marks_of o history).published < doubt → doubt ≤ epoch → ((doubt < epoch) ⊎ (epoch ≤ doubt))
        → ((n.standing ≡ Some doubt) × (n.stage ≢ Written)) ⊎ (n.doubt ≡ Some doubt)
    follows {n} c g above reached (inl below) = inr (g.stays doubt here below)
    follows {n} c g above reached (inr same) =
        let is : doubt ≡ epoch = omega (arith, reached, same) in
        inl (c.standing ∙ waits (marks_of o history).published epoch (omega (arith, above, is)) ∙ ap Some (sym is), λ w. cc (c.stage))
