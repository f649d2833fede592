-- What one more entry makes of a history: of what survives, of its marks, of its folder and of the folder at an epoch.
use Rattle.std.proofs.Common.{◌≡◌, ℕ, Bool, true, false, ◌||◌, ◌==◌, IsTrue, List, [], ◌∷◌, ◌++◌, refl, ap, sym, ◌∙◌, subst}
use Rattle.std.specs.List.{fold, list_any, AllByRecursion}
use Rattle.std.proofs.lemmas.List.Sums.{fold-append}
use Rattle.std.proofs.lemmas.List.Folds.{list_any-append}
use Rattle.vb_hist.specs.declared.entry.Entry.{Entry}
use Rattle.vb_hist.specs.Histories.{HasNoCut, IsFrozenAt, folder_after, is_cut, is_freeze_of, survivors_after, surviving, tree_after_entry, up_to_epoch}
use Rattle.vb_hist.specs.Legal.{Opening, marks_after, marks_at_start, marks_of, folder_of, folder_at}
use Rattle.vb_hist.proofs.Survivors.{survivors-push, surviving-whole}
use Rattle.vb_hist.proofs.Fronts.{up_to_epoch-append}

-- what holds of each element and of one more
pub all-push : {X : Type 0} (P : X → Type 0) (xs : List X) (x : X) → AllByRecursion P xs → P x → AllByRecursion P (xs ++ x ∷ [])
all-push P [] x all here = (here, tt)
all-push P (y ∷ ys) x all here = (all.0, all-push P ys x all.1 here)

-- an entry that is no cut goes to the end of what survives
pub surviving-push : (start : ℕ) (history : List Entry) (entry : Entry) → is_cut entry ≡ false → surviving start (history ++ entry ∷ []) ≡ surviving start history ++ entry ∷ []
surviving-push start history entry h =
    fold-append (survivors_after start) [] history (entry ∷ []) ∙ survivors-push start (surviving start history) entry h

pub marks_of-push : (o : Opening) (history : List Entry) (entry : Entry) → is_cut entry ≡ false → marks_of o (history ++ entry ∷ []) ≡ marks_after (marks_of o history) entry
marks_of-push o history entry h =
    ap (λ l. fold marks_after (marks_at_start o) l) (surviving-push o.start history entry h)
    ∙ fold-append marks_after (marks_at_start o) (surviving o.start history) (entry ∷ [])

pub folder_of-push : (o : Opening) (history : List Entry) (entry : Entry) → is_cut entry ≡ false → folder_of o (history ++ entry ∷ []) ≡ tree_after_entry (folder_of o history) entry
folder_of-push o history entry h =
    ap (λ l. folder_after o.base l) (surviving-push o.start history entry h)
    ∙ fold-append tree_after_entry o.base (surviving o.start history) (entry ∷ [])

-- the folder at an epoch that is frozen stays
pub folder_at-push : (o : Opening) (history : List Entry) (entry : Entry) (epoch : ℕ) → is_cut entry ≡ false → HasNoCut history → IsFrozenAt o.start epoch history → folder_at o (history ++ entry ∷ []) epoch ≡ folder_at o history epoch
folder_at-push o history entry epoch h whole stands =
    let same = surviving-whole o.start history whole in
    let there : IsFrozenAt o.start epoch (surviving o.start history) = subst (λ l. IsFrozenAt o.start epoch l) (sym same) stands in
    ap (λ l. folder_after o.base (up_to_epoch o.start epoch l)) (surviving-push o.start history entry h)
    ∙ ap (λ l. folder_after o.base l) (up_to_epoch-append o.start epoch (surviving o.start history) (entry ∷ []) there)

-- an epoch that is frozen stays so
pub IsFrozenAt-append : (start epoch : ℕ) (history later : List Entry) → IsFrozenAt start epoch history → IsFrozenAt start epoch (history ++ later)
IsFrozenAt-append start epoch history later h =
    subst (λ b. IsTrue ((epoch == start) || b)) (sym (list_any-append (is_freeze_of epoch) history later)) (more (epoch == start) (list_any (is_freeze_of epoch) history) (list_any (is_freeze_of epoch) later) h)
  where
    more : (a b c : Bool) → IsTrue (a || b) → IsTrue (a || (b || c))
    more true b c h = refl
    more false true c h = refl
    more false false c h = cc
