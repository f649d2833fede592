-- Which pages are held by fronts of a history, and by a history that goes on another.
use Rattle.std.proofs.Common.{◌≡◌, ℕ, inl, inr, Bool, true, false, ◌==◌, if◌then◌else◌, List, [], ◌∷◌, ◌++◌, ap, sym, ◌∙◌, subst}
use Rattle.std.specs.List.{Contains, AllByRecursion}
use Rattle.std.proofs.lemmas.List.Sums.{fold-append}
use mathlib.Core.List.{IsPrefix}
use Rattle.vb_tree.specs.declared.tree.TreeEntry.{TreeEntry}
use Rattle.vb_hist.specs.declared.entry.Entry.{Entry}
use Rattle.vb_hist.specs.Histories.{HasNoCut, folder_after, is_cut, surviving, tree_after_entry, up_to_epoch}
use Rattle.vb_hist.specs.Legal.{Opening, folder_at, folder_of, marks_of}
use Rattle.vb_hist.specs.Openings.{opening_of}
use Rattle.vb_hist.specs.Held.{IsPageHeld, pages_in}
use Rattle.vb_hist.proofs.Survivors.{surviving-whole}
use Rattle.vb_hist.proofs.Fronts.{up_to_epoch-front}
use Rattle.vb_hist.proofs.Going.{surviving-on}
use Rattle.vb_hist.proofs.Extended.{prefix-then}
use Rattle.vb_hist.proofs.Whole.{folder-was_whole, fronts-were_whole, prefix-more}

pub held-front : (o : Opening) (front history : List Entry) (page : List ℕ) → IsPrefix front history → IsPageHeld o front page → IsPageHeld o history page
held-front o front history page p (inl shown) = inl shown
held-front o front history page p (inr held) = inr (held.0, prefix-then held.0 front history held.1 p, held.2)

all-front : {X : Type 0} (P : X → Type 0) (xs ys : List X) → AllByRecursion P (xs ++ ys) → AllByRecursion P xs
all-front P [] ys all = tt
all-front P (x ∷ xs) ys all = (all.0, all-front P xs ys all.1)

-- the folder after a front of a later history, which goes on
folder-goes_on : (o : Opening) (history front : List Entry) (disk_faults link_faults : ℕ) → HasNoCut front → folder_of (opening_of o history disk_faults link_faults) front ≡ folder_of o (history ++ front)
folder-goes_on o history front disk_faults link_faults whole =
    ap (folder_after (folder_of o history)) (surviving-whole (marks_of o history).last front whole)
    ∙ sym (fold-append tree_after_entry o.base (surviving o.start history) front)
    ∙ ap (folder_after o.base) (sym (surviving-on o.start history front whole))

prefix-under : {X : Type 0} (xs ys zs : List X) → IsPrefix ys zs → IsPrefix (xs ++ ys) (xs ++ zs)
prefix-under [] ys zs p = p
prefix-under (x ∷ xs) ys zs p = let q = prefix-under xs ys zs p in (q.0, ap (λ l. x ∷ l) q.1)

pub held-later : (o : Opening) (history later : List Entry) (disk_faults link_faults : ℕ) (page : List ℕ) → HasNoCut later → IsPageHeld (opening_of o history disk_faults link_faults) later page → IsPageHeld o (history ++ later) page
held-later o history later disk_faults link_faults page whole (inl shown) = at ((marks_of o history).published == o.published) shown
  where
    epoch : ℕ
    epoch = (marks_of o history).published

    at : (b : Bool) → Contains (pages_in (if b then o.published_tree else folder_at o history (marks_of o history).published)) page → IsPageHeld o (history ++ later) page
    at true h = inl h
    at false h =
        let front = up_to_epoch o.start (marks_of o history).published (surviving o.start history) in
        let w = fronts-were_whole o.start history front (up_to_epoch-front o.start (marks_of o history).published (surviving o.start history)) in
        inr (w.0, prefix-more w.0 history later w.1, subst (λ (t : List TreeEntry). Contains (pages_in t) page) (folder-was_whole o.start o.base history front w) h)
held-later o history later disk_faults link_faults page whole (inr held) =
    let clean : HasNoCut held.0 = all-front (λ entry. is_cut entry ≡ false) held.0 held.1.0 (subst HasNoCut (sym held.1.1) whole) in
    inr (history ++ held.0, prefix-under history held.0 later held.1, subst (λ (t : List TreeEntry). Contains (pages_in t) page) (folder-goes_on o history held.0 disk_faults link_faults clean) held.2)
