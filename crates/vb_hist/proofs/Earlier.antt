-- Freezes of a surviving list, and the fronts that a cut leaves.
use Rattle.std.proofs.Common.{◌≡◌, ◌≢◌, ℕ, ◌+◌, ◌≤◌, ◌⊎◌, inl, inr, Bool, true, false, ◌||◌, ◌==◌, IsTrue, List, [], ◌∷◌, ◌++◌, append_assoc, refl, ap, sym, ◌∙◌, subst, arith}
use Rattle.std.specs.List.{filter, list_any}
use Rattle.std.proofs.lemmas.List.Sums.{fold-append}
use Rattle.std.proofs.lemmas.List.Elements.{filter-append}
use Rattle.std.proofs.lemmas.List.{append_cancel_left}
use Rattle.std.proofs.lemmas.Bool.Decides.{eqb_tells}
use mathlib.Core.List.{IsPrefix}
use Rattle.vb_tree.specs.declared.tree.Limits.{Limits}
use Rattle.vb_tree.specs.declared.tree.TreeEntry.{TreeEntry}
use Rattle.vb_hist.specs.declared.entry.Entry.{Entry}
use Rattle.vb_hist.specs.declared.entry.Entry.TheVariants.{Freeze, Publish, Cut}
use Rattle.vb_hist.specs.Histories.{IsFrozenAt, folder_after, is_freeze_of, outlives_cut, survivors_after, tree_after_entry, up_to_epoch}
use Rattle.vb_hist.specs.Quiet.{epoch_after}
use Rattle.vb_hist.specs.Legal.{Opening}
use Rattle.vb_hist.proofs.Fronts.{IsFrozenAt-freeze, up_to_epoch-append, up_to_epoch-freeze, up_to_epoch-front}
use Rattle.vb_hist.proofs.Pushed.{IsFrozenAt-append}
use Rattle.vb_hist.proofs.Order.{FitsEpoch, IsInOrder, along-front, along-rest, frozen-within, last-grows, last_after, within-frozen}
use Rattle.vb_hist.proofs.Outlived.{kept-kept}
use Rattle.vb_hist.proofs.Cuts.{cut-parted, parted}

or-right : (a b : Bool) → b ≡ true → IsTrue (a || b)
or-right true b h = refl
or-right false b h = h

-- an epoch is frozen exactly from the start up to the last epoch
pub frozen-bounds : (start epoch : ℕ) (line : List Entry) → IsInOrder start line → IsFrozenAt start epoch line → (start ≤ epoch) × (epoch ≤ last_after start line)
frozen-bounds start epoch line order frozen = at (epoch == start) (eqb_tells epoch start) frozen
  where
    at : (b : Bool) → ((b ≡ true) × (epoch ≡ start)) ⊎ ((b ≡ false) × (epoch ≢ start)) → IsTrue (b || list_any (is_freeze_of epoch) line) → (start ≤ epoch) × (epoch ≤ last_after start line)
    at true (inl is) there = let grows = last-grows start line order in (omega (arith, is.1), omega (arith, is.1, grows))
    at true (inr is) there = cc
    at false is there = let w = frozen-within start epoch line order there in (omega (arith, w.0), w.1)

pub bounds-frozen : (start epoch : ℕ) (line : List Entry) → IsInOrder start line → start ≤ epoch → epoch ≤ last_after start line → IsFrozenAt start epoch line
bounds-frozen start epoch line order low high = at (epoch == start) (eqb_tells epoch start)
  where
    at : (b : Bool) → ((b ≡ true) × (epoch ≡ start)) ⊎ ((b ≡ false) × (epoch ≢ start)) → IsTrue (b || list_any (is_freeze_of epoch) line)
    at true is = refl
    at false (inl is) = cc
    at false (inr is) = within-frozen start epoch line order (omega (arith, is.1)) high

-- up to the freeze of an epoch, each earlier one has its freeze
pub earlier-in_front : (start earlier epoch : ℕ) (line : List Entry) → IsInOrder start line → IsFrozenAt start earlier line → IsFrozenAt start epoch line → earlier ≤ epoch → IsFrozenAt start earlier (up_to_epoch start epoch line)
earlier-in_front start earlier epoch line order there frozen below =
    let p = parted start epoch line order frozen in
    let front : IsInOrder start (up_to_epoch start epoch line) = along-front epoch_after FitsEpoch start (up_to_epoch start epoch line) p.0 (subst (IsInOrder start) (sym p.1.whole) order) in
    bounds-frozen start earlier (up_to_epoch start epoch line) front (frozen-bounds start earlier line order there).0 (omega (arith, below, p.1.last))

-- whatever follows the front up to a later freeze
pub earlier-front : (start earlier epoch : ℕ) (line later : List Entry) → IsInOrder start line → IsFrozenAt start earlier line → IsFrozenAt start epoch line → earlier ≤ epoch
    → up_to_epoch start earlier (up_to_epoch start epoch line ++ later) ≡ up_to_epoch start earlier line
earlier-front start earlier epoch line later order there frozen below =
    let p = parted start epoch line order frozen in
    let within = earlier-in_front start earlier epoch line order there frozen below in
    up_to_epoch-append start earlier (up_to_epoch start epoch line) later within
    ∙ sym (up_to_epoch-append start earlier (up_to_epoch start epoch line) p.0 within)
    ∙ ap (up_to_epoch start earlier) p.1.whole

pub earlier-cut : (start earlier epoch : ℕ) (limits : Limits) (line : List Entry) → IsInOrder start line → IsFrozenAt start earlier line → IsFrozenAt start epoch line → earlier ≤ epoch
    → up_to_epoch start earlier (survivors_after start line (Cut epoch limits)) ≡ up_to_epoch start earlier line
earlier-cut start earlier epoch limits line order there frozen below =
    let p = parted start epoch line order frozen in
    ap (up_to_epoch start earlier) (cut-parted start epoch limits line p) ∙ earlier-front start earlier epoch line (Cut epoch limits ∷ filter outlives_cut p.0) order there frozen below

pub earlier-frozen : (start earlier epoch : ℕ) (limits : Limits) (line : List Entry) → IsInOrder start line → IsFrozenAt start earlier line → IsFrozenAt start epoch line → earlier ≤ epoch
    → IsFrozenAt start earlier (survivors_after start line (Cut epoch limits))
earlier-frozen start earlier epoch limits line order there frozen below =
    let p = parted start epoch line order frozen in
    subst (IsFrozenAt start earlier) (sym (cut-parted start epoch limits line p))
    (IsFrozenAt-append start earlier (up_to_epoch start epoch line) (Cut epoch limits ∷ filter outlives_cut p.0) (earlier-in_front start earlier epoch line order there frozen below))

-- the front of a later freeze goes on from the front of an earlier one
pub fronts-extend : (start earlier epoch : ℕ) (line : List Entry) → IsInOrder start line → IsFrozenAt start earlier line → IsFrozenAt start epoch line → earlier ≤ epoch
    → IsPrefix (up_to_epoch start earlier line) (up_to_epoch start epoch line)
fronts-extend start earlier epoch line order there frozen below =
    let p = parted start epoch line order frozen in
    let within = earlier-in_front start earlier epoch line order there frozen below in
    let same : up_to_epoch start earlier (up_to_epoch start epoch line) ≡ up_to_epoch start earlier line =
    sym (up_to_epoch-append start earlier (up_to_epoch start epoch line) p.0 within) ∙ ap (up_to_epoch start earlier) p.1.whole in
    subst (λ l. IsPrefix l (up_to_epoch start epoch line)) same (up_to_epoch-front start earlier (up_to_epoch start epoch line))

-- the front of an epoch ends with its only freeze
pub only-freeze : (start epoch by : ℕ) (front rest : List Entry) → IsInOrder start (front ++ Freeze by epoch ∷ rest) → up_to_epoch start epoch (front ++ Freeze by epoch ∷ rest) ≡ front ++ Freeze by epoch ∷ []
only-freeze start epoch by front rest order =
    let first : IsInOrder start front = along-front epoch_after FitsEpoch start front (Freeze by epoch ∷ rest) order in
    let later = along-rest epoch_after FitsEpoch start front (Freeze by epoch ∷ rest) order in
    let next : epoch ≡ last_after start front + 1 = later.0 in
    let grows : start ≤ last_after start front = last-grows start front first in
    let none : list_any (is_freeze_of epoch) front ≡ false = not_there (list_any (is_freeze_of epoch) front) (λ h. let w = frozen-within start epoch front first h in omega (arith, w.1, next)) in
    ap (up_to_epoch start epoch) (sym (append_assoc front (Freeze by epoch ∷ []) rest))
    ∙ up_to_epoch-append start epoch (front ++ Freeze by epoch ∷ []) rest (IsFrozenAt-freeze start epoch by front)
    ∙ up_to_epoch-freeze start epoch by front (omega (arith, next, grows)) none
  where
    not_there : (b : Bool) → (b ≡ true → ⊥) → b ≡ false
    not_there true h = absurd (h refl)
    not_there false h = refl

-- a cut to an earlier freeze behind a cut leaves what it would have left alone
pub cut-behind_cut : (start earlier epoch : ℕ) (first second : Limits) (line : List Entry) → IsInOrder start line → IsInOrder start (survivors_after start line (Cut epoch first)) → IsFrozenAt start earlier line → IsFrozenAt start epoch line → earlier ≤ epoch
    → survivors_after start (survivors_after start line (Cut epoch first)) (Cut earlier second) ≡ survivors_after start line (Cut earlier second)
cut-behind_cut start earlier epoch first second line order after there frozen below =
    let p = parted start epoch line order frozen in
    let q = parted start earlier line order there in
    let cut = survivors_after start line (Cut epoch first) in
    let is : cut ≡ up_to_epoch start epoch line ++ Cut epoch first ∷ filter outlives_cut p.0 = cut-parted start epoch first line p in
    let r = parted start earlier (survivors_after start line (Cut epoch first)) after (earlier-frozen start earlier epoch first line order there frozen below) in
    let same : up_to_epoch start earlier cut ≡ up_to_epoch start earlier line = earlier-cut start earlier epoch first line order there frozen below in
    let more = fronts-extend start earlier epoch line order there frozen below in
    let rest : q.0 ≡ more.0 ++ p.0 =
    append_cancel_left (up_to_epoch start earlier line) q.0 (more.0 ++ p.0) (q.1.whole ∙ sym p.1.whole ∙ ap (λ l. l ++ p.0) (sym more.1) ∙ append_assoc (up_to_epoch start earlier line) more.0 p.0) in
    let behind : r.0 ≡ more.0 ++ (Cut epoch first ∷ filter outlives_cut p.0) =
    append_cancel_left (up_to_epoch start earlier line) r.0 (more.0 ++ (Cut epoch first ∷ filter outlives_cut p.0))
    (ap (λ l. l ++ r.0) (sym same) ∙ r.1.whole ∙ is ∙ ap (λ l. l ++ (Cut epoch first ∷ filter outlives_cut p.0)) (sym more.1) ∙ append_assoc (up_to_epoch start earlier line) more.0 (Cut epoch first ∷ filter outlives_cut p.0)) in
    let kept : filter outlives_cut r.0 ≡ filter outlives_cut q.0 =
    ap (filter outlives_cut) behind ∙ filter-append outlives_cut more.0 (Cut epoch first ∷ filter outlives_cut p.0)
    ∙ ap (λ l. filter outlives_cut more.0 ++ l) (kept-kept p.0) ∙ sym (filter-append outlives_cut more.0 p.0) ∙ ap (filter outlives_cut) (sym rest) in
    cut-parted start earlier second (survivors_after start line (Cut epoch first)) r
    ∙ ap (λ l. l ++ Cut earlier second ∷ filter outlives_cut r.0) same
    ∙ ap (λ l. up_to_epoch start earlier line ++ Cut earlier second ∷ l) kept
    ∙ sym (cut-parted start earlier second line q)

-- what outlives a cut leaves the tree
pub kept-tree : (tree : List TreeEntry) (xs : List Entry) → folder_after tree (filter outlives_cut xs) ≡ tree
kept-tree tree [] = refl
kept-tree tree (Publish epoch ∷ xs) = kept-tree tree xs
kept-tree tree (other ∷ xs) = kept-tree tree xs

-- the folder after a cut
pub cut-folder : (o : Opening) (line : List Entry) (epoch : ℕ) (limits : Limits) (rest : List Entry)
    → folder_after o.base (up_to_epoch o.start epoch line ++ Cut epoch limits ∷ filter outlives_cut rest) ≡ folder_after o.base (up_to_epoch o.start epoch line)
cut-folder o line epoch limits rest =
    fold-append tree_after_entry o.base (up_to_epoch o.start epoch line) (Cut epoch limits ∷ filter outlives_cut rest) ∙ kept-tree (folder_after o.base (up_to_epoch o.start epoch line)) rest
