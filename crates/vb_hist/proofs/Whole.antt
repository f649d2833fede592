-- Each front of a surviving list was once the whole of it.
use Rattle.std.proofs.Common.{◌≡◌, ℕ, ◌⊎◌, inl, inr, Bool, true, false, List, [], ◌∷◌, ◌++◌, length, drop, append_assoc, append-nil, refl, ap, sym, ◌∙◌, subst}
use Rattle.std.specs.List.{fold, filter}
use Rattle.std.proofs.lemmas.List.Sums.{fold-append}
use Rattle.std.proofs.lemmas.List.Elements.{filter-append}
use mathlib.Core.List.{IsPrefix}
use Rattle.vb_tree.specs.declared.tree.Limits.{Limits}
use Rattle.vb_tree.specs.declared.tree.TreeEntry.{TreeEntry}
use Rattle.vb_hist.specs.declared.entry.Entry.{Entry}
use Rattle.vb_hist.specs.declared.entry.Entry.TheVariants.{Publish, Cut}
use Rattle.vb_hist.specs.Histories.{apart_from_cuts, folder_after, outlives_cut, survivors_after, surviving, tree_after_entry, up_to_epoch}
use Rattle.vb_hist.proofs.Fronts.{up_to_epoch-front}

pub prefix-more : {X : Type 0} (xs ys zs : List X) → IsPrefix xs ys → IsPrefix xs (ys ++ zs)
prefix-more xs ys zs p = (p.0 ++ zs, sym (append_assoc xs p.0 zs) ∙ ap (λ l. l ++ zs) p.1)

-- a front of two lists is one of the first, or goes on into the second
pub prefix-parts : {X : Type 0} (front xs ys : List X) → IsPrefix front (xs ++ ys) → IsPrefix front xs ⊎ ((more : List X) × (front ≡ xs ++ more) × IsPrefix more ys)
prefix-parts front [] ys p = inr (front, refl, p)
prefix-parts [] (x ∷ xs) ys p = inl (x ∷ xs, refl)
prefix-parts {X} (f ∷ front) (x ∷ xs) ys p = at same.0 (prefix-parts front xs ys (p.0, same.1))
  where
    same : (f ≡ x) × (front ++ p.0 ≡ xs ++ ys)
    same = (cc (p.1), cc (p.1))

    at : f ≡ x → IsPrefix front xs ⊎ ((more : List X) × (front ≡ xs ++ more) × IsPrefix more ys) → IsPrefix (f ∷ front) (x ∷ xs) ⊎ ((more : List X) × (f ∷ front ≡ x ∷ (xs ++ more)) × IsPrefix more ys)
    at is (inl within) = inl (within.0, ap (λ l. f ∷ l) within.1 ∙ ap (λ y. y ∷ xs) is)
    at is (inr past) = inr (past.0, ap (λ l. f ∷ l) past.1 ∙ ap (λ y. y ∷ (xs ++ past.0)) is, past.2)

-- a front of a list of one is nothing or all of it
one-parts : {X : Type 0} (front : List X) (x : X) → IsPrefix front (x ∷ []) → (front ≡ []) ⊎ (front ≡ x ∷ [])
one-parts [] x p = inl refl
one-parts (f ∷ []) x p = inr (cc (p.1))
one-parts (f ∷ (g ∷ front)) x p = cc (p.1)

nil-left : {X : Type 0} (xs ys : List X) → xs ++ ys ≡ [] → xs ≡ []
nil-left [] ys h = refl
nil-left (x ∷ xs) ys h = cc

pub apart-kept : (xs : List Entry) → apart_from_cuts (filter outlives_cut xs) ≡ []
apart-kept [] = refl
apart-kept (Publish epoch ∷ xs) = apart-kept xs
apart-kept (other ∷ xs) = apart-kept xs

abbrev pub is_apart : Entry → Bool
is_apart (Publish epoch) = false
is_apart (Cut epoch limits) = false
is_apart other = true

apart-append : (xs ys : List Entry) → apart_from_cuts (xs ++ ys) ≡ apart_from_cuts xs ++ apart_from_cuts ys
apart-append xs ys = filter-append _ xs ys

-- this front was once the whole
abbrev pub WasWhole : ℕ → List Entry → List Entry → Type 0
WasWhole start history front = (earlier : List Entry) × IsPrefix earlier history × (apart_from_cuts (surviving start earlier) ≡ apart_from_cuts front)

-- each front of this line was
abbrev pub WereWhole : ℕ → List Entry → List Entry → Type 0
WereWhole start history line = (front : List Entry) → IsPrefix front line → WasWhole start history front

was-more : (start : ℕ) (history front : List Entry) (entry : Entry) → WasWhole start history front → WasWhole start (history ++ entry ∷ []) front
was-more start history front entry w = (w.0, prefix-more w.0 history (entry ∷ []) w.1, w.2)

-- nothing of what a cut adds stands apart from cuts
apart-added : (epoch : ℕ) (limits : Limits) (xs more : List Entry) → IsPrefix more (Cut epoch limits ∷ filter outlives_cut xs) → apart_from_cuts more ≡ []
apart-added epoch limits xs more p =
    nil-left (apart_from_cuts more) (apart_from_cuts (p.0)) (sym (apart-append more (p.0)) ∙ ap apart_from_cuts p.1 ∙ apart-kept xs)

were-more : (start : ℕ) (history line : List Entry) (entry : Entry) → surviving start history ≡ line → WereWhole start history line → WereWhole start (history ++ entry ∷ []) (survivors_after start line entry)
were-more start history line (Cut epoch limits) is were front p = at (prefix-parts front (up_to_epoch start epoch line) (Cut epoch limits ∷ filter outlives_cut (drop (length (up_to_epoch start epoch line)) line)) p)
  where
    up : List Entry
    up = up_to_epoch start epoch line

    at : IsPrefix front (up_to_epoch start epoch line) ⊎ ((more : List Entry) × (front ≡ up_to_epoch start epoch line ++ more) × IsPrefix more (Cut epoch limits ∷ filter outlives_cut (drop (length (up_to_epoch start epoch line)) line)))
        → WasWhole start (history ++ Cut epoch limits ∷ []) front
    at (inl within) =
        let whole = up_to_epoch-front start epoch line in
        was-more start history front (Cut epoch limits) (were front (within.0 ++ whole.0, sym (append_assoc front within.0 whole.0) ∙ ap (λ l. l ++ whole.0) within.1 ∙ whole.1))
    at (inr past) =
        let w = were (up_to_epoch start epoch line) (up_to_epoch-front start epoch line) in
        let none : apart_from_cuts past.0 ≡ [] = apart-added epoch limits (drop (length (up_to_epoch start epoch line)) line) past.0 past.2 in
        let same : apart_from_cuts front ≡ apart_from_cuts (up_to_epoch start epoch line) =
        ap apart_from_cuts past.1 ∙ apart-append (up_to_epoch start epoch line) past.0 ∙ ap (λ l. apart_from_cuts (up_to_epoch start epoch line) ++ l) none ∙ append-nil (apart_from_cuts (up_to_epoch start epoch line)) in
        (w.0, prefix-more w.0 history (Cut epoch limits ∷ []) w.1, w.2 ∙ sym same)
were-more start history line other is were front p = at (prefix-parts front line (other ∷ []) p)
  where
    at : IsPrefix front line ⊎ ((more : List Entry) × (front ≡ line ++ more) × IsPrefix more (other ∷ [])) → WasWhole start (history ++ other ∷ []) front
    at (inl within) = was-more start history front other (were front within)
    at (inr past) = last (one-parts past.0 other past.2)
      where
        last : (past.0 ≡ []) ⊎ (past.0 ≡ other ∷ []) → WasWhole start (history ++ other ∷ []) front
        last (inl none) = was-more start history front other (were front ([], append-nil front ∙ past.1 ∙ ap (λ l. line ++ l) none ∙ append-nil line))
        last (inr all) = (
          history ++ other ∷ [],
          ([], append-nil (history ++ other ∷ [])),
          ap apart_from_cuts (fold-append (survivors_after start) [] history (other ∷ []) ∙ ap (λ l. survivors_after start l other) is ∙ sym (past.1 ∙ ap (λ l. line ++ l) all)),
        )

were-all : (start : ℕ) (history line entries : List Entry) → surviving start history ≡ line → WereWhole start history line → WereWhole start (history ++ entries) (fold (survivors_after start) line entries)
were-all start history line [] is were = subst (λ h. WereWhole start h line) (sym (append-nil history)) were
were-all start history line (entry ∷ entries) is were =
    subst (λ h. WereWhole start h (fold (survivors_after start) (survivors_after start line entry) entries)) (append_assoc history (entry ∷ []) entries)
    (were-all start (history ++ entry ∷ []) (survivors_after start line entry) entries (fold-append (survivors_after start) [] history (entry ∷ []) ∙ ap (λ l. survivors_after start l entry) is) (were-more start history line entry is were))

pub fronts-were_whole : (start : ℕ) (history front : List Entry) → IsPrefix front (surviving start history) → WasWhole start history front
fronts-were_whole start history = were-all start [] [] history refl (λ front p. ([], ([], refl), ap apart_from_cuts (sym (nil-left front p.0 p.1))))

-- what stands apart from cuts makes the tree
pub folder-apart : (tree : List TreeEntry) (xs : List Entry) → folder_after tree (apart_from_cuts xs) ≡ folder_after tree xs
folder-apart tree [] = refl
folder-apart tree (Publish epoch ∷ xs) = folder-apart tree xs
folder-apart tree (Cut epoch limits ∷ xs) = folder-apart tree xs
folder-apart tree (other ∷ xs) = folder-apart (tree_after_entry tree other) xs

pub folder-was_whole : (start : ℕ) (base : List TreeEntry) (history front : List Entry) (w : WasWhole start history front) → folder_after base front ≡ folder_after base (surviving start (w.0))
folder-was_whole start base history front w = sym (folder-apart base front) ∙ ap (folder_after base) (sym w.2) ∙ folder-apart base (surviving start (w.0))
