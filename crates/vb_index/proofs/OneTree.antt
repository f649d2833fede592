-- Nodes and their pages have at most one tree.
use Rattle.std.proofs.Common.{◌≡◌, ℕ, ◌<◌, true, false, cond, List, [], ◌∷◌, length, Option, Some, None, inl, inr, refl, sym, ap, ◌∙◌, subst}
use Rattle.std.specs.Option.{option_map, option_and_then}
use Rattle.std.specs.Ordering.{ordering_reverse}
use Rattle.std.specs.declared.cmp.Ordering.TheVariants.{Less, Greater}
use Rattle.std.proofs.lemmas.Bool.{cases_Bool, false≢true}
use Rattle.vb_path.specs.Paths.{same_path, path_cmp}
use Rattle.vb_path.proofs.PathLaws.{same_path-Decides, path_cmp-total}
use Rattle.vb_tree.specs.declared.tree.Kind.TheVariants.{Folder}
use Rattle.vb_tree.specs.declared.tree.TreeEntry.{TreeEntry}
use Rattle.vb_tree.specs.Trees.{is_root, entry_at, bytes_in, data_pages_of, AllAfter, AreInOrder, AllBelongIn}
use Rattle.vb_tree.specs.Contents.{page_of}
use Rattle.vb_tree.proofs.Pages.{bytes-by-pages}
use Rattle.vb_index.specs.declared.held.Held.{Held}
use Rattle.vb_index.specs.Nodes.{held_at, slot_at}
use Rattle.vb_index.specs.Contents.{HasTree}
use Rattle.vb_index.specs.Indexes.{Shape, shape_of, shape_of_entry}
use Rattle.vb_index.proofs.MovedTrees.{entry_at-after}

-- ---- two lists of entries in order with the same look-ups are one

not_both : (p q : List (List ℕ)) → path_cmp p q ≡ Less → path_cmp q p ≡ Less → ⊥
not_both p q less more = apart (sym less ∙ path_cmp-total.antisymm p q ∙ ap ordering_reverse more) where
  apart : Less ≡ Greater → ⊥
  apart e = cc

-- what is found is after what all are after
found-after : (p q : List (List ℕ)) (es : List TreeEntry) (e : TreeEntry) → AllAfter q es → entry_at p es ≡ Some e → path_cmp q p ≡ Less
found-after p q [] e all found = absurd cc
found-after p q (x ∷ xs) e all found = elim (cases_Bool (same_path p x.path)) [
  | inl h ↦ subst (λ t. path_cmp q t ≡ Less) (sym ((same_path-Decides p x.path).0 h)) all.0
  | inr h ↦ found-after p q xs e all.1 (sym (ap (λ v. cond v (Some x) (entry_at p xs)) h) ∙ found)
]

found-first : (x : TreeEntry) (xs : List TreeEntry) (p : List (List ℕ)) → same_path p x.path ≡ true → entry_at p (x ∷ xs) ≡ Some x
found-first x xs p h = ap (λ v. cond v (Some x) (entry_at p xs)) h

found-later : (x : TreeEntry) (xs : List TreeEntry) (p : List (List ℕ)) → same_path p x.path ≡ false → entry_at p (x ∷ xs) ≡ entry_at p xs
found-later x xs p h = ap (λ v. cond v (Some x) (entry_at p xs)) h

own : (x : TreeEntry) (xs : List TreeEntry) → entry_at x.path (x ∷ xs) ≡ Some x
own x xs = found-first x xs x.path ((same_path-Decides x.path x.path).1 refl)

abbrev Alike : List TreeEntry → List TreeEntry → Type 0
Alike xs ys = (p : List (List ℕ)) → entry_at p xs ≡ entry_at p ys

-- the first entries are one
same-first : (x y : TreeEntry) (xs ys : List TreeEntry) → AreInOrder (x ∷ xs) → AreInOrder (y ∷ ys) → Alike (x ∷ xs) (y ∷ ys) → x ≡ y
same-first x y xs ys ordered ordered' alike = elim (cases_Bool (same_path x.path y.path)) [
  | inl h ↦ (let both : Some x ≡ Some y = sym (own x xs) ∙ alike x.path ∙ found-first y ys x.path h in cc)
  | inr h ↦ absurd (
      let other : same_path y.path x.path ≡ false = elim (cases_Bool (same_path y.path x.path)) [ inr g ↦ g | inl g ↦ absurd (false≢true (sym h ∙ (same_path-Decides x.path y.path).1 (sym ((same_path-Decides y.path x.path).0 g)))) ] in
      let x_found : entry_at x.path ys ≡ Some x = sym (found-later y ys x.path h) ∙ sym (alike x.path) ∙ own x xs in
      let y_found : entry_at y.path xs ≡ Some y = sym (found-later x xs y.path other) ∙ alike y.path ∙ own y ys in
      not_both x.path y.path (found-after y.path x.path xs y ordered.0 y_found) (found-after x.path y.path ys x ordered'.0 x_found))
]

rest-alike : (x : TreeEntry) (xs ys : List TreeEntry) → AllAfter x.path xs → AllAfter x.path ys → Alike (x ∷ xs) (x ∷ ys) → Alike xs ys
rest-alike x xs ys after after' alike p = elim (cases_Bool (same_path p x.path)) [
  | inl h ↦ (let is : p ≡ x.path = (same_path-Decides p x.path).0 h in
      ap (λ q. entry_at q xs) is ∙ entry_at-after x.path xs after ∙ sym (ap (λ q. entry_at q ys) is ∙ entry_at-after x.path ys after'))
  | inr h ↦ sym (found-later x xs p h) ∙ alike p ∙ found-later x ys p h
]

alike-same : (xs ys : List TreeEntry) → AreInOrder xs → AreInOrder ys → Alike xs ys → xs ≡ ys
alike-same [] [] ordered ordered' alike = refl
alike-same [] (y ∷ ys) ordered ordered' alike = absurd (let both : None ≡ Some y = alike y.path ∙ own y ys in cc)
alike-same (x ∷ xs) [] ordered ordered' alike = absurd (let both : Some x ≡ None = sym (own x xs) ∙ alike x.path in cc)
alike-same (x ∷ xs) (y ∷ ys) ordered ordered' alike =
    let first : x ≡ y = same-first x y xs ys ordered ordered' alike in
    let after : AllAfter x.path ys = subst (λ (t : TreeEntry). AllAfter t.path ys) (sym first) ordered'.0 in
    let like : Alike (x ∷ xs) (x ∷ ys) = subst (λ (t : TreeEntry). Alike (x ∷ xs) (t ∷ ys)) (sym first) alike in
    ap (λ t. x ∷ t) (alike-same xs ys ordered.1 ordered'.1 (rest-alike x xs ys ordered.0 after like)) ∙ ap (λ t. t ∷ ys) first

-- ---- the look-ups in trees of the same nodes

pub root-none : (tree es : List TreeEntry) (p : List (List ℕ)) → AllBelongIn tree es → is_root p ≡ true → entry_at p es ≡ None
root-none tree [] p all h = refl
root-none tree (e ∷ es) p all h =
    found-later e es p (elim (cases_Bool (same_path p e.path)) [
      | inr g ↦ g
      | inl g ↦ absurd (false≢true (sym all.0.below_root ∙ ap is_root (sym ((same_path-Decides p e.path).0 g)) ∙ h))
    ])
    ∙ root-none tree es p all.1 h

found-at : (p : List (List ℕ)) (es : List TreeEntry) (e : TreeEntry) → entry_at p es ≡ Some e → p ≡ e.path
found-at p [] e found = absurd cc
found-at p (x ∷ xs) e found = elim (cases_Bool (same_path p x.path)) [
  | inl h ↦ (let both : Some x ≡ Some e = sym (found-first x xs p h) ∙ found in
      let is : x ≡ e = cc in
      (same_path-Decides p x.path).0 h ∙ ap (λ (t : TreeEntry). t.path) is)
  | inr h ↦ found-at p xs e (sym (found-later x xs p h) ∙ found)
]

leads : (nodes : List (Option Held)) (p : List (List ℕ)) (o : Option ℕ) (s : Shape) → option_and_then (λ slot. option_map shape_of (held_at nodes slot)) o ≡ Some s → (slot : ℕ) × (o ≡ Some slot)
leads nodes p None s e = absurd cc
leads nodes p (Some slot) s e = (slot, refl)

same-entry : (nodes : List (Option Held)) (pages : ℕ → ℕ → List ℕ) (a b : List TreeEntry) (p : List (List ℕ)) → HasTree nodes pages a → HasTree nodes pages b → is_root p ≡ false → (x y : Option TreeEntry) → entry_at p a ≡ x → entry_at p b ≡ y → option_map shape_of_entry x ≡ option_map shape_of_entry y → x ≡ y
same-entry nodes pages a b p has has' below None None ex ey same = refl
same-entry nodes pages a b p has has' below None (Some y) ex ey same = absurd cc
same-entry nodes pages a b p has has' below (Some x) None ex ey same = absurd cc
same-entry nodes pages a b p has has' below (Some x) (Some y) ex ey same =
    let shape : shape_of_entry x ≡ shape_of_entry y = cc in
    let at = leads nodes p (slot_at nodes p) (shape_of_entry x) (has.shape.same p ∙ ap (λ v. cond v (Some (record { kind = Folder; len = 0 })) (option_map shape_of_entry (entry_at p a))) below ∙ ap (option_map shape_of_entry) ex) in
    let bytes : x.bytes ≡ y.bytes = bytes-by-pages x.bytes y.bytes (ap (λ (s : Shape). s.len) shape) (λ k h.
    sym (subst (λ (o : Option TreeEntry). (j : ℕ) → j < data_pages_of (length (bytes_in o)) → pages at.0 j ≡ page_of (bytes_in o) j) ex (has.contents p at.0 at.1) k h)
    ∙ subst (λ (o : Option TreeEntry). (j : ℕ) → j < data_pages_of (length (bytes_in o)) → pages at.0 j ≡ page_of (bytes_in o) j) ey (has'.contents p at.0 at.1) k (subst (λ n. k < data_pages_of n) (ap (λ (s : Shape). s.len) shape) h)) in
    let path : x.path ≡ y.path = sym (found-at p a x ex) ∙ found-at p b y ey in
    let kind = ap (λ (s : Shape). s.kind) shape in
    ap (λ q. Some (record x { path = q })) path
    ∙ ap (λ k. Some (record x { path = y.path; kind = k })) kind
    ∙ ap (λ bs. Some (record y { bytes = bs })) bytes

-- nodes and their pages have at most one tree
pub one-tree : (nodes : List (Option Held)) (pages : ℕ → ℕ → List ℕ) (a b : List TreeEntry) → HasTree nodes pages a → HasTree nodes pages b → a ≡ b
one-tree nodes pages a b has has' =
    alike-same a b has.is_tree.in_order has'.is_tree.in_order (λ p. elim (cases_Bool (is_root p)) [
      | inl h ↦ root-none a a p has.is_tree.all_belong h ∙ sym (root-none b b p has'.is_tree.all_belong h)
      | inr h ↦ same-entry nodes pages a b p has has' h (entry_at p a) (entry_at p b) refl refl
          (sym (ap (λ v. cond v (Some (record { kind = Folder; len = 0 })) (option_map shape_of_entry (entry_at p a))) h)
          ∙ sym (has.shape.same p) ∙ has'.shape.same p
          ∙ ap (λ v. cond v (Some (record { kind = Folder; len = 0 })) (option_map shape_of_entry (entry_at p b))) h)
    ])
