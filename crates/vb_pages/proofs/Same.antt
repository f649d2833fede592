-- Tables in order that have the same under each key are equal, and what is put in after all others stands at the end.
use Rattle.std.proofs.Common.{◌≡◌, T, ◌&&◌, Bool, true, false, cond, refl, sym, ap, subst, ◌∙◌, List, [], ◌∷◌, ◌++◌, Some}
use Rattle.std.specs.BTreeMap.{insert_entry}
use Rattle.std.specs.declared.cmp.Ordering.TheVariants.{Less, Equal, Greater}
use Rattle.std.specs.FinMap.Entries.{below_all, find, is_sorted, same_entries}
use Rattle.std.specs.List.{AllByRecursion}
use Rattle.std.specs.List.Sorted.{IsStrictlySortedBy}
use Rattle.std.specs.Map.{keys_of}
use Rattle.std.specs.Ordering.{is_eq, is_lt, match_ordering, ordering_reverse}
use Rattle.std.proofs.lemmas.Map.Keys.{sorted_head, sorted_tail}
use Rattle.vb_pages.specs.declared.kept.KeptPage.{KeptPage}
use Rattle.vb_pages.specs.declared.kept.PageKey.{PageKey}
use Rattle.vb_pages.specs.Tables.{key_order, kept_at}
use Rattle.vb_pages.proofs.Keys.{key_order-total}
use Rattle.vb_pages.proofs.RunSteps.{same_key}

below : (x : PageKey) (es : List (PageKey × KeptPage)) → AllByRecursion (λ y. key_order x y ≡ Less) (keys_of es) → T (below_all key_order x es)
below x [] all = tt
below x (e ∷ es) all = subst (λ r. T (is_lt r && below_all key_order x es)) (sym all.0) (below x es all.1)

sorted : (es : List (PageKey × KeptPage)) → IsStrictlySortedBy key_order (keys_of es) → T (is_sorted key_order es)
sorted [] order = tt
sorted (e ∷ es) order = both (below_all key_order e.0 es) (is_sorted key_order es) (below e.0 es (sorted_head key_order e.0 (keys_of es) order)) (sorted es (sorted_tail key_order e.0 (keys_of es) order))
  where
    both : (a b : Bool) → T a → T b → T (a && b)
    both true b p q = q
    both false b p q = p

found : (q : PageKey) (es : List (PageKey × KeptPage)) → find key_order q es ≡ kept_at es q
found q [] = refl
found q (e ∷ es) = ap (λ o. cond (is_eq (key_order q e.0)) (Some e.1) o) (found q es)

equal_keys : (a b : PageKey) → key_order a b ≡ Equal → a ≡ b
equal_keys a b e = same_key a.slot a.page b (ap is_eq e)

-- tables that have the same under each key
pub same_tables : (old new : List (PageKey × KeptPage)) → IsStrictlySortedBy key_order (keys_of old) → IsStrictlySortedBy key_order (keys_of new)
    → ((q : PageKey) → kept_at new q ≡ kept_at old q) → new ≡ old
same_tables old new old_order new_order same = same_entries key_order key_order-total equal_keys new old (sorted new new_order) (sorted old old_order) (λ q. found q new ∙ same q ∙ sym (found q old))

before : (x : PageKey) (es : List (PageKey × KeptPage)) (e : PageKey × KeptPage) (rest : List (PageKey × KeptPage))
    → AllByRecursion (λ y. key_order x y ≡ Less) (keys_of (es ++ e ∷ rest)) → key_order x e.0 ≡ Less
before x [] e rest all = all.0
before x (f ∷ es) e rest all = before x es e rest all.1

-- an entry whose key comes after all others
pub insert_entry-last : (es : List (PageKey × KeptPage)) (e : PageKey × KeptPage) (rest : List (PageKey × KeptPage))
    → IsStrictlySortedBy key_order (keys_of (es ++ e ∷ rest)) → insert_entry key_order es e.0 e.1 ≡ es ++ e ∷ []
insert_entry-last [] e rest order = refl
insert_entry-last (f ∷ es) e rest order =
    let after : key_order e.0 f.0 ≡ Greater = key_order-total.antisymm e.0 f.0 ∙ ap ordering_reverse (before f.0 es e rest (sorted_head key_order f.0 (keys_of (es ++ e ∷ rest)) order)) in
    ap (λ r. match_ordering r ((e.0, e.1) ∷ f ∷ es) ((f.0, e.1) ∷ es) (f ∷ insert_entry key_order es e.0 e.1)) after
    ∙ ap (λ xs. f ∷ xs) (insert_entry-last es e rest (sorted_tail key_order f.0 (keys_of (es ++ e ∷ rest)) order))

appended : {X : Type 0} (xs : List X) (y : X) (zs : List X) → (xs ++ y ∷ []) ++ zs ≡ xs ++ y ∷ zs
appended [] y zs = refl
appended (x ∷ xs) y zs = ap (λ ys. x ∷ ys) (appended xs y zs)

-- the next entry of a table that is copied
pub copied-step : (all copy next : List (PageKey × KeptPage)) (key : PageKey) (kept value : KeptPage) (rest left : List (PageKey × KeptPage))
    → IsStrictlySortedBy key_order (keys_of all) → copy ++ left ≡ all → left ≡ (key, kept) ∷ rest
    → next ≡ insert_entry key_order copy key value → value ≡ kept → next ++ rest ≡ all
copied-step all copy next key kept value rest left order so_far taken inserted same =
    let parts = sym (ap (λ xs. copy ++ xs) taken) ∙ so_far in
    let last = insert_entry-last copy (key, kept) rest (subst (λ es. IsStrictlySortedBy key_order (keys_of es)) (sym parts) order) in
    ap (λ es. es ++ rest) (inserted ∙ ap (insert_entry key_order copy key) same ∙ last) ∙ appended copy (key, kept) rest ∙ parts
