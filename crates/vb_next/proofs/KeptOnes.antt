-- The references that the next view keeps are those of committed pages, no place twice.
use Rattle.std.proofs.Common.{◌≡◌, ℕ, zero, suc, ◌+◌, ◌<◌, ◌≤◌, Bool, cond, List, [], ◌∷◌, ◌++◌, length, get_or, drop, map, unwrap_or, All, Option, None, Some, refl, sym, ap, ◌∙◌, arith, subst}
use Rattle.std.specs.Prelude.{count_by, Contains}
use Rattle.std.specs.List.{flat_map, slice_get, sum_by}
use Rattle.std.specs.Option.{option_and_then}
use Rattle.std.proofs.lemmas.List.Elements.{All-append, Contains-append_left, Contains-append_right}
use Rattle.std.proofs.lemmas.List.Sums.{sum_by-append, sum_by-cons}
use Rattle.vb_block.specs.declared.digest.Ref.{Ref}
use Rattle.vb_tree.specs.declared.tree.TreeEntry.{TreeEntry}
use Rattle.vb_tree.specs.Trees.{pages_of_length, page_count}
use Rattle.vb_inode.specs.declared.next_view.NextNode.{NextNode}
use Rattle.vb_index.specs.declared.held.Held.{Held}
use Rattle.vb_index.specs.Nodes.{held_at, refs_at, refs_of}
use Rattle.vb_pages.specs.declared.kept.KeptPage.{KeptPage}
use Rattle.vb_pages.specs.declared.kept.PageKey.{PageKey}
use Rattle.vb_pages.specs.Tables.{kept_page}
use Rattle.vb_frozen.specs.Orders.{entry_for, order_of}
use Rattle.vb_frozen.specs.Sources.{next_node, next_of, next_root, source_of, sources_from}
use Rattle.vb_plan.specs.Conditions.{kept_ref, kept_refs, refs_held}
use Rattle.vb_plan.specs.Laws.{pages_of_next}
use Rattle.vb_next.specs.Frozen.{KeepsReferences}

-- ---- one entry

-- a list of references that the pages of an entry keep are such as a committed file has
abbrev Keeps : List (PageKey × KeptPage) → ℕ → ℕ → List Ref → List Ref → Type 0
Keeps pages slot k refs committed = (j : ℕ) (r : Ref) → kept_page pages slot (k + j) ≡ None → slice_get refs j ≡ Some r → slice_get committed (k + j) ≡ Some r

keeps-tail : (pages : List (PageKey × KeptPage)) (slot k : ℕ) (r : Ref) (refs committed : List Ref) → Keeps pages slot k (r ∷ refs) committed → Keeps pages slot (k + 1) refs committed
keeps-tail pages slot k r refs committed keeps j s none there =
    let next : k + suc j ≡ k + 1 + j = omega arith in
    subst (λ (n : ℕ). slice_get committed n ≡ Some s) next (keeps (suc j) s (ap (kept_page pages slot) next ∙ none) there)

-- a source keeps the reference where the page isn't in memory
kept-or-not : (o : Option (List ℕ)) (r s : Ref) → Contains (kept_ref (source_of o r)) s → (o ≡ None) × (r ≡ s)
kept-or-not None r s (zero, within, is) = (refl, is)
kept-or-not None r s (suc k, within, is) = absurd (omega (arith, within))
kept-or-not (Some bytes) r s has = absurd (omega (arith, has.1))

slice_get-in : {X : Type 0} (xs : List X) (k : ℕ) (x : X) → slice_get xs k ≡ Some x → Contains xs x
slice_get-in [] k x e = absurd (cc)
slice_get-in (y ∷ xs) zero x e =
    let same : y ≡ x = cc in
    (0, omega arith, same)
slice_get-in (y ∷ xs) (suc k) x e =
    let later = slice_get-in xs k x e in
    (suc later.0, omega (arith, later.1), later.2)

-- each that the pages of an entry keep is one of the committed file
pages-kept : (pages : List (PageKey × KeptPage)) (slot k : ℕ) (refs committed : List Ref) → Keeps pages slot k refs committed → All (λ r. Contains committed r) (flat_map kept_ref (sources_from pages slot k refs))
pages-kept pages slot k [] committed keeps = λ n d within. absurd (omega arith)
pages-kept pages slot k (r ∷ refs) committed keeps =
    All-append (λ r. Contains committed r) (kept_ref (source_of (kept_page pages slot k) r)) (flat_map kept_ref (sources_from pages slot (k + 1) refs))
    (λ n d within. here (get_or (kept_ref (source_of (kept_page pages slot k) r)) n d) (in-itself (kept_ref (source_of (kept_page pages slot k) r)) n d within))
    (pages-kept pages slot (k + 1) refs committed (keeps-tail pages slot k r refs committed keeps))
  where
    in-itself : (xs : List Ref) (n : ℕ) (d : Ref) → n < length xs → Contains xs (get_or xs n d)
    in-itself [] n d within = absurd (omega arith)
    in-itself (x ∷ xs) zero d within = (0, omega arith, refl)
    in-itself (x ∷ xs) (suc n) d within =
        let later = in-itself xs n d (omega arith) in
        (suc later.0, omega (arith, later.1), later.2)

    here : (s : Ref) → Contains (kept_ref (source_of (kept_page pages slot k) r)) s → Contains committed s
    here s has =
        let is = kept-or-not (kept_page pages slot k) r s has in
        let first : k + 0 ≡ k = omega arith in
        slice_get-in committed (k + 0) s (keeps 0 s (ap (kept_page pages slot) first ∙ is.0) (ap (λ (x : Ref). Some x) is.1))

-- a reference from one on, and the others
drop-next : (refs : List Ref) (k : ℕ) (r : Ref) → slice_get refs k ≡ Some r → drop k refs ≡ r ∷ drop (suc k) refs
drop-next [] k r e = absurd (cc)
drop-next (x ∷ refs) zero r e =
    let same : x ≡ r = cc in
    ap (λ (y : Ref). y ∷ refs) same
drop-next (x ∷ refs) (suc k) r e = drop-next refs k r e

count-cons : (p : Ref → Bool) (r : Ref) (refs : List Ref) → count_by p (r ∷ refs) ≡ cond (p r) 1 0 + count_by p refs
count-cons p r refs = sum_by-cons (λ (r : Ref). cond (p r) 1 0) r refs

count-append : (p : Ref → Bool) (a b : List Ref) → count_by p (a ++ b) ≡ count_by p a + count_by p b
count-append p a b = sum_by-append (λ (r : Ref). cond (p r) 1 0) a b

drop-fewer : (p : Ref → Bool) (refs : List Ref) (k : ℕ) → count_by p (drop (suc k) refs) ≤ count_by p (drop k refs)
drop-fewer p [] zero = omega arith
drop-fewer p [] (suc k) = omega arith
drop-fewer p (r ∷ refs) zero = omega (arith, count-cons p r refs)
drop-fewer p (r ∷ refs) (suc k) = drop-fewer p refs k

-- one more page keeps its reference, or is in memory
one-counted : (p : Ref → Bool) (o : Option (List ℕ)) (r : Ref) (rest committed : List Ref) (k : ℕ) → (o ≡ None → slice_get committed k ≡ Some r) → count_by p rest ≤ count_by p (drop (suc k) committed) → count_by p (kept_ref (source_of o r) ++ rest) ≤ count_by p (drop k committed)
one-counted p None r rest committed k keeps later =
    omega (
      arith,
      later,
      count-cons p r rest,
      ap (λ (rs : List Ref). count_by p rs) (drop-next committed k r (keeps refl)),
      count-cons p r (drop (suc k) committed),
    )
one-counted p (Some bytes) r rest committed k keeps later = omega (arith, later, drop-fewer p committed k)

-- they are counted at most as often as the committed ones
kept-count : (p : Ref → Bool) (pages : List (PageKey × KeptPage)) (slot k : ℕ) (refs committed : List Ref) → Keeps pages slot k refs committed → count_by p (flat_map kept_ref (sources_from pages slot k refs)) ≤ count_by p (drop k committed)
kept-count p pages slot k [] committed keeps = omega arith
kept-count p pages slot k (r ∷ refs) committed keeps =
    let next : k + 1 ≡ suc k = omega arith in
    let first : k + 0 ≡ k = omega arith in
    let later = kept-count p pages slot (k + 1) refs committed (keeps-tail pages slot k r refs committed keeps) in
    one-counted p (kept_page pages slot k) r (flat_map kept_ref (sources_from pages slot (k + 1) refs)) committed k
    (λ none. subst (λ (n : ℕ). slice_get committed n ≡ Some r) first (keeps 0 r (ap (kept_page pages slot) first ∙ none) refl))
    (subst (λ (n : ℕ). count_by p (flat_map kept_ref (sources_from pages slot (k + 1) refs)) ≤ count_by p (drop n committed)) next later)

-- ---- all entries

-- what a slot holds are the references of its file
held-refs : (o : Option Held) → refs_held o ≡ unwrap_or (option_and_then refs_of o) []
held-refs None = refl
held-refs (Some held) = refl

-- a committed reference is one of all
slot-in : (nodes : List (Option Held)) (slot : ℕ) (r : Ref) → Contains (refs_held (held_at nodes slot)) r → Contains (flat_map refs_held nodes) r
slot-in [] slot r has = absurd (omega (arith, has.1))
slot-in (o ∷ nodes) zero r has = Contains-append_left (refs_held o) (flat_map refs_held nodes) r has
slot-in (o ∷ nodes) (suc slot) r has = Contains-append_right (refs_held o) (flat_map refs_held nodes) r (slot-in nodes slot r has)

-- what an entry keeps are references of the committed file in its slot
entry-keeps : (committed nodes : List (Option Held)) (pages : List (PageKey × KeptPage)) (e : TreeEntry) → KeepsReferences committed nodes pages → Keeps pages (entry_for nodes e).slot 0 (entry_for nodes e).refs (refs_held (held_at committed (entry_for nodes e).slot))
entry-keeps committed nodes pages e keeps j r none there =
    let slot = (entry_for nodes e).slot in
    let from : 0 + j ≡ j = omega arith in
    ap (λ (rs : List Ref). slice_get rs (0 + j)) (held-refs (held_at committed slot))
    ∙ ap (slice_get (unwrap_or (refs_at committed slot) [])) from
    ∙ keeps slot j r (ap (kept_page pages slot) (sym from) ∙ none) there

-- each reference that is kept is that of a committed page
pub all-kept : (committed nodes : List (Option Held)) (pages : List (PageKey × KeptPage)) (tree : List TreeEntry) → KeepsReferences committed nodes pages → All (λ r. Contains (flat_map refs_held committed) r) (kept_refs (map (next_node pages) (order_of nodes tree)))
all-kept committed nodes pages [] keeps = λ n d within. absurd (omega arith)
all-kept committed nodes pages (e ∷ tree) keeps =
    let x = next_node pages (entry_for nodes e) in
    let slot = (entry_for nodes e).slot in
    let mine = pages-kept pages slot 0 (entry_for nodes e).refs (refs_held (held_at committed slot)) (entry-keeps committed nodes pages e keeps) in
    All-append (λ r. Contains (flat_map refs_held committed) r) (flat_map kept_ref x.pages) (kept_refs (map (next_node pages) (order_of nodes tree)))
    (λ n d within. slot-in committed slot (get_or (flat_map kept_ref x.pages) n d) (mine n d within))
    (all-kept committed nodes pages tree keeps)

-- how often a test holds of the references of the committed file in the slot of each node
abbrev pub committed-count : (Ref → Bool) → List (Option Held) → NextNode → ℕ
committed-count p committed x = count_by p (refs_held (held_at committed x.node.slot))

-- it holds at most as often of those that are kept
pub all-counted : (p : Ref → Bool) (committed nodes : List (Option Held)) (pages : List (PageKey × KeptPage)) (tree : List TreeEntry) → KeepsReferences committed nodes pages → count_by p (kept_refs (map (next_node pages) (order_of nodes tree))) ≤ sum_by (committed-count p committed) (map (next_node pages) (order_of nodes tree))
all-counted p committed nodes pages [] keeps = omega arith
all-counted p committed nodes pages (e ∷ tree) keeps =
    let x = next_node pages (entry_for nodes e) in
    let rest = map (next_node pages) (order_of nodes tree) in
    let slot = (entry_for nodes e).slot in
    omega (
      arith,
      count-append p (flat_map kept_ref x.pages) (kept_refs rest),
      kept-count p pages slot 0 (entry_for nodes e).refs (refs_held (held_at committed slot)) (entry-keeps committed nodes pages e keeps),
      all-counted p committed nodes pages tree keeps,
      sum_by-cons (committed-count p committed) x rest,
    )

-- the references of all slots, slot by slot
pub slots-count : (p : Ref → Bool) (committed : List (Option Held)) → sum_by (λ o. count_by p (refs_held o)) committed ≡ count_by p (flat_map refs_held committed)
slots-count p [] = refl
slots-count p (o ∷ committed) =
    omega (arith, sum_by-cons (λ (o : Option Held). count_by p (refs_held o)) o committed, count-append p (refs_held o) (flat_map refs_held committed), slots-count p committed)

-- ---- pages

entries-pages : (nodes : List (Option Held)) (pages : List (PageKey × KeptPage)) (tree : List TreeEntry) → pages_of_next (map (next_node pages) (order_of nodes tree)) ≡ page_count tree
entries-pages nodes pages [] = refl
entries-pages nodes pages (e ∷ tree) =
    omega (arith, sum_by-cons (λ (x : NextNode). pages_of_length x.node.length) (next_node pages (entry_for nodes e)) (map (next_node pages) (order_of nodes tree)), sum_by-cons (λ (e : TreeEntry). pages_of_length (length e.bytes)) e tree, entries-pages nodes pages tree)

-- the files of the next view take as many pages as those of the tree
pub next-pages : (nodes : List (Option Held)) (pages : List (PageKey × KeptPage)) (tree : List TreeEntry) → pages_of_next (next_of (order_of nodes tree) pages) ≡ page_count tree
next-pages nodes pages tree =
    omega (arith, sum_by-cons (λ (x : NextNode). pages_of_length x.node.length) next_root (map (next_node pages) (order_of nodes tree)), entries-pages nodes pages tree)
