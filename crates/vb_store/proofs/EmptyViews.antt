-- The nodes of an empty store are those of a view.
use Rattle.std.proofs.Common.{◌≡◌, ℕ, zero, suc, ◌-◌, ◌<◌, ◌≤◌, ◌^◌, eqb, List, [], ◌∷◌, length, get_or, replicate, count_by, Option, Some, None, refl, sym, ap, subst, ◌∙◌, arith}
use Rattle.std.specs.List.{All}
use Rattle.std.proofs.lemmas.List.Elements.{All-nil}
use Rattle.vb_index.specs.declared.held.Held.{Held}
use Rattle.vb_index.specs.Nodes.{held_at, root_held}
use Rattle.vb_index.proofs.Beginnings.{fresh-pages}
use Rattle.vb_block.specs.declared.digest.Ref.{Ref}
use Rattle.vb_inode.specs.Layout.{AreRefs}
use Rattle.vb_tree.specs.Trees.{data_pages_of, map_pages_of}
use Rattle.vb_store.specs.Formats.{CanFormat, made_head}
use Rattle.vb_store.specs.Views.{CanView, data_start, empty_index, places_in}
use Rattle.vb_store.proofs.EmptyStores.{IsInRange-made_head}

-- no reference names a place
no_places : (n : ℕ) → places_in (replicate n None) ≡ []
no_places zero = refl
no_places (suc n) = no_places n

none_at : (n k : ℕ) → get_or (replicate {A = Option Held} n None) k None ≡ None
none_at zero k = refl
none_at (suc n) zero = refl
none_at (suc n) (suc k) = none_at n k

mapped : (n slot : ℕ) (held : Held) → held_at (Some root_held ∷ replicate n None) slot ≡ Some held → length held.node.maps ≡ map_pages_of held.node.length
mapped n zero held is =
    let same : root_held ≡ held = cc in
    let P : Held → Type 0 = λ h. length h.node.maps ≡ map_pages_of h.node.length in
    subst P same refl
mapped n (suc slot) held is = let both : None ≡ Some held = sym (none_at n slot) ∙ is in cc

referred : (n slot : ℕ) (held : Held) → held_at (Some root_held ∷ replicate n None) slot ≡ Some held → length held.refs ≡ data_pages_of held.node.length
referred n zero held is =
    let same : root_held ≡ held = cc is in
    let P : Held → Type 0 = λ h. length h.refs ≡ data_pages_of h.node.length in
    subst P same refl
referred n (suc slot) held is = let both : None ≡ Some held = sym (none_at n slot) ∙ is in cc

named : (n slot : ℕ) (held : Held) → held_at (Some root_held ∷ replicate n None) slot ≡ Some held → AreRefs held.node.maps
named n zero held is =
    let same : root_held ≡ held = cc is in
    subst (λ (h : Held). AreRefs h.node.maps) same (All-nil (λ (r : Ref). (r.place < 2 ^ 32) × (length r.digest ≡ 32)))
named n (suc slot) held is = let both : None ≡ Some held = sym (none_at n slot) ∙ is in cc

pub CanView-empty : (folder : List ℕ) (blocks nodes : ℕ) → CanFormat folder blocks nodes → CanView (made_head folder blocks nodes) (empty_index (made_head folder blocks nodes))
CanView-empty folder blocks nodes can =
    let none : places_in (Some root_held ∷ replicate (nodes - 1) None) ≡ [] = no_places (nodes - 1) in
    let P : List ℕ → Type 0 = λ places. All (λ place. data_start (made_head folder blocks nodes) ≤ place) places in
    let Q : List ℕ → Type 0 = λ places. All (λ place. place < blocks) places in
    record {
      range = IsInRange-made_head folder blocks nodes can;
      closed = refl;
      limits = refl;
      pages = omega (arith, fresh-pages (nodes - 1));
      refs = referred (nodes - 1);
      maps = mapped (nodes - 1);
      map_refs = named (nodes - 1);
      above = subst P (sym none) (All-nil (λ place. data_start (made_head folder blocks nodes) ≤ place));
      below = subst Q (sym none) (All-nil (λ place. place < blocks));
      once = λ place. omega (arith, ap (count_by (λ p. eqb p place)) none);
    }
