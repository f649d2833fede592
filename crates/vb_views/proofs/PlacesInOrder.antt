-- The places that a view's references name can be claimed in the order in which map pages are read.
use Rattle.std.proofs.Common.{◌≡◌, ℕ, suc, ◌+◌, ◌-◌, ◌*◌, ◌<◌, ◌≤◌, Bool, true, false, not, cond, eqb, List, [], ◌∷◌, ◌++◌, length, take, drop, Option, Some, None, unwrap_or, refl, sym, ap, subst, ◌∙◌, length-drop, arith}
use Rattle.std.proofs.lemmas.List.{get_or-replicate, length-replicate, map-append, take-append-drop}
use Rattle.std.proofs.lemmas.List.Elements.{All-append, All-cons, All-head, All-nil, All-tail}
use Rattle.std.proofs.lemmas.List.Sums.{sum_by-append}
use Rattle.std.specs.List.{All, flat_map}
use Rattle.vb_block.specs.declared.digest.Ref.{Ref}
use Rattle.vb_head.specs.declared.head.Head.{Head}
use Rattle.vb_index.specs.declared.held.Held.{Held}
use Rattle.vb_index.specs.Indexes.{IndexState}
use Rattle.vb_index.specs.Nodes.{held_at, is_file_node, is_folder_node, refs_of, IsHeld}
use Rattle.vb_store.specs.Metadata.{no_claims}
use Rattle.vb_store.specs.Views.{data_start, places_in, places_of, places_of_slot}
use Rattle.vb_tree.specs.Trees.{data_pages_of, map_pages_of}
use Rattle.vb_views.specs.AtRest.{IsViewOf}
use Rattle.vb_views.proofs.ClaimedPlaces.{CanClaim, IsUnclaimed, can-distinct, times}
use Rattle.vb_views.proofs.MapsTaken.{order_from, order_of}

-- ---- the places of a slot

-- a file has a reference for each page, and anything else has none
pub refs-held : (slot : ℕ) (held : Held) → IsHeld slot held → unwrap_or (refs_of held) [] ≡ held.refs
refs-held slot held fits = by (is_file_node held.node.kind) refl where
  none : (refs : List Ref) → length refs ≡ 0 → [] ≡ refs
  none [] e = refl
  none (r ∷ rs) e = absurd (omega (arith, e))

  no_folder : (b c : Bool) → b ≡ not c → b ≡ false → c ≡ true
  no_folder b true e f = refl
  no_folder b false e f = absurd (cc (e, f))

  pages : (len : ℕ) → len ≡ 0 → data_pages_of len ≡ 0
  pages len e = ap data_pages_of e

  by : (b : Bool) → is_file_node held.node.kind ≡ b → unwrap_or (refs_of held) [] ≡ held.refs
  by true is = ap (λ (b : Bool). unwrap_or (cond b (Some held.refs) None) []) is
  by false is =
      ap (λ (b : Bool). unwrap_or (cond b (Some held.refs) None) []) is
      ∙ none held.refs (fits.each_page ∙ pages held.node.length (fits.folder_empty (no_folder (is_file_node held.node.kind) (is_folder_node held.node.kind) fits.either is)))

-- what a slot holds, as far as its places go
pub record IsPlacedAt (slot : ℕ) (held : Held) : Type 0 where
  pub fits : IsHeld slot held
  pub maps : length held.node.maps ≡ map_pages_of held.node.length

-- ---- each as often

times-append : (p : ℕ) (xs ys : List ℕ) → times p (xs ++ ys) ≡ times p xs + times p ys
times-append p xs ys = sum_by-append (λ (x : ℕ). cond (eqb x p) 1 0) xs ys

-- the places of the first references and of the rest
split_places : (refs : List Ref) → places_of refs ≡ places_of (take 113 refs) ++ places_of (drop 113 refs)
split_places refs = ap places_of (sym (take-append-drop 113 refs)) ∙ map-append (λ (r : Ref). r.place) (take 113 refs) (drop 113 refs)

times_from : (p : ℕ) (maps refs : List Ref) → length refs ≤ 113 * length maps → times p (order_from maps refs) ≡ times p (places_of maps) + times p (places_of refs)
times_from p [] [] few = refl
times_from p [] (x ∷ xs) few = absurd (omega (arith, few))
times_from p (r ∷ rs) refs few =
    let group = take 113 refs in
    let rest = drop 113 refs in
    let later = times_from p rs rest (omega (arith, few, length-drop 113 refs)) in
    omega (
      arith,
      later,
      times-append p (r.place ∷ []) (places_of group ++ order_from rs rest),
      times-append p (places_of group) (order_from rs rest),
      times-append p (r.place ∷ []) (places_of rs),
      ap (times p) (split_places refs),
      times-append p (places_of group) (places_of rest),
    )

times_of : (p : ℕ) (slot : ℕ) (held : Held) → IsPlacedAt slot held → times p (order_of (Some held)) ≡ times p (places_of_slot (Some held))
times_of p slot held is =
    let refs : unwrap_or (refs_of held) [] ≡ held.refs = refs-held slot held is.fits in
    times_from p held.node.maps held.refs (omega (arith, is.fits.each_page, is.maps))
    ∙ ap (λ (l : List Ref). times p (places_of held.node.maps) + times p (places_of l)) (sym refs)
    ∙ sym (times-append p (places_of held.node.maps) (places_of (unwrap_or (refs_of held) [])))

-- each place is as often among the places in order as among all
times_in : (p slot : ℕ) (nodes : List (Option Held)) → ((k : ℕ) (held : Held) → held_at nodes k ≡ Some held → IsPlacedAt (slot + k) held) → times p (flat_map order_of nodes) ≡ times p (places_in nodes)
times_in p slot [] each = refl
times_in p slot (None ∷ nodes) each = times_in p (slot + 1) nodes (λ k held is. subst (λ (n : ℕ). IsPlacedAt n held) (let e : slot + suc k ≡ slot + 1 + k = omega arith in e) (each (suc k) held is))
times_in p slot (Some held ∷ nodes) each =
    let rest = times_in p (slot + 1) nodes (λ k h is. subst (λ (n : ℕ). IsPlacedAt n h) (let e : slot + suc k ≡ slot + 1 + k = omega arith in e) (each (suc k) h is)) in
    omega (
      arith,
      rest,
      times_of p (slot + 0) held (each 0 held refl),
      times-append p (order_of (Some held)) (flat_map order_of nodes),
      times-append p (places_of_slot (Some held)) (places_in nodes),
    )

-- ---- each of them

pub all_first : {X : Type 0} (P : X → Type 0) (xs ys : List X) → All P (xs ++ ys) → All P xs
all_first P [] ys all = All-nil P
all_first P (x ∷ xs) ys all = All-cons P x xs (All-head P x (xs ++ ys) all) (all_first P xs ys (All-tail P x (xs ++ ys) all))

pub all_rest : {X : Type 0} (P : X → Type 0) (xs ys : List X) → All P (xs ++ ys) → All P ys
all_rest P [] ys all = all
all_rest P (x ∷ xs) ys all = all_rest P xs ys (All-tail P x (xs ++ ys) all)

all_from : (P : ℕ → Type 0) (maps refs : List Ref) → All P (places_of maps) → All P (places_of refs) → All P (order_from maps refs)
all_from P [] refs first second = All-nil P
all_from P (r ∷ rs) refs first second =
    let group = take 113 refs in
    let rest = drop 113 refs in
    let both : All P (places_of group ++ places_of rest) = subst (All P) (split_places refs) second in
    All-cons P r.place (places_of group ++ order_from rs rest) (All-head P r.place (places_of rs) first)
    (All-append P (places_of group) (order_from rs rest) (all_first P (places_of group) (places_of rest) both)
    (all_from P rs rest (All-tail P r.place (places_of rs) first) (all_rest P (places_of group) (places_of rest) both)))

all_of : (P : ℕ → Type 0) (slot : ℕ) (held : Held) → IsPlacedAt slot held → All P (places_of_slot (Some held)) → All P (order_of (Some held))
all_of P slot held is all =
    let refs : unwrap_or (refs_of held) [] ≡ held.refs = refs-held slot held is.fits in
    let pages : List ℕ = places_of (unwrap_or (refs_of held) []) in
    all_from P held.node.maps held.refs (all_first P (places_of held.node.maps) pages all)
    (subst (λ (l : List Ref). All P (places_of l)) refs (all_rest P (places_of held.node.maps) pages all))

all_in : (P : ℕ → Type 0) (slot : ℕ) (nodes : List (Option Held)) → ((k : ℕ) (held : Held) → held_at nodes k ≡ Some held → IsPlacedAt (slot + k) held) → All P (places_in nodes) → All P (flat_map order_of nodes)
all_in P slot [] each all = All-nil P
all_in P slot (None ∷ nodes) each all = all_in P (slot + 1) nodes (λ k held is. subst (λ (n : ℕ). IsPlacedAt n held) (let e : slot + suc k ≡ slot + 1 + k = omega arith in e) (each (suc k) held is)) all
all_in P slot (Some held ∷ nodes) each all =
    All-append P (order_of (Some held)) (flat_map order_of nodes)
    (all_of P (slot + 0) held (each 0 held refl) (all_first P (places_of_slot (Some held)) (places_in nodes) all))
    (all_in P (slot + 1) nodes (λ k h is. subst (λ (n : ℕ). IsPlacedAt n h) (let e : slot + suc k ≡ slot + 1 + k = omega arith in e) (each (suc k) h is)) (all_rest P (places_of_slot (Some held)) (places_in nodes) all))

-- ---- all places of a view

unclaimed : (head : Head) (p : ℕ) → data_start head ≤ p → p < head.blocks → IsUnclaimed (no_claims head) p
unclaimed head p from below = record {
  from = from;
  below = omega (arith, from, below, length-replicate (head.blocks - data_start head) false);
  free = get_or-replicate (head.blocks - data_start head) (p - data_start head) false false (omega (arith, from, below));
}

pub places-claimed : (head : Head) (index : IndexState) → IsViewOf head index → CanClaim (no_claims head) (flat_map order_of index.nodes)
places-claimed head index is =
    let placed : (k : ℕ) (held : Held) → held_at index.nodes k ≡ Some held → IsPlacedAt (0 + k) held =
    λ k held there. subst (λ (n : ℕ). IsPlacedAt n held) (let e : k ≡ 0 + k = omega arith in e) (record { fits = is.table.fits k held there; maps = is.can.maps k held there }) in
    can-distinct (no_claims head) (flat_map order_of index.nodes)
    (λ p. omega (arith, times_in p 0 index.nodes placed, is.can.once p))
    (all_in (IsUnclaimed (no_claims head)) 0 index.nodes placed (λ k d within. unclaimed head _ (is.can.above k d within) (is.can.below k d within)))
