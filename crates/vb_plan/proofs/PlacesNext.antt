-- The places that the nodes name after a commit: those that stay, and those of the pages to write.
use Rattle.std.proofs.Common.{◌≡◌, ℕ, zero, suc, ◌+◌, ◌<◌, ◌≤◌, ◌==◌, Bool, true, false, cond, List, [], ◌∷◌, ◌++◌, length, get_or, drop, map, unwrap_or, All, Option, None, Some, ◌⊎◌, inl, inr, refl, sym, ap, ◌∙◌, arith}
use Rattle.std.specs.Prelude.{count_by, Contains}
use Rattle.std.specs.List.{flat_map, range_with_len, slice_get, sum_by}
use Rattle.std.proofs.lemmas.Bool.{cases_Bool, cases_lt, eqb-true, false≢true}
use Rattle.std.proofs.lemmas.Bool.Decides.{Decides-eqb}
use Rattle.std.proofs.lemmas.List.{map-append}
use Rattle.std.proofs.lemmas.List.Sums.{sum_by-cons}
use Rattle.vb_block.specs.declared.digest.Ref.{Ref}
use Rattle.vb_inode.specs.declared.node.NodeKind.{NodeKind}
use Rattle.vb_inode.specs.declared.node.NodeKind.TheVariants.{Free, Folder, File}
use Rattle.vb_inode.specs.declared.next_view.NextNode.{NextNode}
use Rattle.vb_inode.specs.declared.next_view.PageSource.{PageSource}
use Rattle.vb_inode.specs.declared.next_view.PageSource.TheVariants.{Kept, Fresh}
use Rattle.vb_inode.specs.Nodes.{is_free, may_have_length}
use Rattle.vb_tree.specs.Trees.{data_pages_of}
use Rattle.vb_index.specs.declared.held.Held.{Held}
use Rattle.vb_index.specs.Nodes.{held_at, is_file_node, refs_of}
use Rattle.vb_plan.specs.declared.plan_page.PlanPage.{PlanPage}
use Rattle.vb_plan.specs.Conditions.{kept_ref, kept_refs, refs_held, CanPlan, IsNextNode}
use Rattle.vb_plan.specs.Laws.{place_of, slots_next}
use Rattle.vb_plan.specs.Maps.{FileRefs, committed_refs, group_at, group_count, map_source, maps_in, same_refs, source_of_map}
use Rattle.vb_plan.specs.Places.{places_in, places_of, places_of_slot}
use Rattle.vb_plan.specs.Plans.{Basis, all_held, all_pages, data_page, data_refs, held_next, map_image, maps_due, pages_next, taken_by, taken_by_data}
use Rattle.vb_plan.specs.Sources.{pages_written, refs_from}
use Rattle.vb_plan.proofs.FreeOnes.{one_if, times, times-append, times-cons}
use Rattle.vb_plan.proofs.Listed.{count-cons, if-no, if-yes}
use Rattle.vb_plan.proofs.NextTrees.{below_next, own_next}
use Rattle.vb_plan.proofs.Nexts.{all_tail}
use Rattle.vb_plan.proofs.Placing.{length-refs_from}
use Rattle.vb_plan.proofs.Weighed.{all-weigh, some-weigh}

-- ---- what is counted is there

-- one of several passes, where any does
pub one-passes : {X : Type 0} (p : X → Bool) (xs : List X) → 0 < count_by p xs → (k : ℕ) × (k < length xs) × ((d : X) → p (get_or xs k d) ≡ true)
one-passes p [] some = absurd (omega arith)
one-passes p (x ∷ xs) some = elim (cases_Bool (p x)) [
  | inl e ↦ (0, omega arith, λ d. e)
  | inr e ↦ (
      let later = one-passes p xs (omega (arith, some, count-cons p x xs, if-no p x e)) in
      (suc later.0, omega (arith, later.1), λ d. later.2 d))
]

pub passing-counts : {X : Type 0} (p : X → Bool) (xs : List X) (x : X) → Contains xs x → p x ≡ true → 0 < count_by p xs
passing-counts p [] x has passes = absurd (omega (arith, has.1))
passing-counts p (y ∷ xs) x (zero, within, is) passes =
    omega (arith, count-cons p y xs, if-yes p y (ap p is ∙ passes))
passing-counts p (y ∷ xs) x (suc k, within, is) passes =
    omega (arith, count-cons p y xs, passing-counts p xs x (k, omega arith, is) passes)

-- a place that is counted is there, and the other way round
pub times-there : (place : ℕ) (places : List ℕ) → 0 < times place places → Contains places place
times-there place places some =
    let one = one-passes (λ p. p == place) places some in
    (one.0, one.1, eqb-true (get_or places one.0 place) place (one.2 place))

pub there-times : (place : ℕ) (places : List ℕ) → Contains places place → 0 < times place places
there-times place places has = passing-counts (λ p. p == place) places place has ((Decides-eqb place place).1 refl)

-- references are counted by their places
pub refs-times : (place : ℕ) (refs : List Ref) → count_by (λ r. r.place == place) refs ≡ times place (places_of refs)
refs-times place [] = refl
refs-times place (r ∷ refs) = omega (arith, count-cons (λ (r : Ref). r.place == place) r refs, times-cons place r.place (places_of refs), refs-times place refs)

-- ---- one list of pages

times-refs : (place : ℕ) (a b : List Ref) → times place (places_of (a ++ b)) ≡ times place (places_of a) + times place (places_of b)
times-refs place a b = ap (times place) (map-append (λ (r : Ref). r.place) a b) ∙ times-append place (places_of a) (places_of b)

-- the references that pages have next name the places that they keep, and those of the pages to write
source-times : (place : ℕ) (page : ℕ → Ref → PlanPage) → ((n : ℕ) (r : Ref) → place_of (page n r) ≡ r.place) → (free : List ℕ) (taken number : ℕ) (sources : List PageSource) → times place (places_of (refs_from free taken sources)) ≡ times place (places_of (flat_map kept_ref sources)) + times place (map place_of (pages_written page free taken number sources))
source-times place page at free taken number [] = refl
source-times place page at free taken number (Kept r ∷ sources) =
    omega (arith, times-cons place r.place (places_of (refs_from free taken sources)), times-cons place r.place (places_of (flat_map kept_ref sources)), source-times place page at free taken (number + 1) sources)
source-times place page at free taken number (Fresh digest ∷ sources) =
    let r : Ref = record { place = get_or free taken 0; digest = digest } in
    let rest = pages_written page free (taken + 1) (number + 1) sources in
    omega (
      arith,
      times-cons place r.place (places_of (refs_from free (taken + 1) sources)),
      times-cons place (place_of (page number r)) (map place_of rest),
      ap (one_if place) (at number r),
      source-times place page at free (taken + 1) (number + 1) sources,
    )

-- ---- map pages that stay

-- one that stays is one of the committed ones from its number on, and the others come behind it
one-stays : (place : ℕ) (group : List Ref) (same : Bool) (maps : List Ref) (number : ℕ) → times place (places_of (kept_ref (source_of_map group (cond same (slice_get maps number) None)))) + times place (places_of (drop (suc number) maps)) ≤ times place (places_of (drop number maps))
one-stays place group true [] zero = omega arith
one-stays place group false [] zero = omega arith
one-stays place group true [] (suc number) = omega arith
one-stays place group false [] (suc number) = omega arith
one-stays place group true (m ∷ maps) zero = omega (arith, times-cons place m.place [], times-cons place m.place (places_of maps))
one-stays place group false (m ∷ maps) zero = omega (arith, times-cons place m.place (places_of maps))
one-stays place group same (m ∷ maps) (suc number) = one-stays place group same maps number

-- the map pages that stay name each place at most as often as the committed ones
maps-stay : (place : ℕ) (old : FileRefs) (refs : List Ref) (first count : ℕ) → times place (places_of (flat_map kept_ref (map (map_source old refs) (range_with_len first count)))) ≤ times place (places_of (drop first old.maps))
maps-stay place old refs first zero = omega arith
maps-stay place old refs first (suc count) =
    let next : first + 1 ≡ suc first = omega arith in
    let group = group_at first refs in
    omega (
      arith,
      times-refs place (kept_ref (map_source old refs first)) (flat_map kept_ref (map (map_source old refs) (range_with_len (first + 1) count))),
      maps-stay place old refs (first + 1) count,
      ap (λ (n : ℕ). times place (places_of (drop n old.maps))) next,
      one-stays place group (same_refs group (group_at first old.refs)) old.maps first,
    )

-- ---- one node

-- what a node of the list holds are the pages of a file, or none
no_pages : (kind : NodeKind) (len : ℕ) (refs : List Ref) → is_free kind ≡ false → may_have_length kind len ≡ true → length refs ≡ data_pages_of len → unwrap_or (cond (is_file_node kind) (Some refs) None) [] ≡ refs
no_pages Free len refs used measured each = absurd (false≢true (sym used))
no_pages File len refs used measured each = refl
no_pages Folder len [] used measured each = refl
no_pages Folder len (r ∷ refs) used measured each = absurd (none (eqb-true len 0 measured))
  where
    none : len ≡ 0 → ⊥
    none no_bytes = (let e : data_pages_of len ≡ 0 = ap data_pages_of no_bytes in omega (arith, e, each))

held_refs : (basis : Basis) (taken : ℕ) (x : NextNode) → IsNextNode (length basis.nodes) x → unwrap_or (refs_of (held_next basis taken x)) [] ≡ data_refs basis taken x
held_refs basis taken x is = no_pages x.node.kind x.node.length (data_refs basis taken x) is.used is.measured (length-refs_from basis.free taken x.pages ∙ is.each_page)

-- what a node holds next names the places that its pages and its map pages keep, and those of its pages to write
node-times : (place : ℕ) (basis : Basis) (taken : ℕ) (x : NextNode) → IsNextNode (length basis.nodes) x → times place (places_of_slot (Some (held_next basis taken x))) ≡ times place (places_of (flat_map kept_ref x.pages)) + times place (places_of (flat_map kept_ref (maps_due basis taken x))) + times place (map place_of (pages_next basis taken x))
node-times place basis taken x is =
    let maps = refs_from basis.free (taken_by_data taken x) (maps_due basis taken x) in
    let mine = pages_written (data_page x.node.slot) basis.free taken 0 x.pages in
    let written = pages_written (map_image (data_refs basis taken x)) basis.free (taken_by_data taken x) 0 (maps_due basis taken x) in
    omega (
      arith,
      times-append place (places_of maps) (places_of (unwrap_or (refs_of (held_next basis taken x)) [])),
      ap (λ (rs : List Ref). times place (places_of rs)) (held_refs basis taken x is),
      source-times place (data_page x.node.slot) (λ n r. refl) basis.free taken 0 x.pages,
      source-times place (map_image (data_refs basis taken x)) (λ n r. refl) basis.free (taken_by_data taken x) 0 (maps_due basis taken x),
      ap (times place) (map-append place_of mine written),
      times-append place (map place_of mine) (map place_of written),
    )

-- ---- all nodes

-- how often a place is that of a map page in a slot
abbrev pub maps-times : ℕ → Option Held → ℕ
maps-times place o = times place (places_of (maps_in o))

record AreCounted (place : ℕ) (basis : Basis) (taken : ℕ) (next : List NextNode) : Type 0 where
  upper : sum_by (λ h. times place (places_of_slot (Some h))) (all_held basis taken next) ≤ times place (places_of (kept_refs next)) + sum_by (λ x. maps-times place (held_at basis.nodes x.node.slot)) next + times place (map place_of (all_pages basis taken next))
  lower : times place (map place_of (all_pages basis taken next)) ≤ sum_by (λ h. times place (places_of_slot (Some h))) (all_held basis taken next)

all-counted : (place : ℕ) (basis : Basis) (taken : ℕ) (next : List NextNode) → All (IsNextNode (length basis.nodes)) next → AreCounted place basis taken next
all-counted place basis taken [] nodes = record { upper = omega arith; lower = omega arith }
all-counted place basis taken (x ∷ next) nodes =
    let rest = all-counted place basis (taken_by basis taken x) next (all_tail (IsNextNode (length basis.nodes)) x next nodes) in
    let held = all_held basis (taken_by basis taken x) next in
    let one = node-times place basis taken x (nodes 0 x (omega arith)) in
    let old = committed_refs basis.nodes x.node.slot in
    let stay = maps-stay place old (data_refs basis taken x) 0 (group_count (data_refs basis taken x)) in
    let weighed = sum_by-cons (λ (h : Held). times place (places_of_slot (Some h))) (held_next basis taken x) held in
    let kept = times-refs place (flat_map kept_ref x.pages) (kept_refs next) in
    let maps = sum_by-cons (λ (x : NextNode). maps-times place (held_at basis.nodes x.node.slot)) x next in
    let pages = ap (times place) (map-append place_of (pages_next basis taken x) (all_pages basis (taken_by basis taken x) next)) ∙ times-append place (map place_of (pages_next basis taken x)) (map place_of (all_pages basis (taken_by basis taken x) next)) in
    record {
      upper = omega (arith, rest.upper, one, stay, weighed, kept, maps, pages);
      lower = omega (arith, rest.lower, one, weighed, pages);
    }

-- the places of all slots, slot by slot
slots-times : (place : ℕ) (slots : List (Option Held)) → times place (places_in slots) ≡ sum_by (λ o. times place (places_of_slot o)) slots
slots-times place [] = refl
slots-times place (o ∷ slots) =
    omega (arith, times-append place (places_of_slot o) (places_in slots), sum_by-cons (λ (o : Option Held). times place (places_of_slot o)) o slots, slots-times place slots)

-- the places of all slots are those of map pages and those of data pages
pub parts-times : (place : ℕ) (slots : List (Option Held)) → times place (places_in slots) ≡ sum_by (maps-times place) slots + times place (places_of (flat_map refs_held slots))
parts-times place [] = refl
parts-times place (o ∷ slots) =
    omega (
      arith,
      times-append place (places_of_slot o) (places_in slots),
      one o,
      times-refs place (refs_held o) (flat_map refs_held slots),
      sum_by-cons (maps-times place) o slots,
      parts-times place slots,
    )
  where
    one : (o : Option Held) → times place (places_of_slot o) ≡ maps-times place o + times place (places_of (refs_held o))
    one None = refl
    one (Some h) = times-append place (places_of h.node.maps) (places_of (unwrap_or (refs_of h) []))

-- what is kept names each place at most as often as the committed pages of data
kept-few : (place : ℕ) (nodes : List (Option Held)) (kept : List Ref) → All (λ r. Contains (flat_map refs_held nodes) r) kept → count_by (λ r. r.place == place) kept ≤ 1 → times place (places_of kept) ≤ times place (places_of (flat_map refs_held nodes))
kept-few place nodes kept all once =
    elim (cases_lt 0 (count_by (λ (r : Ref). r.place == place) kept)) [
      | inr none ↦ omega (arith, none, refs-times place kept)
      | inl some ↦ (
          let one = one-passes (λ (r : Ref). r.place == place) kept some in
          let none : Ref = record { place = 0; digest = [] } in
          let r = get_or kept one.0 none in
          let there = passing-counts (λ (r : Ref). r.place == place) (flat_map refs_held nodes) r (all one.0 none one.1) (one.2 none) in
          omega (arith, once, there, refs-times place kept, refs-times place (flat_map refs_held nodes)))
    ]

-- the places of the next nodes are at most those of the committed ones and of the pages to write, and all of the latter
pub record AreNextPlaces (basis : Basis) (next : List NextNode) (place : ℕ) : Type 0 where
  pub upper : times place (places_in (slots_next basis next)) ≤ times place (places_in basis.nodes) + times place (map place_of (all_pages basis 0 next))
  pub lower : times place (map place_of (all_pages basis 0 next)) ≤ times place (places_in (slots_next basis next))

pub next_places : (basis : Basis) (next : List NextNode) (place : ℕ) → CanPlan basis next → AreNextPlaces basis next place
next_places basis next place can =
    let held = all_held basis 0 next in
    let counted = all-counted place basis 0 next can.nodes in
    let weighed = all-weigh (λ o. times place (places_of_slot o)) refl (length basis.nodes) held (own_next basis next can.own_slot) (below_next basis next can.nodes) in
    let all = slots-times place (slots_next basis next) in
    let maps = some-weigh (λ (x : NextNode). x.node.slot) (maps-times place) refl basis.nodes next can.own_slot (λ k d within. (can.nodes k d within).slot) in
    record {
      upper = omega (arith, counted.upper, weighed, all, maps, kept-few place basis.nodes (kept_refs next) can.kept (can.kept_once place), parts-times place basis.nodes);
      lower = omega (arith, counted.lower, weighed, all);
    }

-- each is one that the committed nodes name, or that of a page to write
pub next_named : (basis : Basis) (next : List NextNode) (place : ℕ) → CanPlan basis next → Contains (places_in (slots_next basis next)) place → Contains (places_in basis.nodes) place ⊎ Contains (map place_of (all_pages basis 0 next)) place
next_named basis next place can has =
    let are = next_places basis next place can in
    elim (cases_lt 0 (times place (places_in basis.nodes))) [
      | inl some ↦ inl (times-there place (places_in basis.nodes) some)
      | inr none ↦ inr (times-there place (map place_of (all_pages basis 0 next)) (omega (arith, are.upper, none, there-times place (places_in (slots_next basis next)) has)))
    ]

-- and the place of each page to write is one
pub next_written : (basis : Basis) (next : List NextNode) (place : ℕ) → CanPlan basis next → Contains (map place_of (all_pages basis 0 next)) place → Contains (places_in (slots_next basis next)) place
next_written basis next place can has =
    let are = next_places basis next place can in
    times-there place (places_in (slots_next basis next)) (omega (arith, are.lower, there-times place (map place_of (all_pages basis 0 next)) has))

-- each place is named once, where the committed nodes name each once, and no page is to be written to one of theirs
pub next_once : (basis : Basis) (next : List NextNode) (place : ℕ) → CanPlan basis next → times place (places_in basis.nodes) ≤ 1 → times place (map place_of (all_pages basis 0 next)) ≤ 1 → (Contains (map place_of (all_pages basis 0 next)) place → Contains (places_in basis.nodes) place → ⊥) → times place (places_in (slots_next basis next)) ≤ 1
next_once basis next place can old new apart =
    let are = next_places basis next place can in
    elim (cases_lt 0 (times place (map place_of (all_pages basis 0 next)))) [
      | inr none ↦ omega (arith, are.upper, none, old)
      | inl some ↦ elim (cases_lt 0 (times place (places_in basis.nodes))) [
        | inr none ↦ omega (arith, are.upper, none, new)
        | inl both ↦ absurd (apart (times-there place (map place_of (all_pages basis 0 next)) some) (times-there place (places_in basis.nodes) both))
      ]
    ]
