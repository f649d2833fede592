-- Each node of the list stands in its slot after the commit, and nothing else does.
use Rattle.std.proofs.Common.{◌≡◌, ℕ, zero, suc, ◌+◌, ◌<◌, true, List, [], ◌∷◌, length, get_or, map, Some, refl, sym, ap, ◌∙◌, arith, subst}
use Rattle.std.specs.Prelude.{Contains}
use Rattle.std.specs.List.{find, range_with_len, slice_get}
use Rattle.std.proofs.lemmas.Bool.{eqb-true}
use Rattle.std.proofs.lemmas.Bool.Decides.{Decides-eqb}
use Rattle.std.proofs.lemmas.List.Elements.{All-contains, Contains-append_left, Contains-append_right}
use Rattle.vb_block.specs.declared.digest.Ref.{Ref}
use Rattle.vb_inode.specs.declared.node.Node.{Node}
use Rattle.vb_inode.specs.declared.next_view.NextNode.{NextNode}
use Rattle.vb_inode.specs.declared.next_view.PageSource.{PageSource}
use Rattle.vb_inode.specs.declared.next_view.PageSource.TheVariants.{Kept, Fresh}
use Rattle.vb_inode.proofs.Decoded.{nodes_same}
use Rattle.vb_index.specs.declared.held.Held.{Held}
use Rattle.vb_index.specs.Nodes.{held_at}
use Rattle.vb_index.proofs.Tables.{held_in_table}
use Rattle.vb_plan.specs.declared.plan_page.PlanPage.{PlanPage}
use Rattle.vb_plan.specs.Conditions.{CanPlan, IsNextNode}
use Rattle.vb_plan.specs.Laws.{slots_next}
use Rattle.vb_plan.specs.Maps.{committed_refs, group_count, map_source, map_sources, FileRefs}
use Rattle.vb_plan.specs.Plans.{Basis, all_held, all_pages, data_page, data_refs, held_next, map_image, maps_due, pages_next, taken_by, taken_by_data}
use Rattle.vb_plan.specs.Sources.{pages_written, refs_from}
use Rattle.vb_plan.specs.Standing.{HasReference, StandsNext}
use Rattle.vb_plan.proofs.Listed.{by_slot-found, found-in, found-passes, has_slot, only-found, same-some}
use Rattle.vb_plan.proofs.NextTrees.{own_next}
use Rattle.vb_plan.proofs.Placing.{length-refs_from}
use Rattle.vb_plan.proofs.MapSources.{length-map_sources}
use Rattle.vb_plan.proofs.References.{page_is_written, ref_kept}
use Rattle.vb_plan.proofs.Slots.{length-by_slot}

-- ---- one page

-- a page from a source has its reference next
has-reference : (page : ℕ → Ref → PlanPage) (free : List ℕ) (taken : ℕ) (sources : List PageSource) (pages : List PlanPage) (k : ℕ) (s : PageSource) (r : Ref) → ((p : PlanPage) → Contains (pages_written page free taken 0 sources) p → Contains pages p) → slice_get sources k ≡ Some s → slice_get (refs_from free taken sources) k ≡ Some r → HasReference pages (page k) s r
has-reference page free taken sources pages k (Kept kept) r all source given =
    same-some r kept (sym given ∙ ref_kept free taken sources k kept source)
has-reference page free taken sources pages k (Fresh digest) r all source given =
    let w = page_is_written page free taken 0 sources k digest source in
    let same : w.r ≡ r = same-some w.r r (sym w.there ∙ given) in
    let at : 0 + k ≡ k = omega arith in (
      sym (ap (λ (r : Ref). r.digest) same) ∙ w.is_digest,
      subst (λ (r : Ref). Contains pages (page k r)) same (all (page k w.r) (subst (λ (n : ℕ). Contains (pages_written page free taken 0 sources) (page n w.r)) at w.written)),
    )

slice_get-within : {X : Type 0} (xs : List X) (k : ℕ) (x : X) → slice_get xs k ≡ Some x → k < length xs
slice_get-within [] k x e = absurd (cc)
slice_get-within (y ∷ xs) zero x e = omega arith
slice_get-within (y ∷ xs) (suc k) x e = omega (arith, slice_get-within xs k x e)

range-at : {X : Type 0} (f : ℕ → X) (first count k : ℕ) → k < count → slice_get (map f (range_with_len first count)) k ≡ Some (f (first + k))
range-at f first zero k within = absurd (omega arith)
range-at f first (suc count) zero within = ap (λ (n : ℕ). Some (f n)) (omega arith)
range-at f first (suc count) (suc k) within =
    range-at f (first + 1) count k (omega arith) ∙ ap (λ (n : ℕ). Some (f n)) (omega arith)

-- a map page has its source
map-at : (old : FileRefs) (refs : List Ref) (k : ℕ) → k < group_count refs → slice_get (map_sources old refs) k ≡ Some (map_source old refs k)
map-at old refs k within = range-at (map_source old refs) 0 (group_count refs) k within ∙ ap (λ (n : ℕ). Some (map_source old refs n)) (omega arith)

-- ---- one node

-- what a node holds after so many taken places, as one of all
pub record IsOneOf (basis : Basis) (taken : ℕ) (next : List NextNode) (x : NextNode) (held : Held) : Type 0 where
  pub at : ℕ
  pub listed : Contains next x
  pub is : held ≡ held_next basis at x
  pub among : Contains (all_held basis taken next) held
  pub written : (p : PlanPage) → Contains (pages_next basis at x) p → Contains (all_pages basis taken next) p

here : {X : Type 0} (x : X) (xs : List X) → Contains (x ∷ xs) x
here x xs = (0, omega arith, refl)

later : {X : Type 0} (x y : X) (xs : List X) → Contains xs y → Contains (x ∷ xs) y
later x y xs has = (suc has.0, omega (arith, has.1), has.2)

first-one : (basis : Basis) (taken : ℕ) (x : NextNode) (next : List NextNode) → IsOneOf basis taken (x ∷ next) x (held_next basis taken x)
first-one basis taken x next = record {
  at = taken;
  listed = here x next;
  is = refl;
  among = here (held_next basis taken x) (all_held basis (taken_by basis taken x) next);
  written = λ p has. Contains-append_left (pages_next basis taken x) (all_pages basis (taken_by basis taken x) next) p has;
}

later-one : (basis : Basis) (taken : ℕ) (x : NextNode) (next : List NextNode) (y : NextNode) (held : Held) → IsOneOf basis (taken_by basis taken x) next y held → IsOneOf basis taken (x ∷ next) y held
later-one basis taken x next y held one = record {
  at = one.at;
  listed = later x y next one.listed;
  is = one.is;
  among = later (held_next basis taken x) held (all_held basis (taken_by basis taken x) next) one.among;
  written = λ p has. Contains-append_right (pages_next basis taken x) (all_pages basis (taken_by basis taken x) next) p (one.written p has);
}

-- each node of the list is one of all
node-one : (basis : Basis) (taken : ℕ) (next : List NextNode) (x : NextNode) → Contains next x → (held : Held) × IsOneOf basis taken next x held
node-one basis taken [] x has = absurd (omega (arith, has.1))
node-one basis taken (y ∷ next) x (zero, within, is) =
    let same : y ≡ x = is in
    (held_next basis taken x, subst (λ (z : NextNode). IsOneOf basis taken (z ∷ next) x (held_next basis taken x)) (sym same) (first-one basis taken x next))
node-one basis taken (y ∷ next) x (suc k, within, is) =
    let one = node-one basis (taken_by basis taken y) next x (k, omega arith, is) in
    (one.0, later-one basis taken y next x one.0 one.1)

-- and what is held next is that of one
held-one : (basis : Basis) (taken : ℕ) (next : List NextNode) (held : Held) → Contains (all_held basis taken next) held → (x : NextNode) × IsOneOf basis taken next x held
held-one basis taken [] held has = absurd (omega (arith, has.1))
held-one basis taken (y ∷ next) held (zero, within, is) =
    let same : held_next basis taken y ≡ held = is in
    (y, subst (IsOneOf basis taken (y ∷ next) y) same (first-one basis taken y next))
held-one basis taken (y ∷ next) held (suc k, within, is) =
    let one = held-one basis (taken_by basis taken y) next held (k, omega arith, is) in
    (one.0, later-one basis taken y next one.0 held one.1)

-- ---- by slot

-- one of all stands in its slot
one-stands : (basis : Basis) (next : List NextNode) (x : NextNode) (held : Held) → CanPlan basis next → IsOneOf basis 0 next x held → StandsNext basis next x held
one-stands basis next x held can one =
    let is = All-contains (IsNextNode (length basis.nodes)) next x can.nodes one.listed in
    let slot_is : held.node.slot ≡ x.node.slot = ap (λ (h : Held). h.node.slot) one.is in
    let all = all_held basis 0 next in
    let k = one.among.0 in
    let same : get_or all k held ≡ held = one.among.2 in
    let passes : has_slot x.node.slot (get_or all k held) ≡ true = ap (has_slot x.node.slot) same ∙ (Decides-eqb held.node.slot x.node.slot).1 slot_is in
    let found = only-found (has_slot x.node.slot) all k held (own_next basis next can.own_slot x.node.slot) one.among.1 passes in
    let refs_are : held.refs ≡ data_refs basis one.at x = ap (λ (h : Held). h.refs) one.is in
    let maps_are : held.node.maps ≡ refs_from basis.free (taken_by_data one.at x) (maps_due basis one.at x) = ap (λ (h : Held). h.node.maps) one.is in
    record {
      listed = one.listed;
      there = by_slot-found (length basis.nodes) all x.node.slot is.slot (own_next basis next can.own_slot x.node.slot) ∙ found ∙ ap (λ (h : Held). Some h) same;
      node = nodes_same x.node (record held.node { maps = [] }) (sym slot_is) (sym (ap (λ (h : Held). h.node.kind) one.is)) (sym (ap (λ (h : Held). h.node.parent) one.is)) (sym (ap (λ (h : Held). h.node.name) one.is)) (sym (ap (λ (h : Held). h.node.length) one.is)) is.unplanned;
      pages = λ n s r source given.
          has-reference (data_page x.node.slot) basis.free one.at x.pages (all_pages basis 0 next) n s r
          (λ p has. one.written p (Contains-append_left (pages_written (data_page x.node.slot) basis.free one.at 0 x.pages) (pages_written (map_image (data_refs basis one.at x)) basis.free (taken_by_data one.at x) 0 (maps_due basis one.at x)) p has))
          source (ap (λ (rs : List Ref). slice_get rs n) (sym refs_are) ∙ given);
      maps = λ n r given.
          subst (λ (refs : List Ref). HasReference (all_pages basis 0 next) (map_image refs n) (map_source (committed_refs basis.nodes x.node.slot) refs n) r) (sym refs_are)
          (map-stands basis next x one n r (ap (λ (rs : List Ref). slice_get rs n) (sym maps_are) ∙ given));
    }
  where
    map-stands : (basis : Basis) (next : List NextNode) (x : NextNode) {held : Held} → (one : IsOneOf basis 0 next x held) → (n : ℕ) (r : Ref) → slice_get (refs_from basis.free (taken_by_data one.at x) (maps_due basis one.at x)) n ≡ Some r → HasReference (all_pages basis 0 next) (map_image (data_refs basis one.at x) n) (map_source (committed_refs basis.nodes x.node.slot) (data_refs basis one.at x) n) r
    map-stands basis next x one n r given =
        let sources = maps_due basis one.at x in
        let refs = data_refs basis one.at x in
        let old = committed_refs basis.nodes x.node.slot in
        let within = slice_get-within (refs_from basis.free (taken_by_data one.at x) sources) n r given in
        let count : n < group_count refs = omega (arith, within, length-refs_from basis.free (taken_by_data one.at x) sources, length-map_sources old refs) in
        has-reference (map_image refs) basis.free (taken_by_data one.at x) sources (all_pages basis 0 next) n (map_source old refs n) r
        (λ p has. one.written p (Contains-append_right (pages_written (data_page x.node.slot) basis.free one.at 0 x.pages) (pages_written (map_image refs) basis.free (taken_by_data one.at x) 0 sources) p has))
        (map-at old refs n count) given

-- each node of the list stands in its slot
pub node-stands : (basis : Basis) (next : List NextNode) (x : NextNode) → CanPlan basis next → Contains next x → (held : Held) × StandsNext basis next x held
node-stands basis next x can has =
    let one = node-one basis 0 next x has in
    (one.0, one-stands basis next x one.0 can one.1)

-- and what stands in a slot is one of them
pub slot-stands : (basis : Basis) (next : List NextNode) (slot : ℕ) (held : Held) → CanPlan basis next → held_at (slots_next basis next) slot ≡ Some held → (x : NextNode) × (x.node.slot ≡ slot) × StandsNext basis next x held
slot-stands basis next slot held can there =
    let all = all_held basis 0 next in
    let within : slot < length basis.nodes = omega (arith, held_in_table (slots_next basis next) slot held there, length-by_slot (length basis.nodes) all) in
    let found : find (has_slot slot) all ≡ Some held = sym (by_slot-found (length basis.nodes) all slot within (own_next basis next can.own_slot slot)) ∙ there in
    let one = held-one basis 0 next held (found-in (has_slot slot) all held found) in
    let stands = one-stands basis next one.0 held can one.1 in
    let own : one.0.node.slot ≡ slot = ap (λ (n : Node). n.slot) stands.node ∙ eqb-true held.node.slot slot (found-passes (has_slot slot) all held found) in
    (one.0, own, stands)
