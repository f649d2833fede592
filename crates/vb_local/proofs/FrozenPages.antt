-- The pages that a frozen view has out of memory: where they lie, and what a disk that shows the folder has of them.
use Rattle.std.proofs.Common.{◌≡◌, ◌≢◌, ℕ, zero, suc, ◌+◌, ◌<◌, ◌==◌, List, [], ◌∷◌, map, slice_get, unwrap_or, All, Option, Some, None, inl, inr, refl, sym, ap, subst, ◌∙◌, arith}
use Rattle.std.specs.Prelude.{Contains}
use Rattle.std.specs.List.{flat_map}
use Rattle.std.specs.Option.{option_and_then, option_map}
use Rattle.std.proofs.lemmas.Bool.Decides.{Decides-eqb, eqb_tells}
use Rattle.std.proofs.lemmas.List.Elements.{All-append, All-contains, All-head, All-nil, All-tail, Contains-append_left, Contains-append_right}
use Rattle.vb_block.specs.declared.digest.Ref.{Ref}
use Rattle.vb_disk.specs.States.{DiskState}
use Rattle.vb_tree.specs.declared.tree.TreeEntry.{TreeEntry}
use Rattle.vb_index.specs.declared.held.Held.{Held}
use Rattle.vb_index.specs.Nodes.{held_at, refs_of, IsTable}
use Rattle.vb_pages.specs.declared.kept.KeptPage.{KeptPage}
use Rattle.vb_pages.specs.declared.kept.PageKey.{PageKey}
use Rattle.vb_pages.specs.Tables.{kept_page}
use Rattle.vb_active.specs.Views.{ref_at}
use Rattle.vb_commit.specs.Ways.{WayState}
use Rattle.vb_frozen.specs.declared.entry.FrozenEntry.{FrozenEntry}
use Rattle.vb_frozen.specs.Orders.{entry_in, AreApart}
use Rattle.vb_frozen.specs.Sources.{next_node, next_of, source_of, sources_from}
use Rattle.vb_frozen.specs.Views.{HasFrozenTree, IsBacked, IsOnDisk}
use Rattle.vb_plan.specs.Conditions.{kept_ref, kept_refs, refs_held}
use Rattle.vb_plan.proofs.Listed.{found-first, found-later}
use Rattle.vb_store.specs.Views.{CanViewNext, ViewState, places_in}
use Rattle.vb_views.specs.AtRest.{HoldsAllPages, HoldsRef}
use Rattle.vb_views.proofs.PlacesInOrder.{refs-held}
use Rattle.vb_local.specs.Phases.{AreTied, IsTiedIn}
use Rattle.vb_local.specs.Shown.{LocalTrees, RestsFor, ShowsDuring, ShowsIn, ShowsOn}
use Rattle.vb_local.specs.States.{frozen_in, LocalState, PhaseState, Rests, Waits, Writes}
use Rattle.vb_local.specs.Ties.{FrozenRelies, FrozenState, IsFrozenOut}
use Rattle.vb_local.proofs.LivePlaces.{named-place}
use Rattle.vb_local.proofs.PlansShown.{ref-holds}

-- ---- entries by place

-- the entry at a place of an order is the one that is found by its slot, where no two have one
found-at : (order : List FrozenEntry) (i : ℕ) (e : FrozenEntry) → AreApart order → slice_get order i ≡ Some e → entry_in order e.slot ≡ Some e
found-at [] i e apart at = absurd (cc at)
found-at (x ∷ es) zero e apart at =
    let same : x ≡ e = cc at in
    found-first (λ (y : FrozenEntry). y.slot == e.slot) x es ((Decides-eqb x.slot e.slot).1 (ap (λ (y : FrozenEntry). y.slot) same)) ∙ ap (λ (y : FrozenEntry). Some y) same
found-at (x ∷ es) (suc i) e apart at = elim (eqb_tells x.slot e.slot) [
  | inl equal ↦ absurd (beside es i e apart.0 at (sym equal.1))
  | inr other ↦ found-later (λ (y : FrozenEntry). y.slot == e.slot) x es other.0 ∙ found-at es i e apart.1 at
] where
  beside : (fs : List FrozenEntry) (k : ℕ) (f : FrozenEntry) → All (λ (y : FrozenEntry). y.slot ≢ x.slot) fs → slice_get fs k ≡ Some f → f.slot ≢ x.slot
  beside [] k f all is = absurd (cc is)
  beside (y ∷ fs) zero f all is = let same : y ≡ f = cc is in subst (λ (z : FrozenEntry). z.slot ≢ x.slot) same (All-head (λ (z : FrozenEntry). z.slot ≢ x.slot) y fs all)
  beside (y ∷ fs) (suc k) f all is = beside fs k f (All-tail (λ (z : FrozenEntry). z.slot ≢ x.slot) y fs all) is

-- a page on the disk is one of the entry at its place
pub record IsOutOf (order : List FrozenEntry) (pages : List (PageKey × KeptPage)) (i page : ℕ) (reference : Ref) : Type 0 where
  pub entry : FrozenEntry
  pub there : slice_get order i ≡ Some entry
  pub apart : kept_page pages entry.slot page ≡ None
  pub at : slice_get entry.refs page ≡ Some reference

out-of : (order : List FrozenEntry) (pages : List (PageKey × KeptPage)) (i page : ℕ) (reference : Ref) → IsOnDisk order pages i page reference → IsOutOf order pages i page reference
out-of order pages i page reference out = by (slice_get order i) refl out.at out.apart where
  by : (o : Option FrozenEntry) → slice_get order i ≡ o → option_and_then (λ (e : FrozenEntry). slice_get e.refs page) o ≡ Some reference → option_and_then (λ (e : FrozenEntry). kept_page pages e.slot page) o ≡ None → IsOutOf order pages i page reference
  by None there at apart = absurd (cc at)
  by (Some e) there at apart = record { entry = e; there = there; apart = apart; at = at }

-- so it is out of memory by its slot
slot-out : (frozen : FrozenState) (i page : ℕ) (reference : Ref) → AreApart frozen.order → (of : IsOutOf frozen.order frozen.pages i page reference) → IsFrozenOut frozen of.entry.slot page reference
slot-out frozen i page reference apart of = record {
  at = ap (λ (o : Option FrozenEntry). slice_get (unwrap_or (option_map (λ (e : FrozenEntry). e.refs) o) []) page) (found-at frozen.order i of.entry apart of.there) ∙ of.at;
  apart = of.apart;
}

-- nodes on which the view relies have it
relied : (nodes : List (Option Held)) (frozen : FrozenState) (i page : ℕ) (reference : Ref) → AreApart frozen.order → FrozenRelies nodes frozen → IsOnDisk frozen.order frozen.pages i page reference → (slot : ℕ) × (ref_at nodes slot page ≡ Some reference)
relied nodes frozen i page reference apart relies out =
    let of = out-of frozen.order frozen.pages i page reference out in
    (of.entry.slot, relies of.entry.slot page reference (slot-out frozen i page reference apart of))

-- ---- where they lie

below-in : (v : ViewState) (s : LocalState) (phase : PhaseState) (frozen : FrozenState) (i page : ℕ) (reference : Ref) → All (λ place. place < v.head.blocks) (places_in v.index.nodes) → CanViewNext v.head v.next → IsTiedIn v s.live phase → frozen_in phase ≡ Some frozen → AreApart frozen.order → IsOnDisk frozen.order frozen.pages i page reference → reference.place < v.head.blocks
below-in v s (Rests None) frozen i page reference below next tied there apart out = absurd (cc there)
below-in v s (Rests (Some one)) frozen i page reference below next tied there apart out =
    let same : one ≡ frozen = cc there in
    let has = relied v.index.nodes frozen i page reference apart (subst (FrozenRelies v.index.nodes) same tied.frozen_is.relies) out in
    named-place (λ place. place < v.head.blocks) v.index.nodes has.0 page reference below has.1
below-in v s (Waits one epoch) frozen i page reference below next tied there apart out =
    let same : one ≡ frozen = cc there in
    let has = relied v.index.nodes frozen i page reference apart (subst (FrozenRelies v.index.nodes) same tied.frozen_is.relies) out in
    named-place (λ place. place < v.head.blocks) v.index.nodes has.0 page reference below has.1
below-in v s (Writes one way) frozen i page reference below next tied there apart out =
    let same : one ≡ frozen = cc there in
    let has = relied tied.next.nodes frozen i page reference apart (subst (FrozenRelies tied.next.nodes) same tied.frozen_is.relies) out in
    named-place (λ place. place < v.head.blocks) tied.next.nodes has.0 page reference (subst (CanViewNext v.head) tied.begun next).0.below has.1

pub frozen-below : (s : LocalState) (frozen : FrozenState) (i page : ℕ) (reference : Ref) → AreTied s → frozen_in s.phase ≡ Some frozen → AreApart frozen.order → IsOnDisk frozen.order frozen.pages i page reference → reference.place < s.view.head.blocks
frozen-below s frozen i page reference tied there apart out =
    below-in s.view s s.phase frozen i page reference tied.view.can.below tied.view.can_next tied.phase there apart out

-- ---- the tree

pub frozen-tree : (d : DiskState) (s : LocalState) (t : LocalTrees) (frozen : FrozenState) → ShowsOn d s t → frozen_in s.phase ≡ Some frozen → HasFrozenTree frozen.order frozen.pages d t.frozen
frozen-tree d s t frozen shows there = by s.view s.phase shows.phase there where
  by : (v : ViewState) (phase : PhaseState) → ShowsIn v phase t d → frozen_in phase ≡ Some frozen → HasFrozenTree frozen.order frozen.pages d t.frozen
  by v (Rests None) shown is = absurd (cc is)
  by v (Rests (Some one)) shown is = let same : one ≡ frozen = cc is in subst (λ (f : FrozenState). HasFrozenTree f.order f.pages d t.frozen) same shown.stands
  by v (Waits one epoch) shown is = let same : one ≡ frozen = cc is in subst (λ (f : FrozenState). HasFrozenTree f.order f.pages d t.frozen) same shown.tree
  by v (Writes one way) shown is = let same : one ≡ frozen = cc is in subst (λ (f : FrozenState). HasFrozenTree f.order f.pages d t.frozen) same shown.tree

-- ---- what the disk has of them

-- the next view keeps the reference of a page that an entry has out of memory
source-kept : (pages : List (PageKey × KeptPage)) (slot from : ℕ) (refs : List Ref) (k : ℕ) (r : Ref) → kept_page pages slot (from + k) ≡ None → slice_get refs k ≡ Some r → Contains (flat_map kept_ref (sources_from pages slot from refs)) r
source-kept pages slot from [] k r apart at = absurd (cc at)
source-kept pages slot from (x ∷ refs) zero r apart at =
    let none : kept_page pages slot from ≡ None = ap (kept_page pages slot) (let e : from ≡ from + 0 = omega arith in e) ∙ apart in
    let rest = flat_map kept_ref (sources_from pages slot (from + 1) refs) in
    Contains-append_left (kept_ref (source_of (kept_page pages slot from) x)) rest r (subst (λ (o : Option (List ℕ)). Contains (kept_ref (source_of o x)) r) (sym none) (0, omega arith, cc at))
source-kept pages slot from (x ∷ refs) (suc k) r apart at =
    Contains-append_right (kept_ref (source_of (kept_page pages slot from) x)) (flat_map kept_ref (sources_from pages slot (from + 1) refs)) r
    (source-kept pages slot (from + 1) refs k r (ap (kept_page pages slot) (let e : from + 1 + k ≡ from + suc k = omega arith in e) ∙ apart) at)

order-keeps : (pages : List (PageKey × KeptPage)) (order : List FrozenEntry) (i k : ℕ) (e : FrozenEntry) (r : Ref) → slice_get order i ≡ Some e → kept_page pages e.slot k ≡ None → slice_get e.refs k ≡ Some r → Contains (kept_refs (map (next_node pages) order)) r
order-keeps pages [] i k e r there apart at = absurd (cc there)
order-keeps pages (x ∷ order) zero k e r there apart at =
    let same : x ≡ e = cc there in
    Contains-append_left (flat_map kept_ref (next_node pages x).pages) (kept_refs (map (next_node pages) order)) r
    (subst (λ (y : FrozenEntry). Contains (flat_map kept_ref (next_node pages y).pages) r) (sym same)
    (source-kept pages e.slot 0 e.refs k r (ap (kept_page pages e.slot) (let n : 0 + k ≡ k = omega arith in n) ∙ apart) at))
order-keeps pages (x ∷ order) (suc i) k e r there apart at =
    Contains-append_right (flat_map kept_ref (next_node pages x).pages) (kept_refs (map (next_node pages) order)) r (order-keeps pages order i k e r there apart at)

-- each reference of nodes whose pages a disk holds has its page alone
slots-hold : (d : DiskState) (nodes : List (Option Held)) → ((slot : ℕ) (held : Held) → held_at nodes slot ≡ Some held → All (HoldsRef d) (unwrap_or (refs_of held) [])) → All (HoldsRef d) (flat_map refs_held nodes)
slots-hold d [] each = All-nil (HoldsRef d)
slots-hold d (None ∷ nodes) each = slots-hold d nodes (λ slot. each (suc slot))
slots-hold d (Some held ∷ nodes) each = All-append (HoldsRef d) (unwrap_or (refs_of held) []) (flat_map refs_held nodes) (each 0 held refl) (slots-hold d nodes (λ slot. each (suc slot)))

nodes-hold : (d : DiskState) (nodes : List (Option Held)) → IsTable nodes → HoldsAllPages nodes d → All (HoldsRef d) (flat_map refs_held nodes)
nodes-hold d nodes table holds = slots-hold d nodes (λ slot held there. subst (All (HoldsRef d)) (sym (refs-held slot held (table.fits slot held there))) (holds slot held there).pages)

-- while the commit is on its way the next view keeps it, and the committed one has it
during-backs : (v : ViewState) (frozen : FrozenState) (way : WayState) (t : LocalTrees) (d : DiskState) (i page : ℕ) → ShowsDuring v frozen way t d → IsBacked frozen.order frozen.pages d i page
during-backs v frozen way t d i page shows reference out =
    let of = out-of frozen.order frozen.pages i page reference out in
    let kept : Contains (kept_refs (next_of frozen.order frozen.pages)) reference = order-keeps frozen.pages frozen.order i page of.entry reference of.there of.apart of.at in
    let committed = All-contains (Contains (flat_map refs_held v.index.nodes)) (kept_refs (next_of frozen.order frozen.pages)) reference shows.is.follows.can.kept kept in
    All-contains (HoldsRef d) (flat_map refs_held v.index.nodes) reference (nodes-hold d v.index.nodes shows.is.holds.view.table shows.is.holds.holds) committed

-- while no commit is planned the committed view has it
rest-backs : (v : ViewState) (frozen : FrozenState) (tree : List TreeEntry) (d : DiskState) (i page : ℕ) → RestsFor v tree d → AreApart frozen.order → FrozenRelies v.index.nodes frozen → IsBacked frozen.order frozen.pages d i page
rest-backs v frozen tree d i page rests apart relies reference out =
    let has = relied v.index.nodes frozen i page reference apart relies out in
    ref-holds v.index.nodes d has.0 page reference rests.view.table rests.rests.holds has.1

backed-in : (v : ViewState) (s : LocalState) (phase : PhaseState) (frozen : FrozenState) (t : LocalTrees) (d : DiskState) (i page : ℕ) → IsTiedIn v s.live phase → ShowsIn v phase t d → frozen_in phase ≡ Some frozen → IsBacked frozen.order frozen.pages d i page
backed-in v s (Rests None) frozen t d i page tied shows there = absurd (cc there)
backed-in v s (Rests (Some one)) frozen t d i page tied shows there =
    let same : one ≡ frozen = cc there in
    subst (λ (f : FrozenState). IsBacked f.order f.pages d i page) same (rest-backs v one t.committed d i page shows.rests shows.stands.apart tied.frozen_is.relies)
backed-in v s (Waits one epoch) frozen t d i page tied shows there =
    let same : one ≡ frozen = cc there in
    subst (λ (f : FrozenState). IsBacked f.order f.pages d i page) same (rest-backs v one t.committed d i page shows.rests shows.tree.apart tied.frozen_is.relies)
backed-in v s (Writes one way) frozen t d i page tied shows there =
    let same : one ≡ frozen = cc there in
    subst (λ (f : FrozenState). IsBacked f.order f.pages d i page) same (during-backs v one way t d i page shows)

pub frozen-backed : (d : DiskState) (s : LocalState) (t : LocalTrees) (frozen : FrozenState) (i page : ℕ) → AreTied s → ShowsOn d s t → frozen_in s.phase ≡ Some frozen → IsBacked frozen.order frozen.pages d i page
frozen-backed d s t frozen i page tied shows there = backed-in s.view s s.phase frozen t d i page tied.phase shows.phase there
