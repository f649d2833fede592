-- One page that is settled in the live and in the frozen view, and all of them.
use Rattle.std.proofs.Common.{◌≡◌, ℕ, zero, suc, ◌≤◌, ◌<◌, Bool, true, false, cond, ◌&&◌, List, [], ◌∷◌, ◌++◌, length, ◌+◌, set, slice_get, Option, Some, None, IsSome, unwrap_or, refl, sym, ap, subst, ◌∙◌, arith, inl, inr}
use Rattle.std.specs.Prelude.{◌==◌}
use Rattle.std.specs.Option.{option_map}
use Rattle.std.specs.Str.{bytes_eq}
use Rattle.std.proofs.lemmas.Bool.{false≢true}
use Rattle.std.proofs.lemmas.Bool.Decides.{Decides-eqb}
use Rattle.std.proofs.lemmas.Slice.Eq.{bytes_eq-Decides}
use Rattle.vb_block.specs.declared.digest.Ref.{Ref}
use Rattle.vb_disk.specs.States.{DiskState}
use Rattle.vb_tree.specs.declared.tree.Limits.{Limits}
use Rattle.vb_tree.specs.declared.tree.TreeEntry.{TreeEntry}
use Rattle.vb_index.specs.declared.held.Held.{Held}
use Rattle.vb_index.specs.Changes.{with_ref}
use Rattle.vb_index.specs.Indexes.{IndexState, KeepsLimits}
use Rattle.vb_index.specs.Nodes.{held_at, pages_in, pages_of_slot, IsTable}
use Rattle.vb_index.proofs.PageSums.{no_more}
use Rattle.vb_pages.specs.declared.kept.KeptPage.{KeptPage}
use Rattle.vb_pages.specs.declared.kept.PageKey.{PageKey}
use Rattle.vb_pages.specs.Tables.{kept_page, Forgets}
use Rattle.vb_active.specs.Performs.{HasTreeOn}
use Rattle.vb_active.specs.Views.{ActiveState, KeepsFiles, ref_at}
use Rattle.vb_frozen.specs.declared.entry.FrozenEntry.{FrozenEntry}
use Rattle.vb_frozen.specs.Orders.{refs_in, with_reference}
use Rattle.vb_frozen.specs.Views.{HasFrozenTree}
use Rattle.vb_frozen.proofs.Settled as frozen_views
use Rattle.vb_local.specs.AtRest.{has_bytes, left_beside, unsettled, with_references, CanSettle, HasKept, HasNewRefs, KeepsFrozen, KeepsLive, NewRef, SettlesAll, SettlesFrozen, SettlesLive, Settling}
use Rattle.vb_local.specs.Ties.{ref_in, FrozenState, HaveDigests, KeepsEntries}
use Rattle.vb_local.proofs.Settled.{which, IsThere, settled-digests, settled-entries, settled-frozen, settled-live, settled-tree}

-- ---- the bytes of a page

pub same-bytes : (bytes : List ℕ) (o : Option (List ℕ)) → has_bytes bytes o ≡ true → o ≡ Some bytes
same-bytes bytes None same = absurd (false≢true same)
same-bytes bytes (Some live) same = ap Some ((bytes_eq-Decides live bytes).0 same)

-- ---- the test for a page

there-true : (slot page s k : ℕ) → IsThere slot page s k → ((s == slot) && (k == page)) ≡ true
there-true slot page s k here = ap (λ (b : Bool). b && (k == page)) ((Decides-eqb s slot).1 here.slots) ∙ (Decides-eqb k page).1 here.pages

-- what a table has there is what it has at the page
kept-there : (pages : List (PageKey × KeptPage)) (slot page s k : ℕ) → IsThere slot page s k → kept_page pages s k ≡ kept_page pages slot page
kept-there pages slot page s k here = ap (λ (n : ℕ). kept_page pages n k) here.slots ∙ ap (kept_page pages slot) here.pages

-- ---- the live view

-- where it keeps other bytes, or none, it stays
pub live-stays : (nodes : List (Option Held)) (frozen : FrozenState) (slot page : ℕ) (bytes : List ℕ) (old : ActiveState) → has_bytes bytes (kept_page old.pages slot page) ≡ false → SettlesLive nodes frozen slot page bytes old old
live-stays nodes frozen slot page bytes old other = record {
  keeps = record {
    limits = refl;
    within = λ keeps. keeps;
    relies = λ relies. relies;
    tree = λ d tree has tree_is. tree_is;
  };
  pages = λ s k. elim (which slot page s k) [
    | inl here ↦ sym (
        ap (λ (b : Bool). cond b (left_beside bytes (kept_page old.pages s k)) (kept_page old.pages s k)) (there-true slot page s k here)
        ∙ ap (λ (b : Bool). cond b None (kept_page old.pages s k)) (ap (has_bytes bytes) (kept-there old.pages slot page s k here) ∙ other))
    | inr away ↦ sym (ap (λ (b : Bool). cond b (left_beside bytes (kept_page old.pages s k)) (kept_page old.pages s k)) away)
  ];
}

-- what a slot holds takes as many pages with another reference
settled-within : (old new : IndexState) (slot page : ℕ) (reference : Ref) (held : Held) → held_at old.nodes slot ≡ Some held → new ≡ record old { nodes = set old.nodes slot (Some (with_ref page reference held)) } → KeepsLimits old → KeepsLimits new
settled-within old new slot page reference held there made keeps =
    let size : pages_of_slot (held_at old.nodes slot) ≡ pages_of_slot (Some held) = ap pages_of_slot there in
    let less = no_more old.nodes slot (Some (with_ref page reference held)) (omega (arith, size)) in
    subst KeepsLimits (sym made) (omega (arith, less, keeps))

-- where it keeps the frozen bytes, the page goes
pub live-settles : (nodes : List (Option Held)) (frozen : FrozenState) (slot page : ℕ) (bytes : List ℕ) (reference : Ref) (old new : ActiveState) (held : Held) → IsTable old.index.nodes → KeepsFiles old.index.nodes old.pages → kept_page frozen.pages slot page ≡ Some bytes → ref_at nodes slot page ≡ Some reference → has_bytes bytes (kept_page old.pages slot page) ≡ true → held_at old.index.nodes slot ≡ Some held → new.index ≡ record old.index { nodes = set old.index.nodes slot (Some (with_ref page reference held)) } → Forgets old.pages new.pages slot page → SettlesLive nodes frozen slot page bytes old new
live-settles nodes frozen slot page bytes reference old new held table files kept at same there made forgets = record {
  keeps = record {
    limits = ap (λ (i : IndexState). i.limits) made;
    within = settled-within old.index new.index slot page reference held there made;
    relies = λ relies. settled-live nodes old new slot page reference held relies at there nodes_made forgets;
    tree = λ d tree has tree_is. settled-tree d old new slot page reference held bytes tree table files tree_is (same-bytes bytes (kept_page old.pages slot page) same) (has slot page bytes reference kept at) there nodes_made forgets;
  };
  pages = λ s k. elim (which slot page s k) [
    | inl here ↦ (
        let test = there-true slot page s k here in
        forgets s k ∙ ap (λ (b : Bool). cond b None (kept_page old.pages s k)) test
        ∙ sym (ap (λ (b : Bool). cond b (left_beside bytes (kept_page old.pages s k)) (kept_page old.pages s k)) test
        ∙ ap (λ (b : Bool). cond b None (kept_page old.pages s k)) (ap (has_bytes bytes) (kept-there old.pages slot page s k here) ∙ same)))
    | inr away ↦
        forgets s k ∙ ap (λ (b : Bool). cond b None (kept_page old.pages s k)) away
        ∙ sym (ap (λ (b : Bool). cond b (left_beside bytes (kept_page old.pages s k)) (kept_page old.pages s k)) away)
  ];
} where
  nodes_made : new.index.nodes ≡ set old.index.nodes slot (Some (with_ref page reference held))
  nodes_made = ap (λ (i : IndexState). i.nodes) made

-- ---- the frozen view

some-digest : (o : Option Ref) (digest : List ℕ) → option_map (λ (r : Ref). r.digest) o ≡ Some digest → IsSome o
some-digest None digest e = absurd (cc e)
some-digest (Some r) digest e = refl

pub some-bytes : (o : Option (List ℕ)) → IsSome o → (bytes : List ℕ) × (o ≡ Some bytes)
some-bytes None some = absurd (false≢true some)
some-bytes (Some bytes) some = (bytes, refl)

some-below : (refs : List Ref) (page : ℕ) → IsSome (slice_get refs page) → page < length refs
some-below [] page some = absurd (false≢true some)
some-below (r ∷ refs) zero some = omega arith
some-below (r ∷ refs) (suc k) some = omega (arith, some-below refs k some)

-- the nodes have each page that it keeps in memory
pub kept-referred : (nodes : List (Option Held)) (frozen : FrozenState) (slot page : ℕ) → HaveDigests nodes frozen → IsSome (kept_page frozen.pages slot page) → IsSome (ref_at nodes slot page)
kept-referred nodes frozen slot page digests some =
    let kept = some-bytes (kept_page frozen.pages slot page) some in
    some-digest (ref_at nodes slot page) _ (digests slot page kept.0 kept.1)

-- so has it
pub kept-below : (frozen : FrozenState) (slot page : ℕ) → KeepsEntries frozen → IsSome (kept_page frozen.pages slot page) → page < length (refs_in frozen.order slot)
kept-below frozen slot page entries some = some-below (refs_in frozen.order slot) page (entries slot page some)

-- a page that was kept and isn't forgotten
still : (old new : List (PageKey × KeptPage)) (slot page s k : ℕ) (bytes : List ℕ) → Forgets old new slot page → kept_page new s k ≡ Some bytes → kept_page old s k ≡ Some bytes
still old new slot page s k bytes forgets kept = by ((s == slot) && (k == page)) (sym (forgets s k) ∙ kept) where
  by : (b : Bool) → cond b None (kept_page old s k) ≡ Some bytes → kept_page old s k ≡ Some bytes
  by true is = absurd (cc is)
  by false is = is

pub frozen-settles : (nodes : List (Option Held)) (slot page : ℕ) (reference : Ref) (old new : FrozenState) → KeepsEntries old → IsSome (kept_page old.pages slot page) → ref_at nodes slot page ≡ Some reference → new.order ≡ with_reference slot page reference old.order → Forgets old.pages new.pages slot page → length old.pages ≡ length new.pages + 1 → SettlesFrozen nodes slot page old new
frozen-settles nodes slot page reference old new entries some at made forgets fewer = record {
  keeps = record {
    relies = λ relies. settled-frozen nodes old new slot page reference relies at made forgets;
    digests = λ digests. settled-digests nodes old new slot page digests forgets;
    entries = λ keeps. settled-entries old new slot page reference keeps made forgets;
    kept = λ d has s k bytes r kept there. has s k bytes r (still old.pages new.pages slot page s k bytes forgets kept) there;
    order = (record { slot = slot; page = page; reference = reference } ∷ [], made);
    tree = λ d tree has is.
        let kept = some-bytes (kept_page old.pages slot page) some in
        subst (λ (es : List FrozenEntry). HasFrozenTree es new.pages d tree) (sym made)
        (frozen_views.settled-tree old.order old.pages new.pages d tree slot page reference kept.0 is (kept-below old slot page entries some) kept.1 (has slot page kept.0 reference kept.1 at) forgets);
  };
  forgets = forgets;
  fewer = omega (arith, fewer);
}

-- new references, and new ones after them
later-refs : (refs more : List NewRef) (order : List FrozenEntry) → with_references (refs ++ more) order ≡ with_references more (with_references refs order)
later-refs [] more order = refl
later-refs (r ∷ rs) more order = later-refs rs more (with_reference r.slot r.page r.reference order)

new-refs : (old mid new : List FrozenEntry) → HasNewRefs old mid → HasNewRefs mid new → HasNewRefs old new
new-refs old mid new first next = (first.0 ++ next.0, next.1 ∙ ap (with_references next.0) first.1 ∙ sym (later-refs first.0 next.0 old))

-- ---- both views

-- one page was settled in both
pub page-settles : (nodes : List (Option Held)) (slot page : ℕ) (old new : ActiveState) (frozen settled : FrozenState) → IsSome (kept_page frozen.pages slot page) → ((bytes : List ℕ) → kept_page frozen.pages slot page ≡ Some bytes → SettlesLive nodes frozen slot page bytes old new) → SettlesFrozen nodes slot page frozen settled → Settling nodes old frozen new settled
page-settles nodes slot page old new frozen settled some live one = record {
  live = its.keeps;
  kept = one.keeps;
  pages = λ s k. elim (which slot page s k) [
    | inl here ↦ (
        let test = there-true slot page s k here in
        ap (λ (o : Option (List ℕ)). unsettled o (kept_page new.pages s k)) (one.forgets s k ∙ ap (λ (b : Bool). cond b None (kept_page frozen.pages s k)) test)
        ∙ its.pages s k ∙ ap (λ (b : Bool). cond b (left_beside kept.0 (kept_page old.pages s k)) (kept_page old.pages s k)) test
        ∙ sym (ap (λ (o : Option (List ℕ)). unsettled o (kept_page old.pages s k)) (kept-there frozen.pages slot page s k here ∙ kept.1)))
    | inr away ↦
        ap (λ (o : Option (List ℕ)). unsettled o (kept_page new.pages s k)) (one.forgets s k ∙ ap (λ (b : Bool). cond b None (kept_page frozen.pages s k)) away)
        ∙ ap (unsettled (kept_page frozen.pages s k)) (its.pages s k ∙ ap (λ (b : Bool). cond b (left_beside kept.0 (kept_page old.pages s k)) (kept_page old.pages s k)) away)
  ];
} where
  kept : (bytes : List ℕ) × (kept_page frozen.pages slot page ≡ Some bytes)
  kept = some-bytes (kept_page frozen.pages slot page) some

  its : SettlesLive nodes frozen slot page kept.0 old new
  its = live kept.0 kept.1

-- none was settled yet
pub settling-begins : (nodes : List (Option Held)) (live : ActiveState) (frozen : FrozenState) → Settling nodes live frozen live frozen
settling-begins nodes live frozen = record {
  live = record { limits = refl; within = λ keeps. keeps; relies = λ relies. relies; tree = λ d tree has is. is };
  kept = record { relies = λ relies. relies; digests = λ digests. digests; entries = λ entries. entries; kept = λ d has. has; order = ([], refl); tree = λ d tree has is. is };
  pages = λ slot page. refl;
}

-- some were, and then more
pub settling-goes : (nodes : List (Option Held)) (old one two : ActiveState) (frozen then last : FrozenState) → Settling nodes old frozen one then → Settling nodes one then two last → Settling nodes old frozen two last
settling-goes nodes old one two frozen then last first next = record {
  live = record {
    limits = next.live.limits ∙ first.live.limits;
    within = λ keeps. next.live.within (first.live.within keeps);
    relies = λ relies. next.live.relies (first.live.relies relies);
    tree = λ d tree has is. next.live.tree d tree (first.kept.kept d has) (first.live.tree d tree has is);
  };
  kept = record {
    relies = λ relies. next.kept.relies (first.kept.relies relies);
    digests = λ digests. next.kept.digests (first.kept.digests digests);
    entries = λ entries. next.kept.entries (first.kept.entries entries);
    kept = λ d has. next.kept.kept d (first.kept.kept d has);
    order = new-refs _ _ _ first.kept.order next.kept.order;
    tree = λ d tree has is. next.kept.tree d tree (first.kept.kept d has) (first.kept.tree d tree has is);
  };
  pages = λ slot page. next.pages slot page ∙ first.pages slot page;
}

-- and they can go on being settled
pub settling-can : (nodes : List (Option Held)) (old new : ActiveState) (frozen settled : FrozenState) → Settling nodes old frozen new settled → CanSettle nodes old frozen → CanSettle nodes new settled
settling-can nodes old new frozen settled is can = record {
  relies = is.live.relies can.relies;
  frozen_relies = is.kept.relies can.frozen_relies;
  digests = is.kept.digests can.digests;
  entries = is.kept.entries can.entries;
}

-- all were, where none is kept any more
pub settling-ends : (nodes : List (Option Held)) (old new : ActiveState) (frozen settled : FrozenState) → Settling nodes old frozen new settled → settled.pages ≡ [] → SettlesAll nodes old frozen new settled
settling-ends nodes old new frozen settled is none = record {
  live = is.live;
  kept = is.kept;
  pages = record {
    none = λ slot page. ap (λ (ps : List (PageKey × KeptPage)). kept_page ps slot page) none;
    live = λ slot page.
        sym (ap (λ (ps : List (PageKey × KeptPage)). unsettled (kept_page ps slot page) (kept_page new.pages slot page)) none)
        ∙ is.pages slot page;
  };
}
