-- A frozen view that is planned: its commit is on its way over the disk.
use Rattle.std.proofs.Common.{◌≡◌, ℕ, zero, suc, ◌+◌, ◌≤◌, ◌<◌, ◌==◌, Bool, true, false, List, [], ◌∷◌, length, map, slice_get, unwrap_or, All, Option, Some, None, IsSome, refl, sym, ap, subst, ◌∙◌, arith}
use Rattle.std.specs.Prelude.{Contains}
use Rattle.std.specs.Option.{option_and_then, option_map}
use Rattle.std.proofs.lemmas.Bool.{false≢true}
use Rattle.std.proofs.lemmas.List.Elements.{All-contains, All-cons, All-nil, All-weaker}
use Rattle.sha2.specs.Sha256.{sha256}
use Rattle.vb_block.specs.declared.digest.Ref.{Ref}
use Rattle.vb_disk.specs.Cells.{candidates}
use Rattle.vb_disk.specs.States.{DiskState}
use Rattle.vb_tree.specs.declared.tree.TreeEntry.{TreeEntry}
use Rattle.vb_index.specs.declared.held.Held.{Held}
use Rattle.vb_index.specs.Contents.{HasTree}
use Rattle.vb_index.specs.Heights.{IsRooted}
use Rattle.vb_index.specs.Indexes.{IndexState}
use Rattle.vb_index.specs.Nodes.{held_at, refs_at, refs_of, IsTable}
use Rattle.vb_inode.specs.declared.next_view.NextNode.{NextNode}
use Rattle.vb_inode.specs.declared.next_view.PageSource.{PageSource}
use Rattle.vb_inode.specs.declared.next_view.PageSource.TheVariants.{Kept, Fresh}
use Rattle.vb_journal.specs.declared.commit_stage.Stage.TheVariants.{Journal}
use Rattle.vb_journal.specs.Plans.{is_rested}
use Rattle.vb_journal.specs.Progress.{IsAtRest}
use Rattle.vb_pages.specs.declared.kept.KeptPage.{KeptPage}
use Rattle.vb_pages.specs.declared.kept.PageKey.{PageKey}
use Rattle.vb_pages.specs.Disks.{first_at, HoldsOnly}
use Rattle.vb_pages.specs.Tables.{kept_page}
use Rattle.vb_active.specs.Views.{ActiveState, ref_at}
use Rattle.vb_commit.specs.Known.{IsCommittingFor}
use Rattle.vb_commit.specs.Ways.{begun_way, bytes_in, IsWay, WayState}
use Rattle.vb_frozen.specs.declared.entry.FrozenEntry.{FrozenEntry}
use Rattle.vb_frozen.specs.Orders.{entry_for, order_of}
use Rattle.vb_frozen.specs.Sources.{next_node, next_of, next_root, source_of, sources_from}
use Rattle.vb_frozen.specs.Views.{live_page}
use Rattle.vb_next.specs.Frozen.{IsViewOver}
use Rattle.vb_next.proofs.After.{after-alike, tree-alike}
use Rattle.vb_plan.specs.declared.plan_page.PlanPage.{PlanPage}
use Rattle.vb_plan.specs.declared.plan_page.PlanPage.TheVariants.{Data, Map}
use Rattle.vb_plan.specs.Conditions.{CanPlan}
use Rattle.vb_plan.specs.Following.{CanFollow}
use Rattle.vb_plan.specs.Laws.{slots_next}
use Rattle.vb_plan.specs.Plans.{plan_of}
use Rattle.vb_plan.specs.Seen.{basis_of}
use Rattle.vb_space.specs.Spaces.{DataPlaces, free_places}
use Rattle.vb_store.specs.Views.{HasNoneBegun, IsView, ViewState, limits_of}
use Rattle.vb_store.proofs.NextPlanned.{can_plan}
use Rattle.vb_during.specs.During.{CanStart, Follows, HoldsKept, IsCommittingView, IsWayOf, ViewCommit, commit_over}
use Rattle.vb_during.proofs.Following.{over-follows}
use Rattle.vb_during.proofs.ViewsKept.{start-known}
use Rattle.vb_views.specs.AtRest.{HoldsAllPages, HoldsRef}
use Rattle.vb_views.specs.Commits.{IsPageOf}
use Rattle.vb_views.proofs.PlacesInOrder.{refs-held}
use Rattle.vb_views.proofs.TreesGiven.{at_slice}
use Rattle.vb_local.specs.Phases.{AreTied, IsPlanned, IsTiedBefore, next_index, plan_over}
use Rattle.vb_local.specs.Shown.{LocalTrees, ShowsBefore, ShowsDuring, WritesKept, commit_of}
use Rattle.vb_local.specs.States.{LocalState, Rests, Waits, Writes}
use Rattle.vb_local.specs.Ties.{FrozenState, IsFrozenUnder, IsKeptIn, LiveRelies}
use Rattle.vb_local.proofs.Planned.{page-written, plan-under}

-- ---- in memory

pub plan-tied : (live : ActiveState) (v new : ViewState) (frozen : FrozenState) (epoch : ℕ) (standing : Option ℕ) (way : WayState) → AreTied (record { live = live; view = v; phase = Waits frozen epoch; standing = standing }) → IsPlanned v frozen epoch new way → AreTied (record { live = live; view = new; phase = Writes frozen way; standing = standing })
plan-tied live v new frozen epoch standing way tied planned = record {
  view = planned.view;
  live = record {
    limits = tied.live.limits ∙ sym (ap (λ (i : IndexState). i.limits) index);
    relies = subst (λ (i : IndexState). LiveRelies i.nodes live) (sym index) tied.live.relies;
  };
  limits = tied.limits;
  phase = record {
    next = next_index v frozen;
    begun = ap (λ (w : ViewState). w.next) planned.begun;
    frozen_is = subst (λ (ps : List PlanPage). IsFrozenUnder (next_index v frozen).nodes ps frozen) (sym (ap (λ (w : WayState). w.pages) planned.way_is)) (plan-under v frozen tied.view tied.phase.none_begun tied.phase.frozen_is);
    follows = tied.phase.follows;
    is = planned.is;
    head = ap (λ (w : WayState). w.head) planned.way_is ∙ sym (ap (λ (w : ViewState). w.head) planned.begun);
    going = ap (λ (w : WayState). is_rested w.stage) planned.way_is;
  };
  stands = tt;
} where
  index : new.index ≡ v.index
  index = ap (λ (w : ViewState). w.index) planned.begun

-- the plan of nodes that are the frozen view's
pub planned-by : (v new : ViewState) (frozen : FrozenState) (epoch : ℕ) (way : WayState) (next : List NextNode) → next ≡ next_of frozen.order frozen.pages → new ≡ record v { next = Some (record { limits = limits_of v.head; nodes = slots_next (basis_of v.index v.space) next }); space = new.space } → way ≡ begun_way v.head epoch (plan_of (basis_of v.index v.space) next).images (plan_of (basis_of v.index v.space) next).pages → IsWay way → IsView new
    → ((index : IndexState) → new.next ≡ Some index → IsTable index.nodes) → ((index : IndexState) → new.next ≡ Some index → IsRooted index.nodes)
    → ((source : ℕ → ℕ → List ℕ) (homes journal : ℕ → List ℕ) (d : DiskState) → IsAtRest v.head homes journal d → IsCommittingFor source homes journal (plan_of (basis_of v.index v.space) next).pages way d) → IsPlanned v frozen epoch new way
planned-by v new frozen epoch way next same begun way_is is view table rooted known = record {
  begun = made;
  way_is = subst (λ (ns : List NextNode). way ≡ begun_way v.head epoch (plan_of (basis_of v.index v.space) ns).images (plan_of (basis_of v.index v.space) ns).pages) same way_is;
  is = is;
  view = view;
  table = table (next_index v frozen) (ap (λ (w : ViewState). w.next) made);
  rooted = rooted (next_index v frozen) (ap (λ (w : ViewState). w.next) made);
  known = λ source homes journal d rests. subst (λ (ns : List NextNode). IsCommittingFor source homes journal (plan_of (basis_of v.index v.space) ns).pages way d) same (known source homes journal d rests);
} where
  made : new ≡ record v { next = Some (next_index v frozen); space = new.space }
  made = subst (λ (ns : List NextNode). new ≡ record v { next = Some (record { limits = limits_of v.head; nodes = slots_next (basis_of v.index v.space) ns }); space = new.space }) same begun

-- ---- the pages that the next view keeps

-- a source that is kept is that of a page out of memory, at its reference
pub record IsKeptAt (pages : List (PageKey × KeptPage)) (refs : List Ref) (slot k : ℕ) (r : Ref) : Type 0 where
  pub apart : kept_page pages slot k ≡ None
  pub at : slice_get refs k ≡ Some r

-- the first of the sources from a page on
one-source : (o : Option (List ℕ)) (x r : Ref) → Some (source_of o x) ≡ Some (Kept r) → (o ≡ None) × (x ≡ r)
one-source None x r e = (refl, cc e)
one-source (Some bytes) x r e = absurd (cc e)

sources-kept : (pages : List (PageKey × KeptPage)) (slot from : ℕ) (refs : List Ref) (k : ℕ) (r : Ref) → slice_get (sources_from pages slot from refs) k ≡ Some (Kept r) → (kept_page pages slot (from + k) ≡ None) × (slice_get refs k ≡ Some r)
sources-kept pages slot from [] k r at = absurd (cc at)
sources-kept pages slot from (x ∷ refs) zero r at =
    let one = one-source (kept_page pages slot from) x r at in
    (ap (kept_page pages slot) (let e : from + 0 ≡ from = omega arith in e) ∙ one.0, ap Some one.1)
sources-kept pages slot from (x ∷ refs) (suc k) r at =
    let later = sources-kept pages slot (from + 1) refs k r at in
    (ap (kept_page pages slot) (let e : from + suc k ≡ from + 1 + k = omega arith in e) ∙ later.0, later.1)

-- what is kept of a node of an order is a page out of memory of one of its entries
pub record IsOfEntry (order : List FrozenEntry) (pages : List (PageKey × KeptPage)) (x : NextNode) (k : ℕ) (r : Ref) : Type 0 where
  pub entry : FrozenEntry
  pub there : Contains order entry
  pub slot : x.node.slot ≡ entry.slot
  pub kept : IsKeptAt pages entry.refs entry.slot k r

entry-of : (order : List FrozenEntry) (pages : List (PageKey × KeptPage)) (x : NextNode) (k : ℕ) (r : Ref) → Contains (map (next_node pages) order) x → slice_get x.pages k ≡ Some (Kept r) → IsOfEntry order pages x k r
entry-of [] pages x k r has at = absurd (omega (arith, has.1))
entry-of (e ∷ order) pages x k r (zero, within, is) at =
    let same : next_node pages e ≡ x = is in
    let kept = sources-kept pages e.slot 0 e.refs k r (ap (λ (n : NextNode). slice_get n.pages k) same ∙ at) in
    record {
      entry = e;
      there = (0, omega arith, refl);
      slot = sym (ap (λ (n : NextNode). n.node.slot) same);
      kept = record { apart = ap (kept_page pages e.slot) (let e : k ≡ 0 + k = omega arith in e) ∙ kept.0; at = kept.1 };
    }
entry-of (e ∷ order) pages x k r (suc n, within, is) at =
    let later = entry-of order pages x k r (n, omega (arith, within), is) at in
    record { entry = later.entry; there = (suc later.there.0, omega (arith, later.there.1), later.there.2); slot = later.slot; kept = later.kept }

pub next-entry : (order : List FrozenEntry) (pages : List (PageKey × KeptPage)) (x : NextNode) (k : ℕ) (r : Ref) → Contains (next_of order pages) x → slice_get x.pages k ≡ Some (Kept r) → IsOfEntry order pages x k r
next-entry order pages x k r (zero, within, is) at = absurd (
    let none : slice_get next_root.pages k ≡ Some (Kept r) = ap (λ (n : NextNode). slice_get n.pages k) is ∙ at in
    cc none)
next-entry order pages x k r (suc n, within, is) at = entry-of order pages x k r (n, omega (arith, within), is) at

-- the entries of an order have the references of its nodes
abbrev HasRefs : List (Option Held) → FrozenEntry → Type 0
HasRefs nodes e = e.refs ≡ unwrap_or (refs_at nodes e.slot) []

order-refs : (nodes : List (Option Held)) (tree : List TreeEntry) → All (HasRefs nodes) (order_of nodes tree)
order-refs nodes [] = All-nil (HasRefs nodes)
order-refs nodes (e ∷ tree) = All-cons (HasRefs nodes) (entry_for nodes e) (order_of nodes tree) refl (order-refs nodes tree)

-- ---- over a disk

-- what is so of a slot with a reference
pub record HasHeld (nodes : List (Option Held)) (slot k : ℕ) (r : Ref) : Type 0 where
  pub held : Held
  pub there : held_at nodes slot ≡ Some held
  pub at : slice_get (unwrap_or (refs_of held) []) k ≡ Some r

pub held-of : (nodes : List (Option Held)) (slot k : ℕ) (r : Ref) → ref_at nodes slot k ≡ Some r → HasHeld nodes slot k r
held-of nodes slot k r at = by (held_at nodes slot) refl at where
  by : (o : Option Held) → held_at nodes slot ≡ o → slice_get (unwrap_or (option_and_then refs_of o) []) k ≡ Some r → HasHeld nodes slot k r
  by None e at = absurd (cc at)
  by (Some held) e at = record { held = held; there = e; at = at }

-- a reference of nodes whose pages a disk holds has its page alone
pub ref-holds : (nodes : List (Option Held)) (d : DiskState) (slot k : ℕ) (r : Ref) → IsTable nodes → HoldsAllPages nodes d → ref_at nodes slot k ≡ Some r → HoldsRef d r
ref-holds nodes d slot k r table holds at =
    let one = held-of nodes slot k r at in
    at_slice (HoldsRef d) (unwrap_or (refs_of one.held) []) k r
    (subst (All (HoldsRef d)) (sym (refs-held slot one.held (table.fits slot one.held one.there))) (holds slot one.held one.there).pages)
    one.at

-- the pages of a frozen view by slot and number, as its index and a disk have them
abbrev pub source-on : (nodes : List (Option Held)) → FrozenState → DiskState → ℕ → ℕ → List ℕ
source-on nodes frozen d = live_page nodes frozen.pages d

-- the pages that the next view keeps are those at their places
keeps-source : (v : ViewState) (frozen : FrozenState) (t : LocalTrees) (d : DiskState) (shows : ShowsBefore v frozen t d) (x : NextNode) (k : ℕ) (r : Ref) → Contains (next_of frozen.order frozen.pages) x → slice_get x.pages k ≡ Some (Kept r) → All (λ page. page ≡ source-on shows.nodes frozen d x.node.slot k) (candidates (d.cells r.place))
keeps-source v frozen t d shows x k r has at =
    let of = next-entry frozen.order frozen.pages x k r has at in
    let same : of.entry.refs ≡ unwrap_or (refs_at shows.nodes of.entry.slot) [] = All-contains (HasRefs shows.nodes) frozen.order of.entry (subst (All (HasRefs shows.nodes)) (sym shows.order) (order-refs shows.nodes t.frozen)) of.there in
    let there : ref_at shows.nodes of.entry.slot k ≡ Some r = sym (ap (λ (rs : List Ref). slice_get rs k) same) ∙ of.kept.at in
    let only : HoldsRef d r = ref-holds v.index.nodes d of.entry.slot k r shows.rests.view.table shows.rests.rests.holds (shows.over.references of.entry.slot k r of.kept.apart there) in
    let page : source-on shows.nodes frozen d x.node.slot k ≡ (d.cells r.place).first =
    ap (λ (slot : ℕ). source-on shows.nodes frozen d slot k) of.slot
    ∙ ap (λ (o : Option (List ℕ)). unwrap_or o (first_at d (ref_at shows.nodes of.entry.slot k))) of.kept.apart
    ∙ ap (first_at d) there in
    All-weaker (λ c. c ≡ (d.cells r.place).first) (λ c. c ≡ source-on shows.nodes frozen d x.node.slot k) (λ c is. is ∙ sym page) (candidates (d.cells r.place)) only.same

-- a planned page has the digest of the plan
pub page-of : (source : ℕ → ℕ → List ℕ) (pages : List (PageKey × KeptPage)) → ((slot page : ℕ) (bytes : List ℕ) → kept_page pages slot page ≡ Some bytes → source slot page ≡ bytes) → (p : PlanPage) → IsKeptIn pages p → IsPageOf p (bytes_in source p)
page-of source pages fresh (Data slot page r) kept = by (kept_page pages slot page) refl kept where
  by : (o : Option (List ℕ)) → kept_page pages slot page ≡ o → option_map sha256 o ≡ Some r.digest → sha256 (source slot page) ≡ r.digest
  by None e digest = absurd (cc digest)
  by (Some bytes) e digest = let is : sha256 bytes ≡ r.digest = cc digest in ap sha256 (fresh slot page bytes e) ∙ is
page-of source pages fresh (Map place image) kept = refl

-- ---- the commit that begins

planned-tree : (v : ViewState) (frozen : FrozenState) (t : LocalTrees) (d : DiskState) → IsView v → HasNoneBegun v → CanFollow v.index (next_of frozen.order frozen.pages) → (shows : ShowsBefore v frozen t d) → HasTree (next_index v frozen).nodes (source-on shows.nodes frozen d) t.frozen
planned-tree v frozen t d is none follows shows =
    let next : next_of frozen.order frozen.pages ≡ next_of (order_of shows.nodes t.frozen) frozen.pages = ap (λ (es : List FrozenEntry). next_of es frozen.pages) shows.order in
    let can : CanPlan (basis_of v.index v.space) (next_of (order_of shows.nodes t.frozen) frozen.pages) = subst (CanPlan (basis_of v.index v.space)) next (can_plan v (next_of frozen.order frozen.pages) is none follows) in
    subst (λ (ns : List NextNode). HasTree (slots_next (basis_of v.index v.space) ns) (source-on shows.nodes frozen d) t.frozen) (sym next)
    (tree-alike (slots_next (basis_of v.index v.space) (next_of (order_of shows.nodes t.frozen) frozen.pages)) shows.nodes (source-on shows.nodes frozen d) t.frozen
    (after-alike v.index shows.nodes t.frozen frozen.pages (basis_of v.index v.space) shows.over refl can) shows.has)

fresh-source : (nodes : List (Option Held)) (frozen : FrozenState) (d : DiskState) (slot page : ℕ) (bytes : List ℕ) → kept_page frozen.pages slot page ≡ Some bytes → source-on nodes frozen d slot page ≡ bytes
fresh-source nodes frozen d slot page bytes kept = ap (λ (o : Option (List ℕ)). unwrap_or o (first_at d (ref_at nodes slot page))) kept

-- its next view follows the committed one
planned-follows : (live : ActiveState) (v : ViewState) (frozen : FrozenState) (epoch : ℕ) (t : LocalTrees) (d : DiskState) (new : ViewState) (way : WayState) → IsView v → (tied : IsTiedBefore v live frozen epoch) → IsPlanned v frozen epoch new way → (shows : ShowsBefore v frozen t d) → Follows (commit_over v (next_of frozen.order frozen.pages) epoch t.committed (source-on shows.nodes frozen d) t.frozen)
planned-follows live v frozen epoch t d new way is tied planned shows =
    over-follows v (next_of frozen.order frozen.pages) epoch t.committed (source-on shows.nodes frozen d) t.frozen
    (record { is = is; none_begun = tied.none_begun; follows = tied.frozen_is.can; sequence = tied.can.sequence; in_range = tied.can.in_range })
    (All-weaker (IsKeptIn frozen.pages) (λ p. IsPageOf p (bytes_in (source-on shows.nodes frozen d) p)) (page-of (source-on shows.nodes frozen d) frozen.pages (fresh-source shows.nodes frozen d)) (plan_over v frozen).pages (plan-under v frozen is tied.none_begun tied.frozen_is).kept)
    (planned-tree v frozen t d is tied.none_begun tied.frozen_is.can shows)

pub plan-shows : (live : ActiveState) (v new : ViewState) (frozen : FrozenState) (epoch : ℕ) (standing : Option ℕ) (way : WayState) (t : LocalTrees) (d : DiskState) → AreTied (record { live = live; view = v; phase = Waits frozen epoch; standing = standing }) → IsPlanned v frozen epoch new way → ShowsBefore v frozen t d → ShowsDuring new frozen way t d
plan-shows live v new frozen epoch standing way t d tied planned shows =
    subst (λ (w : ViewState). ShowsDuring w frozen way t d) (sym planned.begun) (record {
      tree = shows.tree;
      next = next_index v frozen;
      begun = refl;
      free = free_places v.space;
      source = source-on shows.nodes frozen d;
      is = subst (λ (n : ℕ). IsCommittingView (commit n) way d) epochs known;
      kept = record {
        fresh = fresh-source shows.nodes frozen d;
        planned = λ slot page bytes reference kept at. page-written v frozen slot page bytes reference tied.view tied.phase.none_begun tied.phase.frozen_is kept at;
      };
    })
  where
    commit : ℕ → ViewCommit
    commit n = commit_over v (next_of frozen.order frozen.pages) n t.committed (source-on shows.nodes frozen d) t.frozen

    epochs : epoch ≡ way.epoch
    epochs = sym (ap (λ (w : WayState). w.epoch) planned.way_is)

    of : IsWayOf (commit epoch) way
    of = record {
      way = planned.is;
      head = ap (λ (w : WayState). w.head) planned.way_is;
      epoch = sym epochs;
      images = ap (λ (w : WayState). w.images) planned.way_is;
    }

    known : IsCommittingView (commit epoch) way d
    known = start-known (commit epoch) way d shows.rests.view shows.rests.rests shows.rests.has
        (planned-follows live v frozen epoch t d new way tied.view tied.phase planned shows)
        (keeps-source v frozen t d shows) of
        (λ rests. planned.known (source-on shows.nodes frozen d) rests.homes rests.journal d rests.rests)
