-- A folder that begins over a view, and one whose live view is frozen.
use Rattle.std.proofs.Common.{◌≡◌, ℕ, ◌≤◌, ◌==◌, Bool, true, false, cond, List, [], length, slice_get, unwrap_or, count_by, Option, Some, None, IsSome, refl, sym, ap, subst, ◌∙◌, arith}
use Rattle.vb_block.specs.declared.digest.Ref.{Ref}
use Rattle.vb_disk.specs.States.{DiskState}
use Rattle.vb_tree.specs.declared.tree.Limits.{Limits}
use Rattle.vb_tree.specs.declared.tree.TreeEntry.{TreeEntry}
use Rattle.vb_tree.specs.Trees.{IsTree}
use Rattle.vb_index.specs.declared.held.Held.{Held}
use Rattle.vb_index.specs.Contents.{HasTree}
use Rattle.vb_index.specs.Heights.{IsRooted}
use Rattle.vb_index.specs.Indexes.{HasShapeOf, IndexState, KeepsLimits}
use Rattle.vb_index.specs.Nodes.{IsTable}
use Rattle.vb_pages.specs.declared.kept.KeptPage.{KeptPage}
use Rattle.vb_pages.specs.declared.kept.PageKey.{PageKey}
use Rattle.vb_pages.specs.Disks.{first_at}
use Rattle.vb_pages.specs.Tables.{kept_page}
use Rattle.vb_active.specs.Performs.{HasTreeOn}
use Rattle.vb_active.specs.Views.{ActiveState, KeepsFiles, due_page, ref_at}
use Rattle.vb_frozen.specs.declared.entry.FrozenEntry.{FrozenEntry}
use Rattle.vb_frozen.specs.Orders.{order_of}
use Rattle.vb_frozen.specs.Sources.{next_of}
use Rattle.vb_frozen.specs.Views.{live_page, HasFrozenTree}
use Rattle.vb_head.specs.declared.head.Head.{Head}
use Rattle.vb_next.specs.Frozen.{IsViewOver}
use Rattle.vb_plan.specs.Following.{CanFollow}
use Rattle.vb_plan.specs.Places.{places_in}
use Rattle.vb_store.specs.Clear.{first_candidates}
use Rattle.vb_store.specs.Views.{HasNoneBegun, IsView, ViewState}
use Rattle.vb_views.specs.AtRest.{IsAtRestFor}
use Rattle.vb_views.specs.Reads.{page_at, pages_by}
use Rattle.vb_local.specs.Answers.{answers_in}
use Rattle.vb_local.specs.Events.{Drops, Freezes, Starts, standing_of}
use Rattle.vb_local.specs.Phases.{AreTied, BeginsOver, CanCount, IsAtRestOver, IsBegun, IsFrozenOf, IsTiedIn, StandsIn}
use Rattle.vb_local.specs.Shown.{LocalTrees, RestsFor, ShowsAtRest, ShowsIn, ShowsOn, StandsOn}
use Rattle.vb_local.specs.States.{dropped_in, epoch_in, IsResting, LocalState, PhaseState, Rests, Waits, Writes}
use Rattle.vb_local.specs.Ties.{ref_in, FrozenState, IsFrozenAtRest, IsFrozenOver, IsLiveOver, LiveFollows}
use Rattle.vb_local.specs.Trees.{blank_tree}
use Rattle.vb_local.proofs.Blanks.{blank-shape, blank-tree}
use Rattle.vb_local.proofs.FewEntries.{order-few, view-few}
use Rattle.vb_local.proofs.Frozen.{entry-live, freeze-follows, frozen-over}

-- ---- a frozen view of a live one

pub of-order : (live : ActiveState) (frozen : FrozenState) → IsFrozenOf live frozen → frozen.order ≡ order_of live.index.nodes (blank_tree live.index.nodes)
of-order live frozen is = is.order (blank_tree live.index.nodes) (blank-tree live.index.nodes is.table is.rooted) (blank-shape live.index.nodes is.table is.rooted)

pub frozen-is : (live : ActiveState) (index : IndexState) (pages : List (PageKey × KeptPage)) (frozen : FrozenState) → index ≡ live.index → pages ≡ live.pages → IsTable index.nodes → IsRooted index.nodes → index.limits.nodes ≡ length index.nodes → KeepsFiles live.index.nodes live.pages
    → ((tree : List TreeEntry) → IsTree tree → HasShapeOf index.nodes tree → frozen.order ≡ order_of index.nodes tree) → frozen.pages ≡ pages
    → ((d : DiskState) (tree : List TreeEntry) → HasTree index.nodes (live_page index.nodes pages d) tree → HasFrozenTree frozen.order frozen.pages d tree) → IsFrozenOf live frozen
unfolding due_page
frozen-is live index pages frozen same kept table rooted slots files order taken tree = record {
  table = subst (λ (i : IndexState). IsTable i.nodes) same table;
  rooted = subst (λ (i : IndexState). IsRooted i.nodes) same rooted;
  slots = subst (λ (i : IndexState). i.limits.nodes ≡ length i.nodes) same slots;
  files = files;
  pages = taken ∙ kept;
  order = subst (λ (i : IndexState). (t : List TreeEntry) → IsTree t → HasShapeOf i.nodes t → frozen.order ≡ order_of i.nodes t) same order;
  tree = λ d t has. subst (λ (ps : List (PageKey × KeptPage)). HasTree live.index.nodes (live_page live.index.nodes ps d) t → HasFrozenTree frozen.order frozen.pages d t) kept
      (subst (λ (i : IndexState). HasTree i.nodes (live_page i.nodes pages d) t → HasFrozenTree frozen.order frozen.pages d t) same (tree d t))
      (record { is_tree = has.is_tree; shape = has.shape; contents = λ path slot leads k within. has.contents path slot leads k within });
}

-- ---- the start

-- the live view of the committed nodes
abbrev pub begun : ViewState → ActiveState
begun v = record { index = v.index; pages = [] }

at-rest-frozen : (v : ViewState) (frozen : FrozenState) → IsView v → IsFrozenOf (begun v) frozen → IsFrozenAtRest v.index frozen
at-rest-frozen v frozen view is = record {
  none = λ slot page. ap (λ (ps : List (PageKey × KeptPage)). kept_page ps slot page) is.pages;
  relies = λ slot page r out. entry-live v.index.nodes (blank_tree v.index.nodes) slot page r (sym (ap (λ (es : List FrozenEntry). ref_in es slot page) (of-order (begun v) frozen is)) ∙ out.at);
  few = omega (arith, view-few v view, order-few v.index.nodes (blank_tree v.index.nodes) (blank-shape v.index.nodes is.table is.rooted), ap length (of-order (begun v) frozen is));
}

rests-over : (v : ViewState) (stands : Bool) (frozen : Option FrozenState) → IsView v → IsBegun stands (begun v) frozen → IsAtRestOver v.index frozen
rests-over v false frozen view is = subst (IsAtRestOver v.index) (sym is) tt
rests-over v true None view is = absurd is
rests-over v true (Some frozen) view is = at-rest-frozen v frozen view is

stands-in : (v : ViewState) (stands : Bool) (frozen : Option FrozenState) → IsBegun stands (begun v) frozen → StandsIn (Rests frozen) (standing_of stands v)
stands-in v false frozen is = subst (λ (f : Option FrozenState). StandsIn (Rests f) None) (sym is) refl
stands-in v true None is = absurd is
stands-in v true (Some frozen) is = refl

abbrev pub begun-state : ViewState → Bool → ActiveState → Option FrozenState → LocalState
begun-state v stands live frozen = record { live = live; view = v; phase = Rests frozen; standing = standing_of stands v }

pub begun-tied : (v : ViewState) (stands : Bool) (live : ActiveState) (frozen : Option FrozenState) → IsView v → HasNoneBegun v → BeginsOver v stands live frozen → AreTied (record { live = live; view = v; phase = Rests frozen; standing = standing_of stands v })
begun-tied v stands live frozen is none begins = subst (λ (a : ActiveState). AreTied (begun-state v stands a frozen)) (sym begins.live_is) (record {
  view = is;
  live = record { limits = refl; relies = λ slot page r out. out.at };
  limits = is.can.pages;
  phase = record { none_begun = none; frozen_is = rests-over v stands frozen is frozen_is };
  stands = stands-in v stands frozen frozen_is;
}) where
  frozen_is : IsBegun stands (begun v) frozen
  frozen_is = subst (λ (a : ActiveState). IsBegun stands a frozen) begins.live_is begins.frozen_is

-- a page of the committed nodes is the first candidate of its place
first-page : (d : DiskState) (o : Option Ref) → first_at d o ≡ page_at (first_candidates d) o
first-page d None = refl
first-page d (Some r) = refl

pub begun-tree : (v : ViewState) (d : DiskState) (tree : List TreeEntry) → HasTree v.index.nodes (pages_by (first_candidates d) v.index.nodes) tree → HasTreeOn d (begun v) tree
unfolding due_page
begun-tree v d tree has = record {
  is_tree = has.is_tree;
  shape = has.shape;
  contents = λ path slot leads k within. first-page d (ref_at v.index.nodes slot k) ∙ has.contents path slot leads k within;
}

begun-stands : (v : ViewState) (stands : Bool) (frozen : Option FrozenState) (d : DiskState) (tree : List TreeEntry) → IsBegun stands (begun v) frozen → HasTreeOn d (begun v) tree → StandsOn frozen tree d
begun-stands v false frozen d tree is has = subst (λ (f : Option FrozenState). StandsOn f tree d) (sym is) tt
begun-stands v true None d tree is has = absurd is
begun-stands v true (Some frozen) d tree is has = is.tree d tree has

pub begun-starts : (v : ViewState) (stands : Bool) (live : ActiveState) (frozen : Option FrozenState) → IsView v → BeginsOver v stands live frozen → Starts v stands (record { live = live; view = v; phase = Rests frozen; standing = standing_of stands v })
begun-starts v stands live frozen is begins = subst (λ (a : ActiveState). Starts v stands (begun-state v stands a frozen)) (sym begins.live_is) (record {
  live = refl;
  view = refl;
  resting = tt;
  standing = refl;
  frozen = subst (λ (a : ActiveState). IsBegun stands a frozen) begins.live_is begins.frozen_is;
  shows = λ d tree rests has. record {
    live = begun-tree v d tree has;
    phase = record {
      rests = record { view = record { can = is.can; slots = is.slots; table = begins.table; rooted = begins.rooted }; rests = rests; has = has };
      stands = begun-stands v stands frozen d tree (subst (λ (a : ActiveState). IsBegun stands a frozen) begins.live_is begins.frozen_is) (begun-tree v d tree has);
      same = refl;
    };
  };
})

-- ---- a freeze

slots-same : (s : LocalState) → AreTied s → s.live.index.limits.nodes ≡ length s.live.index.nodes → s.view.index.limits.nodes ≡ length s.view.index.nodes → length s.live.index.nodes ≡ length s.view.index.nodes
slots-same s tied live view = sym live ∙ ap (λ (l : Limits). l.nodes) tied.live.limits ∙ view

resting-none : (v : ViewState) (live : ActiveState) (phase : PhaseState) → IsResting phase → IsTiedIn v live phase → HasNoneBegun v
resting-none v live (Rests frozen) resting tied = tied.none_begun
resting-none v live (Waits frozen epoch) resting tied = absurd resting
resting-none v live (Writes frozen way) resting tied = absurd resting

-- the folder with a frozen view that waits
abbrev pub waiting : LocalState → FrozenState → ℕ → LocalState
waiting s frozen epoch = record s { phase = Waits frozen epoch; standing = Some epoch }

-- what a view over the committed one is, whichever tree it has
over-tree : (s : LocalState) (frozen : FrozenState) (tree : List TreeEntry) → AreTied s → IsFrozenOf s.live frozen → s.view.index.limits.nodes ≡ length s.view.index.nodes → IsTree tree → HasShapeOf s.live.index.nodes tree → IsViewOver s.view.index s.live.index.nodes tree s.live.pages
over-tree s frozen tree tied is slots tree_is shape = record {
  table = is.table;
  rooted = is.rooted;
  is_tree = tree_is;
  shape = shape;
  slots = slots-same s tied is.slots slots;
  few = omega (arith, tied.limits, ap (λ (l : Limits). l.pages) tied.live.limits);
  references = λ slot k r none at. tied.live.relies slot k r (record { at = at; apart = none });
}

-- it can be committed, by the law on frozen views
abbrev pub FreezeLaw : Type 0
FreezeLaw = (v : ViewState) (live : ActiveState) (frozen : FrozenState) → IsView v → IsLiveOver v.index live → KeepsLimits live.index → IsTable live.index.nodes → IsRooted live.index.nodes → length live.index.nodes ≡ length v.index.nodes → KeepsFiles live.index.nodes live.pages → frozen.pages ≡ live.pages → frozen.order ≡ order_of live.index.nodes (blank_tree live.index.nodes) → IsFrozenOver v.index frozen

pub freeze-tied : (s : LocalState) (frozen : FrozenState) (epoch : ℕ) → FreezeLaw → AreTied s → IsResting s.phase → CanCount s.view.head epoch → IsFrozenOf s.live frozen → s.view.index.limits.nodes ≡ length s.view.index.nodes → AreTied (record s { phase = Waits frozen epoch; standing = Some epoch })
freeze-tied s frozen epoch law tied resting can is slots = record {
  view = tied.view;
  live = tied.live;
  limits = tied.limits;
  phase = record {
    none_begun = resting-none s.view s.live s.phase resting tied.phase;
    frozen_is = law s.view s.live frozen tied.view tied.live tied.limits is.table is.rooted (slots-same s tied is.slots slots) is.files is.pages (of-order s.live frozen is);
    follows = freeze-follows s.live frozen is.table is.rooted is.pages (of-order s.live frozen is);
    can = can;
  };
  stands = tt;
}

rests-of : (v : ViewState) (phase : PhaseState) (t : LocalTrees) (d : DiskState) → IsResting phase → ShowsIn v phase t d → RestsFor v t.committed d
rests-of v (Rests frozen) t d resting shows = shows.rests
rests-of v (Waits frozen epoch) t d resting shows = absurd resting
rests-of v (Writes frozen way) t d resting shows = absurd resting

pub freeze-shows : (s : LocalState) (frozen : FrozenState) (epoch : ℕ) → AreTied s → IsResting s.phase → IsFrozenOf s.live frozen → s.view.index.limits.nodes ≡ length s.view.index.nodes → (d : DiskState) (t : LocalTrees) → ShowsOn d s t → ShowsOn d (record s { phase = Waits frozen epoch; standing = Some epoch }) (record t { frozen = t.active })
unfolding due_page
freeze-shows s frozen epoch tied resting is slots d t shows = record {
  live = shows.live;
  phase = record {
    rests = rests-of s.view s.phase t d resting shows.phase;
    tree = is.tree d t.active shows.live;
    nodes = s.live.index.nodes;
    order = is.order t.active shows.live.is_tree shows.live.shape;
    over = subst (λ (ps : List (PageKey × KeptPage)). IsViewOver s.view.index s.live.index.nodes t.active ps) (sym is.pages) (over-tree s frozen t.active tied is slots shows.live.is_tree shows.live.shape);
    has = subst (λ (ps : List (PageKey × KeptPage)). HasTree s.live.index.nodes (live_page s.live.index.nodes ps d) t.active) (sym is.pages) (record {
      is_tree = shows.live.is_tree;
      shape = shows.live.shape;
      contents = λ path slot leads k within. shows.live.contents path slot leads k within;
    });
  };
}

pub freeze-freezes : (s : LocalState) (frozen : FrozenState) (epoch : ℕ) → AreTied s → IsResting s.phase → IsFrozenOf s.live frozen → s.view.index.limits.nodes ≡ length s.view.index.nodes → Freezes s epoch (record s { phase = Waits frozen epoch; standing = Some epoch })
freeze-freezes s frozen epoch tied resting is slots = record {
  frozen = frozen;
  waits = refl;
  of = is;
  shows = freeze-shows s frozen epoch tied resting is slots;
}

-- ---- no view stands any more

dropped-ties : (v : ViewState) (live : ActiveState) (phase : PhaseState) → IsTiedIn v live phase → IsTiedIn v live (dropped_in phase)
dropped-ties v live (Rests frozen) tied = record { none_begun = tied.none_begun; frozen_is = tt }
dropped-ties v live (Waits frozen epoch) tied = tied
dropped-ties v live (Writes frozen way) tied = tied

dropped-stands : (phase : PhaseState) → StandsIn (dropped_in phase) None
dropped-stands (Rests frozen) = refl
dropped-stands (Waits frozen epoch) = tt
dropped-stands (Writes frozen way) = tt

-- the folder afterwards
abbrev pub dropped : LocalState → LocalState
dropped s = record s { phase = dropped_in s.phase; standing = None }

pub dropped-tied : (s : LocalState) → AreTied s → AreTied (dropped s)
dropped-tied s tied = record {
  view = tied.view;
  live = tied.live;
  limits = tied.limits;
  phase = dropped-ties s.view s.live s.phase tied.phase;
  stands = dropped-stands s.phase;
}

dropped-epoch : (phase : PhaseState) → epoch_in (dropped_in phase) ≡ epoch_in phase
dropped-epoch (Rests frozen) = refl
dropped-epoch (Waits frozen epoch) = refl
dropped-epoch (Writes frozen way) = refl

dropped-answers : (v : ViewState) (phase : PhaseState) → answers_in v (dropped_in phase) ≡ answers_in v phase
dropped-answers v (Rests frozen) = refl
dropped-answers v (Waits frozen epoch) = refl
dropped-answers v (Writes frozen way) = refl

dropped-shows : (v : ViewState) (phase : PhaseState) (t : LocalTrees) (d : DiskState) → ShowsIn v phase t d → ShowsIn v (dropped_in phase) t d
dropped-shows v (Rests frozen) t d shows = record { rests = shows.rests; stands = tt; same = shows.same }
dropped-shows v (Waits frozen epoch) t d shows = shows
dropped-shows v (Writes frozen way) t d shows = shows

pub drops : (s : LocalState) → Drops s (dropped s)
drops s = record {
  live = refl;
  view = refl;
  none = refl;
  epoch = dropped-epoch s.phase;
  answers = dropped-answers s.view s.phase;
  shows = λ d t shows. record { live = shows.live; phase = dropped-shows s.view s.phase t d shows.phase };
}
