-- A folder that a told disk shows: what may be recovered from it, and that damage leaves it.
use Rattle.std.proofs.Common.{◌≡◌, ℕ, Bool, true, false, cond, ◌==◌, List, [], ◌∷◌, slice_get, unwrap_or, Option, Some, None, refl, ap, ◌∙◌, arith}
use Rattle.std.specs.Prelude.{Contains}
use Rattle.vb_block.specs.declared.digest.Ref.{Ref}
use Rattle.vb_disk.specs.declared.cell.Cell.{Cell}
use Rattle.vb_disk.specs.Cells.{hurt_cell}
use Rattle.vb_disk.specs.Crashes.{damaged}
use Rattle.vb_disk.specs.States.{DiskState}
use Rattle.vb_tree.specs.declared.tree.TreeEntry.{TreeEntry}
use Rattle.vb_index.specs.declared.held.Held.{Held}
use Rattle.vb_index.specs.Contents.{HasTree}
use Rattle.vb_index.specs.Nodes.{refs_at}
use Rattle.vb_pages.specs.declared.kept.KeptPage.{KeptPage}
use Rattle.vb_pages.specs.declared.kept.PageKey.{PageKey}
use Rattle.vb_pages.specs.Disks.{first_at}
use Rattle.vb_pages.specs.Tables.{kept_page}
use Rattle.vb_active.specs.Performs.{HasTreeOn}
use Rattle.vb_active.specs.Views.{ActiveState, due_page, ref_at}
use Rattle.vb_frozen.specs.declared.entry.FrozenEntry.{FrozenEntry}
use Rattle.vb_frozen.specs.Views.{live_page, HasFrozenTree}
use Rattle.vb_store.specs.Clear.{first_candidates}
use Rattle.vb_store.specs.OneOf.{RecoversOneOf}
use Rattle.vb_store.specs.Views.{ViewState}
use Rattle.vb_during.specs.During.{ViewCommit}
use Rattle.vb_during.proofs.ViewsKept.{damage-leaves}
use Rattle.vb_views.specs.Reads.{page_at, pages_by, tree_view}
use Rattle.vb_views.proofs.RestingViews.{recovers-one}
use Rattle.vb_views.proofs.RestsKept.{rests-damaged}
use Rattle.vb_local.specs.Shown.{commit_of, LocalTrees, RestsFor, ShowsIn, ShowsOn, StandsOn, views_in, views_of}
use Rattle.vb_local.specs.States.{LocalState, PhaseState, Rests, Waits, Writes}
use Rattle.vb_local.specs.Ties.{FrozenState}
use Rattle.vb_local.proofs.TreesOn.{frozen-stays}
use Rattle.vb_local.proofs.WaysShown.{during-recovers}

-- ---- what may be recovered

rest-recovers : (v : ViewState) (tree : List TreeEntry) (d : DiskState) (made : Bool) → RestsFor v tree d → RecoversOneOf (tree_view v.head v.index tree ∷ []) made d
rest-recovers v tree d made rests =
    recovers-one (tree_view v.head v.index tree ∷ []) made v.head v.index d tree rests.view rests.rests rests.has (0, omega arith, refl)

phase-recovers : (v : ViewState) (phase : PhaseState) (t : LocalTrees) (d : DiskState) (made : Bool) → ShowsIn v phase t d → RecoversOneOf (views_in v phase t) made d
phase-recovers v (Rests frozen) t d made shows = rest-recovers v t.committed d made shows.rests
phase-recovers v (Waits frozen epoch) t d made shows = rest-recovers v t.committed d made shows.rests
phase-recovers v (Writes frozen way) t d made shows = during-recovers v frozen way t d made shows

pub shown-recovers : (d : DiskState) (s : LocalState) (t : LocalTrees) (made : Bool) → ShowsOn d s t → RecoversOneOf (views_of s t) made d
shown-recovers d s t made shows = phase-recovers s.view s.phase t d made shows.phase

-- ---- damage

first-hurt : (cell : Cell) (page : List ℕ) (b : Bool) → (cond b (hurt_cell cell page) cell).first ≡ cell.first
first-hurt cell page true = refl
first-hurt cell page false = refl

-- the first candidates stay
hurt-first : (d : DiskState) (place : ℕ) (page : List ℕ) (p : ℕ) → ((damaged d place page).cells p).first ≡ (d.cells p).first
hurt-first d place page p = first-hurt (d.cells p) page (p == place)

hurt-at : (d : DiskState) (place : ℕ) (page : List ℕ) (o : Option Ref) → first_at (damaged d place page) o ≡ first_at d o
hurt-at d place page None = refl
hurt-at d place page (Some r) = hurt-first d place page r.place

hurt-page : (d : DiskState) (place : ℕ) (page : List ℕ) (o : Option Ref) → page_at (first_candidates (damaged d place page)) o ≡ page_at (first_candidates d) o
hurt-page d place page None = refl
hurt-page d place page (Some r) = hurt-first d place page r.place

rest-hurt : (v : ViewState) (tree : List TreeEntry) (d : DiskState) (place : ℕ) (page : List ℕ) → RestsFor v tree d → RestsFor v tree (damaged d place page)
rest-hurt v tree d place page rests = record {
  view = rests.view;
  rests = rests-damaged v.head v.index d place page rests.view rests.rests;
  has = record {
    is_tree = rests.has.is_tree;
    shape = rests.has.shape;
    contents = λ path slot leads k within. hurt-page d place page (slice_get (unwrap_or (refs_at v.index.nodes slot) []) k) ∙ rests.has.contents path slot leads k within;
  };
}

frozen-hurt : (order : List FrozenEntry) (pages : List (PageKey × KeptPage)) (tree : List TreeEntry) (d : DiskState) (place : ℕ) (page : List ℕ) → HasFrozenTree order pages d tree → HasFrozenTree order pages (damaged d place page) tree
frozen-hurt order pages tree d place page has = frozen-stays order pages d (damaged d place page) tree (λ e among k r apart at. hurt-first d place page r.place) has

stands-hurt : (frozen : Option FrozenState) (tree : List TreeEntry) (d : DiskState) (place : ℕ) (page : List ℕ) → StandsOn frozen tree d → StandsOn frozen tree (damaged d place page)
stands-hurt None tree d place page stands = tt
stands-hurt (Some frozen) tree d place page stands = frozen-hurt frozen.order frozen.pages tree d place page stands

index-hurt : (nodes : List (Option Held)) (pages : List (PageKey × KeptPage)) (tree : List TreeEntry) (d : DiskState) (place : ℕ) (page : List ℕ) → HasTree nodes (live_page nodes pages d) tree → HasTree nodes (live_page nodes pages (damaged d place page)) tree
index-hurt nodes pages tree d place page has = record {
  is_tree = has.is_tree;
  shape = has.shape;
  contents = λ path slot leads k within. ap (unwrap_or (kept_page pages slot k)) (hurt-at d place page (ref_at nodes slot k)) ∙ has.contents path slot leads k within;
}

live-hurt : (live : ActiveState) (tree : List TreeEntry) (d : DiskState) (place : ℕ) (page : List ℕ) → HasTreeOn d live tree → HasTreeOn (damaged d place page) live tree
unfolding due_page
live-hurt live tree d place page has = record {
  is_tree = has.is_tree;
  shape = has.shape;
  contents = λ path slot leads k within. ap (unwrap_or (kept_page live.pages slot k)) (hurt-at d place page (ref_at live.index.nodes slot k)) ∙ has.contents path slot leads k within;
}

phase-hurt : (v : ViewState) (phase : PhaseState) (t : LocalTrees) (d : DiskState) (place : ℕ) (page : List ℕ) → ShowsIn v phase t d → ShowsIn v phase t (damaged d place page)
phase-hurt v (Rests frozen) t d place page shows = record {
  rests = rest-hurt v t.committed d place page shows.rests;
  stands = stands-hurt frozen t.frozen d place page shows.stands;
  same = shows.same;
}
phase-hurt v (Waits frozen epoch) t d place page shows = record {
  rests = rest-hurt v t.committed d place page shows.rests;
  tree = frozen-hurt frozen.order frozen.pages t.frozen d place page shows.tree;
  nodes = shows.nodes;
  order = shows.order;
  over = shows.over;
  has = index-hurt shows.nodes frozen.pages t.frozen d place page shows.has;
}
phase-hurt v (Writes frozen way) t d place page shows = record {
  tree = frozen-hurt frozen.order frozen.pages t.frozen d place page shows.tree;
  next = shows.next;
  begun = shows.begun;
  free = shows.free;
  source = shows.source;
  is = damage-leaves (commit_of v shows.next shows.free frozen shows.source way.epoch t) way d place page shows.is;
  kept = shows.kept;
}

pub shown-hurt : (d : DiskState) (s : LocalState) (t : LocalTrees) (place : ℕ) (page : List ℕ) → ShowsOn d s t → ShowsOn (damaged d place page) s t
shown-hurt d s t place page shows = record {
  live = live-hurt s.live t.active d place page shows.live;
  phase = phase-hurt s.view s.phase t d place page shows.phase;
}
