-- What leaves a view held, and when planned pages are held.
use Rattle.std.proofs.Common.{◌≡◌, ℕ, ◌-◌, ◌≤◌, Bool, false, cond, eqb, List, [], ◌∷◌, ◌++◌, length, get_or, Some, refl, sym, ap, subst, ◌∙◌, length-append, arith}
use Rattle.std.proofs.lemmas.Bool.{eq-eqb, ne_eqb}
use Rattle.std.proofs.lemmas.List.{get_or_default}
use Rattle.std.proofs.lemmas.List.Elements.{All-cons, All-contains, All-contains_itself, All-nil, All-weaker}
use Rattle.std.specs.List.{All, Contains}
use Rattle.sha2.specs.Sha256.{sha256}
use Rattle.vb_disk.specs.declared.cell.Cell.{Cell}
use Rattle.vb_disk.specs.Cells.{candidate_at, candidates, written_cell}
use Rattle.vb_disk.specs.States.{DiskState, synced, written}
use Rattle.vb_head.specs.declared.head.Head.{Head}
use Rattle.vb_index.specs.declared.held.Held.{Held}
use Rattle.vb_index.specs.Indexes.{IndexState}
use Rattle.vb_index.specs.Nodes.{held_at}
use Rattle.vb_plan.specs.declared.plan_page.PlanPage.{PlanPage}
use Rattle.vb_plan.specs.declared.plan_page.PlanPage.TheVariants.{Data, Map}
use Rattle.vb_plan.specs.Laws.{place_of}
use Rattle.vb_store.specs.Clear.{first_candidates, last_candidates}
use Rattle.vb_store.specs.OneOf.{HasNoMoreFrom}
use Rattle.vb_store.specs.Views.{data_start, places_in}
use Rattle.vb_tree.specs.declared.tree.TreeEntry.{TreeEntry}
use Rattle.vb_views.specs.AtRest.{HoldsPagesOf, IsViewOf}
use Rattle.vb_views.specs.Commits.{HasPlaced, HoldsPlanned, HoldsView, IsPageOf}
use Rattle.vb_views.proofs.MapsTaken.{at_seam}
use Rattle.vb_views.proofs.RestingViews.{of-refs, tree-same}
use Rattle.vb_views.proofs.RestsKept.{HasNoMore, KeepsPlaces, at_place, held-kept, only-first}

-- ---- views that are held

firsts_kept : (head : Head) (index : IndexState) (old new : DiskState) (slot : ℕ) (held : Held) → IsViewOf head index → held_at index.nodes slot ≡ Some held → KeepsPlaces index old new → HoldsPagesOf held old → All (λ r. first_candidates new r.place ≡ first_candidates old r.place) held.refs
firsts_kept head index old new slot held is there keeps holds =
    let named = of-refs (λ p. HasNoMore (new.cells p) (old.cells p)) head index slot held is there
    (All-weaker (Contains (places_in index.nodes)) (λ p. HasNoMore (new.cells p) (old.cells p)) keeps (places_in index.nodes) (All-contains_itself (places_in index.nodes))) in
    λ k r within. only-first (old.cells _) (new.cells _) (named.pages k r within) (holds.pages k r within).same

pub holds-kept : (head : Head) (index : IndexState) (blocks : ℕ → List ℕ) (tree : List TreeEntry) (old new : DiskState) → new.size ≡ old.size → KeepsPlaces index old new → HoldsView head index blocks tree old → HoldsView head index blocks tree new
holds-kept head index blocks tree old new size keeps v = record {
  view = v.view;
  id = v.id;
  size = size ∙ v.size;
  are = v.are;
  holds = λ slot held there. held-kept head index old new slot held v.view there keeps (v.holds slot held there);
  has = tree-same head index (first_candidates old) (first_candidates new) tree v.view (λ slot held there. firsts_kept head index old new slot held v.view there keeps (v.holds slot held there)) v.has;
}

-- where the places of data got no candidate more
pub holds-fewer : (head : Head) (index : IndexState) (blocks : ℕ → List ℕ) (tree : List TreeEntry) (old new : DiskState) → HasNoMoreFrom (data_start head) new old → HoldsView head index blocks tree old → HoldsView head index blocks tree new
holds-fewer head index blocks tree old new fewer v =
    holds-kept head index blocks tree old new fewer.size
    (λ place named page among. fewer.each place page (All-contains (λ p. data_start head ≤ p) (places_in index.nodes) place v.view.can.above named) among)
    v

-- a write to a place that the view doesn't name
pub holds-written : (head : Head) (index : IndexState) (blocks : ℕ → List ℕ) (tree : List TreeEntry) (d : DiskState) (place : ℕ) (page : List ℕ) → (Contains (places_in index.nodes) place → ⊥) → HoldsView head index blocks tree d → HoldsView head index blocks tree (written d place page)
holds-written head index blocks tree d place page unnamed v =
    holds-kept head index blocks tree d (written d place page) refl
    (λ p named found among.
    let apart : eqb p place ≡ false = ne_eqb p place (λ same. unnamed (subst (Contains (places_in index.nodes)) same named)) in
    subst (λ (b : Bool). Contains (candidates (cond b (written_cell (d.cells p) page) (d.cells p))) found → Contains (candidates (d.cells p)) found) (sym apart) (λ has. has) among)
    v

-- a page that is written to its own place again
pub holds-rewritten : (head : Head) (index : IndexState) (blocks : ℕ → List ℕ) (tree : List TreeEntry) (d : DiskState) (place : ℕ) (page : List ℕ) → page ≡ (d.cells place).first → HoldsView head index blocks tree d → HoldsView head index blocks tree (written d place page)
holds-rewritten head index blocks tree d place page same v = holds-kept head index blocks tree d (written d place page) refl (λ p named. at_place d p place page same) v

-- ---- planned pages

-- once it is synced, a page that is placed is held
pub placed-synced : (d : DiskState) (p : PlanPage) → HasPlaced d p → HoldsPlanned (synced d) p
placed-synced d (Data slot page r) placed = record {
  same = All-cons (λ x. x ≡ last_candidates d r.place) (last_candidates d r.place) [] refl (All-nil (λ x. x ≡ last_candidates d r.place));
  due = placed;
}
placed-synced d (Map place image) placed = All-cons (λ x. x ≡ image) (last_candidates d place) [] placed (All-nil (λ x. x ≡ image))

-- the newest candidate after a write
newest_written : (cell : Cell) (page : List ℕ) → candidate_at (written_cell cell page) (length (written_cell cell page).later) ≡ page
newest_written cell page =
    ap (λ (n : ℕ). get_or (candidates cell ++ page ∷ []) n cell.first) (let e : length (cell.later ++ page ∷ []) ≡ length (candidates cell) = omega (arith, length-append cell.later (page ∷ [])) in e)
    ∙ at_seam (candidates cell) [] page cell.first

last_written : (d : DiskState) (place : ℕ) (page : List ℕ) → last_candidates (written d place page) place ≡ page
last_written d place page =
    ap (λ (b : Bool). let cell : Cell = cond b (written_cell (d.cells place) page) (d.cells place) in candidate_at cell (length cell.later)) (eq-eqb place place refl)
    ∙ newest_written (d.cells place) page

-- a planned page is placed by its write
pub placed-written : (d : DiskState) (p : PlanPage) (page : List ℕ) → IsPageOf p page → HasPlaced (written d (place_of p) page) p
placed-written d (Data slot number r) page is = ap sha256 (last_written d r.place page) ∙ is
placed-written d (Map place image) page is = last_written d place page ∙ is

newest_of : (cell : Cell) → candidate_at cell (length cell.later) ≡ get_or (candidates cell) (length (candidates cell) - 1) []
newest_of cell =
    ap (λ (n : ℕ). get_or (candidates cell) n cell.first) (let e : length cell.later ≡ length (candidates cell) - 1 = omega arith in e)
    ∙ get_or_default (candidates cell) (length (candidates cell) - 1) cell.first [] (omega arith)

last_kept : (old new : DiskState) (place : ℕ) → candidates (new.cells place) ≡ candidates (old.cells place) → last_candidates new place ≡ last_candidates old place
last_kept old new place same =
    let newest : List (List ℕ) → List ℕ = λ all. get_or all (length all - 1) [] in
    newest_of (new.cells place) ∙ ap newest same ∙ sym (newest_of (old.cells place))

-- and stays so while no other candidates come to its place
pub placed-kept : (old new : DiskState) (p : PlanPage) → candidates (new.cells (place_of p)) ≡ candidates (old.cells (place_of p)) → HasPlaced old p → HasPlaced new p
placed-kept old new (Data slot number r) same placed = ap sha256 (last_kept old new r.place same) ∙ placed
placed-kept old new (Map place image) same placed = last_kept old new place same ∙ placed
