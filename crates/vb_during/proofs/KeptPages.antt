-- The pages that the next view keeps are the committed one's, and each page of the next view is held at its place.
use Rattle.std.proofs.Common.{◌≡◌, ℕ, zero, suc, List, [], ◌∷◌, length, slice_get, unwrap_or, Option, Some, None, refl, sym, ap, subst, ◌∙◌, arith}
use Rattle.std.proofs.lemmas.List.Elements.{All-append, All-cons, All-contains, All-contains_itself, All-head, All-nil, All-weaker}
use Rattle.std.specs.List.{All, Contains, flat_map}
use Rattle.sha2.specs.Sha256.{sha256}
use Rattle.vb_block.specs.declared.digest.Ref.{Ref}
use Rattle.vb_commit.specs.Known.{IsEvery}
use Rattle.vb_commit.specs.Ways.{bytes_in}
use Rattle.vb_disk.specs.Cells.{candidates}
use Rattle.vb_disk.specs.States.{DiskState}
use Rattle.vb_head.specs.declared.head.Head.{Head}
use Rattle.vb_index.specs.declared.held.Held.{Held}
use Rattle.vb_index.specs.Indexes.{IndexState}
use Rattle.vb_index.specs.Nodes.{held_at, refs_of}
use Rattle.vb_inode.specs.declared.next_view.NextNode.{NextNode}
use Rattle.vb_inode.specs.declared.node.Node.{Node}
use Rattle.vb_inode.specs.declared.next_view.PageSource.{PageSource}
use Rattle.vb_inode.specs.declared.next_view.PageSource.TheVariants.{Kept, Fresh}
use Rattle.vb_plan.specs.declared.plan_page.PlanPage.{PlanPage}
use Rattle.vb_plan.specs.declared.plan_page.PlanPage.TheVariants.{Data, Map}
use Rattle.vb_plan.specs.Conditions.{IsNextNode, kept_ref, kept_refs, refs_held}
use Rattle.vb_plan.specs.Laws.{slots_next}
use Rattle.vb_plan.specs.Plans.{data_page}
use Rattle.vb_plan.specs.Standing.{HasReference, StandsNext}
use Rattle.vb_plan.proofs.Stood.{slot-stands}
use Rattle.vb_store.specs.Clear.{first_candidates}
use Rattle.vb_store.specs.Views.{places_in}
use Rattle.vb_tree.specs.Trees.{data_pages_of}
use Rattle.vb_views.specs.AtRest.{IsViewOf}
use Rattle.vb_views.specs.Commits.{HoldsPlanned, IsPageOf}
use Rattle.vb_views.proofs.PlacesInOrder.{all_first, all_rest, refs-held}
use Rattle.vb_views.proofs.RestingViews.{of-refs}
use Rattle.vb_views.proofs.TreesGiven.{slice_below}
use Rattle.vb_views.proofs.TreesRead.{slice_some}
use Rattle.vb_during.specs.During.{Follows, HoldsKept, ViewCommit, basis_for, plan_for}

-- ---- the places of pages that are kept

all_refs : (P : Ref → Type 0) (nodes : List (Option Held)) → ((k : ℕ) (held : Held) → held_at nodes k ≡ Some held → (unwrap_or (refs_of held) [] ≡ held.refs) × All P held.refs) → All P (flat_map refs_held nodes)
all_refs P [] each = All-nil P
all_refs P (None ∷ nodes) each = all_refs P nodes (λ k. each (suc k))
all_refs P (Some held ∷ nodes) each =
    let own = each 0 held refl in
    All-append P (unwrap_or (refs_of held) []) (flat_map refs_held nodes) (subst (All P) (sym own.0) own.1) (all_refs P nodes (λ k. each (suc k)))

refs_named : (head : Head) (index : IndexState) → IsViewOf head index → All (λ r. Contains (places_in index.nodes) r.place) (flat_map refs_held index.nodes)
refs_named head index is =
    all_refs (λ r. Contains (places_in index.nodes) r.place) index.nodes
    (λ k held there. (refs-held k held (is.table.fits k held there), (of-refs (Contains (places_in index.nodes)) head index k held is there (All-contains_itself (places_in index.nodes))).pages))

each_keeps : (P : Ref → Type 0) (next : List NextNode) → All P (kept_refs next) → All (λ x. All P (flat_map kept_ref x.pages)) next
each_keeps P [] all = All-nil (λ x. All P (flat_map kept_ref x.pages))
each_keeps P (x ∷ next) all =
    All-cons (λ x. All P (flat_map kept_ref x.pages)) x next (all_first P (flat_map kept_ref x.pages) (kept_refs next) all) (each_keeps P next (all_rest P (flat_map kept_ref x.pages) (kept_refs next) all))

kept_at : (P : Ref → Type 0) (sources : List PageSource) → All P (flat_map kept_ref sources) → (k : ℕ) (r : Ref) → slice_get sources k ≡ Some (Kept r) → P r
kept_at P [] all k r is = absurd (cc is)
kept_at P (s ∷ sources) all zero r is =
    let same : s ≡ Kept r = cc is in
    All-head P r [] (subst (λ (x : PageSource). All P (kept_ref x)) same (all_first P (kept_ref s) (flat_map kept_ref sources) all))
kept_at P (s ∷ sources) all (suc k) r is = kept_at P sources (all_rest P (kept_ref s) (flat_map kept_ref sources) all) k r is

-- the committed view names the place of each page that is kept
pub kept-place : (v : ViewCommit) (x : NextNode) (k : ℕ) (r : Ref) → IsViewOf v.head v.old → Follows v → Contains v.nodes x → slice_get x.pages k ≡ Some (Kept r) → Contains (places_in v.old.nodes) r.place
kept-place v x k r is follows listed at =
    let P : Ref → Type 0 = λ q. Contains (places_in v.old.nodes) q.place in
    let all : All P (kept_refs v.nodes) = All-weaker (Contains (flat_map refs_held v.old.nodes)) P (λ q among. All-contains P (flat_map refs_held v.old.nodes) q (refs_named v.head v.old is) among) (kept_refs v.nodes) follows.can.kept in
    kept_at P x.pages (All-contains (λ y. All P (flat_map kept_ref y.pages)) v.nodes x (each_keeps P v.nodes all) listed) k r at

-- ---- pages that were written

first_is : (page : List ℕ) (first : List ℕ) (later : List (List ℕ)) → All (λ p. p ≡ page) (first ∷ later) → first ≡ page
first_is page first later all = All-head (λ p. p ≡ page) first later all

-- the planned page is held where each candidate of its place is the page that was given
pub every-held : (source : ℕ → ℕ → List ℕ) (d : DiskState) (p : PlanPage) → IsPageOf p (bytes_in source p) → IsEvery source d p → HoldsPlanned d p
every-held source d (Data slot number r) is every =
    let cell = d.cells r.place in
    let first : cell.first ≡ source slot number = first_is (source slot number) cell.first cell.later every in
    record {
      same = All-weaker (λ page. page ≡ source slot number) (λ page. page ≡ cell.first) (λ page one. one ∙ sym first) (candidates cell) every;
      due = ap sha256 first ∙ is;
    }
every-held source d (Map place image) is every = every

-- ---- each page of the next view

by_source : (v : ViewCommit) (d : DiskState) (x : NextNode) (k : ℕ) (s : PageSource) (r : Ref) → HoldsKept v d → All (IsEvery v.source d) (plan_for v).pages → Contains v.nodes x → slice_get x.pages k ≡ Some s → HasReference (plan_for v).pages (data_page x.node.slot k) s r → first_candidates d r.place ≡ v.source x.node.slot k
by_source v d x k (Kept kept) r holds every listed at has =
    ap (λ (q : Ref). first_candidates d q.place) has ∙ first_is (v.source x.node.slot k) (d.cells kept.place).first (d.cells kept.place).later (holds x k kept listed at)
by_source v d x k (Fresh digest) r holds every listed at has =
    first_is (v.source x.node.slot k) (d.cells r.place).first (d.cells r.place).later (All-contains (IsEvery v.source d) (plan_for v).pages (Data x.node.slot k r) every has.1)

pub page-given : (v : ViewCommit) (d : DiskState) (slot : ℕ) (held : Held) (k : ℕ) (r : Ref) → Follows v → HoldsKept v d → All (IsEvery v.source d) (plan_for v).pages → held_at v.new.nodes slot ≡ Some held → slice_get held.refs k ≡ Some r → first_candidates d r.place ≡ v.source slot k
page-given v d slot held k r follows holds every there at =
    let here : held_at (slots_next (basis_for v) v.nodes) slot ≡ Some held = ap (λ (l : List (Option Held)). held_at l slot) (sym follows.is) ∙ there in
    let one = slot-stands (basis_for v) v.nodes slot held follows.can here in
    stood one.0 one.1 one.2 where
      stood : (x : NextNode) → x.node.slot ≡ slot → StandsNext (basis_for v) v.nodes x held → first_candidates d r.place ≡ v.source slot k
      stood x its stands =
          let many : length held.refs ≡ data_pages_of held.node.length = follows.view.can.refs slot held there in
          let each : length x.pages ≡ data_pages_of x.node.length = (All-contains (IsNextNode (length v.old.nodes)) v.nodes x follows.can.nodes stands.listed).each_page in
          let same : data_pages_of x.node.length ≡ data_pages_of held.node.length = ap (λ (n : Node). data_pages_of n.length) stands.node in
          let source = slice_some x.pages k (omega (arith, slice_below held.refs k r at, many, each, same)) in
          by_source v d x k source.0 r holds every stands.listed source.1 (stands.pages k source.0 r source.1 at) ∙ ap (λ (n : ℕ). v.source n k) its
