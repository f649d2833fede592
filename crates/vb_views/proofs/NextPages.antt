-- The pages of the next view are those that it keeps of the committed one, and those that are planned.
use Rattle.std.proofs.Common.{◌≡◌, ℕ, zero, suc, ◌+◌, ◌*◌, ◌<◌, ◌^◌, Bool, true, false, cond, List, [], ◌∷◌, length, drop, get_or, slice_get, unwrap_or, Option, Some, None, Ok, refl, sym, ap, subst, ◌∙◌, arith}
use Rattle.std.proofs.lemmas.List.Elements.{All-append, All-cons, All-contains, All-drop, All-head, All-nil, All-tail, All-take, All-weaker}
use Rattle.std.specs.List.{All, Contains, flat_map}
use Rattle.std.specs.Option.{option_and_then}
use Rattle.sha2.specs.Sha256.{sha256}
use Rattle.sha2.proofs.Facts256.{length-sha256}
use Rattle.vb_block.specs.declared.digest.Ref.{Ref}
use Rattle.vb_disk.specs.Cells.{candidates}
use Rattle.vb_disk.specs.States.{DiskState}
use Rattle.vb_head.specs.declared.head.Head.{Head}
use Rattle.vb_index.specs.declared.held.Held.{Held}
use Rattle.vb_index.specs.Indexes.{IndexState}
use Rattle.vb_index.specs.Nodes.{held_at, refs_of, IsTable}
use Rattle.vb_inode.specs.declared.next_view.NextNode.{NextNode}
use Rattle.vb_inode.specs.declared.next_view.PageSource.{PageSource}
use Rattle.vb_inode.specs.declared.next_view.PageSource.TheVariants.{Kept, Fresh}
use Rattle.vb_inode.specs.Layout.{map_page, AreRefs}
use Rattle.vb_inode.specs.Reading.{map_read}
use Rattle.vb_inode.proofs.PagesRead.{map_page_read}
use Rattle.vb_plan.specs.declared.plan_page.PlanPage.{PlanPage}
use Rattle.vb_plan.specs.Conditions.{CanPlan, kept_ref, kept_refs, refs_held}
use Rattle.vb_plan.specs.Laws.{slots_next}
use Rattle.vb_plan.specs.Maps.{FileRefs, committed_refs, maps_in, group_at, map_source, map_sources, same_refs, source_of_map, standing_map}
use Rattle.vb_plan.specs.Plans.{Basis, all_held, all_pages, data_page, data_refs, held_next, map_image, maps_due, pages_next, plan_of, taken_by, taken_by_data}
use Rattle.vb_plan.specs.Sources.{pages_written, refs_from}
use Rattle.vb_plan.proofs.MapSources.{length-map_sources, map_source_at}
use Rattle.vb_plan.proofs.SameNodes.{same_refs-Decides}
use Rattle.vb_plan.proofs.Slots.{holds_in_slots}
use Rattle.vb_views.specs.AtRest.{HoldsAllPages, HoldsPagesOf, HoldsRef, IsViewOf}
use Rattle.vb_views.specs.Commits.{HoldsPlanned}
use Rattle.vb_views.proofs.PlacesInOrder.{all_first, all_rest, refs-held}
use Rattle.vb_views.proofs.RestingViews.{of-refs}
use Rattle.vb_views.proofs.TreesGiven.{at_slice, slice_below}

-- ---- items of lists

at_item : {X : Type 0} (xs : List X) (k : ℕ) (x d : X) → slice_get xs k ≡ Some x → get_or xs k d ≡ x
at_item [] k x d is = absurd (cc is)
at_item (y ∷ ys) zero x d is = cc is
at_item (y ∷ ys) (suc k) x d is = at_item ys k x d is

all_slices : {X : Type 0} (P : X → Type 0) (xs : List X) → ((k : ℕ) (x : X) → slice_get xs k ≡ Some x → P x) → All P xs
all_slices P [] each = All-nil P
all_slices P (x ∷ xs) each = All-cons P x xs (each 0 x refl) (all_slices P xs (λ k. each (suc k)))

-- ---- references of pages, kept or planned

-- what holds of a reference that is kept, and of one whose page is planned, holds of each, by its number
refs_hold : (Q : ℕ → Ref → Type 0) (Due : ℕ → List ℕ → Type 0) (d : DiskState) (page : ℕ → Ref → PlanPage) (free : List ℕ) (taken number : ℕ) (sources : List PageSource) → ((n : ℕ) (r : Ref) → Due n r.digest → HoldsPlanned d (page n r) → Q n r) → ((k : ℕ) (r : Ref) → slice_get sources k ≡ Some (Kept r) → Q (number + k) r) → ((k : ℕ) (digest : List ℕ) → slice_get sources k ≡ Some (Fresh digest) → Due (number + k) digest) → All (HoldsPlanned d) (pages_written page free taken number sources) → (k : ℕ) (r : Ref) → slice_get (refs_from free taken sources) k ≡ Some r → Q (number + k) r
refs_hold Q Due d page free taken number [] made kept fresh holds k r at = absurd (cc at)
refs_hold Q Due d page free taken number (Kept x ∷ sources) made kept fresh holds zero r at =
    let same : x ≡ r = cc at in subst (Q (number + 0)) same (kept 0 x refl)
refs_hold Q Due d page free taken number (Kept x ∷ sources) made kept fresh holds (suc k) r at =
    subst (λ (n : ℕ). Q n r) (let e : number + 1 + k ≡ number + suc k = omega arith in e)
    (refs_hold Q Due d page free taken (number + 1) sources made
    (λ j y is. subst (λ (n : ℕ). Q n y) (let e : number + suc j ≡ number + 1 + j = omega arith in e) (kept (suc j) y is))
    (λ j digest is. subst (λ (n : ℕ). Due n digest) (let e : number + suc j ≡ number + 1 + j = omega arith in e) (fresh (suc j) digest is))
    holds k r at)
refs_hold Q Due d page free taken number (Fresh digest ∷ sources) made kept fresh holds zero r at =
    let new : Ref = record { place = get_or free taken 0; digest = digest } in
    let same : new ≡ r = cc at in
    let rest = pages_written page free (taken + 1) (number + 1) sources in
    let due : Due number digest = subst (λ (n : ℕ). Due n digest) (let e : number + 0 ≡ number = omega arith in e) (fresh 0 digest refl) in
    subst (Q (number + 0)) same (subst (λ (n : ℕ). Q n new) (let e : number ≡ number + 0 = omega arith in e) (made number new due (All-head (HoldsPlanned d) (page number new) rest holds)))
refs_hold Q Due d page free taken number (Fresh digest ∷ sources) made kept fresh holds (suc k) r at =
    let new : Ref = record { place = get_or free taken 0; digest = digest } in
    let rest = pages_written page free (taken + 1) (number + 1) sources in
    subst (λ (n : ℕ). Q n r) (let e : number + 1 + k ≡ number + suc k = omega arith in e)
    (refs_hold Q Due d page free (taken + 1) (number + 1) sources made
    (λ j y is. subst (λ (n : ℕ). Q n y) (let e : number + suc j ≡ number + 1 + j = omega arith in e) (kept (suc j) y is))
    (λ j x is. subst (λ (n : ℕ). Due n x) (let e : number + suc j ≡ number + 1 + j = omega arith in e) (fresh (suc j) x is))
    (All-tail (HoldsPlanned d) (page number new) rest holds) k r at)

-- ---- data pages

no_due : ℕ → List ℕ → Type 0
no_due n digest = Unit {0}

kept_at : (P : Ref → Type 0) (sources : List PageSource) → All P (flat_map kept_ref sources) → (k : ℕ) (r : Ref) → slice_get sources k ≡ Some (Kept r) → P r
kept_at P [] all k r is = absurd (cc is)
kept_at P (s ∷ sources) all zero r is =
    let same : s ≡ Kept r = cc is in
    All-head P r [] (subst (λ (x : PageSource). All P (kept_ref x)) same (all_first P (kept_ref s) (flat_map kept_ref sources) all))
kept_at P (s ∷ sources) all (suc k) r is = kept_at P sources (all_rest P (kept_ref s) (flat_map kept_ref sources) all) k r is

data_hold : (d : DiskState) (slot : ℕ) (free : List ℕ) (taken : ℕ) (sources : List PageSource) → All (HoldsRef d) (flat_map kept_ref sources) → All (HoldsPlanned d) (pages_written (data_page slot) free taken 0 sources) → All (HoldsRef d) (refs_from free taken sources)
unfolding no_due
data_hold d slot free taken sources kept planned =
    all_slices (HoldsRef d) (refs_from free taken sources)
    (refs_hold (λ n r. HoldsRef d r) no_due d (data_page slot) free taken 0 sources (λ n r due holds. holds) (kept_at (HoldsRef d) sources kept) (λ k digest is. tt) planned)

-- ---- map pages

-- a map page of some references is held, and once these can stand in blocks it reads as its group of them
pub record HoldsMap (d : DiskState) (refs : List Ref) (n : ℕ) (r : Ref) : Type 0 where
  pub holds : HoldsRef d r
  pub reads : AreRefs refs → map_read (length (group_at n refs)) (d.cells r.place).first ≡ Ok (group_at n refs)

planned_map : (d : DiskState) (refs : List Ref) (n : ℕ) (r : Ref) → r.digest ≡ sha256 (map_page (group_at n refs)) → HoldsPlanned d (map_image refs n r) → HoldsMap d refs n r
planned_map d refs n r due all =
    let cell = d.cells r.place in
    let group = group_at n refs in
    let Fits : Ref → Type 0 = λ x. (x.place < 2 ^ 32) × (length x.digest ≡ 32) in
    let first : cell.first ≡ map_page group = All-head (λ page. page ≡ map_page group) cell.first cell.later all in
    record {
      holds = record {
        same = All-weaker (λ page. page ≡ map_page group) (λ page. page ≡ cell.first) (λ page is. is ∙ sym first) (candidates cell) all;
        due = ap sha256 first ∙ sym due;
      };
      reads = λ are. ap (map_read (length group)) first ∙ map_page_read group (All-take Fits 113 (drop (113 * n) refs) (All-drop Fits (113 * n) refs are));
    }

source_at : (old : FileRefs) (refs : List Ref) (k : ℕ) (s : PageSource) → slice_get (map_sources old refs) k ≡ Some s → map_source old refs k ≡ s
source_at old refs k s is =
    sym (map_source_at old refs k s (omega (arith, slice_below (map_sources old refs) k s is, length-map_sources old refs))) ∙ at_item (map_sources old refs) k s s is

due_of_source : (group : List Ref) (o : Option Ref) (digest : List ℕ) → source_of_map group o ≡ Fresh digest → digest ≡ sha256 (map_page group)
due_of_source group None digest is = let same : sha256 (map_page group) ≡ digest = cc is in sym same
due_of_source group (Some r) digest is = absurd (cc is)

kept_of_source : (group : List Ref) (o : Option Ref) (r : Ref) → source_of_map group o ≡ Kept r → o ≡ Some r
kept_of_source group None r is = absurd (cc is)
kept_of_source group (Some x) r is = let same : x ≡ r = cc is in ap Some same

standing_of : (same : Bool) (o : Option Ref) (r : Ref) → cond same o None ≡ Some r → (same ≡ true) × (o ≡ Some r)
standing_of true o r is = (refl, is)
standing_of false o r is = absurd (cc is)

-- a map page that stays is one of the committed file in the slot
stands_in : (nodes : List (Option Held)) (d : DiskState) (slot : ℕ) (refs : List Ref) (k : ℕ) (r : Ref) → IsTable nodes → HoldsAllPages nodes d → map_source (committed_refs nodes slot) refs k ≡ Kept r → HoldsMap d refs k r
stands_in nodes d slot refs k r table holds is = by (held_at nodes slot) refl (slice_get (committed_refs nodes slot).maps k) refl both.1 where
  old : FileRefs
  old = committed_refs nodes slot

  both : (same_refs (group_at k refs) (group_at k (committed_refs nodes slot).refs) ≡ true) × (slice_get (committed_refs nodes slot).maps k ≡ Some r)
  both = standing_of (same_refs (group_at k refs) (group_at k (committed_refs nodes slot).refs)) (slice_get (committed_refs nodes slot).maps k) r
      (kept_of_source (group_at k refs) (standing_map (committed_refs nodes slot) k (group_at k refs)) r is)

  by : (o : Option Held) → held_at nodes slot ≡ o → (m : Option Ref) → slice_get (committed_refs nodes slot).maps k ≡ m → m ≡ Some r → HoldsMap d refs k r
  by None there m at some = absurd (
      let none : slice_get [] k ≡ Some r = ap (λ (o : Option Held). slice_get (maps_in o) k) (sym there) ∙ at ∙ some in
      cc none)
  by (Some held) there m at some =
      let here : slice_get held.node.maps k ≡ Some r = ap (λ (o : Option Held). slice_get (maps_in o) k) (sym there) ∙ at ∙ some in
      let refs_are : (committed_refs nodes slot).refs ≡ held.refs = ap (λ (o : Option Held). unwrap_or (option_and_then refs_of o) []) there ∙ refs-held slot held (table.fits slot held there) in
      let group : group_at k held.refs ≡ group_at k refs = ap (group_at k) (sym refs_are) ∙ sym ((same_refs-Decides (group_at k refs) (group_at k (committed_refs nodes slot).refs)).0 both.0) in
      let own = holds slot held there in
      record {
        holds = at_slice (HoldsRef d) held.node.maps k r own.maps here;
        reads = λ are. subst (λ (g : List Ref). map_read (length g) (d.cells r.place).first ≡ Ok g) group (own.spelled k r here);
      }

maps_hold : (nodes : List (Option Held)) (d : DiskState) (slot : ℕ) (free : List ℕ) (taken : ℕ) (refs : List Ref) → IsTable nodes → HoldsAllPages nodes d → All (HoldsPlanned d) (pages_written (map_image refs) free taken 0 (map_sources (committed_refs nodes slot) refs)) → (k : ℕ) (r : Ref) → slice_get (refs_from free taken (map_sources (committed_refs nodes slot) refs)) k ≡ Some r → HoldsMap d refs k r
maps_hold nodes d slot free taken refs table holds planned k r at =
    let old = committed_refs nodes slot in
    let sources = map_sources old refs in
    subst (λ (n : ℕ). HoldsMap d refs n r) (let e : 0 + k ≡ k = omega arith in e)
    (refs_hold (HoldsMap d refs) (λ n digest. digest ≡ sha256 (map_page (group_at n refs))) d (map_image refs) free taken 0 sources (planned_map d refs)
    (λ j x is. subst (λ (n : ℕ). HoldsMap d refs n x) (let e : j ≡ 0 + j = omega arith in e) (stands_in nodes d slot refs j x table holds (source_at old refs j (Kept x) is)))
    (λ j digest is. due_of_source (group_at j refs) (standing_map old j (group_at j refs)) digest (source_at old refs j (Fresh digest) is) ∙ ap (λ (n : ℕ). sha256 (map_page (group_at n refs))) (let e : j ≡ 0 + j = omega arith in e))
    planned k r at)

-- ---- all nodes

-- the pages of what a slot holds next are held
pub record HoldsNext (d : DiskState) (held : Held) : Type 0 where
  pub pages : All (HoldsRef d) held.refs
  pub maps : (k : ℕ) (r : Ref) → slice_get held.node.maps k ≡ Some r → HoldsMap d held.refs k r

one_next : (basis : Basis) (d : DiskState) (taken : ℕ) (x : NextNode) → IsTable basis.nodes → HoldsAllPages basis.nodes d → All (HoldsRef d) (flat_map kept_ref x.pages) → All (HoldsPlanned d) (pages_next basis taken x) → HoldsNext d (held_next basis taken x)
one_next basis d taken x table holds kept planned =
    let firsts : List PlanPage = pages_written (data_page x.node.slot) basis.free taken 0 x.pages in
    let maps : List PlanPage = pages_written (map_image (data_refs basis taken x)) basis.free (taken_by_data taken x) 0 (maps_due basis taken x) in
    record {
      pages = data_hold d x.node.slot basis.free taken x.pages kept (all_first (HoldsPlanned d) firsts maps planned);
      maps = maps_hold basis.nodes d x.node.slot basis.free (taken_by_data taken x) (data_refs basis taken x) table holds (all_rest (HoldsPlanned d) firsts maps planned);
    }

all_next : (basis : Basis) (d : DiskState) (taken : ℕ) (next : List NextNode) → IsTable basis.nodes → HoldsAllPages basis.nodes d → All (HoldsRef d) (kept_refs next) → All (HoldsPlanned d) (all_pages basis taken next) → All (HoldsNext d) (all_held basis taken next)
all_next basis d taken [] table holds kept planned = All-nil (HoldsNext d)
all_next basis d taken (x ∷ next) table holds kept planned =
    let own = flat_map kept_ref x.pages in
    let rest = all_pages basis (taken_by basis taken x) next in
    All-cons (HoldsNext d) (held_next basis taken x) (all_held basis (taken_by basis taken x) next)
    (one_next basis d taken x table holds (all_first (HoldsRef d) own (kept_refs next) kept) (all_first (HoldsPlanned d) (pages_next basis taken x) rest planned))
    (all_next basis d (taken_by basis taken x) next table holds (all_rest (HoldsRef d) own (kept_refs next) kept) (all_rest (HoldsPlanned d) (pages_next basis taken x) rest planned))

-- the references that slots hold name pages that are held
held_hold : (d : DiskState) (nodes : List (Option Held)) (from : ℕ) → ((k : ℕ) (held : Held) → held_at nodes k ≡ Some held → (unwrap_or (refs_of held) [] ≡ held.refs) × HoldsPagesOf held d) → All (HoldsRef d) (flat_map refs_held nodes)
held_hold d [] from each = All-nil (HoldsRef d)
held_hold d (None ∷ nodes) from each = held_hold d nodes (from + 1) (λ k. each (suc k))
held_hold d (Some held ∷ nodes) from each =
    let own = each 0 held refl in
    All-append (HoldsRef d) (unwrap_or (refs_of held) []) (flat_map refs_held nodes) (subst (All (HoldsRef d)) (sym own.0) own.1.pages) (held_hold d nodes (from + 1) (λ k. each (suc k)))

kept_hold : (basis : Basis) (d : DiskState) (next : List NextNode) → IsTable basis.nodes → HoldsAllPages basis.nodes d → CanPlan basis next → All (HoldsRef d) (kept_refs next)
kept_hold basis d next table holds can =
    let all : All (HoldsRef d) (flat_map refs_held basis.nodes) = held_hold d basis.nodes 0 (λ k held there. (refs-held k held (table.fits k held there), holds k held there)) in
    All-weaker (Contains (flat_map refs_held basis.nodes)) (HoldsRef d) (λ r among. All-contains (HoldsRef d) (flat_map refs_held basis.nodes) r all among) (kept_refs next) can.kept

long_digest : (d : DiskState) (r : Ref) → HoldsRef d r → length r.digest ≡ 32
long_digest d r holds = ap length (sym holds.due) ∙ length-sha256 (d.cells r.place).first

pub next-pages : (basis : Basis) (next : List NextNode) (head : Head) (index : IndexState) (d : DiskState) → IsTable basis.nodes → HoldsAllPages basis.nodes d → CanPlan basis next → All (HoldsPlanned d) (plan_of basis next).pages → index.nodes ≡ slots_next basis next → IsViewOf head index → HoldsAllPages index.nodes d
next-pages basis next head index d table holds can planned nodes is slot held there =
    let all : All (HoldsNext d) (all_held basis 0 next) = all_next basis d 0 next table holds (kept_hold basis d next table holds can) planned in
    let at : held_at (slots_next basis next) slot ≡ Some held = ap (λ (l : List (Option Held)). held_at l slot) (sym nodes) ∙ there in
    let own : HoldsNext d held = holds_in_slots (HoldsNext d) (length basis.nodes) (all_held basis 0 next) all slot held at in
    let low = (of-refs (λ p. p < head.blocks) head index slot held is there is.can.below).pages in
    let are : AreRefs held.refs = λ k r within. (let less = low k r within in let few = is.can.range.blocks in omega (arith, less, few), long_digest d _ (own.pages k r within)) in
    record {
      pages = own.pages;
      maps = all_slices (HoldsRef d) held.node.maps (λ k r at_k. (own.maps k r at_k).holds);
      spelled = λ k r at_k. (own.maps k r at_k).reads are;
    }
