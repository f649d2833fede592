-- A disk has the view whose pages it holds, whatever stands in its heads, homes and journal, once these recover to the
-- view's head and its blocks.
use Rattle.std.proofs.Common.{◌≡◌, ℕ, ◌+◌, ◌-◌, ◌*◌, ◌<◌, ◌≤◌, Bool, cond, ltb, List, [], Some, refl, sym, ap, subst, ◌∙◌, arith}
use Rattle.std.proofs.lemmas.Bool.{le-ltb, lt-ltb}
use Rattle.std.proofs.lemmas.List.Elements.{All-weaker}
use Rattle.std.specs.List.{Contains}
use Rattle.vb_block.specs.declared.digest.Ref.{Ref}
use Rattle.vb_disk.specs.declared.cell.Cell.{Cell}
use Rattle.vb_disk.specs.Cells.{candidates}
use Rattle.vb_disk.specs.States.{DiskState}
use Rattle.vb_head.specs.declared.head.Head.{Head}
use Rattle.vb_head.specs.Heads.{head_page}
use Rattle.vb_index.specs.declared.held.Held.{Held}
use Rattle.vb_index.specs.Contents.{HasTree}
use Rattle.vb_index.specs.Indexes.{IndexState}
use Rattle.vb_index.specs.Nodes.{held_at}
use Rattle.vb_journal.specs.declared.commit_stage.Stage.{Stage}
use Rattle.vb_journal.specs.declared.commit_stage.Stage.TheVariants.{Journal, Opening, Homes, Closing, Rested}
use Rattle.vb_journal.specs.Plans.{CanFinish, CanGoOn, closed_head}
use Rattle.vb_journal.specs.Progress.{IsCommitting, new_images, new_journal}
use Rattle.vb_journal.proofs.Resting.{IsAtRest-rested}
use Rattle.vb_pages.specs.Disks.{HoldsOnly}
use Rattle.vb_store.specs.Clear.{first_candidates}
use Rattle.vb_store.specs.EmptyStores.{whole_cell}
use Rattle.vb_store.specs.OneOf.{HasAView, HasViewsAt, RecoversOneOf, TreeView, ViewOf}
use Rattle.vb_store.specs.Views.{data_start}
use Rattle.vb_store.proofs.KnownViews.{RecoversOneOf-stage}
use Rattle.vb_store.proofs.OneOfThem.{ViewOf-fewer}
use Rattle.vb_tree.specs.declared.tree.TreeEntry.{TreeEntry}
use Rattle.vb_views.specs.AtRest.{HoldsPagesOf, HoldsRef, IsAtRestFor, IsMapOf, IsViewOf}
use Rattle.vb_views.specs.Commits.{HoldsView, HoldsViewsAt}
use Rattle.vb_views.specs.Reads.{pages_by, tree_view}
use Rattle.vb_views.proofs.RestingViews.{HoldsOfRefs, of-refs, tree-same, view-at-rest}
use Rattle.vb_views.proofs.TreesGiven.{at_slice}

-- ---- the same disk at rest

-- a place of a store at rest with this head and these homes, whose data places are these
placed_cell : Head → (ℕ → List ℕ) → (ℕ → Cell) → ℕ → Cell
placed_cell head homes cells place =
    cond (ltb place 2) (whole_cell (head_page head))
    (cond (ltb place (2 + head.nodes)) (whole_cell (homes (place - 2)))
    (cond (ltb place (2 + 2 * head.nodes)) (whole_cell []) (cells place)))

resting_disk : DiskState → Head → (ℕ → List ℕ) → DiskState
unfolding placed_cell
resting_disk d head homes = record d { cells = placed_cell head homes d.cells }

at_head : (head : Head) (homes : ℕ → List ℕ) (cells : ℕ → Cell) (place : ℕ) → place < 2 → placed_cell head homes cells place ≡ whole_cell (head_page head)
unfolding placed_cell
at_head head homes cells place low = ap (λ (b : Bool). cond b (whole_cell (head_page head)) (cond (ltb place (2 + head.nodes)) (whole_cell (homes (place - 2))) (cond (ltb place (2 + 2 * head.nodes)) (whole_cell []) (cells place)))) (lt-ltb place 2 low)

past_heads : (head : Head) (homes : ℕ → List ℕ) (cells : ℕ → Cell) (place : ℕ) → 2 ≤ place → placed_cell head homes cells place ≡ cond (ltb place (2 + head.nodes)) (whole_cell (homes (place - 2))) (cond (ltb place (2 + 2 * head.nodes)) (whole_cell []) (cells place))
unfolding placed_cell
past_heads head homes cells place past = ap (λ (b : Bool). cond b (whole_cell (head_page head)) (cond (ltb place (2 + head.nodes)) (whole_cell (homes (place - 2))) (cond (ltb place (2 + 2 * head.nodes)) (whole_cell []) (cells place)))) (le-ltb place 2 past)

at_home : (head : Head) (homes : ℕ → List ℕ) (cells : ℕ → Cell) (slot : ℕ) → slot < head.nodes → placed_cell head homes cells (2 + slot) ≡ whole_cell (homes slot)
at_home head homes cells slot within =
    past_heads head homes cells (2 + slot) (omega arith)
    ∙ ap (λ (b : Bool). cond b (whole_cell (homes (2 + slot - 2))) (cond (ltb (2 + slot) (2 + 2 * head.nodes)) (whole_cell []) (cells (2 + slot)))) (lt-ltb (2 + slot) (2 + head.nodes) (omega (arith, within)))
    ∙ ap (λ (s : ℕ). whole_cell (homes s)) (let e : 2 + slot - 2 ≡ slot = omega arith in e)

past_homes : (head : Head) (homes : ℕ → List ℕ) (cells : ℕ → Cell) (place : ℕ) → 2 + head.nodes ≤ place → placed_cell head homes cells place ≡ cond (ltb place (2 + 2 * head.nodes)) (whole_cell []) (cells place)
past_homes head homes cells place past =
    past_heads head homes cells place (omega (arith, past))
    ∙ ap (λ (b : Bool). cond b (whole_cell (homes (place - 2))) (cond (ltb place (2 + 2 * head.nodes)) (whole_cell []) (cells place))) (le-ltb place (2 + head.nodes) past)

in_journal : (head : Head) (homes : ℕ → List ℕ) (cells : ℕ → Cell) (i : ℕ) → i < head.nodes → placed_cell head homes cells (2 + head.nodes + i) ≡ whole_cell []
in_journal head homes cells i within =
    past_homes head homes cells (2 + head.nodes + i) (omega arith)
    ∙ ap (λ (b : Bool). cond b (whole_cell []) (cells (2 + head.nodes + i))) (lt-ltb (2 + head.nodes + i) (2 + 2 * head.nodes) (omega (arith, within)))

in_data : (head : Head) (homes : ℕ → List ℕ) (cells : ℕ → Cell) (place : ℕ) → data_start head ≤ place → placed_cell head homes cells place ≡ cells place
in_data head homes cells place past =
    past_homes head homes cells place (omega (arith, past))
    ∙ ap (λ (b : Bool). cond b (whole_cell []) (cells place)) (le-ltb place (2 + 2 * head.nodes) past)

-- ---- its pages

-- the data places that a view names are those of the disk
named_same : (head : Head) (index : IndexState) (d : DiskState) (homes : ℕ → List ℕ) (slot : ℕ) (held : Held) → IsViewOf head index → held_at index.nodes slot ≡ Some held → HoldsOfRefs (λ p. placed_cell head homes d.cells p ≡ d.cells p) held
named_same head index d homes slot held is there =
    of-refs (λ p. placed_cell head homes d.cells p ≡ d.cells p) head index slot held is there (λ k p within. in_data head homes d.cells _ (is.can.above k p within))

held_same : (head : Head) (index : IndexState) (d : DiskState) (homes : ℕ → List ℕ) (slot : ℕ) (held : Held) → IsViewOf head index → held_at index.nodes slot ≡ Some held → HoldsPagesOf held d → HoldsPagesOf held (resting_disk d head homes)
unfolding resting_disk
held_same head index d homes slot held is there holds =
    let w : DiskState = resting_disk d head homes in
    let named = named_same head index d homes slot held is there in
    let moved : (r : Ref) → placed_cell head homes d.cells r.place ≡ d.cells r.place → HoldsRef d r → HoldsRef w r = λ r same has. subst (λ (c : Cell). HoldsOnly c r.digest) (sym same) has in
    record {
      pages = λ k r within. moved _ (named.pages k r within) (holds.pages k r within);
      maps = λ k r within. moved _ (named.maps k r within) (holds.maps k r within);
      spelled = λ k r at. subst (λ (c : Cell). IsMapOf held k c.first) (sym (at_slice (λ x. placed_cell head homes d.cells x.place ≡ d.cells x.place) held.node.maps k r named.maps at)) (holds.spelled k r at);
    }

-- ---- the view

rests_there : (head : Head) (index : IndexState) (homes : ℕ → List ℕ) (d : DiskState) (tree : List TreeEntry) → HoldsView head index homes tree d → IsAtRestFor head index (resting_disk d head homes)
unfolding resting_disk
rests_there head index homes d tree v = record {
  homes = homes;
  journal = λ i. [];
  rests = record {
    id = v.id;
    size = v.size;
    first = ap candidates (at_head head homes d.cells 0 (omega arith));
    second = ap candidates (at_head head homes d.cells 1 (omega arith));
    each_home = λ slot within. ap candidates (at_home head homes d.cells slot within);
    each_image = λ i within. ap candidates (in_journal head homes d.cells i within);
  };
  blocks = v.are;
  holds = λ slot held there. held_same head index d homes slot held v.view there (v.holds slot held there);
}

tree_there : (head : Head) (index : IndexState) (homes : ℕ → List ℕ) (d : DiskState) (tree : List TreeEntry) → HoldsView head index homes tree d → HasTree index.nodes (pages_by (first_candidates (resting_disk d head homes)) index.nodes) tree
unfolding resting_disk
tree_there head index homes d tree v =
    tree-same head index (first_candidates d) (first_candidates (resting_disk d head homes)) tree v.view
    (λ slot held there. All-weaker (λ r. placed_cell head homes d.cells r.place ≡ d.cells r.place) (λ r. first_candidates (resting_disk d head homes) r.place ≡ first_candidates d r.place) (λ r same. ap (λ (c : Cell). c.first) same) held.refs (named_same head index d homes slot held v.view there).pages)
    v.has

-- a disk that holds the pages of a view has that view, by its head and its blocks
pub view-in-place : (head : Head) (index : IndexState) (homes : ℕ → List ℕ) (d : DiskState) (tree : List TreeEntry) → HoldsView head index homes tree d → ViewOf d (tree_view head index tree) head homes
unfolding resting_disk rests_there
view-in-place head index homes d tree v =
    ViewOf-fewer (tree_view head index tree) head homes (resting_disk d head homes) d
    (record { size = refl; each = λ place page past among. subst (λ (c : Cell). Contains (candidates c) page) (sym (in_data head homes d.cells place past)) among })
    (view-at-rest head index (resting_disk d head homes) tree v.view (rests_there head index homes d tree v) (tree_there head index homes d tree v))

-- ---- the stages of a commit

has_a_view : (views : List TreeView) (head : Head) (index : IndexState) (homes : ℕ → List ℕ) (d : DiskState) (tree : List TreeEntry) → Contains views (tree_view head index tree) → HoldsView head index homes tree d → HasAView views d head homes
has_a_view views head index homes d tree listed v = record { view = tree_view head index tree; listed = listed; is = view-in-place head index homes d tree v }

-- a disk in the midst of a commit has the views that it has to have at each stage: the old one until the heads are
-- closed for it, and the new one from when its pages are synced on
pub views-at : (views : List TreeView) (head : Head) (epoch : ℕ) (images : List (List ℕ)) (homes : ℕ → List ℕ) (stage : Stage) (d : DiskState) (old : IndexState) (tree : List TreeEntry) (new : IndexState) (after : List TreeEntry) → Contains views (tree_view head old tree) → Contains views (tree_view (closed_head head epoch) new after) → HoldsViewsAt head epoch images homes stage old tree new after d → HasViewsAt head epoch images homes stage views d
views-at views head epoch images homes (Journal next) d old tree new after first second holds = has_a_view views head old homes d tree first holds
views-at views head epoch images homes (Opening turn) d old tree new after first second holds =
    (has_a_view views head old homes d tree first holds.0, has_a_view views (closed_head head epoch) new (new_images images homes) d after second holds.1)
views-at views head epoch images homes (Homes next) d old tree new after first second holds = has_a_view views (closed_head head epoch) new (new_images images homes) d after second holds
views-at views head epoch images homes (Closing turn) d old tree new after first second holds = has_a_view views (closed_head head epoch) new (new_images images homes) d after second holds
views-at views head epoch images homes Rested d old tree new after first second holds = has_a_view views (closed_head head epoch) new (new_images images homes) d after second holds

-- ---- from rest to rest

-- a view at rest is held
pub rest-holds : (head : Head) (index : IndexState) (d : DiskState) (tree : List TreeEntry) → IsViewOf head index → (rests : IsAtRestFor head index d) → HasTree index.nodes (pages_by (first_candidates d) index.nodes) tree → HoldsView head index rests.homes tree d
rest-holds head index d tree is rests has = record { view = is; id = rests.rests.id; size = rests.rests.size; are = rests.blocks; holds = rests.holds; has = has }

-- and a view that is held is at rest once its commit rests
pub rested-rests : (head : Head) (epoch : ℕ) (images : List (List ℕ)) (homes journal : ℕ → List ℕ) (d : DiskState) (index : IndexState) (tree : List TreeEntry) → CanFinish head epoch images → IsCommitting head epoch images homes journal Rested d → HoldsView (closed_head head epoch) index (new_images images homes) tree d → IsAtRestFor (closed_head head epoch) index d
rested-rests head epoch images homes journal d index tree can known v = record {
  homes = new_images images homes;
  journal = new_journal images journal;
  rests = IsAtRest-rested head epoch images homes journal d can.images_are known;
  blocks = v.are;
  holds = v.holds;
}

-- what may be recovered in the midst of a commit
pub commit-recovers : (views : List TreeView) (made : Bool) (head : Head) (epoch : ℕ) (images : List (List ℕ)) (homes journal : ℕ → List ℕ) (stage : Stage) (d : DiskState) (old : IndexState) (tree : List TreeEntry) (new : IndexState) (after : List TreeEntry) → Contains views (tree_view head old tree) → Contains views (tree_view (closed_head head epoch) new after) → CanGoOn head epoch images stage → IsCommitting head epoch images homes journal stage d → HoldsViewsAt head epoch images homes stage old tree new after d → RecoversOneOf views made d
commit-recovers views made head epoch images homes journal stage d old tree new after first second can known holds =
    RecoversOneOf-stage views made head epoch images homes journal stage d can known (views-at views head epoch images homes stage d old tree new after first second holds)
