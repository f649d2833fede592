-- What stands in a slot after a commit of a node of the list.
use Rattle.std.specs.Prelude.{◌≡◌, ℕ, List, [], Some}
use Rattle.std.specs.List.{slice_get, Contains}
use Rattle.vb_block.specs.declared.digest.Ref.{Ref}
use Rattle.vb_inode.specs.declared.next_view.NextNode.{NextNode}
use Rattle.vb_inode.specs.declared.next_view.PageSource.{PageSource}
use Rattle.vb_inode.specs.declared.next_view.PageSource.TheVariants.{Kept, Fresh}
use Rattle.vb_index.specs.declared.held.Held.{Held}
use Rattle.vb_index.specs.Nodes.{held_at}
use Rattle.vb_plan.specs.declared.plan_page.PlanPage.{PlanPage}
use Rattle.vb_plan.specs.Laws.{slots_next}
use Rattle.vb_plan.specs.Maps.{committed_refs, map_source}
use Rattle.vb_plan.specs.Plans.{Basis, data_page, map_image, plan_of}

-- a page from this source has this reference: it is the kept one, or it has the digest and is written there
abbrev pub HasReference : List PlanPage → (Ref → PlanPage) → PageSource → Ref → Type 0
HasReference pages page (Kept kept) r = r ≡ kept
HasReference pages page (Fresh digest) r = (r.digest ≡ digest) × Contains pages (page r)

-- what stands in the slot of a node of the list after the commit: the node, the references of its pages by their
-- sources, and those of its map pages, each of which stays or is written
pub record StandsNext (basis : Basis) (next : List NextNode) (x : NextNode) (held : Held) : Type 0 where
  pub listed : Contains next x
  pub there : held_at (slots_next basis next) x.node.slot ≡ Some held
  pub node : x.node ≡ record held.node { maps = [] }
  pub pages : (k : ℕ) (s : PageSource) (r : Ref) → slice_get x.pages k ≡ Some s → slice_get held.refs k ≡ Some r
      → HasReference (plan_of basis next).pages (data_page x.node.slot k) s r
  pub maps : (k : ℕ) (r : Ref) → slice_get held.node.maps k ≡ Some r
      → HasReference (plan_of basis next).pages (map_image held.refs k) (map_source (committed_refs basis.nodes x.node.slot) held.refs k) r
