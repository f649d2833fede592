-- When a plan can be made.
use Rattle.std.specs.Prelude.{◌≡◌, ℕ, ◌<◌, ◌≤◌, ◌^◌, ◌==◌, false, IsTrue, List, [], ◌∷◌, length, map, take, count_by, unwrap_or, Option, None, Some}
use Rattle.std.specs.List.{All, Contains, flat_map}
use Rattle.vb_block.specs.declared.digest.Ref.{Ref}
use Rattle.vb_inode.specs.declared.next_view.NextNode.{NextNode}
use Rattle.vb_inode.specs.declared.next_view.PageSource.{PageSource}
use Rattle.vb_inode.specs.declared.next_view.PageSource.TheVariants.{Kept, Fresh}
use Rattle.vb_inode.specs.Nodes.{is_free, may_be_named, may_have_length, may_have_parent}
use Rattle.vb_index.specs.declared.held.Held.{Held}
use Rattle.vb_index.specs.Nodes.{held_at, refs_of}
use Rattle.vb_inode.specs.Layout.{AreRefs}
use Rattle.vb_tree.specs.Trees.{data_pages_of}
use Rattle.vb_plan.specs.Maps.{maps_in}
use Rattle.vb_plan.specs.Plans.{Basis, all_pages}

-- a node of the next view, in a store of so many slots: it isn't a free one, a block may say what it says, its map
-- pages are yet to be planned, and there is a source for each of its pages
pub record IsNextNode (slots : ℕ) (x : NextNode) : Type 0 where
  pub slot : x.node.slot < slots
  pub used : is_free x.node.kind ≡ false
  pub named : IsTrue (may_be_named x.node.slot x.node.kind x.node.name)
  pub parented : IsTrue (may_have_parent x.node.kind x.node.parent)
  pub measured : IsTrue (may_have_length x.node.kind x.node.length)
  pub unplanned : x.node.maps ≡ []
  pub each_page : length x.pages ≡ data_pages_of x.node.length

-- the reference that a page keeps
abbrev pub kept_ref : PageSource → List Ref
kept_ref (Kept r) = r ∷ []
kept_ref (Fresh digest) = []

-- the references that all nodes keep
abbrev pub kept_refs : List NextNode → List Ref
kept_refs next = flat_map (λ x. flat_map kept_ref x.pages) next

-- the references of the data pages that slots hold
abbrev pub refs_held : Option Held → List Ref
refs_held None = []
refs_held (Some held) = unwrap_or (refs_of held) []

-- a plan can be made of these nodes: they are nodes of a view, each in a slot of its own, the root first; each
-- reference that they keep is one of a committed page, and no two are; and there is a free place for each page to write
pub record CanPlan (basis : Basis) (next : List NextNode) : Type 0 where
  pub nodes : All (IsNextNode (length basis.nodes)) next
  pub root : map (λ x. x.node.slot) (take 1 next) ≡ 0 ∷ []
  pub own_slot : (slot : ℕ) → count_by (λ x. x.node.slot == slot) next ≤ 1
  pub kept : All (λ r. Contains (flat_map refs_held basis.nodes) r) (kept_refs next)
  pub kept_once : (place : ℕ) → count_by (λ r. r.place == place) (kept_refs next) ≤ 1
  pub room : length (all_pages basis 0 next) ≤ length basis.free

-- the blocks of what slots hold can be sealed: references of the committed map pages can stand in a block, free places
-- are numbers of four bytes, and parents are slots of the store
pub record CanSeal (basis : Basis) (next : List NextNode) : Type 0 where
  pub few : length basis.nodes ≤ 2 ^ 32
  pub maps : (slot : ℕ) → AreRefs (maps_in (held_at basis.nodes slot))
  pub free : All (λ place. place < 2 ^ 32) basis.free
  pub parents : All (λ x. x.node.parent < length basis.nodes) next
