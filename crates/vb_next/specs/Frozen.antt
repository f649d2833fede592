-- Frozen views whose next view can be committed.
use Rattle.std.specs.Prelude.{◌≡◌, ℕ, ◌≤◌, List, [], length, slice_get, unwrap_or, Option, Some, None}
use Rattle.vb_block.specs.declared.digest.Ref.{Ref}
use Rattle.vb_tree.specs.declared.tree.TreeEntry.{TreeEntry}
use Rattle.vb_tree.specs.Trees.{IsTree}
use Rattle.vb_index.specs.declared.held.Held.{Held}
use Rattle.vb_index.specs.Heights.{IsRooted}
use Rattle.vb_index.specs.Indexes.{HasShapeOf, IndexState}
use Rattle.vb_index.specs.Nodes.{pages_in, refs_at, IsTable}
use Rattle.vb_pages.specs.declared.kept.KeptPage.{KeptPage}
use Rattle.vb_pages.specs.declared.kept.PageKey.{PageKey}
use Rattle.vb_pages.specs.Tables.{kept_page}

-- the reference of a page of the file in a slot, None where there is no such page
abbrev pub ref_at : List (Option Held) → ℕ → ℕ → Option Ref
ref_at nodes slot k = slice_get (unwrap_or (refs_at nodes slot) []) k

-- each page that isn't kept in memory has the reference that the committed page of the same slot and number has
abbrev pub KeepsReferences : List (Option Held) → List (Option Held) → List (PageKey × KeptPage) → Type 0
KeepsReferences committed nodes pages = (slot k : ℕ) (r : Ref) → kept_page pages slot k ≡ None → ref_at nodes slot k ≡ Some r → ref_at committed slot k ≡ Some r

-- an index of this tree, and the pages that are kept in memory, are a view that can be committed over another: it has as
-- many slots, its files take no more pages than the limits of that one, and its pages out of memory are committed ones
pub record IsViewOver (committed : IndexState) (nodes : List (Option Held)) (tree : List TreeEntry) (pages : List (PageKey × KeptPage)) : Type 0 where
  pub table : IsTable nodes
  pub rooted : IsRooted nodes
  pub is_tree : IsTree tree
  pub shape : HasShapeOf nodes tree
  pub slots : length nodes ≡ length committed.nodes
  pub few : pages_in nodes ≤ committed.limits.pages
  pub references : KeepsReferences committed.nodes nodes pages
