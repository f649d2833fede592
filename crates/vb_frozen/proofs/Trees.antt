-- The order of an index has the tree that the index has.
use Rattle.std.proofs.Common.{◌≡◌, ℕ, ◌<◌, List, [], ◌∷◌, length, Option, Some, unwrap_or, refl, sym, ap, subst, ◌∙◌}
use Rattle.vb_disk.specs.States.{DiskState}
use Rattle.vb_tree.specs.declared.tree.TreeEntry.{TreeEntry}
use Rattle.vb_tree.specs.Contents.{page_of}
use Rattle.vb_tree.specs.Trees.{bytes_in, data_pages_of}
use Rattle.vb_index.specs.declared.held.Held.{Held}
use Rattle.vb_index.specs.Contents.{HasPages, HasTree}
use Rattle.vb_index.specs.Nodes.{slot_at, IsTable}
use Rattle.vb_pages.specs.declared.kept.KeptPage.{KeptPage}
use Rattle.vb_pages.specs.declared.kept.PageKey.{PageKey}
use Rattle.vb_frozen.specs.declared.entry.FrozenEntry.{FrozenEntry}
use Rattle.vb_frozen.specs.Orders.{slot_of, entry_for, order_of, AreApart}
use Rattle.vb_frozen.specs.Views.{live_page, frozen_page, AreEntriesOf, HasFrozenTree}
use Rattle.vb_frozen.proofs.Built.{AllAt, AllLead, all-here, order-apart, tree-leads}

entries-of : (nodes : List (Option Held)) (pages : List (PageKey × KeptPage)) (d : DiskState) (tree es : List TreeEntry) → HasTree nodes (live_page nodes pages d) tree → AllAt tree es → AllLead nodes es → AreEntriesOf pages d (order_of nodes es) es
entries-of nodes pages d tree [] has at lead = tt
entries-of nodes pages d tree (e ∷ es) has at lead = (record { path = refl; kind = refl; len = refl; contents = same }, entries-of nodes pages d tree es has at.1 lead.1) where
  there : slot_at nodes e.path ≡ Some (slot_of nodes e.path)
  there = lead.0.1 ∙ ap (λ (k : ℕ). Some k) (sym (ap (λ o. unwrap_or o 0) lead.0.1))

  same : (k : ℕ) → k < data_pages_of (length e.bytes) → frozen_page pages d (entry_for nodes e) k ≡ page_of e.bytes k
  same = subst (λ o. HasPages (live_page nodes pages d) (slot_of nodes e.path) (bytes_in o)) at.0 (has.contents e.path (slot_of nodes e.path) there)

pub frozen-tree : (nodes : List (Option Held)) (pages : List (PageKey × KeptPage)) (d : DiskState) (tree : List TreeEntry) (order : List FrozenEntry) (kept : List (PageKey × KeptPage)) → IsTable nodes → HasTree nodes (live_page nodes pages d) tree → order ≡ order_of nodes tree → kept ≡ pages → HasFrozenTree order kept d tree
frozen-tree nodes pages d tree order kept table has is same = record {
  is_tree = has.is_tree;
  apart = subst AreApart (sym is) (order-apart nodes tree table has.is_tree has.shape);
  entries = subst (λ o. AreEntriesOf kept d o tree) (sym is) (subst (λ p. AreEntriesOf p d (order_of nodes tree) tree) (sym same) (entries-of nodes pages d tree tree has (all-here [] tree has.is_tree.in_order) (tree-leads nodes tree has.is_tree has.shape)));
}
