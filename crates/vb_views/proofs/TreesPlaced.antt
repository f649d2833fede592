-- A tree over pages of any kind is that over the places which hold these pages.
use Rattle.std.proofs.Common.{◌≡◌, ℕ, ◌<◌, Bool, true, false, cond, List, [], length, Option, Some, None, refl, sym, ap, ◌∙◌, arith}
use Rattle.std.specs.Option.{option_and_then, option_map}
use Rattle.vb_head.specs.declared.head.Head.{Head}
use Rattle.vb_index.specs.declared.held.Held.{Held}
use Rattle.vb_index.specs.Contents.{HasTree}
use Rattle.vb_index.specs.Indexes.{IndexState, Shape, shape_at, shape_of, shape_of_entry}
use Rattle.vb_index.specs.Nodes.{held_at, slot_at}
use Rattle.vb_index.proofs.Growth.{slot_holds}
use Rattle.vb_index.proofs.OneTree.{root-none}
use Rattle.vb_tree.specs.declared.tree.Kind.TheVariants.{Folder}
use Rattle.vb_tree.specs.declared.tree.TreeEntry.{TreeEntry}
use Rattle.vb_tree.specs.Trees.{bytes_in, data_pages_of, entry_at, is_root}
use Rattle.vb_views.specs.AtRest.{IsViewOf}
use Rattle.vb_views.specs.Reads.{GivePlaced, page_at, pages_by}
use Rattle.vb_views.proofs.TreesGiven.{page-held}
use Rattle.vb_views.proofs.TreesRead.{slice_some}

-- the length of what stands at a path
entry_len : (o : Option TreeEntry) (s : Shape) → option_map shape_of_entry o ≡ Some s → length (bytes_in o) ≡ s.len
entry_len None s is = absurd (cc is)
entry_len (Some e) s is = let same : shape_of_entry e ≡ s = cc is in ap (λ (x : Shape). x.len) same

-- the bytes at a path are as many as the node there says, or none
few_bytes : (index : IndexState) (pages : ℕ → ℕ → List ℕ) (tree : List TreeEntry) (path : List (List ℕ)) (slot k : ℕ) (held : Held) → HasTree index.nodes pages tree → slot_at index.nodes path ≡ Some slot → held_at index.nodes slot ≡ Some held → k < data_pages_of (length (bytes_in (entry_at path tree))) → k < data_pages_of held.node.length
few_bytes index pages tree path slot k held has leads there within = by (is_root path) refl where
  seen : shape_at index.nodes path ≡ Some (shape_of held)
  seen = ap (option_and_then (λ s. option_map shape_of (held_at index.nodes s))) leads ∙ ap (option_map shape_of) there

  by : (b : Bool) → is_root path ≡ b → k < data_pages_of held.node.length
  by true root = absurd (
      let none : bytes_in (entry_at path tree) ≡ [] = ap bytes_in (root-none tree tree path has.is_tree.all_belong root) in
      omega (arith, within, ap length none))
  by false below =
      let shape : option_map shape_of_entry (entry_at path tree) ≡ Some (shape_of held) =
      ap (λ (b : Bool). cond b (Some (record { kind = Folder; len = 0 })) (option_map shape_of_entry (entry_at path tree))) (sym below) ∙ sym (has.shape.same path) ∙ seen in
      let len : length (bytes_in (entry_at path tree)) ≡ held.node.length = entry_len (entry_at path tree) (shape_of held) shape in
      omega (arith, within, len)

pub tree-placed : (head : Head) (index : IndexState) (pages : ℕ → ℕ → List ℕ) (reads : ℕ → List ℕ) (tree : List TreeEntry) → IsViewOf head index → GivePlaced index.nodes pages reads → HasTree index.nodes pages tree → HasTree index.nodes (pages_by reads index.nodes) tree
tree-placed head index pages reads tree is placed has = record {
  is_tree = has.is_tree;
  shape = has.shape;
  contents = λ path slot leads k within.
      let one = slot_holds index.nodes is.table path slot leads in
      let many = (is.table.fits slot one.0 one.1).each_page in
      let few = few_bytes index pages tree path slot k one.0 has leads one.1 within in
      let some = slice_some one.0.refs k (omega (arith, many, few)) in
      page-held reads head index slot k one.0 is one.1 ∙ ap (page_at reads) some.1 ∙ placed slot one.0 k some.0 one.1 some.1
      ∙ has.contents path slot leads k within;
}
