-- Reads that give the blocks and the pages of a view recover its epoch and its tree.
use Rattle.std.proofs.Common.{◌≡◌, ℕ, zero, suc, ◌<◌, List, [], ◌∷◌, length, map, slice_get, Option, Some, unwrap_or, Result, Ok, refl, sym, ap, subst, ◌∙◌, inl, inr, arith}
use Rattle.std.proofs.lemmas.List.Elements.{All-head, All-tail}
use Rattle.std.specs.List.{All}
use Rattle.std.specs.Option.{option_and_then}
use Rattle.vb_block.specs.declared.digest.Ref.{Ref}
use Rattle.vb_head.specs.declared.head.Head.{Head}
use Rattle.vb_index.specs.declared.held.Held.{Held}
use Rattle.vb_index.specs.Contents.{HasPages, HasTree}
use Rattle.vb_index.specs.Indexes.{HasShapeOf, IndexState, Shape}
use Rattle.vb_index.specs.Nodes.{held_at, kind_of, refs_of}
use Rattle.vb_index.proofs.Ascending.{In}
use Rattle.vb_store.specs.Metadata.{and_then}
use Rattle.vb_store.specs.Recovered.{Recovers, bytes_read, entries_read, placed_in, recovered, recovered_at, recovered_from}
use Rattle.vb_store.specs.Recovered.{Placed}
use Rattle.vb_tree.specs.declared.tree.Kind.{Kind}
use Rattle.vb_tree.specs.declared.tree.TreeEntry.{TreeEntry}
use Rattle.vb_tree.specs.Trees.{bytes_in, data_pages_of, IsTree}
use Rattle.vb_views.specs.AtRest.{IsViewOf}
use Rattle.vb_views.specs.Reads.{GivesBlocks, GivesPages, GivesPagesOf, GivesRef, page_at, pages_by}
use Rattle.vb_views.proofs.BytesGiven.{HasFilePages, bytes-given}
use Rattle.vb_views.proofs.EntriesPlaced.{entry-at, found-in, held-for, held_for, placed-is, placed_for}
use Rattle.vb_views.proofs.MetadataGiven.{metadata-given}
use Rattle.vb_views.proofs.PlacesInOrder.{refs-held}

-- ---- one item of a list

pub at_slice : {X : Type 0} (P : X → Type 0) (xs : List X) (k : ℕ) (x : X) → All P xs → slice_get xs k ≡ Some x → P x
at_slice P [] k x all is = absurd (cc is)
at_slice P (y ∷ ys) zero x all is = let same : y ≡ x = cc is in subst P same (All-head P y ys all)
at_slice P (y ∷ ys) (suc k) x all is = at_slice P ys k x (All-tail P y ys all) is

pub slice_below : {X : Type 0} (xs : List X) (k : ℕ) (x : X) → slice_get xs k ≡ Some x → k < length xs
slice_below [] k x is = absurd (cc is)
slice_below (y ∷ ys) zero x is = omega arith
slice_below (y ∷ ys) (suc k) x is = omega (arith, slice_below ys k x is)

-- ---- the pages of a file

-- the page of a slot, by the reference of what it holds
pub page-held : (reads : ℕ → List ℕ) (head : Head) (index : IndexState) (slot k : ℕ) (held : Held) → IsViewOf head index → held_at index.nodes slot ≡ Some held → pages_by reads index.nodes slot k ≡ page_at reads (slice_get held.refs k)
page-held reads head index slot k held is there =
    ap (λ (o : Option Held). page_at reads (slice_get (unwrap_or (option_and_then refs_of o) []) k)) there
    ∙ ap (λ (l : List Ref). page_at reads (slice_get l k)) (refs-held slot held (is.table.fits slot held there))

file_pages : (reads : ℕ → List ℕ) (head : Head) (index : IndexState) (slot : ℕ) (held : Held) (bytes : List ℕ) → IsViewOf head index → held_at index.nodes slot ≡ Some held → length held.refs ≡ data_pages_of (length bytes) → GivesPagesOf held reads → HasPages (pages_by reads index.nodes) slot bytes → HasFilePages reads bytes held.refs
file_pages reads head index slot held bytes is there long gives has k r at = (
  ap (page_at reads) (sym at) ∙ sym (page-held reads head index slot k held is there) ∙ has k (omega (arith, slice_below held.refs k r at, long)),
  at_slice (GivesRef reads) held.refs k r gives at,
)

-- ---- the entries

-- what is read of an entry's node
pub record IsReadAs (reads : ℕ → List ℕ) (nodes : List (Option Held)) (e : TreeEntry) : Type 0 where
  pub bytes : bytes_read reads (held_for nodes e.path).node.length (held_for nodes e.path).refs ≡ Ok e.bytes
  pub kind : kind_of (held_for nodes e.path).node ≡ e.kind

entries_of : (reads : ℕ → List ℕ) (nodes : List (Option Held)) (es : List TreeEntry) → ((e : TreeEntry) → In e es → IsReadAs reads nodes e) → entries_read reads (map (placed_for nodes) es) ≡ Ok es
entries_of reads nodes [] each = refl
entries_of reads nodes (e ∷ es) each =
    let h : Held = held_for nodes e.path in
    let here = each e (inl refl) in
    let entry : List ℕ → TreeEntry = λ bytes. record { path = e.path; kind = kind_of h.node; bytes = bytes } in
    ap (λ (b : Result (List ℕ) ℕ). and_then b (λ bytes. and_then (entries_read reads (map (placed_for nodes) es)) (λ more. let r : Result (List TreeEntry) ℕ = Ok (entry bytes ∷ more) in r))) here.bytes
    ∙ ap (λ (m : Result (List TreeEntry) ℕ). and_then m (λ more. let r : Result (List TreeEntry) ℕ = Ok (entry e.bytes ∷ more) in r)) (entries_of reads nodes es (λ x is. each x (inr is)))
    ∙ ap (λ (k : Kind). let r : Result (List TreeEntry) ℕ = Ok (record { path = e.path; kind = k; bytes = e.bytes } ∷ es) in r) here.kind

entry_read : (head : Head) (index : IndexState) (reads : ℕ → List ℕ) (tree : List TreeEntry) (e : TreeEntry) → IsViewOf head index → GivesPages index.nodes reads → HasTree index.nodes (pages_by reads index.nodes) tree → In e tree → IsReadAs reads index.nodes e
entry_read head index reads tree e is gives has among =
    let nodes = index.nodes in
    let found = found-in tree e has.is_tree among in
    let at = entry-at nodes tree e is.table has.shape found.below found.here in
    let same : held_for nodes e.path ≡ at.held = held-for nodes e.path at.slot at.held at.leads at.there in
    let len : at.held.node.length ≡ length e.bytes = ap (λ (s : Shape). s.len) at.shape in
    let long : length at.held.refs ≡ data_pages_of (length e.bytes) = (is.table.fits at.slot at.held at.there).each_page ∙ ap data_pages_of len in
    let pages : HasPages (pages_by reads nodes) at.slot e.bytes = subst (λ (o : Option TreeEntry). HasPages (pages_by reads nodes) at.slot (bytes_in o)) found.here (has.contents e.path at.slot at.leads) in
    record {
      bytes = ap (λ (h : Held). bytes_read reads h.node.length h.refs) same ∙ ap (λ (n : ℕ). bytes_read reads n at.held.refs) len
          ∙ bytes-given reads e.bytes at.held.refs long (file_pages reads head index at.slot at.held e.bytes is at.there long (gives at.slot at.held at.there) pages);
      kind = ap (λ (h : Held). kind_of h.node) same ∙ ap (λ (s : Shape). s.kind) at.shape;
    }

-- the nodes in path order are read as the tree
pub entries-given : (head : Head) (index : IndexState) (reads : ℕ → List ℕ) (tree : List TreeEntry) → IsViewOf head index → GivesPages index.nodes reads → HasTree index.nodes (pages_by reads index.nodes) tree → entries_read reads (placed_in index.nodes) ≡ Ok tree
entries-given head index reads tree is gives has =
    ap (entries_read reads) (placed-is index.nodes tree is.table is.rooted has.is_tree has.shape)
    ∙ entries_of reads index.nodes tree (λ e among. entry_read head index reads tree e is gives has among)

entry_paths : (nodes : List (Option Held)) (es : List TreeEntry) → map (λ (p : Placed). p.path) (map (placed_for nodes) es) ≡ map (λ e. e.path) es
entry_paths nodes [] = refl
entry_paths nodes (e ∷ es) = ap (λ (l : List (List (List ℕ))). e.path ∷ l) (entry_paths nodes es)

-- the nodes in path order have the paths of the tree's entries
pub paths-given : (head : Head) (index : IndexState) (tree : List TreeEntry) → IsViewOf head index → IsTree tree → HasShapeOf index.nodes tree → map (λ p. p.path) (placed_in index.nodes) ≡ map (λ e. e.path) tree
paths-given head index tree is sorted shape = ap (map (λ (p : Placed). p.path)) (placed-is index.nodes tree is.table is.rooted sorted shape) ∙ entry_paths index.nodes tree

pub tree-given : (size : ℕ) (head : Head) (index : IndexState) (reads : ℕ → List ℕ) (tree : List TreeEntry) → IsViewOf head index → GivesBlocks size head index.nodes reads → GivesPages index.nodes reads → HasTree index.nodes (pages_by reads index.nodes) tree → recovered size reads ≡ Recovers head.epoch tree
unfolding recovered
tree-given size head index reads tree is blocks pages has =
    ap (recovered_from reads) (metadata-given size head index reads is blocks)
    ∙ ap (recovered_at head.epoch) (entries-given head index reads tree is pages has)
