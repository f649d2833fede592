-- The references of the next view's pages after the commit.
use Rattle.std.proofs.Common.{◌≡◌, ℕ, zero, suc, ◌+◌, Bool, true, false, cond, List, [], ◌∷◌, map, unwrap_or, All, Option, None, Some, refl, sym, ap, ◌∙◌, arith, subst}
use Rattle.std.specs.List.{slice_get}
use Rattle.std.specs.Option.{option_and_then}
use Rattle.std.proofs.lemmas.Bool.{false≢true}
use Rattle.std.proofs.lemmas.List.Elements.{All-contains, All-cons}
use Rattle.vb_block.specs.declared.digest.Ref.{Ref}
use Rattle.vb_tree.specs.declared.tree.TreeEntry.{TreeEntry}
use Rattle.vb_inode.specs.declared.node.NodeKind.{NodeKind}
use Rattle.vb_inode.specs.declared.node.NodeKind.TheVariants.{Free, Folder, File}
use Rattle.vb_inode.specs.declared.next_view.NextNode.{NextNode}
use Rattle.vb_inode.specs.declared.next_view.PageSource.{PageSource}
use Rattle.vb_index.specs.declared.held.Held.{Held}
use Rattle.vb_index.specs.Indexes.{IndexState}
use Rattle.vb_index.specs.Nodes.{held_at, holds_folder, is_file_node, is_folder_node, refs_at, refs_of}
use Rattle.vb_pages.specs.declared.kept.KeptPage.{KeptPage}
use Rattle.vb_pages.specs.declared.kept.PageKey.{PageKey}
use Rattle.vb_pages.specs.Tables.{kept_page}
use Rattle.vb_frozen.specs.Orders.{entry_for, order_of}
use Rattle.vb_frozen.specs.Sources.{next_node, next_of, next_root, source_of, sources_from}
use Rattle.vb_plan.specs.Conditions.{CanPlan}
use Rattle.vb_plan.specs.Laws.{slots_next}
use Rattle.vb_plan.specs.Plans.{data_page, plan_of, Basis}
use Rattle.vb_plan.specs.Standing.{HasReference}
use Rattle.vb_plan.proofs.Stood.{slot-stands}
use Rattle.vb_next.specs.Frozen.{ref_at, IsViewOver}

-- the pages of a node of the next view have the sources of its slot
abbrev HasSources : List (Option Held) → List (PageKey × KeptPage) → NextNode → Type 0
HasSources nodes table x = x.pages ≡ sources_from table x.node.slot 0 (unwrap_or (refs_at nodes x.node.slot) [])

no_refs : (o : Option Held) → holds_folder o ≡ true → unwrap_or (option_and_then refs_of o) [] ≡ []
no_refs None folder = absurd (false≢true folder)
no_refs (Some held) folder = by held.node.kind folder where
  by : (kind : NodeKind) → is_folder_node kind ≡ true → unwrap_or (cond (is_file_node kind) (Some held.refs) None) [] ≡ []
  by Free e = absurd (false≢true e)
  by Folder e = refl
  by File e = absurd (false≢true e)

entries-sources : (nodes : List (Option Held)) (table : List (PageKey × KeptPage)) (es : List TreeEntry) → All (HasSources nodes table) (map (next_node table) (order_of nodes es))
entries-sources nodes table [] = λ k d within. absurd (omega arith)
entries-sources nodes table (e ∷ es) = All-cons (HasSources nodes table) (next_node table (entry_for nodes e)) (map (next_node table) (order_of nodes es)) refl (entries-sources nodes table es)

next-sources : (committed : IndexState) (nodes : List (Option Held)) (tree : List TreeEntry) (table : List (PageKey × KeptPage)) → IsViewOver committed nodes tree table → All (HasSources nodes table) (next_of (order_of nodes tree) table)
next-sources committed nodes tree table is =
    All-cons (HasSources nodes table) next_root (map (next_node table) (order_of nodes tree))
    (sym (ap (sources_from table 0 0) (no_refs (held_at nodes 0) is.table.root)))
    (entries-sources nodes table tree)

-- a page has its source
source-at : (table : List (PageKey × KeptPage)) (slot first k : ℕ) (refs : List Ref) (r : Ref) → slice_get refs k ≡ Some r → slice_get (sources_from table slot first refs) k ≡ Some (source_of (kept_page table slot (first + k)) r)
source-at table slot first k [] r e = absurd (cc)
source-at table slot first zero (x ∷ refs) r e =
    let same : x ≡ r = cc in
    let at : first ≡ first + 0 = omega arith in
    ap (λ (y : Ref). Some (source_of (kept_page table slot first) y)) same ∙ ap (λ (n : ℕ). Some (source_of (kept_page table slot n) r)) at
source-at table slot first (suc k) (x ∷ refs) r e =
    let at : first + 1 + k ≡ first + suc k = omega arith in
    source-at table slot (first + 1) k refs r e ∙ ap (λ (n : ℕ). Some (source_of (kept_page table slot n) r)) at

-- what a slot holds has the references of its file
held-ref : (o : Option Held) (k : ℕ) (r : Ref) → slice_get (unwrap_or (option_and_then refs_of o) []) k ≡ Some r → (held : Held) × (o ≡ Some held) × (slice_get held.refs k ≡ Some r)
held-ref None k r e = absurd (cc)
held-ref (Some held) k r e = (held, refl, by (is_file_node held.node.kind) e) where
  by : (b : Bool) → slice_get (unwrap_or (cond b (Some held.refs) None) []) k ≡ Some r → slice_get held.refs k ≡ Some r
  by true e = e
  by false e = absurd (cc)

-- each page has the reference that it has in the view, or one of its digest in memory, and is then among the pages to write
pub after-refs : (committed : IndexState) (nodes : List (Option Held)) (tree : List TreeEntry) (table : List (PageKey × KeptPage)) (basis : Basis) (slot k : ℕ) (old r : Ref) → IsViewOver committed nodes tree table → CanPlan basis (next_of (order_of nodes tree) table) → ref_at nodes slot k ≡ Some old → ref_at (slots_next basis (next_of (order_of nodes tree) table)) slot k ≡ Some r → HasReference (plan_of basis (next_of (order_of nodes tree) table)).pages (data_page slot k) (source_of (kept_page table slot k) old) r
after-refs committed nodes tree table basis slot k old r is can had has =
    let next = next_of (order_of nodes tree) table in
    let held = held-ref (held_at (slots_next basis next) slot) k r has in
    let stands = slot-stands basis next slot held.0 can held.1 in
    let x = stands.0 in
    let sources = All-contains (HasSources nodes table) next x (next-sources committed nodes tree table is) stands.2.listed in
    let from : 0 + k ≡ k = omega arith in
    let source : slice_get x.pages k ≡ Some (source_of (kept_page table x.node.slot k) old) =
    ap (λ (ss : List PageSource). slice_get ss k) sources
    ∙ source-at table x.node.slot 0 k (unwrap_or (refs_at nodes x.node.slot) []) old (ap (λ (s : ℕ). ref_at nodes s k) stands.1 ∙ had)
    ∙ ap (λ (n : ℕ). Some (source_of (kept_page table x.node.slot n) old)) from in
    subst (λ (s : ℕ). HasReference (plan_of basis next).pages (data_page s k) (source_of (kept_page table s k) old) r) stands.1
    (stands.2.pages k (source_of (kept_page table x.node.slot k) old) r source held.2)
