-- Each node of the next view stands for what its slot holds.
use Rattle.std.proofs.Common.{◌≡◌, ℕ, zero, suc, ◌+◌, ◌<◌, ◌≤◌, ◌==◌, ◌||◌, Bool, true, false, not, cond, List, [], ◌∷◌, ◌++◌, length, map, unwrap_or, All, Option, None, Some, inl, inr, refl, sym, ap, ◌∙◌, arith, subst, append_assoc}
use Rattle.std.proofs.lemmas.Bool.{cases_Bool, eqb-true, false≢true, le-leb}
use Rattle.std.proofs.lemmas.Bool.Decides.{Decides-eqb}
use Rattle.std.proofs.lemmas.List.Elements.{All-cons, All-nil}
use Rattle.vb_path.specs.Parts.{is_part, IsPart}
use Rattle.vb_block.specs.declared.digest.Ref.{Ref}
use Rattle.vb_tree.specs.declared.tree.TreeEntry.{TreeEntry}
use Rattle.vb_tree.specs.Trees.{data_pages_of, is_root, longest_file, AllBelongIn, IsTree}
use Rattle.vb_inode.specs.declared.node.Node.{Node}
use Rattle.vb_inode.specs.declared.node.NodeKind.{NodeKind}
use Rattle.vb_inode.specs.declared.node.NodeKind.TheVariants.{Free, Folder, File}
use Rattle.vb_inode.specs.declared.next_view.NextNode.{NextNode}
use Rattle.vb_inode.specs.Nodes.{is_free, may_be_named, may_have_length, may_have_parent}
use Rattle.vb_inode.proofs.Decoded.{nodes_same}
use Rattle.vb_index.specs.declared.held.Held.{Held}
use Rattle.vb_index.specs.Heights.{parent_in, IsRooted}
use Rattle.vb_index.specs.Indexes.{node_kind, HasShapeOf}
use Rattle.vb_index.specs.Listings.{name_in}
use Rattle.vb_index.specs.Nodes.{child_of, held_at, holds_folder, is_file_node, is_folder_node, kind_of, refs_of, slot_at, IsTable}
use Rattle.vb_index.proofs.Growth.{slot_holds}
use Rattle.vb_index.proofs.Named.{name_of-snoc}
use Rattle.vb_index.proofs.Tables.{held_in_table, table-forest}
use Rattle.vb_index.proofs.Walks.{walk-alone}
use Rattle.vb_pages.specs.declared.kept.KeptPage.{KeptPage}
use Rattle.vb_pages.specs.declared.kept.PageKey.{PageKey}
use Rattle.vb_frozen.specs.declared.entry.FrozenEntry.{FrozenEntry}
use Rattle.vb_frozen.specs.Orders.{entry_below, entry_for, order_of, path_in}
use Rattle.vb_frozen.specs.Sources.{next_node, next_root, sources_from}
use Rattle.vb_frozen.proofs.Built.{next-entry, tree-leads, AllLead}
use Rattle.vb_plan.specs.Conditions.{IsNextNode}

-- a node of the next view has what its slot holds, and a source for each page
pub record StandsIn (nodes : List (Option Held)) (x : NextNode) : Type 0 where
  pub held : Held
  pub there : held_at nodes x.node.slot ≡ Some held
  pub same : x.node ≡ record held.node { maps = [] }
  pub each : length x.pages ≡ data_pages_of held.node.length

-- ---- the root

some_folder : (o : Option Held) → holds_folder o ≡ true → (held : Held) × (o ≡ Some held) × (is_folder_node held.node.kind ≡ true)
some_folder None h = absurd (false≢true h)
some_folder (Some held) h = (held, refl, h)

folder_kind : (kind : NodeKind) → is_folder_node kind ≡ true → Folder ≡ kind
folder_kind Free h = absurd (false≢true h)
folder_kind Folder h = refl
folder_kind File h = absurd (false≢true h)

pub root-stands : (nodes : List (Option Held)) → IsTable nodes → IsRooted nodes → StandsIn nodes next_root
root-stands nodes table rooted =
    let one = some_folder (held_at nodes 0) table.root in
    let fits = table.fits 0 one.0 one.1 in
    let empty : one.0.node.length ≡ 0 = fits.folder_empty one.2 in
    record {
      held = one.0;
      there = one.1;
      same = nodes_same next_root.node (record one.0.node { maps = [] }) (sym fits.at_slot) (folder_kind one.0.node.kind one.2) (sym (sym (ap parent_in one.1) ∙ rooted.own_parent)) (sym (sym (ap name_in one.1) ∙ rooted.no_name)) (sym empty) refl;
      each = sym (ap data_pages_of empty);
    }

-- ---- the entries

length-sources : (pages : List (PageKey × KeptPage)) (slot k : ℕ) (refs : List Ref) → length (sources_from pages slot k refs) ≡ length refs
length-sources pages slot k [] = refl
length-sources pages slot k (r ∷ refs) = omega (arith, length-sources pages slot (k + 1) refs)

kind-stays : (node : Node) → is_file_node node.kind ≡ not (is_folder_node node.kind) → node_kind (kind_of node) ≡ node.kind
kind-stays node e = by node.kind e where
  by : (kind : NodeKind) → is_file_node kind ≡ not (is_folder_node kind) → node_kind (kind_of (record node { kind = kind })) ≡ kind
  by Free e = absurd (false≢true e)
  by Folder e = refl
  by File e = refl

-- as many references are held as the length takes pages, and none of a folder
pages-held : (kind : NodeKind) (len : ℕ) (refs : List Ref) → is_file_node kind ≡ not (is_folder_node kind) → (is_folder_node kind ≡ true → len ≡ 0) → length refs ≡ data_pages_of len → length (unwrap_or (cond (is_file_node kind) (Some refs) None) []) ≡ data_pages_of len
pages-held Free len refs e empty each = absurd (false≢true e)
pages-held Folder len refs e empty each = sym (ap data_pages_of (empty refl))
pages-held File len refs e empty each = each

-- the node of an entry below a folder is the one that its slot holds
below-stands : (nodes : List (Option Held)) (pages : List (PageKey × KeptPage)) (order : List FrozenEntry) (slot : ℕ) (held : Held) → IsTable nodes → held_at nodes slot ≡ Some held → StandsIn nodes (next_node pages (entry_below order held.node (unwrap_or (refs_of held) [])))
below-stands nodes pages order slot held table there =
    let fits = table.fits slot held there in
    record {
      held = held;
      there = ap (held_at nodes) fits.at_slot ∙ there;
      same = nodes_same (next_node pages (entry_below order held.node (unwrap_or (refs_of held) []))).node (record held.node { maps = [] }) refl (kind-stays held.node fits.either) refl (name_of-snoc (path_in order held.node.parent) held.node.name) refl refl;
      each = length-sources pages held.node.slot 0 (unwrap_or (refs_of held) []) ∙ pages-held held.node.kind held.node.length held.refs fits.either fits.folder_empty fits.each_page;
    }

-- a node that stands in a slot other than the root's
pub record IsBelow (nodes : List (Option Held)) (x : NextNode) : Type 0 where
  pub stands : StandsIn nodes x
  pub above : 0 < x.node.slot

-- the root alone has slot 0
not-root : (nodes : List (Option Held)) (path : List (List ℕ)) (slot : ℕ) → IsTable nodes → is_root path ≡ false → slot_at nodes path ≡ Some slot → 0 < slot
not-root nodes path (suc slot) table below at = omega arith
not-root nodes path zero table below at =
    let empty : path ≡ [] = walk-alone (child_of nodes) (table-forest nodes table) path [] 0 at refl in
    absurd (false≢true (sym below ∙ ap is_root empty))

entries-stand : (nodes : List (Option Held)) (pages : List (PageKey × KeptPage)) (tree front es : List TreeEntry) → IsTable nodes → IsTree tree → HasShapeOf nodes tree → tree ≡ front ++ es → AllLead nodes es → AllBelongIn tree es → All (IsBelow nodes) (map (next_node pages) (order_of nodes es))
entries-stand nodes pages tree front [] table is shape split lead belong = All-nil (IsBelow nodes)
entries-stand nodes pages tree front (e ∷ es) table is shape split lead belong =
    let slot = lead.0.0 in
    let held = slot_holds nodes table e.path slot lead.0.1 in
    let entry : entry_below (order_of nodes front) held.0.node (unwrap_or (refs_of held.0) []) ≡ entry_for nodes e =
    next-entry nodes tree front e es slot held.0 table is shape (tree-leads nodes tree is shape) split lead.0.1 held.1 in
    let own : (entry_for nodes e).slot ≡ slot = ap (λ (o : Option ℕ). unwrap_or o 0) lead.0.1 in
    All-cons (IsBelow nodes) (next_node pages (entry_for nodes e)) (map (next_node pages) (order_of nodes es))
    (record {
      stands = subst (λ (f : FrozenEntry). StandsIn nodes (next_node pages f)) entry (below-stands nodes pages (order_of nodes front) slot held.0 table held.1);
      above = omega (arith, own, not-root nodes e.path slot table belong.0.below_root lead.0.1);
    })
    (entries-stand nodes pages tree (front ++ e ∷ []) es table is shape (split ∙ sym (append_assoc front (e ∷ []) es)) lead.1 belong.1)

pub all-stand : (nodes : List (Option Held)) (pages : List (PageKey × KeptPage)) (tree : List TreeEntry) → IsTable nodes → IsTree tree → HasShapeOf nodes tree → All (IsBelow nodes) (map (next_node pages) (order_of nodes tree))
all-stand nodes pages tree table is shape = entries-stand nodes pages tree [] tree table is shape refl (tree-leads nodes tree is shape) is.all_belong

-- ---- what a block may say of them

used-kind : (kind : NodeKind) → is_file_node kind ≡ not (is_folder_node kind) → is_free kind ≡ false
used-kind Free e = absurd (false≢true e)
used-kind Folder e = refl
used-kind File e = refl

pub not-equal : (a b : ℕ) → (a ≡ b → ⊥) → (a == b) ≡ false
not-equal a b apart = elim (cases_Bool (a == b)) [ inl e ↦ absurd (apart (eqb-true a b e)) | inr e ↦ e ]

named : (slot : ℕ) (kind : NodeKind) (name : List ℕ) → is_free kind ≡ false → (slot ≡ 0 → name ≡ []) → (0 < slot → IsPart name) → may_be_named slot kind name ≡ true
unfolding may_be_named
named zero kind name used none valid = ap (λ (n : List ℕ). length n == 0) (none refl)
named (suc slot) kind name used none valid =
    ap (λ (b : Bool). cond (b || is_free kind) (length name == 0) (is_part name)) (not-equal (suc slot) 0 (λ e. omega arith))
    ∙ ap (λ (b : Bool). cond b (length name == 0) (is_part name)) used
    ∙ valid (omega arith)

parented : (kind : NodeKind) (parent : ℕ) → is_free kind ≡ false → may_have_parent kind parent ≡ true
parented Free parent used = absurd (false≢true (sym used))
parented Folder parent used = refl
parented File parent used = refl

measured : (kind : NodeKind) (len : ℕ) → is_free kind ≡ false → (is_folder_node kind ≡ true → len ≡ 0) → len ≤ longest_file → may_have_length kind len ≡ true
measured Free len used none short = absurd (false≢true (sym used))
measured Folder len used none short = (Decides-eqb len 0).1 (none refl)
measured File len used none short = le-leb len longest_file short

-- it can be committed
pub can-stand : (nodes : List (Option Held)) (x : NextNode) → IsTable nodes → IsRooted nodes → StandsIn nodes x → IsNextNode (length nodes) x
can-stand nodes x table rooted is =
    let held = is.held in
    let fits = table.fits x.node.slot held is.there in
    let used : is_free held.node.kind ≡ false = used-kind held.node.kind fits.either in
    let kind : x.node.kind ≡ held.node.kind = ap (λ (n : Node). n.kind) is.same in
    let no_name : x.node.slot ≡ 0 → held.node.name ≡ [] = λ root. sym (ap name_in is.there) ∙ ap (λ (s : ℕ). name_in (held_at nodes s)) root ∙ rooted.no_name in
    record {
      slot = held_in_table nodes x.node.slot held is.there;
      used = ap is_free kind ∙ used;
      named = subst (λ (n : Node). may_be_named x.node.slot n.kind n.name ≡ true) (sym is.same) (named x.node.slot held.node.kind held.node.name used no_name (λ above. rooted.valid x.node.slot held is.there above));
      parented = subst (λ (n : Node). may_have_parent n.kind n.parent ≡ true) (sym is.same) (parented held.node.kind held.node.parent used);
      measured = subst (λ (n : Node). may_have_length n.kind n.length ≡ true) (sym is.same) (measured held.node.kind held.node.length used fits.folder_empty fits.short);
      unplanned = ap (λ (n : Node). n.maps) is.same;
      each_page = is.each ∙ sym (ap (λ (n : Node). data_pages_of n.length) is.same);
    }
