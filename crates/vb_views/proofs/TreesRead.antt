-- A tree that was read of the nodes of a view is the tree that these and their pages have.
use Rattle.std.proofs.Common.{◌≡◌, ℕ, zero, suc, ◌+◌, ◌<◌, Bool, true, false, cond, eqb, ◌||◌, nat_lt, List, [], ◌∷◌, ◌++◌, length, slice_get, Option, Some, None, Ok, refl, sym, ap, subst, ◌∙◌, inl, inr, arith}
use Rattle.std.specs.Option.{option_and_then, option_map}
use Rattle.std.specs.List.{AllByRecursion, sum_by}
use Rattle.std.specs.Ordering.{is_lt}
use Rattle.std.proofs.lemmas.Bool.{cases_Bool, false≢true, ltb-false, ne_eqb}
use Rattle.std.proofs.lemmas.List.Sums.{sum_by-cons}
use Rattle.vb_block.specs.Pages.{IsPage}
use Rattle.vb_head.specs.declared.head.Head.{Head}
use Rattle.vb_index.specs.declared.held.Held.{Held}
use Rattle.vb_index.specs.Contents.{HasPages, HasTree}
use Rattle.vb_index.specs.Heights.{path_to}
use Rattle.vb_index.specs.Indexes.{IndexState, Shape, shape_at, shape_in, shape_of, shape_of_entry, HasShapeOf}
use Rattle.vb_index.specs.Nodes.{child_of, held_at, holds_folder, is_child, is_folder_node, kind_of, nodes_in, nodes_of_slot, pages_in, pages_of_slot, slot_at, IsTable}
use Rattle.vb_index.proofs.Ascending.{In, AllBelow, Ascends}
use Rattle.vb_index.proofs.ChildLaws.{child_of-Some, is_child-parts}
use Rattle.vb_index.proofs.Growth.{path-split, slot_holds}
use Rattle.vb_index.proofs.Newness.{has_parts}
use Rattle.vb_index.proofs.OneTree.{root-none}
use Rattle.vb_index.proofs.Shapes.{kind_at-shape}
use Rattle.vb_index.proofs.Tables.{table-forest}
use Rattle.vb_index.proofs.Walks.{last_step, snoc-ind, walk-alone}
use Rattle.vb_path.specs.Parts.{IsPart}
use Rattle.vb_path.specs.Paths.{path_cmp, text_of_path, IsPath}
use Rattle.vb_path.proofs.PartLaws.{parts_make_path}
use Rattle.vb_store.specs.Metadata.{and_then}
use Rattle.vb_store.specs.Recovered.{Placed, bytes_read, entries_read, insert_placed, path_of, placed_by, placed_in}
use Rattle.vb_store.proofs.Chains.{and_then-ok}
use Rattle.vb_tree.specs.Renames.{is_deep}
use Rattle.vb_tree.specs.declared.tree.Kind.TheVariants.{Folder, File}
use Rattle.vb_tree.specs.declared.tree.TreeEntry.{TreeEntry}
use Rattle.vb_tree.specs.Trees.{bytes_in, data_pages_of, entry_at, is_root, kind_at, name_of, page_count, pages_of_length, parent_of, AllAfter, AllBelongIn, AreInOrder, BelongsIn, IsTree}
use Rattle.vb_views.specs.AtRest.{IsViewOf}
use Rattle.vb_views.specs.Reads.{page_at, pages_by}
use Rattle.vb_views.proofs.BytesRead.{AreBytesRead, bytes-were}
use Rattle.vb_views.proofs.EntriesPlaced.{PlacedBelow, above_root, among-found, found_all, in-placed, of-placed, path-leads, placed-ascends, placed_at, root_only}
use Rattle.vb_views.proofs.TreesGiven.{page-held}

-- ---- the entries, one after the other

-- an entry is what was read of a node
pub record IsEntryOf (reads : ℕ → List ℕ) (p : Placed) (e : TreeEntry) : Type 0 where
  pub path : e.path ≡ p.path
  pub kind : e.kind ≡ kind_of p.held.node
  pub bytes : bytes_read reads p.held.node.length p.held.refs ≡ Ok e.bytes

abbrev pub AreEntriesOf : (ℕ → List ℕ) → List Placed → List TreeEntry → Type 0
AreEntriesOf reads [] [] = Unit {0}
AreEntriesOf reads [] (e ∷ es) = ⊥
AreEntriesOf reads (p ∷ ps) [] = ⊥
AreEntriesOf reads (p ∷ ps) (e ∷ es) = IsEntryOf reads p e × AreEntriesOf reads ps es

entries_were : (reads : ℕ → List ℕ) (ps : List Placed) (tree : List TreeEntry) → entries_read reads ps ≡ Ok tree → AreEntriesOf reads ps tree
entries_were reads [] tree is = let same : [] ≡ tree = cc is in subst (AreEntriesOf reads []) same tt
entries_were reads (p ∷ ps) tree is =
    let entry : List ℕ → TreeEntry = λ bytes. record { path = p.path; kind = kind_of p.held.node; bytes = bytes } in
    let one = and_then-ok (bytes_read reads p.held.node.length p.held.refs) (λ bytes. and_then (entries_read reads ps) (λ more. Ok (entry bytes ∷ more))) tree is in
    let two = and_then-ok (entries_read reads ps) (λ more. Ok (entry one.value ∷ more)) tree one.then in
    let same : entry one.value ∷ two.value ≡ tree = cc two.then in
    subst (AreEntriesOf reads (p ∷ ps)) same (record { path = refl; kind = refl; bytes = one.is }, entries_were reads ps two.value two.is)

-- the entry of a node among them
pub record HasEntry (reads : ℕ → List ℕ) (tree : List TreeEntry) (p : Placed) : Type 0 where
  pub entry : TreeEntry
  pub among : In entry tree
  pub is : IsEntryOf reads p entry

has_entry : (reads : ℕ → List ℕ) (ps : List Placed) (tree : List TreeEntry) (p : Placed) → AreEntriesOf reads ps tree → In p ps → HasEntry reads tree p
has_entry reads [] tree p are is = absurd is
has_entry reads (q ∷ ps) [] p are is = absurd are
has_entry reads (q ∷ ps) (e ∷ es) p are (inl same) = record { entry = e; among = inl refl; is = subst (λ (x : Placed). IsEntryOf reads x e) (sym same) are.0 }
has_entry reads (q ∷ ps) (e ∷ es) p are (inr is) =
    let more = has_entry reads ps es p are.1 is in
    record { entry = more.entry; among = inr more.among; is = more.is }

-- the node of an entry
pub record HasPlaced (reads : ℕ → List ℕ) (ps : List Placed) (e : TreeEntry) : Type 0 where
  pub placed : Placed
  pub among : In placed ps
  pub is : IsEntryOf reads placed e

has_placed : (reads : ℕ → List ℕ) (ps : List Placed) (tree : List TreeEntry) (e : TreeEntry) → AreEntriesOf reads ps tree → In e tree → HasPlaced reads ps e
has_placed reads ps [] e are is = absurd is
has_placed reads [] (x ∷ es) e are is = absurd are
has_placed reads (p ∷ ps) (x ∷ es) e are (inl same) = record { placed = p; among = inl refl; is = subst (IsEntryOf reads p) (sym same) are.0 }
has_placed reads (p ∷ ps) (x ∷ es) e are (inr is) =
    let more = has_placed reads ps es e are.1 is in
    record { placed = more.placed; among = inr more.among; is = more.is }

-- they stand in path order
after_of : (reads : ℕ → List ℕ) (p : Placed) (path : List (List ℕ)) (ps : List Placed) (es : List TreeEntry) → path ≡ p.path → AllBelow PlacedBelow p ps → AreEntriesOf reads ps es → AllAfter path es
after_of reads p path [] [] same below are = tt
after_of reads p path [] (e ∷ es) same below are = absurd are
after_of reads p path (q ∷ ps) [] same below are = absurd are
after_of reads p path (q ∷ ps) (e ∷ es) same below are =
    (ap (λ (x : List (List ℕ)). path_cmp x e.path) same ∙ ap (path_cmp p.path) are.0.path ∙ below.0, after_of reads p path ps es same below.1 are.1)

in_order : (reads : ℕ → List ℕ) (ps : List Placed) (tree : List TreeEntry) → Ascends PlacedBelow ps → AreEntriesOf reads ps tree → AreInOrder tree
in_order reads [] [] up are = tt
in_order reads [] (e ∷ es) up are = absurd are
in_order reads (p ∷ ps) [] up are = absurd are
in_order reads (p ∷ ps) (e ∷ es) up are = (after_of reads p e.path ps es are.0.path up.0 are.1, in_order reads ps es up.1 are.1)

-- ---- sums over the nodes

-- what the slots but the root's add up to
sum_inserted : (f : Held → ℕ) (new : Placed) (ps : List Placed) → sum_by (λ p. f p.held) (insert_placed new ps) ≡ f new.held + sum_by (λ p. f p.held) ps
sum_inserted f new [] = sum_by-cons (λ (p : Placed). f p.held) new []
sum_inserted f new (p ∷ ps) = by (is_lt (path_cmp new.path p.path)) (sum_inserted f new ps) where
  by : (b : Bool) → sum_by (λ p. f p.held) (insert_placed new ps) ≡ f new.held + sum_by (λ p. f p.held) ps → sum_by (λ q. f q.held) (cond b (new ∷ p ∷ ps) (p ∷ insert_placed new ps)) ≡ f new.held + sum_by (λ q. f q.held) (p ∷ ps)
  by true again = sum_by-cons (λ (q : Placed). f q.held) new (p ∷ ps)
  by false again = omega (arith, again, sum_by-cons (λ (q : Placed). f q.held) p (insert_placed new ps), sum_by-cons (λ (q : Placed). f q.held) p ps)

-- what a slot adds
abbrev slot_sum : (Held → ℕ) → Option Held → ℕ
slot_sum f None = 0
slot_sum f (Some held) = f held

sum_placed : (f : Held → ℕ) (table slots : List (Option Held)) → ((k : ℕ) (held : Held) → held_at slots k ≡ Some held → 0 < held.node.slot) → sum_by (λ p. f p.held) (placed_by table slots) ≡ sum_by (slot_sum f) slots
sum_placed f table [] above = refl
sum_placed f table (None ∷ slots) above =
    let rest : sum_by (λ (p : Placed). f p.held) (placed_by table slots) ≡ sum_by (slot_sum f) slots = sum_placed f table slots (λ k. above (suc k)) in
    omega (arith, rest, sum_by-cons (slot_sum f) None slots)
sum_placed f table (Some held ∷ slots) above =
    let below : eqb held.node.slot 0 ≡ false = ne_eqb held.node.slot 0 (λ none. let more = above 0 held refl in omega (arith, none, more)) in
    ap (λ (b : Bool). sum_by (λ (p : Placed). f p.held) (cond b (placed_by table slots) (insert_placed (placed_at table held) (placed_by table slots)))) below
    ∙ sum_inserted f (placed_at table held) (placed_by table slots)
    ∙ ap (λ (n : ℕ). f held + n) (sum_placed f table slots (λ k. above (suc k)))
    ∙ sym (sum_by-cons (slot_sum f) (Some held) slots)

-- ---- a view, and a tree that was read of it

pub record IsTreeRead (head : Head) (index : IndexState) (reads : ℕ → List ℕ) (tree : List TreeEntry) : Type 0 where
  pub view : IsViewOf head index
  pub pages : (place : ℕ) → IsPage (reads place)
  pub entries : AreEntriesOf reads (placed_in index.nodes) tree

pub tree-was : (head : Head) (index : IndexState) (reads : ℕ → List ℕ) (tree : List TreeEntry) → IsViewOf head index → ((place : ℕ) → IsPage (reads place)) → entries_read reads (placed_in index.nodes) ≡ Ok tree → IsTreeRead head index reads tree
tree-was head index reads tree is pages read = record { view = is; pages = pages; entries = entries_were reads (placed_in index.nodes) tree read }

ordered : (head : Head) (index : IndexState) (reads : ℕ → List ℕ) (tree : List TreeEntry) → IsTreeRead head index reads tree → AreInOrder tree
ordered head index reads tree t = in_order reads (placed_in index.nodes) tree (placed-ascends index.nodes t.view.table t.view.rooted) t.entries

-- what stands at the path of a slot
pub record StandsAt (reads : ℕ → List ℕ) (tree : List TreeEntry) (path : List (List ℕ)) (held : Held) : Type 0 where
  pub entry : TreeEntry
  pub here : entry_at path tree ≡ Some entry
  pub kind : entry.kind ≡ kind_of held.node
  pub bytes : AreBytesRead reads held.node.length held.refs entry.bytes

pub stands-at : (head : Head) (index : IndexState) (reads : ℕ → List ℕ) (tree : List TreeEntry) (path : List (List ℕ)) (slot : ℕ) (held : Held) → IsTreeRead head index reads tree → slot_at index.nodes path ≡ Some slot → held_at index.nodes slot ≡ Some held → 0 < slot → StandsAt reads tree path held
stands-at head index reads tree path slot held t leads there above =
    let nodes = index.nodes in
    let own : held.node.slot ≡ slot = (t.view.table.fits slot held there).at_slot in
    let has = has_entry reads (placed_in nodes) tree (placed_at nodes held) t.entries (in-placed nodes nodes slot held there (omega (arith, own, above))) in
    let path_is : path_of nodes held.node.slot ≡ path = walk-alone _ (table-forest nodes t.view.table) (path_of nodes held.node.slot) path slot
    (ap (λ (s : ℕ). slot_at nodes (path_of nodes s)) own ∙ path-leads nodes slot held t.view.table t.view.rooted there) leads in
    record {
      entry = has.entry;
      here = ap (λ (p : List (List ℕ)). entry_at p tree) (sym (has.is.path ∙ path_is)) ∙ found_all tree has.entry (ordered head index reads tree t) has.among;
      kind = has.is.kind;
      bytes = bytes-were reads held.node.length held.refs has.entry.bytes t.pages (t.view.table.fits slot held there).each_page has.is.bytes;
    }

-- the slot and the node of an entry
pub record IsOfSlot (nodes : List (Option Held)) (e : TreeEntry) : Type 0 where
  pub slot : ℕ
  pub held : Held
  pub leads : slot_at nodes e.path ≡ Some slot
  pub there : held_at nodes slot ≡ Some held
  pub above : 0 < slot

pub of-slot : (head : Head) (index : IndexState) (reads : ℕ → List ℕ) (tree : List TreeEntry) (e : TreeEntry) → IsTreeRead head index reads tree → In e tree → IsOfSlot index.nodes e
of-slot head index reads tree e t among =
    let nodes = index.nodes in
    let has = has_placed reads (placed_in nodes) tree e t.entries among in
    let one = of-placed nodes nodes has.placed has.among in
    let own : one.held.node.slot ≡ one.k = (t.view.table.fits one.k one.held one.there).at_slot in
    record {
      slot = one.k;
      held = one.held;
      leads = ap (slot_at nodes) (has.is.path ∙ ap (λ (p : Placed). p.path) one.is ∙ ap (path_of nodes) own) ∙ path-leads nodes one.k one.held t.view.table t.view.rooted one.there;
      there = one.there;
      above = omega (arith, own, one.above);
    }

-- ---- the shape

root_shape : (head : Head) (index : IndexState) → IsViewOf head index → option_map shape_of (held_at index.nodes 0) ≡ Some (record { kind = Folder; len = 0 })
root_shape head index is = by (held_at index.nodes 0) refl is.table.root where
  folder : (b : Bool) → b ≡ true → cond b Folder File ≡ Folder
  folder true e = refl
  folder false e = absurd (false≢true e)

  same : (a b : Shape) → a.kind ≡ b.kind → a.len ≡ b.len → a ≡ b
  same a b kind len = λ i. record { kind = kind i; len = len i }

  by : (o : Option Held) → held_at index.nodes 0 ≡ o → holds_folder o ≡ true → option_map shape_of o ≡ Some (record { kind = Folder; len = 0 })
  by None there root = absurd (false≢true root)
  by (Some held) there root = ap Some (same (shape_of held) (record { kind = Folder; len = 0 }) (folder (is_folder_node held.node.kind) root) ((is.table.fits 0 held there).folder_empty root))

shape_same : (a b : Shape) → a.kind ≡ b.kind → a.len ≡ b.len → a ≡ b
shape_same a b kind len = λ i. record { kind = kind i; len = len i }

no_path : (path : List (List ℕ)) → is_root path ≡ true → path ≡ []
no_path path root = root_only path root

pub same-shape : (head : Head) (index : IndexState) (reads : ℕ → List ℕ) (tree : List TreeEntry) → IsTreeRead head index reads tree → (path : List (List ℕ)) → shape_at index.nodes path ≡ shape_in path tree
same-shape head index reads tree t path = by (is_root path) refl where
  nodes : List (Option Held)
  nodes = index.nodes

  below : is_root path ≡ false → (o : Option ℕ) → slot_at index.nodes path ≡ o → option_and_then (λ slot. option_map shape_of (held_at index.nodes slot)) o ≡ option_map shape_of_entry (entry_at path tree)
  below under None nowhere = none (entry_at path tree) refl where
    none : (e : Option TreeEntry) → entry_at path tree ≡ e → None ≡ option_map shape_of_entry e
    none None at = refl
    none (Some e) at =
        let found = among-found path tree e at in
        let of = of-slot head index reads tree e t found.0 in
        absurd (let both : None ≡ Some of.slot = sym nowhere ∙ ap (slot_at index.nodes) (sym found.1) ∙ of.leads in cc both)
  below under (Some slot) leads =
      let one = slot_holds index.nodes t.view.table path slot leads in
      let stands = stands-at head index reads tree path slot one.0 t leads one.1 (above_root index.nodes path slot t.view.table under leads) in
      ap (option_map shape_of) one.1
      ∙ ap Some (shape_same (shape_of one.0) (shape_of_entry stands.entry) (sym stands.kind) (sym stands.bytes.long))
      ∙ ap (option_map shape_of_entry) (sym stands.here)

  by : (b : Bool) → is_root path ≡ b → shape_at index.nodes path ≡ shape_in path tree
  by true root =
      ap (λ (p : List (List ℕ)). shape_at index.nodes p) (root_only path root) ∙ root_shape head index t.view
      ∙ ap (λ (b : Bool). cond b (Some (record { kind = Folder; len = 0 })) (option_map shape_of_entry (entry_at path tree))) (sym root)
  by false under =
      below under (slot_at index.nodes path) refl
      ∙ ap (λ (b : Bool). cond b (Some (record { kind = Folder; len = 0 })) (option_map shape_of_entry (entry_at path tree))) (sym under)

-- ---- as many, and as large

one_each : (reads : ℕ → List ℕ) (ps : List Placed) (tree : List TreeEntry) → AreEntriesOf reads ps tree → sum_by (λ p. 1) ps ≡ length tree
one_each reads [] [] are = refl
one_each reads [] (e ∷ es) are = absurd are
one_each reads (p ∷ ps) [] are = absurd are
one_each reads (p ∷ ps) (e ∷ es) are = omega (arith, sum_by-cons (λ (q : Placed). 1) p ps, one_each reads ps es are.1)

pages_each : (reads : ℕ → List ℕ) (ps : List Placed) (tree : List TreeEntry) → ((p : Placed) (e : TreeEntry) → In p ps → IsEntryOf reads p e → length e.bytes ≡ p.held.node.length) → AreEntriesOf reads ps tree → sum_by (λ p. pages_of_length p.held.node.length) ps ≡ page_count tree
pages_each reads [] [] long are = refl
pages_each reads [] (e ∷ es) long are = absurd are
pages_each reads (p ∷ ps) [] long are = absurd are
pages_each reads (p ∷ ps) (e ∷ es) long are =
    omega (
      arith,
      sum_by-cons (λ (q : Placed). pages_of_length q.held.node.length) p ps,
      sum_by-cons (λ (x : TreeEntry). pages_of_length (length x.bytes)) e es,
      ap pages_of_length (long p e (inl refl) are.0),
      pages_each reads ps es (λ q x is. long q x (inr is)) are.1,
    )

sums_same : {X : Type 0} (f g : X → ℕ) → ((x : X) → f x ≡ g x) → (xs : List X) → sum_by f xs ≡ sum_by g xs
sums_same f g same [] = refl
sums_same f g same (x ∷ xs) = omega (arith, sum_by-cons f x xs, sum_by-cons g x xs, same x, sums_same f g same xs)

nodes_as_sum : (o : Option Held) → slot_sum (λ held. 1) o ≡ nodes_of_slot o
nodes_as_sum None = refl
nodes_as_sum (Some held) = refl

pages_as_sum : (o : Option Held) → slot_sum (λ held. pages_of_length held.node.length) o ≡ pages_of_slot o
pages_as_sum None = refl
pages_as_sum (Some held) = refl

-- the sum over the nodes in path order, with that of the root
with_root : (f : Held → ℕ) (head : Head) (index : IndexState) → IsViewOf head index → (root : Held) × (held_at index.nodes 0 ≡ Some root) × (sum_by (slot_sum f) index.nodes ≡ f root + sum_by (λ p. f p.held) (placed_in index.nodes))
with_root f head index is = by index.nodes refl is.table where
  by : (nodes : List (Option Held)) → nodes ≡ index.nodes → IsTable nodes → (root : Held) × (held_at nodes 0 ≡ Some root) × (sum_by (slot_sum f) nodes ≡ f root + sum_by (λ p. f p.held) (placed_in nodes))
  by [] same table = absurd (false≢true table.root)
  by (None ∷ rest) same table = absurd (false≢true table.root)
  by (Some root ∷ rest) same table =
      let zero_is : eqb root.node.slot 0 ≡ true = ap (λ (n : ℕ). eqb n 0) (table.fits 0 root refl).at_slot in
      let above : (k : ℕ) (held : Held) → held_at rest k ≡ Some held → 0 < held.node.slot = λ k held there. (let own = (table.fits (suc k) held there).at_slot in omega (arith, own)) in
      let placed : sum_by (λ (p : Placed). f p.held) (placed_in (Some root ∷ rest)) ≡ sum_by (slot_sum f) rest =
      ap (λ (b : Bool). sum_by (λ (p : Placed). f p.held) (cond b (placed_by (Some root ∷ rest) rest) (insert_placed (placed_at (Some root ∷ rest) root) (placed_by (Some root ∷ rest) rest)))) zero_is
      ∙ sum_placed f (Some root ∷ rest) rest above in
      (root, refl, sum_by-cons (slot_sum f) (Some root) rest ∙ ap (λ (n : ℕ). f root + n) (sym placed))

as_many : (head : Head) (index : IndexState) (reads : ℕ → List ℕ) (tree : List TreeEntry) → IsTreeRead head index reads tree → nodes_in index.nodes ≡ length tree + 1
as_many head index reads tree t =
    let sums = with_root (λ held. 1) head index t.view in
    omega (arith, sums_same (slot_sum (λ held. 1)) nodes_of_slot nodes_as_sum index.nodes, sums.2, one_each reads (placed_in index.nodes) tree t.entries)

as_large : (head : Head) (index : IndexState) (reads : ℕ → List ℕ) (tree : List TreeEntry) → IsTreeRead head index reads tree → pages_in index.nodes ≡ page_count tree
as_large head index reads tree t =
    let f : Held → ℕ = λ held. pages_of_length held.node.length in
    let sums = with_root f head index t.view in
    let root = sums.0 in
    let none : root.node.length ≡ 0 = (t.view.table.fits 0 root sums.1).folder_empty (sym (ap holds_folder sums.1) ∙ t.view.table.root) in
    let blank : pages_of_length root.node.length ≡ 0 = ap pages_of_length none in
    let long : (p : Placed) (e : TreeEntry) → In p (placed_in index.nodes) → IsEntryOf reads p e → length e.bytes ≡ p.held.node.length = λ p e among is.
    let one = of-placed index.nodes index.nodes p among in
    let fits = t.view.table.fits one.k one.held one.there in
    let held : p.held ≡ one.held = ap (λ (x : Placed). x.held) one.is in
    (bytes-were reads p.held.node.length p.held.refs e.bytes t.pages (ap (λ (h : Held). length h.refs) held ∙ fits.each_page ∙ ap (λ (h : Held). data_pages_of h.node.length) (sym held)) is.bytes).long in
    omega (arith, sums_same (slot_sum f) pages_of_slot pages_as_sum index.nodes, sums.2, blank, pages_each reads (placed_in index.nodes) tree long t.entries)

pub has-shape : (head : Head) (index : IndexState) (reads : ℕ → List ℕ) (tree : List TreeEntry) → IsTreeRead head index reads tree → HasShapeOf index.nodes tree
has-shape head index reads tree t = record { same = same-shape head index reads tree t; as_many = as_many head index reads tree t; as_large = as_large head index reads tree t }

-- ---- it is a tree

push_part : (P : List ℕ → Type 0) (xs : List (List ℕ)) (y : List ℕ) → AllByRecursion P xs → P y → AllByRecursion P (xs ++ y ∷ [])
push_part P [] y all here = (here, tt)
push_part P (x ∷ xs) y all here = (all.0, push_part P xs y all.1 here)

-- each part of a path that leads to a slot may be one
parts_valid : (head : Head) (index : IndexState) → IsViewOf head index → (path : List (List ℕ)) (slot : ℕ) → slot_at index.nodes path ≡ Some slot → AllByRecursion IsPart path
parts_valid head index is = snoc-ind (λ path. (slot : ℕ) → slot_at index.nodes path ≡ Some slot → AllByRecursion IsPart path) (λ slot leads. tt) more where
  more : (q : List (List ℕ)) (y : List ℕ) → ((slot : ℕ) → slot_at index.nodes q ≡ Some slot → AllByRecursion IsPart q) → (slot : ℕ) → slot_at index.nodes (q ++ y ∷ []) ≡ Some slot → AllByRecursion IsPart (q ++ y ∷ [])
  more q y again slot leads =
      let last = last_step (child_of index.nodes) q y slot leads in
      let one = slot_holds index.nodes is.table (q ++ y ∷ []) slot leads in
      let parts = is_child-parts last.0 y one.0 (sym (ap (is_child last.0 y) one.1) ∙ (child_of-Some index.nodes last.0 y slot last.2).1) in
      let own = (is.table.fits slot one.0 one.1).at_slot in
      push_part IsPart q y (again last.0 last.1) (subst IsPart parts.2 (is.rooted.valid slot one.0 one.1 (omega (arith, own, parts.0))))

both_shallow : (a b : Bool) → (a || b) ≡ false → (a ≡ false) × (b ≡ false)
both_shallow true b e = absurd (false≢true (sym e))
both_shallow false b e = (refl, e)

path_valid : (head : Head) (index : IndexState) (path : List (List ℕ)) (slot : ℕ) (held : Held) → IsViewOf head index → slot_at index.nodes path ≡ Some slot → held_at index.nodes slot ≡ Some held → IsPath path
path_valid head index path slot held is leads there =
    let nodes = index.nodes in
    let same : path_to nodes slot ≡ path = walk-alone _ (table-forest nodes is.table) (path_to nodes slot) path slot (is.rooted.leads slot held there) leads in
    let shallow : is_deep path ≡ false = ap is_deep (sym same) ∙ is.rooted.shallow slot held there in
    let both = both_shallow (nat_lt 1024 (length (text_of_path path))) (nat_lt 32 (length path)) shallow in
    parts_make_path path (record {
      valid = parts_valid head index is path slot leads;
      few = ltb-false 32 (length path) both.1;
      short = ltb-false 1024 (length (text_of_path path)) both.0;
    })

kind_folder : (o : Option Held) → holds_folder o ≡ true → option_map (λ (s : Shape). s.kind) (option_map shape_of o) ≡ Some Folder
kind_folder None folder = absurd (false≢true folder)
kind_folder (Some held) folder = ap (λ (b : Bool). Some (cond b Folder File)) folder

parent_folder : (head : Head) (index : IndexState) (reads : ℕ → List ℕ) (tree : List TreeEntry) (path : List (List ℕ)) (slot : ℕ) → IsTreeRead head index reads tree → is_root path ≡ false → slot_at index.nodes path ≡ Some slot → kind_at (parent_of path) tree ≡ Some Folder
parent_folder head index reads tree path slot t below leads =
    let nodes = index.nodes in
    let whole : path ≡ parent_of path ++ name_of path ∷ [] = path-split path (has_parts path below) in
    let last = last_step (child_of nodes) (parent_of path) (name_of path) slot (sym (ap (slot_at nodes) whole) ∙ leads) in
    let one = slot_holds nodes t.view.table path slot leads in
    let parts = is_child-parts last.0 (name_of path) one.0 (sym (ap (is_child last.0 (name_of path)) one.1) ∙ (child_of-Some nodes last.0 (name_of path) slot last.2).1) in
    let folder : holds_folder (held_at nodes last.0) ≡ true = ap (λ (s : ℕ). holds_folder (held_at nodes s)) (sym parts.1) ∙ t.view.table.in_folder slot one.0 one.1 (above_root nodes path slot t.view.table below leads) in
    kind_at-shape (parent_of path) tree
    ∙ ap (option_map (λ (s : Shape). s.kind)) (sym (same-shape head index reads tree t (parent_of path)) ∙ ap (option_and_then (λ s. option_map shape_of (held_at nodes s))) last.1)
    ∙ kind_folder (held_at nodes last.0) folder

folder_kind : (b : Bool) → cond b Folder File ≡ Folder → b ≡ true
folder_kind true is = refl
folder_kind false is = absurd (cc is)

no_bytes : (bytes : List ℕ) → length bytes ≡ 0 → bytes ≡ []
no_bytes [] none = refl
no_bytes (b ∷ bs) none = absurd (omega (arith, none))

belongs : (head : Head) (index : IndexState) (reads : ℕ → List ℕ) (tree : List TreeEntry) (e : TreeEntry) → IsTreeRead head index reads tree → In e tree → BelongsIn tree e
belongs head index reads tree e t among =
    let nodes = index.nodes in
    let of = of-slot head index reads tree e t among in
    let fits = t.view.table.fits of.slot of.held of.there in
    let stands = stands-at head index reads tree e.path of.slot of.held t of.leads of.there of.above in
    let both : Some stands.entry ≡ Some e = sym stands.here ∙ found_all tree e (ordered head index reads tree t) among in
    let same : stands.entry ≡ e = cc both in
    let below : is_root e.path ≡ false = elim (cases_Bool (is_root e.path)) [
      | inr under ↦ under
      | inl root ↦ absurd (
          let zero_is : Some 0 ≡ Some of.slot = sym (ap (slot_at nodes) (root_only e.path root)) ∙ of.leads in
          let none : 0 ≡ of.slot = cc zero_is in
          omega (arith, none, of.above))
    ] in
    let long : length e.bytes ≡ of.held.node.length = ap (λ (x : TreeEntry). length x.bytes) (sym same) ∙ stands.bytes.long in
    let kind : e.kind ≡ kind_of of.held.node = ap (λ (x : TreeEntry). x.kind) (sym same) ∙ stands.kind in
    record {
      path_valid = path_valid head index e.path of.slot of.held t.view of.leads of.there;
      below_root = below;
      parent_there = parent_folder head index reads tree e.path of.slot t below of.leads;
      folder_empty = λ folder. no_bytes e.bytes (long ∙ fits.folder_empty (folder_kind (is_folder_node of.held.node.kind) (sym kind ∙ folder)));
      bytes_few = omega (arith, long, fits.short);
    }

all_belong : (tree es : List TreeEntry) → ((e : TreeEntry) → In e es → BelongsIn tree e) → AllBelongIn tree es
all_belong tree [] each = tt
all_belong tree (e ∷ es) each = (each e (inl refl), all_belong tree es (λ x is. each x (inr is)))

is_tree : (head : Head) (index : IndexState) (reads : ℕ → List ℕ) (tree : List TreeEntry) → IsTreeRead head index reads tree → IsTree tree
is_tree head index reads tree t = record {
  in_order = ordered head index reads tree t;
  all_belong = all_belong tree tree (λ e among. belongs head index reads tree e t among);
}

-- ---- its contents

pub slice_some : {X : Type 0} (xs : List X) (k : ℕ) → k < length xs → (x : X) × (slice_get xs k ≡ Some x)
slice_some [] k below = absurd (omega (arith, below))
slice_some (x ∷ xs) zero below = (x, refl)
slice_some (x ∷ xs) (suc k) below = slice_some xs k (omega (arith, below))

pub tree-read : (head : Head) (index : IndexState) (reads : ℕ → List ℕ) (tree : List TreeEntry) → IsTreeRead head index reads tree → HasTree index.nodes (pages_by reads index.nodes) tree
tree-read head index reads tree t = record { is_tree = is_tree head index reads tree t; shape = has-shape head index reads tree t; contents = contents } where
  contents : (path : List (List ℕ)) (slot : ℕ) → slot_at index.nodes path ≡ Some slot → HasPages (pages_by reads index.nodes) slot (bytes_in (entry_at path tree))
  contents path slot leads = by (is_root path) refl where
    by : (b : Bool) → is_root path ≡ b → HasPages (pages_by reads index.nodes) slot (bytes_in (entry_at path tree))
    by true root = λ k within. absurd (
        let none : bytes_in (entry_at path tree) ≡ [] = ap bytes_in (root-none tree tree path (is_tree head index reads tree t).all_belong root) in
        omega (arith, within, ap length none))
    by false under =
        let one = slot_holds index.nodes t.view.table path slot leads in
        let stands = stands-at head index reads tree path slot one.0 t leads one.1 (above_root index.nodes path slot t.view.table under leads) in
        subst (λ (o : Option TreeEntry). HasPages (pages_by reads index.nodes) slot (bytes_in o)) (sym stands.here) (λ k within.
        let many = (t.view.table.fits slot one.0 one.1).each_page in
        let some = slice_some one.0.refs k (omega (arith, many, within, ap data_pages_of stands.bytes.long)) in
        page-held reads head index slot k one.0 t.view one.1 ∙ ap (page_at reads) some.1 ∙ (stands.bytes.pages k some.0 some.1).0)
