-- The nodes of an index have a tree of their shape: the entries of the nodes in path order, with zeros as bytes.
use Rattle.std.proofs.Common.{◌≡◌, ℕ, suc, ◌+◌, ◌<◌, Bool, true, false, cond, eqb, ◌||◌, nat_lt, List, [], ◌∷◌, ◌++◌, length, map, Option, Some, None, refl, sym, ap, subst, ◌∙◌, inl, inr, arith}
use Rattle.std.specs.Option.{option_and_then, option_map}
use Rattle.std.specs.List.{AllByRecursion, sum_by}
use Rattle.std.specs.Ordering.{is_lt}
use Rattle.std.proofs.lemmas.Bool.{cases_Bool, false≢true, ltb-false, ne_eqb}
use Rattle.std.proofs.lemmas.List.{length-replicate}
use Rattle.std.proofs.lemmas.List.Sums.{sum_by-cons}
use Rattle.vb_index.specs.declared.held.Held.{Held}
use Rattle.vb_index.specs.Heights.{path_to, IsRooted}
use Rattle.vb_index.specs.Indexes.{Shape, shape_at, shape_in, shape_of, shape_of_entry, HasShapeOf}
use Rattle.vb_index.specs.Nodes.{child_of, held_at, holds_folder, is_child, is_folder_node, kind_of, nodes_in, nodes_of_slot, pages_in, pages_of_slot, slot_at, IsTable}
use Rattle.vb_index.proofs.Ascending.{In, AllBelow, Ascends, in-map, of-map}
use Rattle.vb_index.proofs.ChildLaws.{child_of-Some, is_child-parts}
use Rattle.vb_index.proofs.Growth.{path-split, slot_holds}
use Rattle.vb_index.proofs.Newness.{has_parts}
use Rattle.vb_index.proofs.Shapes.{kind_at-shape}
use Rattle.vb_index.proofs.Tables.{table-forest}
use Rattle.vb_index.proofs.Walks.{last_step, snoc-ind, walk-alone}
use Rattle.vb_path.specs.Parts.{IsPart}
use Rattle.vb_path.specs.Paths.{path_cmp, text_of_path, IsPath}
use Rattle.vb_path.proofs.PartLaws.{parts_make_path}
use Rattle.vb_store.specs.Recovered.{Placed, insert_placed, path_of, placed_by, placed_in}
use Rattle.vb_tree.specs.Renames.{is_deep}
use Rattle.vb_tree.specs.declared.tree.Kind.TheVariants.{Folder, File}
use Rattle.vb_tree.specs.declared.tree.TreeEntry.{TreeEntry}
use Rattle.vb_tree.specs.Trees.{entry_at, is_root, kind_at, name_of, page_count, pages_of_length, parent_of, AllAfter, AllBelongIn, AreInOrder, BelongsIn, IsTree}
use Rattle.vb_views.proofs.EntriesPlaced.{PlacedBelow, above_root, among-found, found_all, in-placed, of-placed, path-leads, placed-ascends, placed_at, root_only}
use Rattle.vb_local.specs.Trees.{blank_entry, blank_tree}

-- ---- the entries in path order

after_of : (p : Placed) (ps : List Placed) → AllBelow PlacedBelow p ps → AllAfter p.path (map blank_entry ps)
after_of p [] below = tt
after_of p (q ∷ ps) below = (below.0, after_of p ps below.1)

in_order : (ps : List Placed) → Ascends PlacedBelow ps → AreInOrder (map blank_entry ps)
in_order [] up = tt
in_order (p ∷ ps) up = (after_of p ps up.0, in_order ps up.1)

ordered : (nodes : List (Option Held)) → IsTable nodes → IsRooted nodes → AreInOrder (blank_tree nodes)
ordered nodes table rooted = in_order (placed_in nodes) (placed-ascends nodes table rooted)

-- the entry of a slot stands at the path that leads there
stands-at : (nodes : List (Option Held)) (path : List (List ℕ)) (slot : ℕ) (held : Held) → IsTable nodes → IsRooted nodes → slot_at nodes path ≡ Some slot → held_at nodes slot ≡ Some held → 0 < slot → entry_at path (blank_tree nodes) ≡ Some (blank_entry (placed_at nodes held))
stands-at nodes path slot held table rooted leads there above =
    let own : held.node.slot ≡ slot = (table.fits slot held there).at_slot in
    let placed = in-placed nodes nodes slot held there (omega (arith, own, above)) in
    let among = in-map blank_entry (placed_at nodes held) (placed_in nodes) placed in
    let path_is : path_of nodes held.node.slot ≡ path = walk-alone _ (table-forest nodes table) (path_of nodes held.node.slot) path slot
    (ap (λ (s : ℕ). slot_at nodes (path_of nodes s)) own ∙ path-leads nodes slot held table rooted there) leads in
    ap (λ (p : List (List ℕ)). entry_at p (blank_tree nodes)) (sym path_is) ∙ found_all (blank_tree nodes) (blank_entry (placed_at nodes held)) (ordered nodes table rooted) among

-- the slot and the node of an entry
record IsOfSlot (nodes : List (Option Held)) (e : TreeEntry) : Type 0 where
  slot : ℕ
  held : Held
  leads : slot_at nodes e.path ≡ Some slot
  there : held_at nodes slot ≡ Some held
  above : 0 < slot
  is : e ≡ blank_entry (placed_at nodes held)

of-slot : (nodes : List (Option Held)) (e : TreeEntry) → IsTable nodes → IsRooted nodes → In e (blank_tree nodes) → IsOfSlot nodes e
of-slot nodes e table rooted among =
    let has = of-map blank_entry e (placed_in nodes) among in
    let one = of-placed nodes nodes has.0 has.1 in
    let own : one.held.node.slot ≡ one.k = (table.fits one.k one.held one.there).at_slot in
    let is : e ≡ blank_entry (placed_at nodes one.held) = has.2 ∙ ap blank_entry one.is in
    record {
      slot = one.k;
      held = one.held;
      leads = ap (slot_at nodes) (ap (λ (x : TreeEntry). x.path) is ∙ ap (path_of nodes) own) ∙ path-leads nodes one.k one.held table rooted one.there;
      there = one.there;
      above = omega (arith, own, one.above);
      is = is;
    }

-- ---- the shape

shape_same : (a b : Shape) → a.kind ≡ b.kind → a.len ≡ b.len → a ≡ b
shape_same a b kind len = λ i. record { kind = kind i; len = len i }

folder_is : (b : Bool) → b ≡ true → cond b Folder File ≡ Folder
folder_is true e = refl
folder_is false e = absurd (false≢true e)

root_shape : (nodes : List (Option Held)) → IsTable nodes → option_map shape_of (held_at nodes 0) ≡ Some (record { kind = Folder; len = 0 })
root_shape nodes is = by (held_at nodes 0) refl is.root where
  by : (o : Option Held) → held_at nodes 0 ≡ o → holds_folder o ≡ true → option_map shape_of o ≡ Some (record { kind = Folder; len = 0 })
  by None there root = absurd (false≢true root)
  by (Some held) there root = ap Some (shape_same (shape_of held) (record { kind = Folder; len = 0 }) (folder_is (is_folder_node held.node.kind) root) ((is.fits 0 held there).folder_empty root))

blank_shape : (nodes : List (Option Held)) (held : Held) → shape_of held ≡ shape_of_entry (blank_entry (placed_at nodes held))
blank_shape nodes held = shape_same (shape_of held) (shape_of_entry (blank_entry (placed_at nodes held))) refl (sym (length-replicate held.node.length 0))

same-shape : (nodes : List (Option Held)) → IsTable nodes → IsRooted nodes → (path : List (List ℕ)) → shape_at nodes path ≡ shape_in path (blank_tree nodes)
same-shape nodes table rooted path = by (is_root path) refl where
  tree : List TreeEntry
  tree = blank_tree nodes

  below : is_root path ≡ false → (o : Option ℕ) → slot_at nodes path ≡ o → option_and_then (λ slot. option_map shape_of (held_at nodes slot)) o ≡ option_map shape_of_entry (entry_at path (blank_tree nodes))
  below under None nowhere = none (entry_at path (blank_tree nodes)) refl where
    none : (e : Option TreeEntry) → entry_at path (blank_tree nodes) ≡ e → None ≡ option_map shape_of_entry e
    none None at = refl
    none (Some e) at =
        let found = among-found path (blank_tree nodes) e at in
        let of = of-slot nodes e table rooted found.0 in
        absurd (let both : None ≡ Some of.slot = sym nowhere ∙ ap (slot_at nodes) (sym found.1) ∙ of.leads in cc both)
  below under (Some slot) leads =
      let one = slot_holds nodes table path slot leads in
      let stands = stands-at nodes path slot one.0 table rooted leads one.1 (above_root nodes path slot table under leads) in
      ap (option_map shape_of) one.1
      ∙ ap Some (blank_shape nodes one.0)
      ∙ ap (option_map shape_of_entry) (sym stands)

  by : (b : Bool) → is_root path ≡ b → shape_at nodes path ≡ shape_in path (blank_tree nodes)
  by true root =
      ap (λ (p : List (List ℕ)). shape_at nodes p) (root_only path root) ∙ root_shape nodes table
      ∙ ap (λ (b : Bool). cond b (Some (record { kind = Folder; len = 0 })) (option_map shape_of_entry (entry_at path (blank_tree nodes)))) (sym root)
  by false under =
      below under (slot_at nodes path) refl
      ∙ ap (λ (b : Bool). cond b (Some (record { kind = Folder; len = 0 })) (option_map shape_of_entry (entry_at path (blank_tree nodes)))) (sym under)

-- ---- as many, and as large

-- what the slots but the root's add up to
sum_inserted : (f : Held → ℕ) (new : Placed) (ps : List Placed) → sum_by (λ p. f p.held) (insert_placed new ps) ≡ f new.held + sum_by (λ p. f p.held) ps
sum_inserted f new [] = sum_by-cons (λ (p : Placed). f p.held) new []
sum_inserted f new (p ∷ ps) = by (is_lt (path_cmp new.path p.path)) (sum_inserted f new ps) where
  by : (b : Bool) → sum_by (λ p. f p.held) (insert_placed new ps) ≡ f new.held + sum_by (λ p. f p.held) ps → sum_by (λ q. f q.held) (cond b (new ∷ p ∷ ps) (p ∷ insert_placed new ps)) ≡ f new.held + sum_by (λ q. f q.held) (p ∷ ps)
  by true again = sum_by-cons (λ (q : Placed). f q.held) new (p ∷ ps)
  by false again = omega (arith, again, sum_by-cons (λ (q : Placed). f q.held) p (insert_placed new ps), sum_by-cons (λ (q : Placed). f q.held) p ps)

-- what a slot adds
abbrev slot_sum : (Held → ℕ) → Option Held → ℕ
slot_sum f None = 0
slot_sum f (Some held) = f held

sum_placed : (f : Held → ℕ) (table slots : List (Option Held)) → ((k : ℕ) (held : Held) → held_at slots k ≡ Some held → 0 < held.node.slot) → sum_by (λ p. f p.held) (placed_by table slots) ≡ sum_by (slot_sum f) slots
sum_placed f table [] above = refl
sum_placed f table (None ∷ slots) above =
    let rest : sum_by (λ (p : Placed). f p.held) (placed_by table slots) ≡ sum_by (slot_sum f) slots = sum_placed f table slots (λ k. above (suc k)) in
    omega (arith, rest, sum_by-cons (slot_sum f) None slots)
sum_placed f table (Some held ∷ slots) above =
    let below : eqb held.node.slot 0 ≡ false = ne_eqb held.node.slot 0 (λ none. let more = above 0 held refl in omega (arith, none, more)) in
    ap (λ (b : Bool). sum_by (λ (p : Placed). f p.held) (cond b (placed_by table slots) (insert_placed (placed_at table held) (placed_by table slots)))) below
    ∙ sum_inserted f (placed_at table held) (placed_by table slots)
    ∙ ap (λ (n : ℕ). f held + n) (sum_placed f table slots (λ k. above (suc k)))
    ∙ sym (sum_by-cons (slot_sum f) (Some held) slots)

-- the sum over the nodes in path order, with that of the root
record AddsUp (f : Held → ℕ) (nodes : List (Option Held)) : Type 0 where
  root : Held
  there : held_at nodes 0 ≡ Some root
  sums : sum_by (slot_sum f) nodes ≡ f root + sum_by (λ p. f p.held) (placed_in nodes)

with_root : (f : Held → ℕ) (nodes : List (Option Held)) → IsTable nodes → AddsUp f nodes
with_root f [] table = absurd (false≢true table.root)
with_root f (None ∷ rest) table = absurd (false≢true table.root)
with_root f (Some root ∷ rest) table =
    let zero_is : eqb root.node.slot 0 ≡ true = ap (λ (n : ℕ). eqb n 0) (table.fits 0 root refl).at_slot in
    let above : (k : ℕ) (held : Held) → held_at rest k ≡ Some held → 0 < held.node.slot = λ k held there. (let own = (table.fits (suc k) held there).at_slot in omega (arith, own)) in
    let placed : sum_by (λ (p : Placed). f p.held) (placed_in (Some root ∷ rest)) ≡ sum_by (slot_sum f) rest =
    ap (λ (b : Bool). sum_by (λ (p : Placed). f p.held) (cond b (placed_by (Some root ∷ rest) rest) (insert_placed (placed_at (Some root ∷ rest) root) (placed_by (Some root ∷ rest) rest)))) zero_is
    ∙ sum_placed f (Some root ∷ rest) rest above in
    record { root = root; there = refl; sums = sum_by-cons (slot_sum f) (Some root) rest ∙ ap (λ (n : ℕ). f root + n) (sym placed) }

one_each : (ps : List Placed) → sum_by (λ p. 1) ps ≡ length (map blank_entry ps)
one_each [] = refl
one_each (p ∷ ps) = omega (arith, sum_by-cons (λ (q : Placed). 1) p ps, one_each ps)

pages_each : (ps : List Placed) → sum_by (λ p. pages_of_length p.held.node.length) ps ≡ page_count (map blank_entry ps)
pages_each [] = refl
pages_each (p ∷ ps) = omega (
  arith,
  sum_by-cons (λ (q : Placed). pages_of_length q.held.node.length) p ps,
  sum_by-cons (λ (x : TreeEntry). pages_of_length (length x.bytes)) (blank_entry p) (map blank_entry ps),
  ap pages_of_length (length-replicate {A = ℕ} p.held.node.length 0),
  pages_each ps,
)

sums_same : {X : Type 0} (f g : X → ℕ) → ((x : X) → f x ≡ g x) → (xs : List X) → sum_by f xs ≡ sum_by g xs
sums_same f g same [] = refl
sums_same f g same (x ∷ xs) = omega (arith, sum_by-cons f x xs, sum_by-cons g x xs, same x, sums_same f g same xs)

nodes_as_sum : (o : Option Held) → slot_sum (λ held. 1) o ≡ nodes_of_slot o
nodes_as_sum None = refl
nodes_as_sum (Some held) = refl

pages_as_sum : (o : Option Held) → slot_sum (λ held. pages_of_length held.node.length) o ≡ pages_of_slot o
pages_as_sum None = refl
pages_as_sum (Some held) = refl

as_many : (nodes : List (Option Held)) → IsTable nodes → nodes_in nodes ≡ length (blank_tree nodes) + 1
as_many nodes table =
    let adds = with_root (λ held. 1) nodes table in
    omega (arith, sums_same (slot_sum (λ held. 1)) nodes_of_slot nodes_as_sum nodes, adds.sums, one_each (placed_in nodes))

as_large : (nodes : List (Option Held)) → IsTable nodes → pages_in nodes ≡ page_count (blank_tree nodes)
as_large nodes table =
    let f : Held → ℕ = λ held. pages_of_length held.node.length in
    let adds = with_root f nodes table in
    let none : adds.root.node.length ≡ 0 = (table.fits 0 adds.root adds.there).folder_empty (sym (ap holds_folder adds.there) ∙ table.root) in
    let blank : pages_of_length adds.root.node.length ≡ 0 = ap pages_of_length none in
    omega (arith, sums_same (slot_sum f) pages_of_slot pages_as_sum nodes, adds.sums, blank, pages_each (placed_in nodes))

pub blank-shape : (nodes : List (Option Held)) → IsTable nodes → IsRooted nodes → HasShapeOf nodes (blank_tree nodes)
blank-shape nodes table rooted = record { same = same-shape nodes table rooted; as_many = as_many nodes table; as_large = as_large nodes table }

-- ---- it is a tree

push_part : (P : List ℕ → Type 0) (xs : List (List ℕ)) (y : List ℕ) → AllByRecursion P xs → P y → AllByRecursion P (xs ++ y ∷ [])
push_part P [] y all here = (here, tt)
push_part P (x ∷ xs) y all here = (all.0, push_part P xs y all.1 here)

-- each part of a path that leads to a slot may be one
parts_valid : (nodes : List (Option Held)) → IsTable nodes → IsRooted nodes → (path : List (List ℕ)) (slot : ℕ) → slot_at nodes path ≡ Some slot → AllByRecursion IsPart path
parts_valid nodes table rooted = snoc-ind (λ path. (slot : ℕ) → slot_at nodes path ≡ Some slot → AllByRecursion IsPart path) (λ slot leads. tt) more where
  more : (q : List (List ℕ)) (y : List ℕ) → ((slot : ℕ) → slot_at nodes q ≡ Some slot → AllByRecursion IsPart q) → (slot : ℕ) → slot_at nodes (q ++ y ∷ []) ≡ Some slot → AllByRecursion IsPart (q ++ y ∷ [])
  more q y again slot leads =
      let last = last_step (child_of nodes) q y slot leads in
      let one = slot_holds nodes table (q ++ y ∷ []) slot leads in
      let parts = is_child-parts last.0 y one.0 (sym (ap (is_child last.0 y) one.1) ∙ (child_of-Some nodes last.0 y slot last.2).1) in
      let own = (table.fits slot one.0 one.1).at_slot in
      push_part IsPart q y (again last.0 last.1) (subst IsPart parts.2 (rooted.valid slot one.0 one.1 (omega (arith, own, parts.0))))

both_shallow : (a b : Bool) → (a || b) ≡ false → (a ≡ false) × (b ≡ false)
both_shallow true b e = absurd (false≢true (sym e))
both_shallow false b e = (refl, e)

path_valid : (nodes : List (Option Held)) (path : List (List ℕ)) (slot : ℕ) (held : Held) → IsTable nodes → IsRooted nodes → slot_at nodes path ≡ Some slot → held_at nodes slot ≡ Some held → IsPath path
path_valid nodes path slot held table rooted leads there =
    let same : path_to nodes slot ≡ path = walk-alone _ (table-forest nodes table) (path_to nodes slot) path slot (rooted.leads slot held there) leads in
    let shallow : is_deep path ≡ false = ap is_deep (sym same) ∙ rooted.shallow slot held there in
    let both = both_shallow (nat_lt 1024 (length (text_of_path path))) (nat_lt 32 (length path)) shallow in
    parts_make_path path (record {
      valid = parts_valid nodes table rooted path slot leads;
      few = ltb-false 32 (length path) both.1;
      short = ltb-false 1024 (length (text_of_path path)) both.0;
    })

kind_folder : (o : Option Held) → holds_folder o ≡ true → option_map (λ (s : Shape). s.kind) (option_map shape_of o) ≡ Some Folder
kind_folder None folder = absurd (false≢true folder)
kind_folder (Some held) folder = ap (λ (b : Bool). Some (cond b Folder File)) folder

parent_folder : (nodes : List (Option Held)) (path : List (List ℕ)) (slot : ℕ) → IsTable nodes → IsRooted nodes → is_root path ≡ false → slot_at nodes path ≡ Some slot → kind_at (parent_of path) (blank_tree nodes) ≡ Some Folder
parent_folder nodes path slot table rooted below leads =
    let whole : path ≡ parent_of path ++ name_of path ∷ [] = path-split path (has_parts path below) in
    let last = last_step (child_of nodes) (parent_of path) (name_of path) slot (sym (ap (slot_at nodes) whole) ∙ leads) in
    let one = slot_holds nodes table path slot leads in
    let parts = is_child-parts last.0 (name_of path) one.0 (sym (ap (is_child last.0 (name_of path)) one.1) ∙ (child_of-Some nodes last.0 (name_of path) slot last.2).1) in
    let folder : holds_folder (held_at nodes last.0) ≡ true = ap (λ (s : ℕ). holds_folder (held_at nodes s)) (sym parts.1) ∙ table.in_folder slot one.0 one.1 (above_root nodes path slot table below leads) in
    kind_at-shape (parent_of path) (blank_tree nodes)
    ∙ ap (option_map (λ (s : Shape). s.kind)) (sym (same-shape nodes table rooted (parent_of path)) ∙ ap (option_and_then (λ s. option_map shape_of (held_at nodes s))) last.1)
    ∙ kind_folder (held_at nodes last.0) folder

folder_kind : (b : Bool) → cond b Folder File ≡ Folder → b ≡ true
folder_kind true is = refl
folder_kind false is = absurd (cc is)

no_bytes : (bytes : List ℕ) → length bytes ≡ 0 → bytes ≡ []
no_bytes [] none = refl
no_bytes (b ∷ bs) none = absurd (omega (arith, none))

belongs : (nodes : List (Option Held)) (e : TreeEntry) → IsTable nodes → IsRooted nodes → In e (blank_tree nodes) → BelongsIn (blank_tree nodes) e
belongs nodes e table rooted among =
    let of = of-slot nodes e table rooted among in
    let fits = table.fits of.slot of.held of.there in
    let below : is_root e.path ≡ false = elim (cases_Bool (is_root e.path)) [
      | inr under ↦ under
      | inl root ↦ absurd (
          let zero_is : Some 0 ≡ Some of.slot = sym (ap (slot_at nodes) (root_only e.path root)) ∙ of.leads in
          let none : 0 ≡ of.slot = cc zero_is in
          omega (arith, none, of.above))
    ] in
    let long : length e.bytes ≡ of.held.node.length = ap (λ (x : TreeEntry). length x.bytes) of.is ∙ length-replicate of.held.node.length 0 in
    let kind : e.kind ≡ kind_of of.held.node = ap (λ (x : TreeEntry). x.kind) of.is in
    record {
      path_valid = path_valid nodes e.path of.slot of.held table rooted of.leads of.there;
      below_root = below;
      parent_there = parent_folder nodes e.path of.slot table rooted below of.leads;
      folder_empty = λ folder. no_bytes e.bytes (long ∙ fits.folder_empty (folder_kind (is_folder_node of.held.node.kind) (sym kind ∙ folder)));
      bytes_few = omega (arith, long, fits.short);
    }

all_belong : (tree es : List TreeEntry) → ((e : TreeEntry) → In e es → BelongsIn tree e) → AllBelongIn tree es
all_belong tree [] each = tt
all_belong tree (e ∷ es) each = (each e (inl refl), all_belong tree es (λ x is. each x (inr is)))

pub blank-tree : (nodes : List (Option Held)) → IsTable nodes → IsRooted nodes → IsTree (blank_tree nodes)
blank-tree nodes table rooted = record {
  in_order = ordered nodes table rooted;
  all_belong = all_belong (blank_tree nodes) (blank_tree nodes) (λ e among. belongs nodes e table rooted among);
}
