-- What is held of a file changes and keeps its place: the table stays one, and a tree of that shape changes in that file alone.
use Rattle.std.proofs.Common.{◌≡◌, ℕ, suc, ◌+◌, ◌-◌, ◌<◌, ◌≤◌, Bool, true, false, not, cond, ◌&&◌, ◌==◌, ◌^◌, nat_lt, is_some, is_none, vec_len, List, [], ◌∷◌, ◌++◌, length, take, drop, replicate, get_or, set, unwrap_or, Option, Some, None, inl, inr, refl, sym, ap, ◌∙◌, subst, append_assoc, arith, length-append, length-take}
use Rattle.std.specs.Option.{option_map, option_and_then}
use Rattle.std.specs.BTreeMap as tree
use Rattle.std.specs.BTreeSet as sorted
use Rattle.std.specs.Ordering.{nat_cmp}
use Rattle.std.specs.Cmp.Lexicographic.{slice_cmp}
use Rattle.std.proofs.lemmas.Bool.{cases_Bool, false≢true}
use Rattle.std.proofs.lemmas.Bool.Decides.{Decides-eqb}
use Rattle.std.proofs.lemmas.List.{length-set, length-replicate, get_or_default, take-append-drop, take-set, drop-set}
use Rattle.std.proofs.lemmas.List.Sums.{sum_by-cons}
use Rattle.vb_path.specs.Paths.{same_path}
use Rattle.vb_path.proofs.PathLaws.{same_path-Decides}
use Rattle.vb_tree.specs.declared.tree.Kind.TheVariants.{Folder, File}
use Rattle.vb_tree.specs.declared.tree.Limits.{Limits}
use Rattle.vb_tree.specs.declared.tree.TreeEntry.{TreeEntry}
use Rattle.vb_tree.specs.declared.reply.Refusal.{Refusal}
use Rattle.vb_tree.specs.declared.reply.Refusal.TheVariants.{NotAFile}
use Rattle.vb_tree.specs.Trees.{is_root, kind_at, is_folder, entry_at, length_at, bytes_in, with_bytes_at, parent_of, name_of, data_pages_of, pages_of_length, page_count}
use Rattle.vb_tree.specs.Refusals.{refuse, refuse_missing, refuse_unless_file, refuse_length, refuse_resize}
use Rattle.vb_block.specs.declared.digest.Ref.{Ref}
use Rattle.vb_index.specs.declared.held.Held.{Held}
use Rattle.vb_index.specs.declared.table.Table.TheInside.{Inside}
use Rattle.vb_index.specs.Nodes.{is_folder_node, is_file_node, kind_of, held_at, holds_folder, refs_of, refs_at, same_name, is_child, child_of, slot_at, nodes_of_slot, nodes_in, pages_of_slot, pages_in, IsHeld, IsTable}
use Rattle.vb_index.specs.Heights.{IsRooted}
use Rattle.vb_index.specs.Changes.{blank_ref, resized, with_ref, IsFileAt}
use Rattle.vb_index.specs.Tables.{IsKept}
use Rattle.vb_index.specs.Indexes.{Shape, shape_of, shape_at, shape_of_entry, shape_in, HasShapeOf}
use Rattle.vb_index.proofs.ChildLaws.{child_of-same}
use Rattle.vb_index.proofs.Growth.{path-split, slot_holds}
use Rattle.vb_index.proofs.Leaving.{folder_at}
use Rattle.vb_index.proofs.Newness.{root-not, has_parts}
use Rattle.vb_index.proofs.Shrinking.{entry-held}
use Rattle.vb_index.proofs.Tables.{table-forest, at_same, at_other, held_in_table, nodes_in-set, pages_in-set, pages_in-le}
use Rattle.vb_index.proofs.Walks.{walk-alone, walk-same}

-- ---- lists

-- an item in the place of another, by the parts
pub set-parts : {X : Type 0} (xs : List X) (i : ℕ) (y : X) → i < length xs → take i xs ++ (y ∷ []) ++ drop (i + 1) xs ≡ set xs i y
set-parts xs i y l =
    append_assoc (take i xs) (y ∷ []) (drop (i + 1) xs)
    ∙ ap (λ d. take i xs ++ d) (sym (drop-set xs i y l))
    ∙ ap (λ t. t ++ drop i (set xs i y)) (sym (take-set xs i y))
    ∙ take-append-drop i (set xs i y)

-- ---- nodes

-- what a slot holds becomes another at the same place
pub record Changes (nodes : List (Option Held)) (slot : ℕ) (old new : Held) : Type 0 where
  pub holds : held_at nodes slot ≡ Some old
  pub same_slot : new.node.slot ≡ old.node.slot
  pub same_kind : new.node.kind ≡ old.node.kind
  pub same_parent : new.node.parent ≡ old.node.parent
  pub same_name : new.node.name ≡ old.node.name
  pub fits : IsHeld slot new

pub child-kept : (nodes : List (Option Held)) (slot : ℕ) (old new : Held) → Changes nodes slot old new → (parent : ℕ) (name : List ℕ) → child_of (set nodes slot (Some new)) parent name ≡ child_of nodes parent name
child-kept nodes slot old new c parent name = child_of-same nodes slot (Some new) parent name (
    ap (λ s. not (s == 0) && (new.node.parent == parent && same_name new.node.name name)) c.same_slot
    ∙ ap (λ p. not (old.node.slot == 0) && (p == parent && same_name new.node.name name)) c.same_parent
    ∙ ap (λ n. not (old.node.slot == 0) && (old.node.parent == parent && same_name n name)) c.same_name
    ∙ sym (ap (is_child parent name) c.holds))

folder-kept : (nodes : List (Option Held)) (slot : ℕ) (old new : Held) → Changes nodes slot old new → (p : ℕ) → holds_folder (held_at (set nodes slot (Some new)) p) ≡ holds_folder (held_at nodes p)
folder-kept nodes slot old new c p = elim (cases_Bool (p == slot)) [
  | inr h ↦ ap holds_folder (at_other nodes slot p (Some new) h)
  | inl h ↦ ap holds_folder (at_same nodes slot p (Some new) (held_in_table nodes slot old c.holds) ((Decides-eqb p slot).0 h)) ∙ ap is_folder_node c.same_kind ∙ sym (ap holds_folder (ap (held_at nodes) ((Decides-eqb p slot).0 h) ∙ c.holds))
]

none-kept : (nodes : List (Option Held)) (slot : ℕ) (old new : Held) → Changes nodes slot old new → (p : ℕ) → is_none (held_at (set nodes slot (Some new)) p) ≡ is_none (held_at nodes p)
none-kept nodes slot old new c p = elim (cases_Bool (p == slot)) [
  | inr h ↦ ap is_none (at_other nodes slot p (Some new) h)
  | inl h ↦ ap is_none (at_same nodes slot p (Some new) (held_in_table nodes slot old c.holds) ((Decides-eqb p slot).0 h)) ∙ sym (ap is_none (ap (held_at nodes) ((Decides-eqb p slot).0 h) ∙ c.holds))
]

-- what a slot held before
record Before (nodes : List (Option Held)) (k : ℕ) (one : Held) : Type 0 where
  was : Held
  holds : held_at nodes k ≡ Some was
  parent : one.node.parent ≡ was.node.parent
  name : one.node.name ≡ was.node.name
  fits : IsHeld k one

before : (nodes : List (Option Held)) (slot : ℕ) (old new : Held) → IsTable nodes → Changes nodes slot old new → (k : ℕ) (one : Held) → held_at (set nodes slot (Some new)) k ≡ Some one → Before nodes k one
before nodes slot old new table c k one e = elim (cases_Bool (k == slot)) [
  | inr h ↦ (let same : held_at nodes k ≡ Some one = sym (at_other nodes slot k (Some new) h) ∙ e in
      record { was = one; holds = same; parent = refl; name = refl; fits = table.fits k one same })
  | inl h ↦ (let is : k ≡ slot = (Decides-eqb k slot).0 h in
      let both : Some one ≡ Some new = sym e ∙ at_same nodes slot k (Some new) (held_in_table nodes slot old c.holds) is in
      let same : one ≡ new = cc in
      let P : Held → Type 0 = λ x. IsHeld k x in
      let Q : ℕ → Type 0 = λ j. IsHeld j new in
      record {
        was = old;
        holds = ap (held_at nodes) is ∙ c.holds;
        parent = ap (λ (x : Held). x.node.parent) same ∙ c.same_parent;
        name = ap (λ (x : Held). x.node.name) same ∙ c.same_name;
        fits = subst P (sym same) (subst Q (sym is) c.fits);
      })
]

-- the table stays one
pub IsTable-changed : (nodes : List (Option Held)) (slot : ℕ) (old new : Held) → IsTable nodes → Changes nodes slot old new → IsTable (set nodes slot (Some new))
IsTable-changed nodes slot old new table c =
    record {
      few = rw length-set table.few;
      root = folder-kept nodes slot old new c 0 ∙ table.root;
      fits = λ k one e. (before nodes slot old new table c k one e).fits;
      in_folder = λ k one e up. (let b = before nodes slot old new table c k one e in
          folder-kept nodes slot old new c one.node.parent ∙ ap (λ p. holds_folder (held_at nodes p)) b.parent ∙ table.in_folder k b.was b.holds up);
      one_name = λ k one e up. (let b = before nodes slot old new table c k one e in
          child-kept nodes slot old new c one.node.parent one.node.name
          ∙ ap (λ p. child_of nodes p one.node.name) b.parent ∙ ap (child_of nodes b.was.node.parent) b.name ∙ table.one_name k b.was b.holds up);
    }

-- paths lead where they led
pub slot_at-kept : (nodes : List (Option Held)) (slot : ℕ) (old new : Held) → Changes nodes slot old new → (path : List (List ℕ)) → slot_at (set nodes slot (Some new)) path ≡ slot_at nodes path
slot_at-kept nodes slot old new c path = walk-same (child_of nodes) (child_of (set nodes slot (Some new))) (child-kept nodes slot old new c) path 0

-- what is kept beside the nodes stays, but for the pages
pub kept-changed : (a b : Inside) (slot : ℕ) (old new : Held) → IsKept a → Changes a.nodes.items slot old new → IsRooted (set a.nodes.items slot (Some new)) → b.nodes.items ≡ set a.nodes.items slot (Some new) → b.children ≡ a.children → b.free ≡ a.free → b.count ≡ a.count → b.pages + pages_of_length old.node.length ≡ a.pages + pages_of_length new.node.length → IsKept b
kept-changed a b slot old new k c rooted items children free count pages =
    record {
      table = subst IsTable (sym items) (IsTable-changed a.nodes.items slot old new k.table c);
      rooted = subst IsRooted (sym items) rooted;
      maps = ap vec_len children ∙ k.maps ∙ sym len;
      found = λ parent name d l. ap (λ cs. tree.get (slice_cmp nat_cmp) (get_or cs.items parent d) name) children ∙ k.found parent name d (omega (arith, len)) ∙ sym (ap (λ ns. child_of ns parent name) items ∙ child-kept a.nodes.items slot old new c parent name);
      free = λ q. ap (λ s. sorted.contains nat_cmp s q) free ∙ k.free q ∙ sym (ap (λ n. nat_lt q n && is_none (held_at b.nodes.items q)) len ∙ ap (λ v. nat_lt q (length a.nodes.items) && v) (ap (λ ns. is_none (held_at ns q)) items ∙ none-kept a.nodes.items slot old new c q));
      count = (let sums = nodes_in-set a.nodes.items slot (Some new) there in let was = ap nodes_of_slot c.holds in let now = ap nodes_in items in omega (arith, sums, was, now, count, k.count));
      pages = (let sums = pages_in-set a.nodes.items slot (Some new) there in let was = ap pages_of_slot c.holds in let now = ap pages_in items in omega (arith, sums, was, now, pages, k.pages));
    } where
      there : slot < length a.nodes.items
      there = held_in_table a.nodes.items slot old c.holds

      len : length b.nodes.items ≡ length a.nodes.items
      len = ap length items ∙ length-set a.nodes.items slot (Some new)

-- ---- trees

length-with : (path : List (List ℕ)) (bytes : List ℕ) (tree : List TreeEntry) → length (with_bytes_at path bytes tree) ≡ length tree
length-with path bytes [] = refl
length-with path bytes (e ∷ es) =
    elim (same_path path e.path) as (λ v. length (cond v (record e { bytes = bytes } ∷ es) (e ∷ with_bytes_at path bytes es)) ≡ length (e ∷ es)) [
      | true ↦ refl
      | false ↦ ap suc (length-with path bytes es)
    ]

page_count-with : (path : List (List ℕ)) (bytes : List ℕ) (es : List TreeEntry) (e : TreeEntry) → entry_at path es ≡ Some e → page_count (with_bytes_at path bytes es) + pages_of_length (length e.bytes) ≡ page_count es + pages_of_length (length bytes)
page_count-with path bytes [] e found = absurd cc
page_count-with path bytes (x ∷ xs) e found = elim (cases_Bool (same_path path x.path)) [
  | inl h ↦ (let both : Some x ≡ Some e = sym (ap (λ v. cond v (Some x) (entry_at path xs)) h) ∙ found in
      let same : x ≡ e = cc in
      let len = ap (λ (t : TreeEntry). pages_of_length (length t.bytes)) same in
      let now = ap (λ v. page_count (cond v (record x { bytes = bytes } ∷ xs) (x ∷ with_bytes_at path bytes xs))) h in
      omega (arith, len, now, sum_by-cons (λ (t : TreeEntry). pages_of_length (length t.bytes)) (record x { bytes = bytes }) xs, sum_by-cons (λ (t : TreeEntry). pages_of_length (length t.bytes)) x xs))
  | inr h ↦ (let below = page_count-with path bytes xs e (sym (ap (λ v. cond v (Some x) (entry_at path xs)) h) ∙ found) in
      let now = ap (λ v. page_count (cond v (record x { bytes = bytes } ∷ xs) (x ∷ with_bytes_at path bytes xs))) h in
      omega (arith, below, now, sum_by-cons (λ (t : TreeEntry). pages_of_length (length t.bytes)) x (with_bytes_at path bytes xs), sum_by-cons (λ (t : TreeEntry). pages_of_length (length t.bytes)) x xs))
]

-- the entry with its new bytes
pub entry_at-with : (path : List (List ℕ)) (bytes : List ℕ) (es : List TreeEntry) → entry_at path (with_bytes_at path bytes es) ≡ option_map {T = TreeEntry} {U = TreeEntry} (λ e. record e { bytes = bytes }) (entry_at path es)
entry_at-with path bytes [] = refl
entry_at-with path bytes (e ∷ es) = elim (cases_Bool (same_path path e.path)) [
  | inl h ↦ ap (λ v. entry_at path (cond v (record e { bytes = bytes } ∷ es) (e ∷ with_bytes_at path bytes es))) h ∙ ap (λ v. cond v (Some (record e { bytes = bytes })) (entry_at path es)) h ∙ sym (ap (λ v. option_map {T = TreeEntry} {U = TreeEntry} (λ (x : TreeEntry). record x { bytes = bytes }) (cond v (Some e) (entry_at path es))) h)
  | inr h ↦ ap (λ v. entry_at path (cond v (record e { bytes = bytes } ∷ es) (e ∷ with_bytes_at path bytes es))) h ∙ ap (λ v. cond v (Some e) (entry_at path (with_bytes_at path bytes es))) h ∙ entry_at-with path bytes es ∙ sym (ap (λ v. option_map {T = TreeEntry} {U = TreeEntry} (λ (x : TreeEntry). record x { bytes = bytes }) (cond v (Some e) (entry_at path es))) h)
]

-- the entries elsewhere stay
pub entry_at-beside : (q path : List (List ℕ)) (bytes : List ℕ) (es : List TreeEntry) → (q ≡ path → ⊥) → entry_at q (with_bytes_at path bytes es) ≡ entry_at q es
entry_at-beside q path bytes [] apart = refl
entry_at-beside q path bytes (e ∷ es) apart = elim (cases_Bool (same_path path e.path)) [
  | inl h ↦ (let other : same_path q e.path ≡ false = elim (cases_Bool (same_path q e.path)) [ inr g ↦ g | inl g ↦ absurd (apart ((same_path-Decides q e.path).0 g ∙ sym ((same_path-Decides path e.path).0 h))) ] in
      ap (λ v. entry_at q (cond v (record e { bytes = bytes } ∷ es) (e ∷ with_bytes_at path bytes es))) h ∙ ap (λ v. cond v (Some (record e { bytes = bytes })) (entry_at q es)) other ∙ sym (ap (λ v. cond v (Some e) (entry_at q es)) other))
  | inr h ↦ ap (λ v. entry_at q (cond v (record e { bytes = bytes } ∷ es) (e ∷ with_bytes_at path bytes es))) h ∙ ap (λ o. cond (same_path q e.path) (Some e) o) (entry_at-beside q path bytes es apart)
]

-- ---- files

-- the file in a slot
pub file_in : (nodes : List (Option Held)) (slot : ℕ) → is_some (refs_at nodes slot) ≡ true → (held : Held) × (held_at nodes slot ≡ Some held) × (is_file_node held.node.kind ≡ true)
file_in nodes slot h = by (held_at nodes slot) refl where
  kind : (held : Held) → held_at nodes slot ≡ Some held → (b : Bool) → is_file_node held.node.kind ≡ b → is_file_node held.node.kind ≡ true
  kind held e true f = f
  kind held e false f = absurd (false≢true (sym (ap (λ o. is_some (option_and_then refs_of o)) e ∙ ap (λ v. is_some (cond v (Some held.refs) None)) f) ∙ h))

  by : (o : Option Held) → held_at nodes slot ≡ o → (held : Held) × (held_at nodes slot ≡ Some held) × (is_file_node held.node.kind ≡ true)
  by None e = absurd (false≢true (sym (ap (λ o. is_some (option_and_then refs_of o)) e) ∙ h))
  by (Some held) e = (held, e, kind held e (is_file_node held.node.kind) refl)

-- what holds a file is one
pub file-held : (nodes : List (Option Held)) (slot : ℕ) (held : Held) → is_some (refs_at nodes slot) ≡ true → held_at nodes slot ≡ Some held → is_file_node held.node.kind ≡ true
file-held nodes slot held h e =
    let file = file_in nodes slot h in
    let both : Some file.0 ≡ Some held = sym file.1 ∙ e in
    let same : file.0 ≡ held = cc in
    ap (λ (x : Held). is_file_node x.node.kind) (sym same) ∙ file.2

-- a file has references
pub file-refs : (nodes : List (Option Held)) (slot : ℕ) (held : Held) → held_at nodes slot ≡ Some held → is_file_node held.node.kind ≡ true → is_some (refs_at nodes slot) ≡ true
file-refs nodes slot held e file = ap (λ o. is_some (option_and_then refs_of o)) e ∙ ap (λ v. is_some (cond v (Some held.refs) None)) file

-- what an item is, by its place
pub item_at : (nodes : List (Option Held)) (slot : ℕ) (held : Held) (item : Option Held) → held_at nodes slot ≡ Some held → item ≡ get_or nodes slot item → item ≡ Some held
item_at nodes slot held item e is = is ∙ sym (get_or_default nodes slot None item (held_in_table nodes slot held e)) ∙ e

-- a file has a page where it has a reference of it
pub page_in : (nodes : List (Option Held)) (slot page : ℕ) → page < length (unwrap_or (refs_at nodes slot) []) → (held : Held) × (held_at nodes slot ≡ Some held) × (page < length held.refs)
page_in nodes slot page h = by (refs_at nodes slot) refl where
  by : (o : Option _) → refs_at nodes slot ≡ o → (held : Held) × (held_at nodes slot ≡ Some held) × (page < length held.refs)
  by None e = absurd (omega (arith, ap (λ rs. length (unwrap_or rs [])) e))
  by (Some rs) e =
      let file = file_in nodes slot (ap is_some e) in
      let refs : refs_at nodes slot ≡ Some file.0.refs = ap (option_and_then refs_of) file.1 ∙ ap (λ v. cond v (Some file.0.refs) None) file.2 in
      (file.0, file.1, omega (arith, ap (λ rs. length (unwrap_or rs [])) refs))

pub no_folder : (nodes : List (Option Held)) (slot : ℕ) (held : Held) → IsTable nodes → held_at nodes slot ≡ Some held → is_file_node held.node.kind ≡ true → holds_folder (held_at nodes slot) ≡ false
no_folder nodes slot held table e file = ap holds_folder e ∙ (elim (cases_Bool (is_folder_node held.node.kind)) [
  | inr h ↦ h
  | inl h ↦ absurd (false≢true (sym (ap not h) ∙ sym (table.fits slot held e).either ∙ file))
])

-- a file's path isn't the root
pub file_below : (nodes : List (Option Held)) (path : List (List ℕ)) (slot : ℕ) (held : Held) → IsTable nodes → slot_at nodes path ≡ Some slot → held_at nodes slot ≡ Some held → is_file_node held.node.kind ≡ true → is_root path ≡ false
file_below nodes [] slot held table at e file = absurd (
    let both : Some 0 ≡ Some slot = at in
    let is : 0 ≡ slot = cc in
    false≢true (sym (no_folder nodes slot held table e file) ∙ sym (ap (λ k. holds_folder (held_at nodes k)) is) ∙ table.root))
file_below nodes (part ∷ parts) slot held table at e file = root-not (part ∷ parts) (omega arith)

-- the entry of a file in a tree of that shape
pub entry-file : (nodes : List (Option Held)) (tree : List TreeEntry) (path : List (List ℕ)) (slot : ℕ) (held : Held) → HasShapeOf nodes tree → is_root path ≡ false → slot_at nodes path ≡ Some slot → held_at nodes slot ≡ Some held → (e : TreeEntry) × (entry_at path tree ≡ Some e) × (shape_of_entry e ≡ shape_of held)
entry-file nodes tree path slot held shape below at e =
    let split = path-split path (has_parts path below) in
    let found = entry-held nodes tree (parent_of path) (name_of path) slot held shape (ap (slot_at nodes) (sym split) ∙ at) e in
    (found.0, ap (λ p. entry_at p tree) split ∙ found.1, found.2)

-- a file changes and keeps its place: the shape of each other path stays
shape-beside : (nodes : List (Option Held)) (path q : List (List ℕ)) (slot : ℕ) (old new : Held) → IsTable nodes → Changes nodes slot old new → slot_at nodes path ≡ Some slot → (q ≡ path → ⊥) → shape_at (set nodes slot (Some new)) q ≡ shape_at nodes q
shape-beside nodes path q slot old new table c at apart =
    ap (option_and_then (λ s. option_map shape_of (held_at (set nodes slot (Some new)) s))) (slot_at-kept nodes slot old new c q) ∙ by (slot_at nodes q) refl
  where
    by : (o : Option ℕ) → slot_at nodes q ≡ o → option_and_then (λ s. option_map shape_of (held_at (set nodes slot (Some new)) s)) (slot_at nodes q) ≡ option_and_then (λ s. option_map shape_of (held_at nodes s)) (slot_at nodes q)
    by None e = ap (option_and_then (λ s. option_map shape_of (held_at (set nodes slot (Some new)) s))) e ∙ sym (ap (option_and_then (λ s. option_map shape_of (held_at nodes s))) e)
    by (Some s) e = ap (option_and_then (λ s. option_map shape_of (held_at (set nodes slot (Some new)) s))) e
        ∙ ap (option_map shape_of) (at_other nodes slot s (Some new) (elim (cases_Bool (s == slot)) [
          | inr h ↦ h
          | inl h ↦ absurd (apart (walk-alone (child_of nodes) (table-forest nodes table) q path slot (e ∙ ap (λ k. Some k) ((Decides-eqb s slot).0 h)) at))
        ]))
        ∙ sym (ap (option_and_then (λ s. option_map shape_of (held_at nodes s))) e)

-- a file gets another length, and its entry other bytes of that length
pub resized-shape : (nodes : List (Option Held)) (tree : List TreeEntry) (path : List (List ℕ)) (slot : ℕ) (old new : Held) (bytes : List ℕ) → IsTable nodes → HasShapeOf nodes tree → Changes nodes slot old new → slot_at nodes path ≡ Some slot → is_file_node old.node.kind ≡ true → length bytes ≡ new.node.length → HasShapeOf (set nodes slot (Some new)) (with_bytes_at path bytes tree)
resized-shape nodes tree path slot old new bytes table shape c at file len =
    record {
      same = same;
      as_many = (let sums = nodes_in-set nodes slot (Some new) there in let was = ap nodes_of_slot c.holds in omega (arith, sums, was, shape.as_many, length-with path bytes tree));
      as_large = (let sums = pages_in-set nodes slot (Some new) there in let was = ap pages_of_slot c.holds in let size = ap (λ (s : Shape). pages_of_length s.len) entry.2 in let now = ap pages_of_length len in omega (arith, sums, was, size, now, shape.as_large, page_count-with path bytes tree entry.0 entry.1));
    } where
      there : slot < length nodes
      there = held_in_table nodes slot old c.holds

      below : is_root path ≡ false
      below = file_below nodes path slot old table at c.holds file

      entry : (e : TreeEntry) × (entry_at path tree ≡ Some e) × (shape_of_entry e ≡ shape_of old)
      entry = entry-file nodes tree path slot old shape below at c.holds

      here : shape_at (set nodes slot (Some new)) path ≡ shape_in path (with_bytes_at path bytes tree)
      here =
          ap (option_and_then (λ s. option_map shape_of (held_at (set nodes slot (Some new)) s))) (slot_at-kept nodes slot old new c path ∙ at)
          ∙ ap (option_map shape_of) (at_same nodes slot slot (Some new) there refl)
          ∙ ap (λ k. Some (record { kind = cond (is_folder_node k) Folder File; len = new.node.length })) c.same_kind
          ∙ ap (λ n. Some (record { kind = kind_of old.node; len = n })) (sym len)
          ∙ ap (λ (s : Shape). Some (record { kind = s.kind; len = length bytes })) (sym entry.2)
          ∙ sym (ap (λ v. cond v (Some (record { kind = Folder; len = 0 })) (option_map shape_of_entry (entry_at path (with_bytes_at path bytes tree)))) below
          ∙ ap (option_map shape_of_entry) (entry_at-with path bytes tree ∙ ap (option_map (λ (x : TreeEntry). record x { bytes = bytes })) entry.1))

      same : (q : List (List ℕ)) → shape_at (set nodes slot (Some new)) q ≡ shape_in q (with_bytes_at path bytes tree)
      same q = elim (cases_Bool (same_path q path)) [
        | inl h ↦ (let is : q ≡ path = (same_path-Decides q path).0 h in ap (shape_at (set nodes slot (Some new))) is ∙ here ∙ ap (λ p. shape_in p (with_bytes_at path bytes tree)) (sym is))
        | inr h ↦ (let apart : q ≡ path → ⊥ = λ is. false≢true (sym h ∙ (same_path-Decides q path).1 is) in
            shape-beside nodes path q slot old new table c at apart ∙ shape.same q
            ∙ ap (λ o. cond (is_root q) (Some (record { kind = Folder; len = 0 })) (option_map shape_of_entry o)) (sym (entry_at-beside q path bytes tree apart)))
      ]

-- what changes in references alone keeps the shape
pub same-shape : (nodes : List (Option Held)) (tree : List TreeEntry) (slot : ℕ) (old new : Held) → HasShapeOf nodes tree → Changes nodes slot old new → new.node.length ≡ old.node.length → HasShapeOf (set nodes slot (Some new)) tree
same-shape nodes tree slot old new shape c len =
    record {
      same = λ q. ap (option_and_then (λ s. option_map shape_of (held_at (set nodes slot (Some new)) s))) (slot_at-kept nodes slot old new c q) ∙ by (slot_at nodes q) ∙ shape.same q;
      as_many = (let sums = nodes_in-set nodes slot (Some new) there in let was = ap nodes_of_slot c.holds in omega (arith, sums, was, shape.as_many));
      as_large = (let sums = pages_in-set nodes slot (Some new) there in let was = ap pages_of_slot c.holds in let size = ap pages_of_length len in omega (arith, sums, was, size, shape.as_large));
    } where
      there : slot < length nodes
      there = held_in_table nodes slot old c.holds

      alike : (s : ℕ) → option_map shape_of (held_at (set nodes slot (Some new)) s) ≡ option_map shape_of (held_at nodes s)
      alike s = elim (cases_Bool (s == slot)) [
        | inr h ↦ ap (option_map shape_of) (at_other nodes slot s (Some new) h)
        | inl h ↦ (let is : s ≡ slot = (Decides-eqb s slot).0 h in
            ap (option_map shape_of) (at_same nodes slot s (Some new) there is)
            ∙ ap (λ k. Some (record { kind = cond (is_folder_node k) Folder File; len = new.node.length })) c.same_kind
            ∙ ap (λ n. Some (record { kind = kind_of old.node; len = n })) len
            ∙ sym (ap (option_map shape_of) (ap (held_at nodes) is ∙ c.holds)))
      ]

      by : (o : Option ℕ) → option_and_then (λ s. option_map shape_of (held_at (set nodes slot (Some new)) s)) o ≡ option_and_then (λ s. option_map shape_of (held_at nodes s)) o
      by None = refl
      by (Some s) = alike s

-- a file at another length keeps its place
pub resized_changes : (nodes : List (Option Held)) (slot len : ℕ) (held : Held) → IsTable nodes → held_at nodes slot ≡ Some held → is_file_node held.node.kind ≡ true → len ≤ 44433408 → Changes nodes slot held (resized len held)
resized_changes nodes slot len held table e file short =
    let fits = table.fits slot held e in
    record {
      holds = e;
      same_slot = refl;
      same_kind = refl;
      same_parent = refl;
      same_name = refl;
      fits = record {
        at_slot = fits.at_slot;
        either = fits.either;
        folder_empty = λ is. absurd (false≢true (sym (fits.either ∙ ap not is) ∙ file));
        short = short;
        each_page = omega (arith, length-append (take (data_pages_of len) held.refs) (replicate (data_pages_of len - length held.refs) blank_ref), length-take (data_pages_of len) held.refs, length-replicate (data_pages_of len - length held.refs) blank_ref);
      };
    }

-- a file with another reference keeps its place
pub ref_changes : (nodes : List (Option Held)) (slot page : ℕ) (reference : Ref) (held : Held) → IsTable nodes → held_at nodes slot ≡ Some held → Changes nodes slot held (with_ref page reference held)
ref_changes nodes slot page reference held table e =
    let fits = table.fits slot held e in
    record {
      holds = e;
      same_slot = refl;
      same_kind = refl;
      same_parent = refl;
      same_name = refl;
      fits = record { at_slot = fits.at_slot; either = fits.either; folder_empty = fits.folder_empty; short = fits.short; each_page = length-set held.refs page reference ∙ fits.each_page };
    }

-- the file at a path gets another length, and its entry other bytes of that length
pub resized-tree : (nodes new : List (Option Held)) (tree : List TreeEntry) (path : List (List ℕ)) (slot len : ℕ) (bytes : List ℕ) → IsFileAt nodes path slot → len ≤ 44433408 → HasShapeOf nodes tree → length bytes ≡ len → ((held : Held) → held_at nodes slot ≡ Some held → new ≡ set nodes slot (Some (resized len held))) → HasShapeOf new (with_bytes_at path bytes tree)
resized-tree nodes new tree path slot len bytes is short shape size changed =
    let file = file_in nodes slot is.file in
    let P : List (Option Held) → Type 0 = λ ns. HasShapeOf ns (with_bytes_at path bytes tree) in
    subst P (sym (changed file.0 file.1))
    (resized-shape nodes tree path slot file.0 (resized len file.0) bytes is.table shape (resized_changes nodes slot len file.0 is.table file.1 file.2 short) is.at file.2 size)

-- a reference changes no shape
pub ref-tree : (nodes new : List (Option Held)) (tree : List TreeEntry) (slot page : ℕ) (reference : Ref) (held : Held) → IsTable nodes → held_at nodes slot ≡ Some held → HasShapeOf nodes tree → new ≡ set nodes slot (Some (with_ref page reference held)) → HasShapeOf new tree
ref-tree nodes new tree slot page reference held table e shape changed =
    let P : List (Option Held) → Type 0 = λ ns. HasShapeOf ns tree in
    subst P (sym changed) (same-shape nodes tree slot held (with_ref page reference held) shape (ref_changes nodes slot page reference held table e) refl)

-- ---- refusals

-- no file is there
pub file-none : (nodes : List (Option Held)) (tree : List TreeEntry) (path : List (List ℕ)) (slot : ℕ) (next : Option Refusal) → IsTable nodes → HasShapeOf nodes tree → slot_at nodes path ≡ Some slot → refs_at nodes slot ≡ None → ((more : Option Refusal) → refuse_missing tree path more ≡ more) → refuse_unless_file tree path next ≡ Some NotAFile
file-none nodes tree path slot next table shape at none way = way (refuse (is_folder (kind_at path tree)) NotAFile next) ∙ ap (λ b. refuse b NotAFile next) (folder_at nodes tree path slot true shape at (ap is_some holds.1) folder).0 where
  holds : (held : Held) × (held_at nodes slot ≡ Some held)
  holds = slot_holds nodes table path slot at

  no_file : (b : Bool) → is_file_node holds.0.node.kind ≡ b → is_file_node holds.0.node.kind ≡ false
  no_file false e = e
  no_file true e = absurd (let refs : refs_at nodes slot ≡ Some holds.0.refs = ap (option_and_then refs_of) holds.1 ∙ ap (λ v. cond v (Some holds.0.refs) None) e in
      let both : Some holds.0.refs ≡ None = sym refs ∙ none in cc)

  folder : holds_folder (held_at nodes slot) ≡ true
  folder = ap holds_folder holds.1 ∙ (elim (cases_Bool (is_folder_node holds.0.node.kind)) [
    | inl h ↦ h
    | inr h ↦ absurd (false≢true (sym (no_file (is_file_node holds.0.node.kind) refl) ∙ (table.fits slot holds.0 holds.1).either ∙ ap not h))
  ])

-- a file is there
pub file-some : (nodes : List (Option Held)) (tree : List TreeEntry) (path : List (List ℕ)) (slot : ℕ) (held : Held) (next : Option Refusal) → IsTable nodes → HasShapeOf nodes tree → slot_at nodes path ≡ Some slot → held_at nodes slot ≡ Some held → is_file_node held.node.kind ≡ true → ((more : Option Refusal) → refuse_missing tree path more ≡ more) → refuse_unless_file tree path next ≡ next
file-some nodes tree path slot held next table shape at e file way =
    way (refuse (is_folder (kind_at path tree)) NotAFile next)
    ∙ ap (λ b. refuse b NotAFile next) (folder_at nodes tree path slot false shape at (ap is_some e) (no_folder nodes slot held table e file)).0

-- the checks of a length, by the totals and the file's length
pub resize-checks : (limits : Limits) (nodes : List (Option Held)) (tree : List TreeEntry) (path : List (List ℕ)) (slot : ℕ) (held : Held) (len old pages : ℕ) → IsTable nodes → HasShapeOf nodes tree → slot_at nodes path ≡ Some slot → held_at nodes slot ≡ Some held → is_file_node held.node.kind ≡ true → held.node.length ≡ old → pages ≡ pages_in nodes → refuse_resize limits tree path len ≡ refuse_length limits pages (pages - pages_of_length old + pages_of_length len) len
resize-checks limits nodes tree path slot held len old pages table shape at e file is count =
    let entry = entry-file nodes tree path slot held shape (file_below nodes path slot held table at e file) at e in
    let size : length_at path tree ≡ old = ap (λ o. length (bytes_in o)) entry.1 ∙ ap (λ (s : Shape). s.len) entry.2 ∙ is in
    ap (λ n. refuse_length limits (page_count tree) (page_count tree - pages_of_length n + pages_of_length len) len) size
    ∙ ap (λ n. refuse_length limits n (n - pages_of_length old + pages_of_length len) len) (sym (count ∙ shape.as_large))

-- a file has few pages
pub few_pages : (len : ℕ) → len ≤ 44433408 → pages_of_length len ≤ 10945
few_pages len h = omega arith

-- there are few pages
pub few-pages : (nodes : List (Option Held)) → IsTable nodes → pages_in nodes < 2 ^ 32
few-pages nodes table = omega (arith, pages_in-le nodes table, table.few)
