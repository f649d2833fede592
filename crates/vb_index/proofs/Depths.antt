-- How deep a move would lead: the entries at and below a node, and the nodes below it.
use Rattle.std.proofs.Common.{◌≡◌, ℕ, ◌+◌, ◌<◌, ◌≤◌, Bool, true, false, cond, ◌&&◌, ◌||◌, nat_lt, is_some, List, [], ◌∷◌, ◌++◌, length, drop, get_or, Option, Some, None, inl, inr, refl, sym, ap, ◌∙◌, subst, append_assoc, append-nil, arith, length-append}
use Rattle.std.specs.Option.{option_map, option_and_then}
use Rattle.std.specs.List.{All, slice_get}
use Rattle.std.specs.BTreeMap as tree
use Rattle.std.specs.Ordering.{nat_cmp}
use Rattle.std.specs.Cmp.Lexicographic.{slice_cmp}
use Rattle.std.proofs.lemmas.Map.Entries.{place_from_lookup}
use Rattle.std.proofs.lemmas.Option.{slice_get_cases, get_or_from_slice_get}
use Rattle.std.proofs.Math.Seq.{drop-append_seam}
use Rattle.std.proofs.lemmas.Bool.{cases_Bool, false≢true, and_parts}
use Rattle.std.proofs.lemmas.Bool.Decides.{nat_tests}
use Rattle.vb_path.specs.Paths.{same_path, text_of_path}
use Rattle.vb_path.proofs.PathLaws.{same_path-Decides}
use Rattle.vb_tree.specs.declared.tree.Kind.TheVariants.{Folder}
use Rattle.vb_tree.specs.declared.tree.TreeEntry.{TreeEntry}
use Rattle.vb_tree.specs.Trees.{is_root, entry_at}
use Rattle.vb_tree.specs.Renames.{is_within, is_deep, moved_path, makes_deep}
use Rattle.vb_tree.proofs.Within.{within-parts, within-append, some_parts}
use Rattle.vb_tree.proofs.MovedPaths.{text-append}
use Rattle.vb_index.specs.declared.held.Held.{Held}
use Rattle.vb_index.specs.Heights.{FitsBelow}
use Rattle.vb_index.specs.Nodes.{held_at, child_of, slot_at, slot_below, IsTable}
use Rattle.vb_index.specs.Indexes.{shape_of, shape_at, shape_of_entry, HasShapeOf}
use Rattle.vb_index.proofs.ChildLaws.{same_name-Decides, child_of-Some}
use Rattle.vb_index.proofs.Growth.{below_root, slot_holds}
use Rattle.vb_index.proofs.Walks.{and_then-parts, walk-snoc}

-- whether an entry would be too deep
abbrev deep_entry : List (List ℕ) → List (List ℕ) → List (List ℕ) → Bool
deep_entry source target path = is_within source path && is_deep (moved_path source target path)

-- ---- lists of entries

-- none is too deep where none that can be found is
none-deep : (source target : List (List ℕ)) (es : List TreeEntry) → ((p : List (List ℕ)) → is_some (entry_at p es) ≡ true → deep_entry source target p ≡ false) → makes_deep source target es ≡ false
none-deep source target [] all = refl
none-deep source target (e ∷ es) all =
    ap (λ v. v || makes_deep source target es) (all e.path (ap (λ v. is_some (cond v (Some e) (entry_at e.path es))) ((same_path-Decides e.path e.path).1 refl)))
    ∙ none-deep source target es (λ p h. all p (elim (same_path p e.path) as (λ v. is_some (cond v (Some e) (entry_at p es)) ≡ true) [ true ↦ refl | false ↦ h ]))

or_parts : (a b : Bool) → (a || b) ≡ false → (a ≡ false) × (b ≡ false)
or_parts true b h = absurd (false≢true (sym h))
or_parts false b h = (refl, h)

-- where none is too deep, none that can be found is
found-shallow : (source target : List (List ℕ)) (es : List TreeEntry) (p : List (List ℕ)) → makes_deep source target es ≡ false → is_some (entry_at p es) ≡ true → deep_entry source target p ≡ false
found-shallow source target [] p h f = absurd (false≢true f)
found-shallow source target (e ∷ es) p h f =
    let both = or_parts (deep_entry source target e.path) (makes_deep source target es) h in
    elim (cases_Bool (same_path p e.path)) [
      | inl s ↦ ap (deep_entry source target) ((same_path-Decides p e.path).0 s) ∙ both.0
      | inr s ↦ found-shallow source target es p both.1 (sym (ap (λ v. is_some (cond v (Some e) (entry_at p es))) s) ∙ f)
    ]

-- ---- paths

-- a path within a longer one is within the shorter, and moves alike
within-longer : (source target : List (List ℕ)) (name : List ℕ) (path : List (List ℕ)) → is_within (source ++ name ∷ []) path ≡ true → (is_within source path ≡ true) × (moved_path (source ++ name ∷ []) (target ++ name ∷ []) path ≡ moved_path source target path)
within-longer source target name path h =
    let rest = drop (length (source ++ name ∷ [])) path in
    let is : path ≡ source ++ (name ∷ rest) = within-parts (source ++ name ∷ []) path h ∙ append_assoc source (name ∷ []) rest in (
      subst (λ p. is_within source p ≡ true) (sym is) (within-append source (name ∷ rest)),
      append_assoc target (name ∷ []) rest ∙ ap (λ r. target ++ r) (sym (ap (drop (length source)) is ∙ drop-append_seam source (name ∷ rest))),
    )

-- what is too deep below a name is too deep
pub deep-below : (source target : List (List ℕ)) (name : List ℕ) (es : List TreeEntry) → makes_deep (source ++ name ∷ []) (target ++ name ∷ []) es ≡ true → makes_deep source target es ≡ true
deep-below source target name [] h = h
deep-below source target name (e ∷ es) h =
    elim (cases_Bool (deep_entry (source ++ name ∷ []) (target ++ name ∷ []) e.path)) [
      | inr g ↦ (let rest = deep-below source target name es (sym (ap (λ v. v || makes_deep (source ++ name ∷ []) (target ++ name ∷ []) es) g) ∙ h) in or_true (deep_entry source target e.path) (makes_deep source target es) rest)
      | inl g ↦ (let both = and_parts (is_within (source ++ name ∷ []) e.path) (is_deep (moved_path (source ++ name ∷ []) (target ++ name ∷ []) e.path)) g in
          let up = within-longer source target name e.path both.0 in
          let mine : deep_entry source target e.path ≡ true = ap (λ v. v && is_deep (moved_path source target e.path)) up.0 ∙ ap is_deep (sym up.1) ∙ both.1 in
          ap (λ v. v || makes_deep source target es) mine)
    ]
  where
    or_true : (a b : Bool) → b ≡ true → (a || b) ≡ true
    or_true true b h = refl
    or_true false b h = h

-- what moves itself leads to the target
moved-self : (source target : List (List ℕ)) → moved_path source target source ≡ target
moved-self source target = ap (λ r. target ++ drop (length source) r) (sym (append-nil source)) ∙ ap (λ r. target ++ r) (drop-append_seam source []) ∙ append-nil target

-- what is found at the source is too deep where the target is
here-deep : (source target : List (List ℕ)) (es : List TreeEntry) → is_some (entry_at source es) ≡ true → is_deep target ≡ true → makes_deep source target es ≡ true
here-deep source target es f deep =
    elim (cases_Bool (makes_deep source target es)) [
      | inl h ↦ h
      | inr h ↦ absurd (false≢true (sym (found-shallow source target es source h f) ∙ (
          ap (λ v. v && is_deep (moved_path source target source)) (subst (λ p. is_within source p ≡ true) (append-nil source) (within-append source []))
          ∙ ap is_deep (moved-self source target) ∙ deep)))
    ]

-- ---- nodes

mapped_some : (o : Option TreeEntry) → is_some (option_map shape_of_entry o) ≡ is_some o
mapped_some None = refl
mapped_some (Some e) = refl

-- an entry stands where a path that isn't the root leads to a shape
pub entry-some : (nodes : List (Option Held)) (tree : List TreeEntry) (path : List (List ℕ)) → HasShapeOf nodes tree → is_root path ≡ false → is_some (entry_at path tree) ≡ is_some (shape_at nodes path)
entry-some nodes tree path shape below =
    sym (mapped_some (entry_at path tree))
    ∙ sym (ap (λ v. is_some (cond v (Some (record { kind = Folder; len = 0 })) (option_map shape_of_entry (entry_at path tree)))) below)
    ∙ ap is_some (sym (shape.same path))

-- an entry stands where a path leads to a slot
pub entry-there : (nodes : List (Option Held)) (tree : List TreeEntry) (path : List (List ℕ)) (slot : ℕ) → IsTable nodes → HasShapeOf nodes tree → is_root path ≡ false → slot_at nodes path ≡ Some slot → is_some (entry_at path tree) ≡ true
entry-there nodes tree path slot table shape below at =
    let held = slot_holds nodes table path slot at in
    entry-some nodes tree path shape below
    ∙ ap (λ o. is_some (option_and_then (λ s. option_map shape_of (held_at nodes s)) o)) at
    ∙ ap (λ o. is_some (option_map shape_of o)) held.1

-- a walk goes on where it came to
pub walk-append : (child : ℕ → List ℕ → Option ℕ) (from : ℕ) (path rest : List (List ℕ)) → slot_below child from (path ++ rest) ≡ option_and_then (λ t. slot_below child t rest) (slot_below child from path)
walk-append child from [] rest = refl
walk-append child from (part ∷ parts) rest =
    elim (child from part) as (λ o. option_and_then (λ t. slot_below child t (parts ++ rest)) o ≡ option_and_then (λ t. slot_below child t rest) (option_and_then (λ t. slot_below child t parts) o)) [
      | None ↦ refl
      | Some t ↦ walk-append child t parts rest
    ]

-- where an entry stands below a slot, its first part there is a child
child-found : (nodes : List (Option Held)) (tree : List TreeEntry) (source : List (List ℕ)) (name : List ℕ) (rest : List (List ℕ)) (slot : ℕ) → HasShapeOf nodes tree → is_root (source ++ name ∷ rest) ≡ false → slot_at nodes source ≡ Some slot → is_some (entry_at (source ++ name ∷ rest) tree) ≡ true → (k : ℕ) × (child_of nodes slot name ≡ Some k)
child-found nodes tree source name rest slot shape below at found = by (child_of nodes slot name) refl where
  by : (o : Option ℕ) → child_of nodes slot name ≡ o → (k : ℕ) × (child_of nodes slot name ≡ Some k)
  by (Some k) e = (k, e)
  by None e =
      let none : slot_at nodes (source ++ name ∷ rest) ≡ None =
      walk-append (child_of nodes) 0 source (name ∷ rest) ∙ ap (option_and_then (λ t. slot_below (child_of nodes) t (name ∷ rest))) at ∙ ap (option_and_then (λ t. slot_below (child_of nodes) t rest)) e in
      absurd (false≢true (sym (entry-some nodes tree (source ++ name ∷ rest) shape below ∙ ap (λ o. is_some (option_and_then (λ s. option_map shape_of (held_at nodes s)) o)) none) ∙ found))

-- ---- a node at a path of so many bytes and parts

-- below a name in a slot's folder, nothing would be too deep
pub record IsShallow (nodes : List (Option Held)) (slot bytes parts : ℕ) (name : List ℕ) : Type 0 where
  pub shallow : (tree : List TreeEntry) (source target : List (List ℕ)) → HasShapeOf nodes tree → slot_at nodes source ≡ Some slot → is_root source ≡ false → is_root target ≡ false → length (text_of_path target) ≡ bytes → length target ≡ parts → makes_deep (source ++ name ∷ []) (target ++ name ∷ []) tree ≡ false
  pub fits : (k : ℕ) → child_of nodes slot name ≡ Some k → FitsBelow nodes k (bytes + 1 + length name) (parts + 1)

pub deep-numbers : (target : List (List ℕ)) (bytes parts : ℕ) → length (text_of_path target) ≡ bytes → length target ≡ parts → is_deep target ≡ (nat_lt 1024 bytes || nat_lt 32 parts)
deep-numbers target bytes parts b p = ap (λ n. nat_lt 1024 n || nat_lt 32 (length target)) b ∙ ap (λ n. nat_lt 1024 bytes || nat_lt 32 n) p

-- the node itself is too deep
pub deep-here : (nodes : List (Option Held)) (tree : List TreeEntry) (source target : List (List ℕ)) (slot bytes parts : ℕ) → IsTable nodes → HasShapeOf nodes tree → slot_at nodes source ≡ Some slot → is_root source ≡ false → length (text_of_path target) ≡ bytes → length target ≡ parts → (nat_lt 1024 bytes || nat_lt 32 parts) ≡ true → makes_deep source target tree ≡ true
deep-here nodes tree source target slot bytes parts table shape at below b p h =
    here-deep source target tree (entry-there nodes tree source slot table shape below at) (deep-numbers target bytes parts b p ∙ h)

-- neither the node nor anything below one of its names is too deep
pub deep-nowhere : (nodes : List (Option Held)) (tree : List TreeEntry) (source target : List (List ℕ)) (slot bytes parts : ℕ) → HasShapeOf nodes tree → slot_at nodes source ≡ Some slot → is_root source ≡ false → is_root target ≡ false → length (text_of_path target) ≡ bytes → length target ≡ parts → (nat_lt 1024 bytes || nat_lt 32 parts) ≡ false → ((name : List ℕ) (k : ℕ) → child_of nodes slot name ≡ Some k → IsShallow nodes slot bytes parts name) → makes_deep source target tree ≡ false
deep-nowhere nodes tree source target slot bytes parts shape at below to b p h all = none-deep source target tree one where
  shallow : is_deep target ≡ false
  shallow = deep-numbers target bytes parts b p ∙ h

  inside : (path rest : List (List ℕ)) → path ≡ source ++ rest → is_some (entry_at path tree) ≡ true → is_deep (target ++ rest) ≡ false
  inside path [] e f = ap is_deep (append-nil target) ∙ shallow
  inside path (name ∷ rest) e f =
      let root : is_root (source ++ name ∷ rest) ≡ false = some_parts (source ++ name ∷ rest) (omega (arith, length-append source (name ∷ rest))) in
      let found : is_some (entry_at (source ++ name ∷ rest) tree) ≡ true = subst (λ q. is_some (entry_at q tree) ≡ true) e f in
      let child = child-found nodes tree source name rest slot shape root at found in
      let none : deep_entry (source ++ name ∷ []) (target ++ name ∷ []) (source ++ name ∷ rest) ≡ false =
      found-shallow (source ++ name ∷ []) (target ++ name ∷ []) tree (source ++ name ∷ rest) ((all name child.0 child.1).shallow tree source target shape at below to b p) found in
      let within : is_within (source ++ name ∷ []) (source ++ name ∷ rest) ≡ true = subst (λ q. is_within (source ++ name ∷ []) q ≡ true) (append_assoc source (name ∷ []) rest) (within-append (source ++ name ∷ []) rest) in
      let moves : moved_path (source ++ name ∷ []) (target ++ name ∷ []) (source ++ name ∷ rest) ≡ target ++ name ∷ rest =
      (within-longer source target name (source ++ name ∷ rest) within).1 ∙ ap (λ r. target ++ r) (drop-append_seam source (name ∷ rest)) in
      sym (ap (λ v. v && is_deep (moved_path (source ++ name ∷ []) (target ++ name ∷ []) (source ++ name ∷ rest))) within ∙ ap is_deep moves) ∙ none

  one : (path : List (List ℕ)) → is_some (entry_at path tree) ≡ true → deep_entry source target path ≡ false
  one path f = elim (cases_Bool (is_within source path)) [
    | inr g ↦ ap (λ v. v && is_deep (moved_path source target path)) g
    | inl g ↦ ap (λ v. v && is_deep (moved_path source target path)) g ∙ inside path (drop (length source) path) (within-parts source path g) f
  ]

-- how long the text of a path is with one part more
pub text-more : (target : List (List ℕ)) (name : List ℕ) → is_root target ≡ false → length (text_of_path (target ++ name ∷ [])) ≡ length (text_of_path target) + 1 + length name
text-more target name below = ap length (text-append target (name ∷ []) below) ∙ (omega (arith, length-append (text_of_path target) ((47 ∷ name) ++ []), length-append (47 ∷ name) []))

-- a child's own answer, for the folder that it is in
pub child-at : (nodes : List (Option Held)) (source : List (List ℕ)) (name : List ℕ) (slot child : ℕ) → slot_at nodes source ≡ Some slot → child_of nodes slot name ≡ Some child → slot_at nodes (source ++ name ∷ []) ≡ Some child
child-at nodes source name slot child at is = walk-snoc (child_of nodes) 0 source name ∙ ap (option_and_then (λ t. child_of nodes t name)) at ∙ is

-- where neither a slot's node nor what is below its entries is too deep, nothing below it is
pub fits-below : (nodes : List (Option Held)) (slot bytes parts : ℕ) → (nat_lt 1024 bytes || nat_lt 32 parts) ≡ false → ((name : List ℕ) (k : ℕ) → child_of nodes slot name ≡ Some k → FitsBelow nodes k (bytes + 1 + length name) (parts + 1)) → FitsBelow nodes slot bytes parts
fits-below nodes slot bytes parts h all target [] found to b p walk = ap is_deep (append-nil target) ∙ deep-numbers target bytes parts b p ∙ h
fits-below nodes slot bytes parts h all target (name ∷ rest) found to b p walk =
    let step = and_then-parts (λ t. slot_below (child_of nodes) t rest) (child_of nodes slot name) found walk in
    ap is_deep (sym (append_assoc target (name ∷ []) rest))
    ∙ all name step.0 step.1 (target ++ name ∷ []) rest found (below_root target name) (text-more target name to ∙ omega (arith, b)) (omega (arith, length-append target (name ∷ []), p)) step.2

-- ---- over a folder's map

slice_get-parts : {X : Type 0} (xs : List X) (i : ℕ) (x : X) → slice_get xs i ≡ Some x → (i < length xs) × (get_or xs i x ≡ x)
slice_get-parts xs i x h = elim (slice_get_cases xs i).1 [
  | inl w ↦ (w.1, get_or_from_slice_get xs i x x h)
  | inr w ↦ absurd (let both : None ≡ Some x = sym w.1 ∙ h in cc)
]

-- the child that the map gives is one of the table
pub child-in : (nodes : List (Option Held)) (slot : ℕ) (name : List ℕ) (child : ℕ) → child_of nodes slot name ≡ Some child → child < length nodes
child-in nodes slot name child e = (child_of-Some nodes slot name child e).0

-- what holds of each entry of a folder's map holds of each child
pub entries-all : (nodes : List (Option Held)) (slot bytes parts : ℕ) (m : tree.BTreeMap (List ℕ) ℕ) → ((name : List ℕ) → tree.get (slice_cmp nat_cmp) m name ≡ child_of nodes slot name) → All (λ e. IsShallow nodes slot bytes parts e.0) m.entries → (name : List ℕ) (k : ℕ) → child_of nodes slot name ≡ Some k → IsShallow nodes slot bytes parts name
entries-all nodes slot bytes parts m found all name k e =
    let at = place_from_lookup (tree.is_at (slice_cmp nat_cmp name)) m.entries k (found name ∙ e) in
    let place = slice_get-parts m.entries at.0 (at.1, k) at.2 in
    let is : name ≡ at.1 = (same_name-Decides name at.1).0 at.3 in
    let P : List ℕ → Type 0 = λ n. IsShallow nodes slot bytes parts n in
    let Q : List ℕ × ℕ → Type 0 = λ x. IsShallow nodes slot bytes parts x.0 in
    subst P (sym is) (subst Q place.1 (all at.0 (at.1, k) place.0))

-- what isn't too deep has few parts, and few bytes
pub few-parts : (bytes parts : ℕ) → (nat_lt 1024 bytes || nat_lt 32 parts) ≡ false → parts ≤ 32
few-parts bytes parts h = let both = or_parts (nat_lt 1024 bytes) (nat_lt 32 parts) h in let p = both.1 in grind (arith, nat_tests)

pub few-bytes : (bytes parts : ℕ) → (nat_lt 1024 bytes || nat_lt 32 parts) ≡ false → bytes ≤ 1024
few-bytes bytes parts h = let both = or_parts (nat_lt 1024 bytes) (nat_lt 32 parts) h in let p = both.0 in grind (arith, nat_tests)
