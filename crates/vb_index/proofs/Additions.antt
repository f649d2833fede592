-- A new entry in the least free slot, and a node put into its own.
use Rattle.std.proofs.Common.{◌≡◌, ℕ, zero, suc, ◌<◌, false, cond, inl, inr, replicate, List, [], ◌∷◌, ◌++◌, length, set, Option, Some, None, Result, Ok, Err, OnOk, refl, sym, ap, ◌∙◌, subst, arith}
use Rattle.std.specs.Option.{option_map, option_and_then}
use Rattle.std.proofs.lemmas.Bool.{cases_Bool, false≢true}
use Rattle.std.proofs.lemmas.Bool.Decides.{Decides-eqb}
use Rattle.vb_tree.specs.declared.tree.Kind.{Kind}
use Rattle.vb_tree.specs.declared.tree.Kind.TheVariants.{Folder, File}
use Rattle.vb_tree.specs.declared.tree.TreeEntry.{TreeEntry}
use Rattle.vb_tree.specs.Trees.{is_root, insert_entry, parent_of, name_of}
use Rattle.vb_index.specs.declared.held.Held.{Held}
use Rattle.vb_index.specs.Nodes.{root_held, held_at, holds_folder, child_of, slot_at, slot_below, IsHeld, IsTable}
use Rattle.vb_index.specs.Indexes.{shape_of, shape_at, shape_in, shape_of_entry, HasShapeOf, IsPlace, IsLeastFree, new_held}
use Rattle.vb_index.proofs.Beginnings.{fresh-child, fresh-count, fresh-pages}
use Rattle.vb_index.proofs.Growth.{Fills, grown, path-split}

-- what two facts on Ok give together
pub on_ok-both : {T E A B C : Type 0} (r : Result T E) → OnOk r A → OnOk r B → (A → B → C) → OnOk r C
on_ok-both (Ok x) a b f = f a b
on_ok-both (Err e) a b f = tt

new_fits : (slot : ℕ) (kind : Kind) (folder : ℕ) (name : List ℕ) → IsHeld slot (new_held slot kind folder name)
new_fits slot Folder folder name = record { at_slot = refl; either = refl; folder_empty = λ h. refl; short = omega arith; each_page = refl }
new_fits slot File folder name = record { at_slot = refl; either = refl; folder_empty = λ h. refl; short = omega arith; each_page = refl }

pub new_shape : (slot : ℕ) (kind : Kind) (folder : ℕ) (name : List ℕ) (path : List (List ℕ)) → shape_of_entry (record { path = path; kind = kind; bytes = [] }) ≡ shape_of (new_held slot kind folder name)
new_shape slot Folder folder name path = refl
new_shape slot File folder name path = refl

above : (nodes : List (Option Held)) (slot : ℕ) → IsTable nodes → held_at nodes slot ≡ None → 0 < slot
above nodes zero table free = absurd (false≢true (sym (ap holds_folder free) ∙ table.root))
above nodes (suc slot) table free = omega arith

-- a new entry fits into the least free slot
pub place-fills : (nodes : List (Option Held)) (parts : List (List ℕ)) (folder slot : ℕ) (kind : Kind) → IsPlace nodes parts folder → IsLeastFree nodes slot → Fills nodes slot (new_held slot kind folder (name_of parts))
place-fills nodes parts folder slot kind p l = record {
  there = l.there;
  above_root = above nodes slot p.table l.free;
  free = l.free;
  in_folder = p.in_folder;
  new_name = p.new_name;
  fits = new_fits slot kind folder (name_of parts);
}

-- a new entry in the least free slot is a new entry of every tree of that shape
pub added : (nodes new : List (Option Held)) (tree : List TreeEntry) (parts : List (List ℕ)) (folder slot : ℕ) (kind : Kind) (held : Held) → IsPlace nodes parts folder → IsLeastFree nodes slot → HasShapeOf nodes tree → held ≡ new_held slot kind folder (name_of parts) → new ≡ set nodes slot (Some held) → HasShapeOf new (insert_entry (record { path = parts; kind = kind; bytes = [] }) tree)
added nodes new tree parts folder slot kind held p l shape is e =
    let P : List (Option Held) → Type 0 = λ ns. HasShapeOf ns (insert_entry (record { path = parts; kind = kind; bytes = [] }) tree) in
    subst P (sym (e ∙ ap (λ h. set nodes slot (Some h)) is))
    (grown nodes tree slot (new_held slot kind folder (name_of parts)) (parent_of parts) (record { path = parts; kind = kind; bytes = [] }) p.table shape (place-fills nodes parts folder slot kind p l) p.at (path-split parts p.below_root) (new_shape slot kind folder (name_of parts) parts))

-- a node in its own slot is a new entry of every tree of that shape
pub put_grown : (nodes new : List (Option Held)) (tree : List TreeEntry) (slot : ℕ) (held : Held) (at : List (List ℕ)) (entry : TreeEntry) → IsTable nodes → new ≡ set nodes slot (Some held) → HasShapeOf nodes tree → Fills nodes slot held → slot_at nodes at ≡ Some held.node.parent → entry.path ≡ at ++ held.node.name ∷ [] → shape_of_entry entry ≡ shape_of held → HasShapeOf new (insert_entry entry tree)
put_grown nodes new tree slot held at entry table e shape f there path alike =
    let P : List (Option Held) → Type 0 = λ ns. HasShapeOf ns (insert_entry entry tree) in
    subst P (sym e) (grown nodes tree slot held at entry table shape f there path alike)

len_zero : (part : List ℕ) (parts : List (List ℕ)) → is_root (part ∷ parts) ≡ false
len_zero part parts = elim (cases_Bool (is_root (part ∷ parts))) [ inr h ↦ h | inl h ↦ absurd (let is = (Decides-eqb (length (part ∷ parts)) 0).0 h in omega (arith, is)) ]

-- the empty tree has the shape of a root without entries
pub fresh-shape : (n : ℕ) → HasShapeOf (Some root_held ∷ replicate n None) []
fresh-shape n = record { same = same; as_many = fresh-count n; as_large = fresh-pages n } where
  same : (path : List (List ℕ)) → shape_at (Some root_held ∷ replicate n None) path ≡ shape_in path []
  same [] = refl
  same (part ∷ parts) =
      ap (λ o. option_and_then (λ slot. option_map shape_of (held_at (Some root_held ∷ replicate n None) slot)) (option_and_then (λ slot. slot_below (child_of (Some root_held ∷ replicate n None)) slot parts) o)) (fresh-child n 0 part)
      ∙ sym (ap (λ v. cond v (Some (record { kind = Folder; len = 0 })) None) (len_zero part parts))
