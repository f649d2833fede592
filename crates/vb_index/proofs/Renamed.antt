-- A rename that is allowed: what the table may do, and what that makes of the nodes.
use Rattle.std.proofs.Common.{◌≡◌, ℕ, zero, suc, ◌<◌, Bool, true, false, cond, ◌||◌, is_some, List, Option, Some, None, sym, ap, ◌∙◌, subst, arith}
use Rattle.std.proofs.lemmas.Bool.{false≢true}
use Rattle.vb_path.specs.Paths.{same_path}
use Rattle.vb_path.proofs.PathLaws.{same_path-Decides}
use Rattle.vb_tree.specs.Trees.{is_root, parent_of, name_of}
use Rattle.vb_index.specs.declared.held.Held.{Held}
use Rattle.vb_index.specs.Nodes.{held_at, holds_folder, child_of, slot_at, IsTable}
use Rattle.vb_index.specs.Moves.{blocks, with_place, without_slot, with_place_in, renamed_nodes, replaced_slot, IsMove, MayPlace, MayReplace}
use Rattle.vb_index.proofs.Growth.{path-split, slot_holds, no_children}
use Rattle.vb_index.proofs.Newness.{has_parts, slot_at-child}
use Rattle.vb_index.proofs.Tables.{table-forest}
use Rattle.vb_index.proofs.Walks.{last_step, walk-alone}

-- what isn't the root has a slot above the root's
pub slot-above : (nodes : List (Option Held)) (path : List (List ℕ)) (slot : ℕ) → IsTable nodes → is_root path ≡ false → slot_at nodes path ≡ Some slot → 0 < slot
slot-above nodes path zero table below at =
    let last = last_step (child_of nodes) (parent_of path) (name_of path) 0 (subst (λ p. slot_at nodes p ≡ Some 0) (path-split path (has_parts path below)) at) in
    absurd ((table-forest nodes table).root_apart last.0 (name_of path) last.2)
slot-above nodes path (suc slot) table below at = omega arith

-- the slot at the target is that of the entry that has its name
pub target-at : (nodes : List (Option Held)) (source target : List (List ℕ)) (slot folder : ℕ) (replaced : Option ℕ) → is_root target ≡ false → IsMove nodes source target slot folder replaced → slot_at nodes target ≡ replaced
target-at nodes source target slot folder replaced below m = slot_at-child nodes target folder (has_parts target below) m.folder_at ∙ m.taken

there : (nodes : List (Option Held)) (path : List (List ℕ)) (slot : ℕ) → IsTable nodes → slot_at nodes path ≡ Some slot → is_some (held_at nodes slot) ≡ true
there nodes path slot table at = ap is_some (slot_holds nodes table path slot at).1

-- a node may get its place where nothing has the name
pub may-place : (nodes : List (Option Held)) (source target : List (List ℕ)) (slot folder : ℕ) (replaced : Option ℕ) → is_root source ≡ false → slot_at nodes source ≡ Some slot → IsMove nodes source target slot folder replaced → replaced ≡ None → MayPlace nodes slot folder (name_of target)
may-place nodes source target slot folder replaced below at m none = record {
  above_root = slot-above nodes source slot m.table below at;
  there = there nodes source slot m.table at;
  in_folder = m.in_folder;
  new_name = m.taken ∙ none;
}

or_none : (a b : Bool) → (a || b) ≡ false → b ≡ false
or_none true b h = absurd (false≢true (sym h))
or_none false b h = h

-- a node may replace the file that has the name
pub may-replace : (nodes : List (Option Held)) (source target : List (List ℕ)) (slot folder : ℕ) (replaced : Option ℕ) (other : ℕ) → is_root source ≡ false → is_root target ≡ false → same_path source target ≡ false → slot_at nodes source ≡ Some slot → IsMove nodes source target slot folder replaced → replaced ≡ Some other → MayReplace nodes slot other folder (name_of target)
may-replace nodes source target slot folder replaced other below to differ at m is =
    let taken : slot_at nodes target ≡ Some other = target-at nodes source target slot folder replaced to m ∙ is in
    let file : holds_folder (held_at nodes other) ≡ false = or_none (holds_folder (held_at nodes slot)) (holds_folder (held_at nodes other)) (ap (blocks nodes slot) (sym is) ∙ m.not_blocked) in
    record {
      above_root = slot-above nodes source slot m.table below at;
      there = there nodes source slot m.table at;
      other_there = there nodes target other m.table taken;
      apart = λ e. false≢true (sym differ ∙ (same_path-Decides source target).1 (walk-alone (child_of nodes) (table-forest nodes m.table) source target other (at ∙ ap (λ k. Some k) e) taken));
      taken = m.taken ∙ is;
      bare = no_children nodes m.table other file;
    }

-- the nodes after the rename
pub renamed-is : (nodes : List (Option Held)) (source target : List (List ℕ)) (slot folder : ℕ) (replaced : Option ℕ) → is_root target ≡ false → same_path source target ≡ false → slot_at nodes source ≡ Some slot → IsMove nodes source target slot folder replaced → renamed_nodes source target nodes ≡ with_place (without_slot nodes replaced) slot folder (name_of target)
renamed-is nodes source target slot folder replaced to differ at m =
    ap (λ v. cond v nodes (with_place_in (without_slot nodes (slot_at nodes target)) (slot_at nodes source) (slot_at nodes (parent_of target)) (name_of target))) differ
    ∙ ap (λ o. with_place_in (without_slot nodes o) (slot_at nodes source) (slot_at nodes (parent_of target)) (name_of target)) (target-at nodes source target slot folder replaced to m)
    ∙ ap (λ o. with_place_in (without_slot nodes replaced) o (slot_at nodes (parent_of target)) (name_of target)) at
    ∙ ap (λ o. with_place_in (without_slot nodes replaced) (Some slot) o (name_of target)) m.folder_at

-- the slot that it answers
pub replaced-is : (nodes : List (Option Held)) (source target : List (List ℕ)) (slot folder : ℕ) (replaced : Option ℕ) → is_root target ≡ false → same_path source target ≡ false → IsMove nodes source target slot folder replaced → replaced ≡ replaced_slot source target nodes
replaced-is nodes source target slot folder replaced to differ m =
    sym (ap (λ v. cond v None (slot_at nodes target)) differ ∙ target-at nodes source target slot folder replaced to m)
