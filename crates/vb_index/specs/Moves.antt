-- Moves: what a rename makes of the nodes.
use Rattle.std.specs.Prelude.{◌≡◌, ℕ, ◌<◌, Bool, true, false, ◌&&◌, ◌||◌, if◌then◌else◌, IsSome, slice_set, List, Option, Some, None}
use Rattle.std.specs.Option.{option_map}
use Rattle.vb_path.specs.Paths.{same_path}
use Rattle.vb_tree.specs.Trees.{parent_of, name_of}
use Rattle.vb_tree.specs.Renames.{is_within}
use Rattle.vb_index.specs.declared.held.Held.{Held}
use Rattle.vb_index.specs.Heights.{IsRooted}
use Rattle.vb_index.specs.Nodes.{held_at, holds_folder, child_of, slot_at, IsTable}

-- what is held of a node, once it has this name in this folder
abbrev pub placed_in : ℕ → List ℕ → Held → Held
placed_in folder name held = record held { node = record held.node { parent = folder; name = name } }

-- the nodes, once the node of a slot has this name in this folder
abbrev pub with_place : List (Option Held) → ℕ → ℕ → List ℕ → List (Option Held)
with_place nodes slot folder name = slice_set nodes slot (option_map (placed_in folder name) (held_at nodes slot))

-- the nodes without that of a slot, where there is such a slot
abbrev pub without_slot : List (Option Held) → Option ℕ → List (Option Held)
without_slot nodes None = nodes
without_slot nodes (Some slot) = slice_set nodes slot None

-- the nodes, once the node of a slot has this name in a folder, where there are such slots
abbrev pub with_place_in : List (Option Held) → Option ℕ → Option ℕ → List ℕ → List (Option Held)
with_place_in nodes None folder name = nodes
with_place_in nodes (Some slot) None name = nodes
with_place_in nodes (Some slot) (Some folder) name = with_place nodes slot folder name

-- the nodes after a rename: what stood at the target is gone, the node at the source has its place, and no other changes
abbrev pub renamed_nodes : List (List ℕ) → List (List ℕ) → List (Option Held) → List (Option Held)
renamed_nodes source target nodes = if same_path source target then nodes else
    with_place_in (without_slot nodes (slot_at nodes target)) (slot_at nodes source) (slot_at nodes (parent_of target)) (name_of target)

-- the slot of the file that a rename replaces
abbrev pub replaced_slot : List (List ℕ) → List (List ℕ) → List (Option Held) → Option ℕ
replaced_slot source target nodes = if same_path source target then None else slot_at nodes target

-- a node may get a place: it isn't the root, and its name is new in the folder
pub record MayPlace (nodes : List (Option Held)) (slot folder : ℕ) (name : List ℕ) : Type 0 where
  pub above_root : 0 < slot
  pub there : IsSome (held_at nodes slot)
  pub in_folder : holds_folder (held_at nodes folder) ≡ true
  pub new_name : child_of nodes folder name ≡ None

-- a node may replace another: neither is the root, and the other has no entries
pub record MayReplace (nodes : List (Option Held)) (slot other folder : ℕ) (name : List ℕ) : Type 0 where
  pub above_root : 0 < slot
  pub there : IsSome (held_at nodes slot)
  pub other_there : IsSome (held_at nodes other)
  pub apart : slot ≡ other → ⊥
  pub taken : child_of nodes folder name ≡ Some other
  pub bare : (entry : List ℕ) → child_of nodes other entry ≡ None

-- whether what has the target's name keeps a node from it: one of the two is a folder
abbrev pub blocks : List (Option Held) → ℕ → Option ℕ → Bool
blocks nodes slot None = false
blocks nodes slot (Some other) = holds_folder (held_at nodes slot) || holds_folder (held_at nodes other)

-- a node may move to a path: into a folder outside of it, where the name is free or that of a file as it is
pub record IsMove (nodes : List (Option Held)) (source target : List (List ℕ)) (slot folder : ℕ) (replaced : Option ℕ) : Type 0 where
  pub table : IsTable nodes
  pub folder_at : slot_at nodes (parent_of target) ≡ Some folder
  pub in_folder : holds_folder (held_at nodes folder) ≡ true
  pub outside : (holds_folder (held_at nodes slot) && is_within source target) ≡ false
  pub taken : child_of nodes folder (name_of target) ≡ replaced
  pub not_blocked : blocks nodes slot replaced ≡ false
  pub rooted : IsRooted nodes
