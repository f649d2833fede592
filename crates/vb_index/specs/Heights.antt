-- Heights: the path that the parents of a slot make, and nodes whose parents lead to the root.
use Rattle.std.specs.Prelude.{◌≡◌, ℕ, zero, suc, ◌<◌, true, false, ◌==◌, if◌then◌else◌, List, [], ◌∷◌, ◌++◌, length, Option, Some, None}
use Rattle.vb_path.specs.Parts.{IsPart}
use Rattle.vb_path.specs.Paths.{text_of_path}
use Rattle.vb_tree.specs.Trees.{is_root}
use Rattle.vb_tree.specs.Renames.{is_deep, is_within, moved_path}
use Rattle.vb_index.specs.declared.held.Held.{Held}
use Rattle.vb_index.specs.Listings.{name_at}
use Rattle.vb_index.specs.Nodes.{held_at, child_of, slot_at, slot_below}

-- the parent of what a slot holds, and slot 0 for a free slot
abbrev pub parent_in : Option Held → ℕ
parent_in None = 0
parent_in (Some held) = held.node.parent

-- the parent of the node in a slot
abbrev pub parent_at : List (Option Held) → ℕ → ℕ
parent_at nodes slot = parent_in (held_at nodes slot)

-- the last parts of a slot's path, at most so many: its name, that of its parent before it, and so on up to the root
abbrev pub path_up : List (Option Held) → ℕ → ℕ → List (List ℕ)
path_up nodes zero slot = []
path_up nodes (suc steps) slot = if slot == 0 then [] else path_up nodes steps (parent_at nodes slot) ++ name_at nodes slot ∷ []

-- the path of a slot, where at most 32 steps from a node to its parent lead to the root
unfoldable pub path_to : List (Option Held) → ℕ → List (List ℕ)
path_to nodes slot = path_up nodes 32 slot

-- the nodes hang on the root: it is its own parent and has no name, each other node has a valid part as its name,
-- its parents lead to the root, and its path has at most 32 parts and 1,024 bytes
pub record IsRooted (nodes : List (Option Held)) : Type 0 where
  pub own_parent : parent_at nodes 0 ≡ 0
  pub no_name : name_at nodes 0 ≡ []
  pub valid : (slot : ℕ) (held : Held) → held_at nodes slot ≡ Some held → 0 < slot → IsPart held.node.name
  pub leads : (slot : ℕ) (held : Held) → held_at nodes slot ≡ Some held → slot_at nodes (path_to nodes slot) ≡ Some slot
  pub shallow : (slot : ℕ) (held : Held) → held_at nodes slot ≡ Some held → is_deep (path_to nodes slot) ≡ false

-- at a path of so many bytes and parts neither a slot's node nor one below it is too deep
abbrev pub FitsBelow : List (Option Held) → ℕ → ℕ → ℕ → Type 0
FitsBelow nodes slot bytes parts = (target rest : List (List ℕ)) (found : ℕ) → is_root target ≡ false
    → length (text_of_path target) ≡ bytes → length target ≡ parts
    → slot_below (child_of nodes) slot rest ≡ Some found → is_deep (target ++ rest) ≡ false

-- nothing that a move takes along gets too deep
abbrev pub StaysShallow : List (Option Held) → List (List ℕ) → List (List ℕ) → Type 0
StaysShallow nodes source target = (path : List (List ℕ)) (slot : ℕ) → slot_at nodes path ≡ Some slot
    → is_within source path ≡ true → is_deep (moved_path source target path) ≡ false

-- a node may stand in a folder under a name: the name is valid, the folder isn't below the node, and nothing gets too deep
pub record MayStand (nodes : List (Option Held)) (slot folder : ℕ) (name : List ℕ) : Type 0 where
  pub valid : IsPart name
  pub outside : is_within (path_to nodes slot) (path_to nodes folder) ≡ false
  pub shallow : StaysShallow nodes (path_to nodes slot) (path_to nodes folder ++ name ∷ [])
