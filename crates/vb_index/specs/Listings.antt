-- Listings: the entries of a folder by name, and all nodes in path order.
use Rattle.std.specs.Prelude.{◌≡◌, ℕ, List, [], ◌∷◌, map, Contains, Option, Some, None}
use Rattle.vb_tree.specs.declared.tree.TreeEntry.{TreeEntry}
use Rattle.vb_tree.specs.Trees.{AreNamesInOrder}
use Rattle.vb_index.specs.declared.held.Held.{Held}
use Rattle.vb_index.specs.Nodes.{held_at, child_of, slot_at}

-- the name of what a slot holds, and no bytes for a free slot
abbrev pub name_in : Option Held → List ℕ
name_in None = []
name_in (Some held) = held.node.name

-- the name of the node in a slot
abbrev pub name_at : List (Option Held) → ℕ → List ℕ
name_at nodes slot = name_in (held_at nodes slot)

-- these are the slots of a folder's entries, strictly in byte order of their names
pub record AreEntries (nodes : List (Option Held)) (folder : ℕ) (slots : List ℕ) : Type 0 where
  pub in_order : AreNamesInOrder (map (name_at nodes) slots)
  pub each : map (child_of nodes folder) (map (name_at nodes) slots) ≡ map (λ slot. Some slot) slots
  pub all : (name : List ℕ) (slot : ℕ) → child_of nodes folder name ≡ Some slot → Contains slots slot

-- all paths of a tree, in path order: the root's is the first
abbrev pub paths_of : List TreeEntry → List (List (List ℕ))
paths_of tree = [] ∷ map (λ e. e.path) tree

-- these are the slots to which all paths of a tree lead, in path order
abbrev pub AreInPathOrder : List (Option Held) → List TreeEntry → List ℕ → Type 0
AreInPathOrder nodes tree slots = map (λ slot. Some slot) slots ≡ map (slot_at nodes) (paths_of tree)
