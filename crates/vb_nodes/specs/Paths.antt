-- Nodes by slot: which node stands where, and the paths that they have by following their parents.
use Rattle.std.specs.Prelude.{◌≡◌, ℕ, zero, suc, ◌<◌, Bool, ◌==◌, if◌then◌else◌, List, [], ◌∷◌, ◌++◌, length, get_or}
use Rattle.std.specs.Fn.{iterate}
use Rattle.std.specs.List.{All}
use Rattle.vb_inode.specs.declared.node.Node.{Node}
use Rattle.vb_inode.specs.declared.node.NodeKind.TheVariants.{Free}
use Rattle.vb_inode.specs.Reading.{IsNodeOf}

-- a node that stands for nothing
abbrev pub free_node : Node
free_node = record { slot = 0; kind = Free; parent = 0; name = []; length = 0; maps = [] }

-- the node in a slot
abbrev pub node_at : List Node → ℕ → Node
node_at nodes slot = get_or nodes slot free_node

-- there is a node for each slot of a store: it stands at its own, and is one of that store
pub record AreBySlot (nodes : List Node) : Type 0 where
  pub own_slots : (slot : ℕ) → slot < length nodes → (node_at nodes slot).slot ≡ slot
  pub of_store : All (λ node. IsNodeOf (length nodes) node) nodes

-- the slot of the folder that a slot names as its parent
abbrev pub parent_in : List Node → ℕ → ℕ
parent_in nodes slot = (node_at nodes slot).parent

-- the slot that so many steps lead to, each from a slot to its parent
abbrev pub ancestor : List Node → ℕ → ℕ → ℕ
ancestor nodes steps slot = iterate (parent_in nodes) steps slot

-- twice as many steps as a store can have nodes
unfoldable pub enough_steps : ℕ
enough_steps = 131072

-- whether a slot's parents lead to the root, at slot 0
abbrev pub leads_to_root : List Node → ℕ → Bool
leads_to_root nodes slot = ancestor nodes enough_steps slot == 0

-- the part that a slot adds to paths: its name, and nothing for the root
abbrev pub own_part : List Node → ℕ → List (List ℕ)
own_part nodes slot = if slot == 0 then [] else (node_at nodes slot).name ∷ []

-- the last parts of a slot's path: those of so many slots, from parent to child
abbrev pub path_up : List Node → ℕ → ℕ → List (List ℕ)
path_up nodes zero slot = []
path_up nodes (suc steps) slot = path_up nodes steps (parent_in nodes slot) ++ own_part nodes slot

-- the path of a slot, where its parents lead to the root
abbrev pub path_in : List Node → ℕ → List (List ℕ)
path_in nodes slot = path_up nodes enough_steps slot
