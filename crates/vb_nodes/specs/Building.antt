-- Indexes that are being built: the nodes are put one depth after the other.
use Rattle.std.specs.Prelude.{◌≡◌, ℕ, ◌&&◌, ◌||◌, ◌==◌, Bool, nat_lt, if◌then◌else◌, List, length, Option, None}
use Rattle.vb_inode.specs.declared.node.Node.{Node}
use Rattle.vb_index.specs.declared.held.Held.{Held}
use Rattle.vb_index.specs.Nodes.{held_at}
use Rattle.vb_nodes.specs.Paths.{node_at, path_in}
use Rattle.vb_nodes.specs.Holdings.{held_from}

-- how many parts the path of a slot has
abbrev pub depth_of : List Node → ℕ → ℕ
depth_of nodes slot = length (path_in nodes slot)

-- whether a slot is above a depth, or at that depth and below a slot
abbrev pub is_placed : List Node → ℕ → ℕ → ℕ → Bool
is_placed nodes depth end slot = nat_lt (depth_of nodes slot) depth || (depth_of nodes slot == depth && nat_lt slot end)

-- an index holds the nodes above a depth, and at that depth those below a slot
pub record HoldsPlaced (nodes : List Node) (depth end : ℕ) (held : List (Option Held)) : Type 0 where
  pub as_many : length held ≡ length nodes
  pub each : (slot : ℕ) → held_at held slot ≡ (if is_placed nodes depth end slot then held_from (node_at nodes slot) else None)
