-- Files of an index, by their paths.
use Rattle.std.specs.Prelude.{◌≡◌, ℕ, true, List, Option, Some}
use Rattle.vb_index.specs.declared.held.Held.{Held}
use Rattle.vb_index.specs.Nodes.{held_at, slot_at, is_file_node, IsTable}

-- a file of this length stands at a path, in this slot
pub record IsFileOf (nodes : List (Option Held)) (path : List (List ℕ)) (slot len : ℕ) : Type 0 where
  pub table : IsTable nodes
  pub at : slot_at nodes path ≡ Some slot
  pub held : Held
  pub there : held_at nodes slot ≡ Some held
  pub file : is_file_node held.node.kind ≡ true
  pub long : held.node.length ≡ len
