-- Nodes that were read by slot.
use Rattle.std.specs.Prelude.{◌≡◌, ℕ, ◌<◌, Bool, List, length}
use Rattle.std.specs.List.{All}
use Rattle.vb_inode.specs.declared.node.Node.{Node}
use Rattle.vb_inode.specs.Reading.{IsNodeOf}
use Rattle.vb_nodes.specs.Paths.{node_at}
use Rattle.vb_journal.specs.declared.recover_error.RecoverError.{RecoverError}
use Rattle.vb_journal.specs.Recoveries.{is_retried as is_retried_in_recovery}

-- nodes of a store with so many, the first of them by slot
pub record AreRead (nodes : ℕ) (found : List Node) : Type 0 where
  pub own_slots : (slot : ℕ) → slot < length found → (node_at found slot).slot ≡ slot
  pub of_store : All (λ node. IsNodeOf nodes node) found

-- whether the same call is made again after it
abbrev pub is_retried : RecoverError → Bool
is_retried error = is_retried_in_recovery error
