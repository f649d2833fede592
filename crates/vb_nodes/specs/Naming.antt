-- Names that are taken: for each folder those of the entries seen so far.
use Rattle.std.specs.Prelude.{◌≡◌, ℕ, ◌<◌, Bool, ◌&&◌, ◌||◌, ◌==◌, List, length, vec_len, take, get_or}
use Rattle.std.specs.Global.{Vec}
use Rattle.std.specs.List.{list_any}
use Rattle.std.specs.Ordering.{nat_cmp}
use Rattle.std.specs.Cmp.Lexicographic.{slice_cmp}
use Rattle.std.specs.BTreeSet as sorted
use Rattle.vb_inode.specs.declared.node.Node.{Node}
use Rattle.vb_index.specs.Nodes.{same_name}
use Rattle.vb_nodes.specs.Faults.{is_entry}

-- whether the names of a folder have this one
abbrev pub is_taken : Vec (sorted.BTreeSet (List ℕ)) → ℕ → List ℕ → sorted.BTreeSet (List ℕ) → Bool
is_taken names folder name d = sorted.contains (slice_cmp nat_cmp) (get_or names.items folder d) name

-- one folder has one name more, and all else is as before
abbrev pub AddsName : Vec (sorted.BTreeSet (List ℕ)) → Vec (sorted.BTreeSet (List ℕ)) → ℕ → List ℕ → Type 0
AddsName before after folder name = (other : ℕ) (key : List ℕ) (d : sorted.BTreeSet (List ℕ)) → other < vec_len before
    → is_taken after other key d ≡ ((folder == other && same_name name key) || is_taken before other key d)

-- each folder has the names of its entries in the slots below one
pub record AreNamesBelow (nodes : List Node) (slot : ℕ) (names : List (sorted.BTreeSet (List ℕ))) : Type 0 where
  pub as_many : length names ≡ length nodes
  pub each : (folder : ℕ) (name : List ℕ) (d : sorted.BTreeSet (List ℕ)) → folder < length nodes
      → sorted.contains (slice_cmp nat_cmp) (get_or names folder d) name ≡ list_any (is_entry folder name) (take slot nodes)
