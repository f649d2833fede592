use Rattle.std.proofs.Common.{◌≡◌, ℕ, ◌<◌, List, length, take, vec_len, get_or}
use Rattle.std.specs.Ordering.{nat_cmp}
use Rattle.std.specs.Cmp.Lexicographic.{slice_cmp}
use Rattle.std.specs.BTreeMap as tree
use Rattle.vb_index.specs.Nodes.{child_of}
use Rattle.vb_index.proofs.copies.entries_of.Given as goal

abbrev pub invariant-loop-slot : goal.invariant-loop-slot
invariant-loop-slot l =
    (vec_len l.children ≡ length l.nodes)
    × ((folder : ℕ) (name : List ℕ) (d : tree.BTreeMap (List ℕ) ℕ) → folder < length l.nodes → tree.get (slice_cmp nat_cmp) (get_or l.children.items folder d) name ≡ child_of (take l.slot l.nodes) folder name)
