use Rattle.std.proofs.Common.{◌≡◌, ℕ, ◌<◌, false, List, vec_len, get_or}
use Rattle.std.specs.Ordering.{nat_cmp}
use Rattle.std.specs.Cmp.Lexicographic.{slice_cmp}
use Rattle.std.specs.BTreeSet as sorted
use Rattle.vb_nodes.proofs.names.no_names.Given as goal

abbrev pub invariant-loop-folder : goal.invariant-loop-folder
invariant-loop-folder l =
    (vec_len l.names ≡ l._folder)
    × ((folder : ℕ) (name : List ℕ) (d : sorted.BTreeSet (List ℕ)) → folder < l._folder → sorted.contains (slice_cmp nat_cmp) (get_or l.names.items folder d) name ≡ false)
