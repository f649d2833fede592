use Rattle.std.proofs.Common.{◌≡◌, ℕ, ◌<◌, List, vec_len, get_or, None}
use Rattle.std.specs.Ordering.{nat_cmp}
use Rattle.std.specs.Cmp.Lexicographic.{slice_cmp}
use Rattle.std.specs.BTreeMap as tree
use Rattle.vb_index.proofs.fresh.fresh_children.Given as goal

abbrev pub invariant-loop-slot : goal.invariant-loop-slot
invariant-loop-slot l =
    (vec_len l.children ≡ l._slot)
    × ((folder : ℕ) (name : List ℕ) (d : tree.BTreeMap (List ℕ) ℕ) → folder < l._slot → tree.get (slice_cmp nat_cmp) (get_or l.children.items folder d) name ≡ None)
