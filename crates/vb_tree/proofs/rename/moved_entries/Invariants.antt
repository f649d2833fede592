use Rattle.std.proofs.Common.{◌≡◌, ◌≤◌, length, drop}
use Rattle.vb_tree.specs.Trees.{without}
use Rattle.vb_tree.specs.Renames.{moved, in_path_order}
use Rattle.vb_tree.proofs.rename.moved_entries.Given as goal

abbrev pub invariant-loop-left : goal.invariant-loop-left
invariant-loop-left l =
    record {
      within : l.left ≤ length l.entries;
      made : l.after.items ≡ in_path_order (moved l.source l.target (without l.target (drop l.left l.entries)));
    }

abbrev pub decreases-loop-left : goal.decreases-loop-left
decreases-loop-left l = l.left
