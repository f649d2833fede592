-- the entries moved so far and those that are left are the draft's, and there is room for all
use Rattle.std.proofs.Common.{◌≡◌, ◌+◌, ◌≤◌, ◌++◌, length, vec_capacity}
use Rattle.vb_cloud.specs.Stored.{shown_tree, draft_tree, AreUnderTheirPaths}
use Rattle.vb_cloud.proofs.draft.Draft.into_entries.Given as goal

abbrev pub invariant-loop-entry : goal.invariant-loop-entry
invariant-loop-entry l =
    (goal.iterator-loop-entry).can_next l.entry-iterator
    × (goal.iterator-loop-entry).is_finite l.entry-iterator
    × (shown_tree l.shown.items ++ draft_tree l.entry-iterator ≡ l.fn.self.tree)
    × AreUnderTheirPaths l.entry-iterator
    × (length l.shown.items + length l.entry-iterator ≤ vec_capacity l.shown)
