use Rattle.std.proofs.Common.{ℕ, ◌<◌, ◌≤◌, length, get_or}
use Rattle.vb_frozen.specs.declared.entry.FrozenEntry.{FrozenEntry}
use Rattle.vb_helper.specs.Scrubs.{due_in}
use Rattle.vb_helper.proofs.following_page.next_page.Given as goal

-- no entry before this one has a page that is due
abbrev pub invariant-loop-i : goal.invariant-loop-i
invariant-loop-i l = (k : ℕ) (d : FrozenEntry) → k < l.i → length (get_or l.order k d).refs ≤ due_in l.treated (get_or l.order k d)
