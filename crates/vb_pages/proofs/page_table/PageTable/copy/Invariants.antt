-- the copy has what was taken, and the rest is still to come
use Rattle.std.proofs.Common.{◌≡◌, ◌++◌}
use Rattle.vb_pages.proofs.page_table.PageTable.copy.Given as goal

abbrev pub invariant-loop-key : goal.invariant-loop-key
invariant-loop-key l = l.entries.entries ++ l.key-iterator ≡ l.self
