use Rattle.std.proofs.Common.{◌≡◌, ℕ, false, ◌&&◌, length}
use Rattle.std.specs.Bool.{◌==◌}
use Rattle.std.specs.Prelude.{nat_le}
use Rattle.vb_pages.specs.Tables.{key_of, kept_at}
use Rattle.vb_pages.proofs.page_table.PageTable.cut.Given as goal

abbrev pub invariant-loop-key : goal.invariant-loop-key
invariant-loop-key l = (s k : ℕ) → (s == l.slot && nat_le l.first k) ≡ false → kept_at l.self-inside.entries.entries (key_of s k) ≡ kept_at l.initial.self-inside.entries.entries (key_of s k)

abbrev pub decreases-loop-key : goal.decreases-loop-key
decreases-loop-key l = length l.self-inside.entries.entries
