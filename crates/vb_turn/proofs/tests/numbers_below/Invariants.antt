-- The numbers so far are those below i.
use Rattle.std.proofs.Common.{◌≡◌, ◌≤◌, ℕ, length}
use Rattle.vb_turn.specs.Numbers.{AreApart, times}
use Rattle.vb_turn.proofs.tests.numbers_below.Given as goal

abbrev pub invariant-loop-i : goal.invariant-loop-i
invariant-loop-i l = (length l.numbers.items ≡ l.i) × AreApart l.numbers.items × ((number : ℕ) → l.i ≤ number → times number l.numbers.items ≡ 0)
