use Rattle.std.proofs.Common.{◌≡◌, ◌+◌, length, drop}
use Rattle.vb_hist.specs.Histories.{up_to_freeze}
use Rattle.vb_hist.proofs.survival.front_len.Given as goal

abbrev pub invariant-loop-i : goal.invariant-loop-i
invariant-loop-i l = length (up_to_freeze l.epoch l.line) ≡ l.i + length (up_to_freeze l.epoch (drop l.i l.line))
