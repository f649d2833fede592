use Rattle.std.proofs.Common.{◌≡◌, take}
use Rattle.vb_hist.specs.Histories.{surviving}
use Rattle.vb_hist.proofs.survival.surviving_entries.Given as goal

abbrev pub invariant-loop-entry : goal.invariant-loop-entry
invariant-loop-entry l = l.line.items ≡ surviving l.start (take l.entry-index l.entries)
