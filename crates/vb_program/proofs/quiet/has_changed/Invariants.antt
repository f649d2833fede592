-- whether something was done since the last freeze of the entries so far
use Rattle.std.proofs.Common.{◌≡◌, take}
use Rattle.vb_hist.specs.Quiet.{is_unfrozen}
use Rattle.vb_program.proofs.quiet.has_changed.Given as goal

abbrev pub invariant-loop-entry : goal.invariant-loop-entry
invariant-loop-entry l = l.changed ≡ is_unfrozen (take l.entry-index l.entries)
