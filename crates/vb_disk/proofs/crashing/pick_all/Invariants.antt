use Rattle.std.proofs.Common.{◌≡◌}
use Rattle.vb_disk.proofs.StepsOfCrashes.{IsPicking}
use Rattle.vb_disk.proofs.crashing.pick_all.Given as goal

abbrev pub invariant-loop-pick : goal.invariant-loop-pick
invariant-loop-pick l = record {
  picking : IsPicking l.picks l.initial.table.cells l.table.cells l.pick-index;
  size : l.table.size ≡ l.initial.table.size;
}
