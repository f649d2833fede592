use Rattle.std.proofs.Common.{◌≡◌, map, take, length}
use Rattle.vb_disk.specs.Crashes.{page_of}
use Rattle.vb_disk.proofs.StepsOfCrashes.{IsTearing}
use Rattle.vb_disk.proofs.crashing.tear_all.Given as goal

abbrev pub invariant-loop-page : goal.invariant-loop-page
invariant-loop-page l = record {
  pages : l.pages.items ≡ map page_of (take (length l.pages.items) l.torn);
  tearing : IsTearing l.torn l.initial.table.cells l.table.cells (length l.pages.items);
  size : l.table.size ≡ l.initial.table.size;
}

abbrev pub decreases-loop-page : goal.decreases-loop-page
decreases-loop-page l = length l.pages.items
