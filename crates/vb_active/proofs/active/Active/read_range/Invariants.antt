use Rattle.std.proofs.Common.{◌≡◌, ◌-◌, ◌≤◌, Some}
use Rattle.vb_disk.specs.States.{DiskState}
use Rattle.vb_active.specs.Views.{Backs}
use Rattle.vb_active.proofs.Causes.{Looked}
use Rattle.vb_active.proofs.Ranges.{ReadSoFar}
use Rattle.vb_active.proofs.active.Active.read_range.Given as goal

abbrev pub invariant-loop-at : goal.invariant-loop-at
invariant-loop-at g l = record {
  low : l.start ≤ l.at;
  high : l.at ≤ l.end;
  read : (d : DiskState) → g.D.Disk.told l.initial.disk ≡ Some d → Backs d l.self → ReadSoFar d l.self l.slot l.start l.at l.end l.bytes;
  looked : Looked (g.D.Disk.told l.initial.disk) (g.D.Disk.told l.disk) (g.D.Disk.seen l.initial.disk) (g.D.Disk.seen l.disk) (g.D.Disk.faults l.initial.disk) (g.D.Disk.faults l.disk) (g.D.Disk.failures_left l.initial.disk) (g.D.Disk.failures_left l.disk);
}

abbrev pub decreases-loop-at : goal.decreases-loop-at
decreases-loop-at g l = l.end - l.at
