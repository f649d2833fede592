use Rattle.std.proofs.Common.{◌≡◌, ◌+◌, ◌<◌, ◌≤◌, min, Some, None, IsSome}
use Rattle.vb_cause.specs.Causes.{left_of}
use Rattle.vb_cause.specs.Faults.{greatest_count}
use Rattle.vb_disk.specs.States.{DiskState, after_calls}
use Rattle.vb_store.specs.Formats.{home_calls}
use Rattle.vb_store.proofs.new_homes.write_homes.Given as goal

abbrev pub invariant-loop-slot : goal.invariant-loop-slot
invariant-loop-slot g l = record {
  told : (d : DiskState) → g.D.Disk.told l.initial.disk ≡ Some d → g.D.Disk.told l.disk ≡ Some (after_calls d (home_calls l.slot));
  untold : g.D.Disk.told l.initial.disk ≡ None → g.D.Disk.told l.disk ≡ None;
  seen : g.D.Disk.seen l.disk ≡ g.D.Disk.seen l.initial.disk;
  faults : g.D.Disk.faults l.initial.disk ≤ g.D.Disk.faults l.disk;
  left_told : IsSome (g.D.Disk.failures_left l.initial.disk) → IsSome (g.D.Disk.failures_left l.disk);
  left_kept : IsSome (g.D.Disk.failures_left l.initial.disk) → left_of (g.D.Disk.failures_left l.disk) ≤ left_of (g.D.Disk.failures_left l.initial.disk);
  none : l.slot ≡ 0 → g.D.Disk.calls l.disk ≡ g.D.Disk.calls l.initial.disk;
  some : 0 < l.slot → g.D.Disk.calls l.disk ≡ min (g.D.Disk.calls l.initial.disk + l.slot) greatest_count;
}
