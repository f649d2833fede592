use Rattle.std.proofs.Common.{◌≡◌, ℕ, ◌+◌, List, Some, length}
use Rattle.vb_disk.specs.States.{DiskState}
use Rattle.vb_index.specs.Contents.{HasPages}
use Rattle.vb_tree.specs.Contents.{written_over}
use Rattle.vb_active.specs.Replacing.{ArePagesFrom}
use Rattle.vb_active.specs.Views.{Backs, due_page}
use Rattle.vb_active.proofs.Causes.{Looked}
use Rattle.vb_active.proofs.active.Active.written_run.Given as goal

abbrev pub invariant-loop-page : goal.invariant-loop-page
invariant-loop-page g l = record {
  count : l.fn.span.first + length l.run.items ≡ l.page;
  pages : (d : DiskState) (old : List ℕ) → g.D.Disk.told l.initial.disk ≡ Some d → Backs d l.self → HasPages (due_page l.self d) l.file.slot old → length old ≡ l.file.length → ArePagesFrom l.fn.span.first (written_over l.offset l.bytes old) l.run.items;
  looked : Looked (g.D.Disk.told l.initial.disk) (g.D.Disk.told l.disk) (g.D.Disk.seen l.initial.disk) (g.D.Disk.seen l.disk) (g.D.Disk.faults l.initial.disk) (g.D.Disk.faults l.disk) (g.D.Disk.failures_left l.initial.disk) (g.D.Disk.failures_left l.disk);
}
