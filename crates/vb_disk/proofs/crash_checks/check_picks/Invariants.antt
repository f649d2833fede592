use Rattle.std.proofs.Common.{◌≡◌, drop}
use Rattle.vb_disk.specs.Crashes.{pick_refusal}
use Rattle.vb_disk.specs.Sparse.{cells_of}
use Rattle.vb_disk.proofs.crash_checks.check_picks.Given as goal

-- what is left decides
abbrev pub invariant-loop-pick : goal.invariant-loop-pick
invariant-loop-pick l =
    pick_refusal l.table.size (cells_of l.table.cells) (drop l.pick-index l.picks) ≡ pick_refusal l.table.size (cells_of l.table.cells) l.picks
