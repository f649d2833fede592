use Rattle.std.proofs.Common.{◌≡◌, drop}
use Rattle.vb_disk.specs.Crashes.{tear_refusal}
use Rattle.vb_disk.specs.Sparse.{cells_of}
use Rattle.vb_disk.proofs.crash_checks.check_tears.Given as goal

-- what is left decides
abbrev pub invariant-loop-tear : goal.invariant-loop-tear
invariant-loop-tear l =
    tear_refusal (cells_of l.table.cells) (drop l.tear-index l.torn) ≡ tear_refusal (cells_of l.table.cells) l.torn
