use Rattle.std.proofs.Common.{◌-◌}
use Rattle.vb_index.proofs.Shapes.{OnWay}
use Rattle.vb_index.proofs.walk.folder_of.Given as goal

abbrev pub invariant-loop-depth : goal.invariant-loop-depth
invariant-loop-depth l = OnWay l.table l.parts (l.depth - 1) l.folder
