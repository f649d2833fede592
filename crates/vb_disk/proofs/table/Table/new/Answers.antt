use Rattle.vb_disk.proofs.Places.{IsTable-none}
use Rattle.vb_disk.proofs.table.Table.new.Goals as goal

pub invariant_of-result : goal.invariant_of-result
invariant_of-result c = record { sound = IsTable-none c.args.size c.new.result c.new-2.result.items c.new.ensures.empty }
