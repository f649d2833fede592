use Rattle.vb_disk.proofs.Places.{IsTable-cut}
use Rattle.vb_disk.proofs.table.Table.resize.Goals as goal

pub invariant_of-self : goal.invariant_of-self
invariant_of-self c = record {
  sound = IsTable-cut c.args.self.now.size c.args.blocks c.args.self.now.cells c.cut.new.cells c.args.self.now.listed.items c.unlist.new.listed.items c.args.self.now.sound c.cut.ensures c.unlist.ensures;
}
