use Rattle.vb_disk.proofs.Places.{IsTable-settled}
use Rattle.vb_disk.proofs.table.Table.settle.Goals as goal

pub invariant_of-self : goal.invariant_of-self
invariant_of-self c = record {
  sound = IsTable-settled c.args.self.now.size c.args.side c.args.self.now.cells c.settle.new.cells c.args.self.now.listed.items c.args.self.now.sound c.settle.ensures.settled c.settle.ensures.same_keys c.settle.new.listed.items;
}
