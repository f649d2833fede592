use Rattle.vb_disk.proofs.Places.{IsTable-picked}
use Rattle.vb_disk.proofs.table.Table.pick.Goals as goal

pub invariant_of-self : goal.invariant_of-self
invariant_of-self c =
    let t = c.args.self.now in
    record {
      sound = IsTable-picked t.size t.cells c.pick.new.cells t.listed.items c.args.place c.args.index t.sound c.requires.within c.pick.ensures.changed;
    }
