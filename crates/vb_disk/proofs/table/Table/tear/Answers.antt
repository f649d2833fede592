use Rattle.std.proofs.Common.{subst}
use Rattle.vb_block.specs.Pages.{IsPage}
use Rattle.vb_disk.proofs.Places.{IsTable-hurt, within_from_unsettled}
use Rattle.vb_disk.proofs.table.Table.tear.Goals as goal

pub invariant_of-self : goal.invariant_of-self
invariant_of-self c =
    let t = c.args.self.now in
    record {
      sound = IsTable-hurt t.size t.cells c.tear.new.cells t.listed.items c.args.place c.args.page t.sound (within_from_unsettled t.size t.cells t.listed.items c.args.place t.sound c.requires.several) (subst IsPage c.bytes.ensures.bytes c.bytes.ensures.page) c.requires.miss c.tear.ensures.changed;
    }
