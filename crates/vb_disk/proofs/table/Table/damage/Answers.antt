use Rattle.std.proofs.Common.{subst}
use Rattle.vb_block.specs.Pages.{IsPage}
use Rattle.vb_disk.proofs.Places.{IsTable-damaged}
use Rattle.vb_disk.proofs.table.Table.damage.Goals as goal

pub invariant_of-self : goal.invariant_of-self
invariant_of-self c =
    let t = c.args.self.now in
    record {
      sound = IsTable-damaged c.hurt.result t.size t.cells c.hurt.new.cells t.listed.items c.args.place c.args.page t.sound c.requires.within (subst IsPage c.bytes.ensures.bytes c.bytes.ensures.page) c.requires.miss c.hurt.ensures.ok c.hurt.ensures.err;
    }
