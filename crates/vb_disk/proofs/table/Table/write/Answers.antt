use Rattle.std.proofs.Common.{subst}
use Rattle.vb_block.specs.Pages.{IsPage}
use Rattle.vb_disk.specs.Cells.{written_cell}
use Rattle.vb_disk.specs.Sparse.{cell_in}
use Rattle.vb_disk.proofs.Places.{IsCell-written_cell, IsTable-tried}
use Rattle.vb_disk.proofs.table.Table.write.Goals as goal

pub invariant_of-self : goal.invariant_of-self
invariant_of-self c =
    let t = c.args.self.now in
    let before = cell_in t.cells c.args.place in
    record {
      sound = IsTable-tried c.write.result t.size t.cells c.write.new.cells t.listed.items c.write.new.listed.items c.args.place (written_cell before c.args.page) t.sound c.requires c.write.ensures.ok c.write.ensures.err (c.write.ensures.listed t.sound.all_listed) (IsCell-written_cell before c.args.page (t.sound.each c.args.place) (subst IsPage c.bytes.ensures.bytes c.bytes.ensures.page));
    }
