use Rattle.std.proofs.Common.{◌∙◌}
use Rattle.vb_pages.proofs.Keys.{stays-without}
use Rattle.vb_pages.proofs.page_table.PageTable.cut.Goals as goal

pub loop-key-preserved-in-Some : goal.loop-key-preserved-in-Some
loop-key-preserved-in-Some c s k stays =
    let found = c.in-Some.ensures.found in
    stays-without c.loop-key.self-inside.entries.entries c.remove.new.self.entries c.args.slot c.args.first s k c.in-Some.key c.remove.ensures.updates.0 found.0 found.1 stays ∙ c.loop-key.invariant s k stays
