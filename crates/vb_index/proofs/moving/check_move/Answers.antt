use Rattle.std.proofs.Common.{length, sym, ap}
use Rattle.vb_index.proofs.Heights.{shallow-moves}
use Rattle.vb_index.proofs.Growth.{slot_holds}
use Rattle.vb_index.proofs.Tables.{held_in_table}
use Rattle.vb_index.proofs.moving.check_move.Goals as goal

pub leads_too_deep-requires-clause-in_table : goal.leads_too_deep-requires-clause-in_table
leads_too_deep-requires-clause-in_table c =
    let held = slot_holds c.args.table.now c.in_ok-place.ensures.found.table c.args.source.now c.args.slot c.requires.at in
    held_in_table c.args.table.now c.args.slot held.0 held.1

pub returns-clause-shallow : goal.returns-clause-shallow
returns-clause-shallow c =
    shallow-moves c.args.table.now c.args.source.now c.args.target.now c.args.slot (length c.text.result.now) (length c.parts-3.result.now) c.requires.at c.requires.target_in
    (ap length (sym c.text.ensures.spelled)) (ap length (sym c.parts-3.ensures.same)) (c.leads_too_deep.ensures.fits c.if-leads_too_deep.false)
