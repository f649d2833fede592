use Rattle.std.proofs.Common.{◌∙◌}
use Rattle.vb_disk.proofs.StepsOfCrashes.{pick_step}
use Rattle.vb_disk.proofs.crashing.pick_all.Goals as goal

pub pick-requires-clause-within : goal.pick-requires-clause-within
pick-requires-clause-within c =
    let l = c.loop-pick in
    (pick_step c.args.table.now.size l.table.size c.args.picks.now c.args.table.now.cells l.table.cells l.pick-index (record { place = 0; index = 0 }) c.requires l.invariant.size l.invariant.picking c.loop-pick-test.true).within

pub pick-requires-clause-there : goal.pick-requires-clause-there
pick-requires-clause-there c =
    let l = c.loop-pick in
    (pick_step c.args.table.now.size l.table.size c.args.picks.now c.args.table.now.cells l.table.cells l.pick-index (record { place = 0; index = 0 }) c.requires l.invariant.size l.invariant.picking c.loop-pick-test.true).there

pub loop-pick-preserved : goal.loop-pick-preserved
loop-pick-preserved c =
    let l = c.loop-pick in
    let step = pick_step c.args.table.now.size l.table.size c.args.picks.now c.args.table.now.cells l.table.cells l.pick-index (record { place = 0; index = 0 }) c.requires l.invariant.size l.invariant.picking c.loop-pick-test.true in
    record { picking = step.more c.pick.new.self.cells c.pick.ensures.changed; size = c.pick.ensures.size ∙ l.invariant.size }
