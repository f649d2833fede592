use Rattle.vb_active.proofs.tests.settle.Goals as goal

pub invariant_of-live : goal.invariant_of-live
invariant_of-live c = record { below = c.settle.ensures.below c.args.live.now.disk.table.size c.requires.low c.args.live.now.below }
