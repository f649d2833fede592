use Rattle.vb_store.proofs.PlacesBegun.{one_taken, some_left, taken_none}
use Rattle.vb_store.proofs.next_places.take_places.Goals as goal

pub loop-init : goal.loop-init
loop-init c = taken_none c.args.space.now

pub take-requires : goal.take-requires
take-requires c = some_left c.args.space.now c.loop.space c.loop.counter c.args.count c.loop.invariant c.loop-test.true c.requires

pub loop-preserved : goal.loop-preserved
loop-preserved c =
    one_taken c.args.space.now c.loop.space c.take.new.self c.loop.counter c.take.result c.loop.invariant c.take.ensures.least.free c.take.ensures.first c.take.ensures.used c.take.ensures.stays
