use Rattle.vb_store.specs.MountStages.{blocks_of}
use Rattle.vb_store.proofs.StagesKept.{blocks-read, goes-read, sure-read}
use Rattle.vb_store.proofs.mount_reading.read_on.Goals as goal

pub returns-clause-goes : goal.returns-clause-goes
returns-clause-goes c =
    let took = c.take_page-stage in
    goes-read c.args.stage took.result.0 c.args.got took.result.1 c.close.result took.ensures.rest took.ensures.list took.ensures.after took.ensures.error took.ensures.blocks took.ensures.falls c.close.ensures.goes c.close.ensures.closes took.ensures.passes took.ensures.at_end

pub returns-clause-sure : goal.returns-clause-sure
returns-clause-sure c none = sure-read c.take_page-stage.result.1 c.close.result (c.take_page-stage.ensures.ended none) c.close.ensures.memory

pub returns-clause-blocks : goal.returns-clause-blocks
returns-clause-blocks c = blocks-read c.take_page-stage.result.0 c.take_page-stage.result.1 c.close.result (blocks_of c.args.stage) c.take_page-stage.ensures.blocks c.close.ensures.closes
