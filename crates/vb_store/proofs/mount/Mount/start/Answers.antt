use Rattle.vb_store.proofs.KeptBeside.{begins-beside}
use Rattle.vb_store.proofs.mount.Mount.start.Goals as goal

pub returns-clause-beside : goal.returns-clause-beside
returns-clause-beside g c views made d recovers = begins-beside views made c.start-recover.result d c.start-recover.ensures.due recovers
