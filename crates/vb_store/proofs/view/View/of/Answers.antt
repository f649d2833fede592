use Rattle.vb_store.proofs.PlacesUsed.{slots_of}
use Rattle.vb_store.proofs.view.View.of.Goals as goal

pub space_of-requires-clause-slots : goal.space_of-requires-clause-slots
space_of-requires-clause-slots c = slots_of c.args.head _ c.args.index c.index.invariant c.index.view_is c.requires.limits
