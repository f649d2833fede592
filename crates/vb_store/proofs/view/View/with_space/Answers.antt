use Rattle.vb_store.proofs.PlacesUsed.{IsView-of}
use Rattle.vb_store.proofs.view.View.with_space.Goals as goal

pub invariant_of-result : goal.invariant_of-result
invariant_of-result c = IsView-of c.args.head c.args.index c.args.space c.requires.can c.requires.slots c.requires.space

pub returns-clause-view : goal.returns-clause-view
returns-clause-view c = IsView-of c.args.head c.args.index c.args.space c.requires.can c.requires.slots c.requires.space
