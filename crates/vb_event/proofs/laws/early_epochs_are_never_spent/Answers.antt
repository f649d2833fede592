use Rattle.vb_event.proofs.Pace.{pace-event, unspent}
use Rattle.vb_event.proofs.laws.early_epochs_are_never_spent.Goals as goal

pub returns-clause-pace : goal.returns-clause-pace
returns-clause-pace c = pace-event

pub returns-clause-unspent : goal.returns-clause-unspent
returns-clause-unspent c = unspent
