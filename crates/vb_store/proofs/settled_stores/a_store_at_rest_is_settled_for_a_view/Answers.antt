use Rattle.vb_store.proofs.ReadingsBeside.{settled-kept, settled-rests}
use Rattle.vb_store.proofs.settled_stores.a_store_at_rest_is_settled_for_a_view.Goals as goal

pub returns-clause-settled : goal.returns-clause-settled
returns-clause-settled c = settled-rests

pub returns-clause-damage : goal.returns-clause-damage
returns-clause-damage c = settled-kept
