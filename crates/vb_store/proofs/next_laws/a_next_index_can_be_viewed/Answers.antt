use Rattle.vb_store.proofs.NextSettled.{head_after, viewed_after}
use Rattle.vb_store.proofs.next_laws.a_next_index_can_be_viewed.Goals as goal

pub returns-clause-head : goal.returns-clause-head
returns-clause-head c = head_after

pub returns-clause-view : goal.returns-clause-view
returns-clause-view c = viewed_after
