use Rattle.vb_store.proofs.EmptyViews.{CanView-empty}
use Rattle.vb_store.proofs.empty_stores.an_empty_store_can_be_viewed.Goals as goal

pub returns : goal.returns
returns c id blocks nodes can = CanView-empty id blocks nodes can
