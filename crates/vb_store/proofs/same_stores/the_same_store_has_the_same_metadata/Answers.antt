use Rattle.vb_store.proofs.SameStores.{metadata-same}
use Rattle.vb_store.proofs.same_stores.the_same_store_has_the_same_metadata.Goals as goal

pub returns : goal.returns
returns c = metadata-same
