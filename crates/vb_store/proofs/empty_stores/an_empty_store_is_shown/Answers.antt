use Rattle.vb_store.proofs.EmptyStores.{HoldsEmptyStore-crashed, RecoversWholly-empty}
use Rattle.vb_store.proofs.empty_stores.an_empty_store_is_shown.Goals as goal

pub returns-clause-recovers : goal.returns-clause-recovers
returns-clause-recovers c id blocks nodes d can long holds = RecoversWholly-empty id blocks nodes d can long holds

pub returns-clause-crash : goal.returns-clause-crash
returns-clause-crash c id blocks nodes old new holds crash = HoldsEmptyStore-crashed id blocks nodes old new holds crash
