use Rattle.vb_store.proofs.EmptyRecovered.{IsClear-empty, metadata_of-empty, recovered_of-empty}
use Rattle.vb_store.proofs.empty_stores.an_empty_store_recovers_the_empty_tree.Goals as goal

pub returns-clause-metadata : goal.returns-clause-metadata
returns-clause-metadata c id blocks nodes d can long holds = metadata_of-empty id blocks nodes d can long holds

pub returns-clause-recovers : goal.returns-clause-recovers
returns-clause-recovers c id blocks nodes d can long holds = recovered_of-empty id blocks nodes d can long holds

pub returns-clause-clear : goal.returns-clause-clear
returns-clause-clear c id blocks nodes d can long holds = IsClear-empty id blocks nodes d can long holds
