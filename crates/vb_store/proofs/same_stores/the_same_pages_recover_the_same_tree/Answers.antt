use Rattle.vb_store.proofs.SameTrees.{recovered-same}
use Rattle.vb_store.proofs.same_stores.the_same_pages_recover_the_same_tree.Goals as goal

pub returns : goal.returns
returns c = recovered-same
