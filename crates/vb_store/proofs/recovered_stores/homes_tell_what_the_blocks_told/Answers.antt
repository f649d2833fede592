use Rattle.vb_store.proofs.HomesTold.{homes-told}
use Rattle.vb_store.proofs.recovered_stores.homes_tell_what_the_blocks_told.Goals as goal

pub returns : goal.returns
returns c = homes-told
