use Rattle.vb_store.proofs.HurtReads.{metadata-hurt}
use Rattle.vb_store.proofs.hurt_reads.hurt_places_keep_the_metadata_or_are_found.Goals as goal

pub returns : goal.returns
returns c = metadata-hurt
