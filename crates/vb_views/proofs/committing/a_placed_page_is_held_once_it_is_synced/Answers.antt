use Rattle.vb_views.proofs.ViewsHeld.{placed-kept, placed-synced, placed-written}
use Rattle.vb_views.proofs.committing.a_placed_page_is_held_once_it_is_synced.Goals as goal

pub returns-clause-write : goal.returns-clause-write
returns-clause-write c = placed-written

pub returns-clause-stays : goal.returns-clause-stays
returns-clause-stays c = placed-kept

pub returns-clause-sync : goal.returns-clause-sync
returns-clause-sync c = placed-synced
