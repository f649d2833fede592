use Rattle.vb_views.proofs.ViewsHeld.{holds-fewer, holds-rewritten, holds-written}
use Rattle.vb_views.proofs.committing.a_view_that_is_held_stays.Goals as goal

pub returns-clause-fewer : goal.returns-clause-fewer
returns-clause-fewer c = holds-fewer

pub returns-clause-write : goal.returns-clause-write
returns-clause-write c = holds-written

pub returns-clause-again : goal.returns-clause-again
returns-clause-again c = holds-rewritten
