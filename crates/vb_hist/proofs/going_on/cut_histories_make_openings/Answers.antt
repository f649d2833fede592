use Rattle.vb_hist.proofs.Made.{makes-cut, makes-cut_published, makes-none}
use Rattle.vb_hist.proofs.going_on.cut_histories_make_openings.Goals as goal

pub returns-clause-none : goal.returns-clause-none
returns-clause-none c = makes-none

pub returns-clause-cut : goal.returns-clause-cut
returns-clause-cut c = makes-cut

pub returns-clause-published : goal.returns-clause-published
returns-clause-published c = makes-cut_published
