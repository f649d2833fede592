use Rattle.vb_store.specs.Clear.{first_candidates, last_candidates}
use Rattle.vb_views.proofs.ReadsOfViews.{one-recovered}
use Rattle.vb_views.proofs.RestingViews.{first-given, last-given}
use Rattle.vb_views.proofs.resting.whichever_candidates_are_read_recover_a_view.Goals as goal

pub returns-clause-candidates : goal.returns-clause-candidates
returns-clause-candidates c = one-recovered

pub returns-clause-first : goal.returns-clause-first
returns-clause-first c views d disk recovers = one-recovered views d (first_candidates d) disk recovers (first-given d)

pub returns-clause-last : goal.returns-clause-last
returns-clause-last c views d disk recovers = one-recovered views d (last_candidates d) disk recovers (last-given d)
