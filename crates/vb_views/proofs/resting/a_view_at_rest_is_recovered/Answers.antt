use Rattle.vb_store.specs.Clear.{first_candidates, last_candidates}
use Rattle.vb_views.proofs.RestingViews.{first-given, last-given, recovered-picked, recovers-one, view-at-rest}
use Rattle.vb_views.proofs.resting.a_view_at_rest_is_recovered.Goals as goal

pub returns-clause-candidates : goal.returns-clause-candidates
returns-clause-candidates c head index d reads tree is rests has picked = recovered-picked head index d reads tree is rests picked has

pub returns-clause-first : goal.returns-clause-first
returns-clause-first c head index d tree is rests has = recovered-picked head index d (first_candidates d) tree is rests (first-given d) has

pub returns-clause-last : goal.returns-clause-last
returns-clause-last c head index d tree is rests has = recovered-picked head index d (last_candidates d) tree is rests (last-given d) has

pub returns-clause-view : goal.returns-clause-view
returns-clause-view c = view-at-rest

pub returns-clause-alone : goal.returns-clause-alone
returns-clause-alone c = recovers-one
