use Rattle.vb_store.proofs.KnownViews.{RecoversOneOf-rest, ViewOf-settled}
use Rattle.vb_store.proofs.known_views.a_store_at_rest_recovers_its_view.Goals as goal

pub returns-clause-rest : goal.returns-clause-rest
returns-clause-rest c = RecoversOneOf-rest

pub returns-clause-settled : goal.returns-clause-settled
returns-clause-settled c = ViewOf-settled
