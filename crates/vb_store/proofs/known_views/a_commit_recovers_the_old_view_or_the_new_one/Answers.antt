use Rattle.vb_store.proofs.KnownViews.{RecoversOneOf-stage}
use Rattle.vb_store.proofs.known_views.a_commit_recovers_the_old_view_or_the_new_one.Goals as goal

pub returns : goal.returns
returns c = RecoversOneOf-stage
