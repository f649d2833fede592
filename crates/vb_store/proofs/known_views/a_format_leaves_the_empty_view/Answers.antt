use Rattle.vb_store.proofs.EmptyViewLeft.{RecoversOneOf-made, ViewOf-made}
use Rattle.vb_store.proofs.known_views.a_format_leaves_the_empty_view.Goals as goal

pub returns-clause-made : goal.returns-clause-made
returns-clause-made c = RecoversOneOf-made

pub returns-clause-view : goal.returns-clause-view
returns-clause-view c = ViewOf-made
