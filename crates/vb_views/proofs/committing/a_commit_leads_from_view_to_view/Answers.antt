use Rattle.vb_views.proofs.ViewsInPlace.{commit-recovers, rest-holds, rested-rests, view-in-place, views-at}
use Rattle.vb_views.proofs.committing.a_commit_leads_from_view_to_view.Goals as goal

pub returns-clause-rest : goal.returns-clause-rest
returns-clause-rest c head index d tree is rests has = rest-holds head index d tree is rests has

pub returns-clause-view : goal.returns-clause-view
returns-clause-view c = view-in-place

pub returns-clause-stages : goal.returns-clause-stages
returns-clause-stages c = views-at

pub returns-clause-recovers : goal.returns-clause-recovers
returns-clause-recovers c = commit-recovers

pub returns-clause-rested : goal.returns-clause-rested
returns-clause-rested c = rested-rests
