use Rattle.vb_during.proofs.ViewsKept.{damage-leaves, others-leave, start-known, step-leads}
use Rattle.vb_during.proofs.during.a_commit_of_a_view_stays_known.Goals as goal

pub returns-clause-start : goal.returns-clause-start
returns-clause-start c v s d is rests has follows kept of known = start-known v s d is rests has follows kept of (λ at. known at.homes at.journal at.rests)

pub returns-clause-step : goal.returns-clause-step
returns-clause-step c = step-leads

pub returns-clause-damage : goal.returns-clause-damage
returns-clause-damage c = damage-leaves

pub returns-clause-others : goal.returns-clause-others
returns-clause-others c = others-leave
