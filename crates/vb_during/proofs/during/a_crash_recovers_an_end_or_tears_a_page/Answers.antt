use Rattle.vb_during.proofs.LoneMaps.{step-untorn}
use Rattle.vb_during.proofs.TornEnds.{commit-torn, rest-torn}
use Rattle.vb_during.proofs.during.a_crash_recovers_an_end_or_tears_a_page.Goals as goal

pub returns-clause-rest : goal.returns-clause-rest
returns-clause-rest c = rest-torn

pub returns-clause-commit : goal.returns-clause-commit
returns-clause-commit c = commit-torn

pub returns-clause-step : goal.returns-clause-step
returns-clause-step c = step-untorn
