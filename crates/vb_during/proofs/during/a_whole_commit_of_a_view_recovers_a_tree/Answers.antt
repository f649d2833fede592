use Rattle.vb_during.proofs.WholeCommits.{whole-recovers}
use Rattle.vb_during.proofs.WholeSteps.{start-whole, step-whole}
use Rattle.vb_during.proofs.during.a_whole_commit_of_a_view_recovers_a_tree.Goals as goal

pub returns-clause-whole : goal.returns-clause-whole
returns-clause-whole c = whole-recovers

pub returns-clause-start : goal.returns-clause-start
returns-clause-start c = start-whole

pub returns-clause-step : goal.returns-clause-step
returns-clause-step c = step-whole
