use Rattle.vb_publish.proofs.Rows.{file-row}
use Rattle.vb_publish.proofs.laws.small_plans_are_these.Goals as goal

pub returns-clause-file : goal.returns-clause-file
returns-clause-file c = file-row
