use Rattle.vb_publish.proofs.Taken.{next-taken}
use Rattle.vb_publish.proofs.laws.plans_are_taken.Goals as goal

pub returns-clause-next : goal.returns-clause-next
returns-clause-next c = next-taken
