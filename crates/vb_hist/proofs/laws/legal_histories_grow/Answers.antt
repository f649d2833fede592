use Rattle.std.proofs.Common.{[]}
use Rattle.vb_hist.proofs.Growth.{legal-push, legal-front, legal-last, legal-back}
use Rattle.vb_hist.proofs.laws.legal_histories_grow.Goals as goal

pub returns-clause-grows : goal.returns-clause-grows
returns-clause-grows c = λ o history entry. legal-push o [] history entry

pub returns-clause-front : goal.returns-clause-front
returns-clause-front c = λ o history entry. legal-front o [] history entry

pub returns-clause-last : goal.returns-clause-last
returns-clause-last c = λ o history entry. legal-last o [] history entry

pub returns-clause-back : goal.returns-clause-back
returns-clause-back c = λ o history entry. legal-back o [] history entry
