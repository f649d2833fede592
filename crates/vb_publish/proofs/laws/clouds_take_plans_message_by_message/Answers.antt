use Rattle.vb_publish.proofs.GoesOn.{goes-on, shows-last, takes-next}
use Rattle.vb_publish.proofs.laws.clouds_take_plans_message_by_message.Goals as goal

pub returns-clause-taken : goal.returns-clause-taken
returns-clause-taken c = takes-next

pub returns-clause-goes_on : goal.returns-clause-goes_on
returns-clause-goes_on c = goes-on

pub returns-clause-shown : goal.returns-clause-shown
returns-clause-shown c = shows-last
