use Rattle.vb_event.proofs.Due.{becomes-failed, becomes-sent, is-taken}
use Rattle.vb_event.proofs.laws.messages_show_what_is_due.Goals as goal

pub returns-clause-taken : goal.returns-clause-taken
returns-clause-taken c = is-taken

pub returns-clause-sent : goal.returns-clause-sent
returns-clause-sent c = becomes-sent

pub returns-clause-failed : goal.returns-clause-failed
returns-clause-failed c = becomes-failed
