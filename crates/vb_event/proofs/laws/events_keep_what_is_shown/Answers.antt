use Rattle.vb_event.proofs.Later.{published-later, seen-later}
use Rattle.vb_event.proofs.Shown.{cloud-event}
use Rattle.vb_event.proofs.laws.events_keep_what_is_shown.Goals as goal

pub returns-clause-cloud : goal.returns-clause-cloud
returns-clause-cloud c = cloud-event

pub returns-clause-shown : goal.returns-clause-shown
returns-clause-shown c = seen-later

pub returns-clause-told : goal.returns-clause-told
returns-clause-told c = published-later
