use Rattle.vb_store.proofs.ReadingsBeside.{reads-begin, reads-end, reads-kept, reads-on, reads-recover, reads-refused}
use Rattle.vb_store.proofs.settled_stores.what_is_read_leads_to_a_view.Goals as goal

pub returns-clause-begins : goal.returns-clause-begins
returns-clause-begins c = reads-begin

pub returns-clause-damage : goal.returns-clause-damage
returns-clause-damage c = reads-kept

pub returns-clause-read : goal.returns-clause-read
returns-clause-read c = reads-on

pub returns-clause-recovers : goal.returns-clause-recovers
returns-clause-recovers c = reads-recover

pub returns-clause-ends : goal.returns-clause-ends
returns-clause-ends c = reads-end

pub returns-clause-refused : goal.returns-clause-refused
returns-clause-refused c = reads-refused
