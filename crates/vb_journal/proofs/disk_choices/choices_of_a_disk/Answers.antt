use Rattle.vb_journal.proofs.ChoicesOf.{IsChoiceOf-again, IsChoiceOf-crash, IsChoiceOf-hurt, choices-crashed, choices-damaged, choices-synced, choices-undamaged, choices-written}
use Rattle.vb_journal.proofs.disk_choices.choices_of_a_disk.Goals as goal

pub returns-clause-damage : goal.returns-clause-damage
returns-clause-damage c d place page = choices-damaged d place page

pub returns-clause-undamaged : goal.returns-clause-undamaged
returns-clause-undamaged c d place page = choices-undamaged d place page

pub returns-clause-crash : goal.returns-clause-crash
returns-clause-crash c old new crash = choices-crashed old new crash

pub returns-clause-sync : goal.returns-clause-sync
returns-clause-sync c d = choices-synced d

pub returns-clause-write : goal.returns-clause-write
returns-clause-write c d place page = choices-written d place page

pub returns-clause-left : goal.returns-clause-left
returns-clause-left c old new disk crash = IsChoiceOf-crash old new disk crash

pub returns-clause-again : goal.returns-clause-again
returns-clause-again c x y z first second = IsChoiceOf-again x y z first second

pub returns-clause-hurt : goal.returns-clause-hurt
returns-clause-hurt c new d place page is within long miss = IsChoiceOf-hurt new d place page is within long miss
