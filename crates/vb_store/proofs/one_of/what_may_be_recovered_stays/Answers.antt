use Rattle.vb_disk.specs.Crashes.{damaged}
use Rattle.vb_disk.specs.States.{synced}
use Rattle.vb_journal.proofs.ChoicesOf.{choices-crashed, choices-damaged, choices-synced}
use Rattle.vb_store.proofs.OneOfThem.{RecoversOneOf-allowed, RecoversOneOf-fewer, RecoversOneOf-more, shows-left}
use Rattle.vb_store.proofs.one_of.what_may_be_recovered_stays.Goals as goal

pub returns-clause-damage : goal.returns-clause-damage
returns-clause-damage c views made d place page has = RecoversOneOf-fewer views made (damaged d place page) d (choices-damaged d place page) has

pub returns-clause-crash : goal.returns-clause-crash
returns-clause-crash c views made old new crash has = RecoversOneOf-fewer views made new old (choices-crashed old new crash) has

pub returns-clause-sync : goal.returns-clause-sync
returns-clause-sync c views made d has = RecoversOneOf-fewer views made (synced d) d (choices-synced d) has

pub returns-clause-more : goal.returns-clause-more
returns-clause-more c = RecoversOneOf-more

pub returns-clause-allowed : goal.returns-clause-allowed
returns-clause-allowed c = RecoversOneOf-allowed

pub returns-clause-left : goal.returns-clause-left
returns-clause-left c = shows-left
