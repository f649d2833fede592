use Rattle.vb_journal.proofs.Keeping.{HasSameCandidates-damaged, HasSameCandidates-written, IsAtRest-same, IsAtRest-synced, IsCommitting-same}
use Rattle.vb_journal.proofs.crashes.damage_and_data_leave_a_store.Goals as goal

pub returns-clause-damage : goal.returns-clause-damage
returns-clause-damage c end d place page = HasSameCandidates-damaged end d place page

pub returns-clause-data : goal.returns-clause-data
returns-clause-data c end d place page past = HasSameCandidates-written end d place page past

pub returns-clause-commit : goal.returns-clause-commit
returns-clause-commit c head epoch images homes journal stage old new can same is = IsCommitting-same head epoch images homes journal stage old new can same is

pub returns-clause-rest : goal.returns-clause-rest
returns-clause-rest c head homes journal old new same is = IsAtRest-same head homes journal old new same is

pub returns-clause-synced : goal.returns-clause-synced
returns-clause-synced c head homes journal d is = IsAtRest-synced head homes journal d is
