use Rattle.vb_store.proofs.OneOfThem.{ViewOf-fewer, candidates-crashed, candidates-damaged, candidates-stood, candidates-synced, candidates-written}
use Rattle.vb_store.proofs.one_of.a_view_of_a_disk_stays.Goals as goal

pub returns-clause-candidates : goal.returns-clause-candidates
returns-clause-candidates c = ViewOf-fewer

pub returns-clause-damage : goal.returns-clause-damage
returns-clause-damage c = candidates-damaged

pub returns-clause-crash : goal.returns-clause-crash
returns-clause-crash c = candidates-crashed

pub returns-clause-sync : goal.returns-clause-sync
returns-clause-sync c = candidates-synced

pub returns-clause-write : goal.returns-clause-write
returns-clause-write c = candidates-written

pub returns-clause-stands : goal.returns-clause-stands
returns-clause-stands c = candidates-stood
