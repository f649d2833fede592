use Rattle.vb_local.proofs.Settled.{settled-digests, settled-entries, settled-frozen, settled-live}
use Rattle.vb_local.proofs.laws.a_settled_page_is_relied_on.Goals as goal

pub returns-clause-live : goal.returns-clause-live
returns-clause-live c nodes old new slot page reference held relies there holds made forgets = settled-live nodes old new slot page reference held relies there holds made forgets

pub returns-clause-frozen : goal.returns-clause-frozen
returns-clause-frozen c nodes old new slot page reference relies there made forgets = settled-frozen nodes old new slot page reference relies there made forgets

pub returns-clause-entries : goal.returns-clause-entries
returns-clause-entries c old new slot page reference keeps made forgets = settled-entries old new slot page reference keeps made forgets

pub returns-clause-digests : goal.returns-clause-digests
returns-clause-digests c nodes old new slot page digests forgets = settled-digests nodes old new slot page digests forgets
