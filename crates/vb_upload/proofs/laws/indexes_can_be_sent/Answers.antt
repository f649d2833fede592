use Rattle.vb_frozen.proofs.Built.{order-apart}
use Rattle.vb_upload.proofs.Standing.{index-sendable}
use Rattle.vb_upload.proofs.laws.indexes_can_be_sent.Goals as goal

pub returns-clause-sendable : goal.returns-clause-sendable
returns-clause-sendable c = index-sendable

pub returns-clause-apart : goal.returns-clause-apart
returns-clause-apart c = order-apart
