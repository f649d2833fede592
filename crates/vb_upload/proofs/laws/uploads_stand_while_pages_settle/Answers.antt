use Rattle.vb_upload.proofs.Apart.{settled-apart}
use Rattle.vb_upload.proofs.Standing.{settled-all}
use Rattle.vb_upload.proofs.laws.uploads_stand_while_pages_settle.Goals as goal

pub returns-clause-sendable : goal.returns-clause-sendable
returns-clause-sendable c = λ order slot page reference all. settled-all slot page reference order all

pub returns-clause-apart : goal.returns-clause-apart
returns-clause-apart c = λ order slot page reference apart. settled-apart slot page reference order apart
