use Rattle.vb_cloudlog.proofs.Feeding.{fed-in_two}
use Rattle.vb_cloudlog.proofs.laws.logs_are_their_frames.Goals as goal

pub returns-clause-pieces : goal.returns-clause-pieces
returns-clause-pieces c = fed-in_two
