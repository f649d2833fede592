use Rattle.vb_disk.proofs.Ways.{moment_of_none}
use Rattle.vb_disk.proofs.moments.no_call.Goals as goal

pub returns : goal.returns
returns c = moment_of_none
