use Rattle.vb_disk.proofs.Ways.{moment_of_one}
use Rattle.vb_disk.proofs.moments.one_call.Goals as goal

pub returns : goal.returns
returns c = moment_of_one
