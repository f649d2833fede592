use Rattle.vb_disk.proofs.Ways.{moment_by_writes}
use Rattle.vb_disk.proofs.moments.no_sync.Goals as goal

pub returns : goal.returns
returns c = moment_by_writes
