use Rattle.vb_faultless.proofs.Whole.{whole-reached}
use Rattle.vb_faultless.proofs.laws.whole_disks_stay_whole.Goals as goal

pub returns : goal.returns
returns c = whole-reached
