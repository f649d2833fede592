use Rattle.vb_hist.proofs.Survivors.{surviving-whole}
use Rattle.vb_hist.proofs.laws.history_without_cut_survives.Goals as goal

pub returns : goal.returns
returns c = surviving-whole
