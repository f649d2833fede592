use Rattle.vb_frozen.proofs.Settled.{settled-tree}
use Rattle.vb_frozen.proofs.laws.a_settled_page_stays.Goals as goal

pub returns : goal.returns
returns c = settled-tree
