use Rattle.vb_during.proofs.Following.{over-follows}
use Rattle.vb_during.proofs.during.a_commit_over_a_view_follows_it.Goals as goal

pub returns : goal.returns
returns c = over-follows
