use Rattle.vb_commit.proofs.WayLaws.{rested-known}
use Rattle.vb_commit.proofs.laws.a_rested_commit_leaves_its_pages.Goals as goal

pub returns : goal.returns
returns c source homes journal plan s d none rested known = rested-known source homes journal plan s d none rested known
