use Rattle.vb_during.proofs.NextHeld.{rested-view}
use Rattle.vb_during.proofs.during.a_rested_commit_is_at_rest_for_the_next_view.Goals as goal

pub returns-clause-rests : goal.returns-clause-rests
returns-clause-rests c v s d none rested known = (rested-view v s d none rested known).0

pub returns-clause-tree : goal.returns-clause-tree
returns-clause-tree c v s d none rested known = (rested-view v s d none rested known).1
