use Rattle.vb_commit.proofs.NextBlocks.{next-block, next-rest}
use Rattle.vb_commit.proofs.laws.a_rested_commit_has_the_next_nodes.Goals as goal

pub returns-clause-blocks : goal.returns-clause-blocks
returns-clause-blocks c basis next slot can seal within = next-block basis next slot can seal within

pub returns-clause-rest : goal.returns-clause-rest
returns-clause-rest c v next epoch journal d is none can rests = next-rest v next epoch journal d is none can rests
