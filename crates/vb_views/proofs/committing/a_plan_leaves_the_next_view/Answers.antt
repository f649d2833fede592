use Rattle.vb_views.proofs.NextBlocks.{next-blocks}
use Rattle.vb_views.proofs.NextPages.{next-pages}
use Rattle.vb_views.proofs.committing.a_plan_leaves_the_next_view.Goals as goal

pub returns-clause-blocks : goal.returns-clause-blocks
returns-clause-blocks c basis next index homes can seal is table blocks = next-blocks basis next index.nodes homes can seal is table blocks

pub returns-clause-pages : goal.returns-clause-pages
returns-clause-pages c basis next head index d table holds can planned is view = next-pages basis next head index d table holds can planned is view
