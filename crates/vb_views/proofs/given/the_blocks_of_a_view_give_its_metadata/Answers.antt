use Rattle.vb_views.proofs.MetadataGiven.{metadata-given}
use Rattle.vb_views.proofs.TreesGiven.{tree-given}
use Rattle.vb_views.proofs.given.the_blocks_of_a_view_give_its_metadata.Goals as goal

pub returns-clause-metadata : goal.returns-clause-metadata
returns-clause-metadata c = metadata-given

pub returns-clause-tree : goal.returns-clause-tree
returns-clause-tree c = tree-given
