use Rattle.vb_nodes.proofs.ShapeLaws.{same_shape}
use Rattle.vb_nodes.proofs.WalkLaws.{pages_stay, paths_lead}
use Rattle.vb_nodes.proofs.laws.nodes_are_found_by_path.Goals as goal

pub returns-clause-paths : goal.returns-clause-paths
returns-clause-paths c = paths_lead

pub returns-clause-pages : goal.returns-clause-pages
returns-clause-pages c = pages_stay

pub returns-clause-shape : goal.returns-clause-shape
returns-clause-shape c = same_shape
