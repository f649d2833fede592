use Rattle.vb_views.proofs.TreesPlaced.{tree-placed}
use Rattle.vb_views.proofs.given.pages_at_their_places_have_the_same_tree.Goals as goal

pub returns : goal.returns
returns c = tree-placed
