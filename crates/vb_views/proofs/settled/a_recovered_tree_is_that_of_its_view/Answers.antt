use Rattle.vb_views.proofs.SettledViews.{recovered-as}
use Rattle.vb_views.proofs.TreesRead.{tree-read, tree-was}
use Rattle.vb_views.proofs.settled.a_recovered_tree_is_that_of_its_view.Goals as goal

pub returns-clause-epoch : goal.returns-clause-epoch
returns-clause-epoch c size head index reads epoch tree is recovers = (recovered-as size reads (record { head = head; held = index.nodes }) epoch tree is recovers).epoch_is

pub returns-clause-tree : goal.returns-clause-tree
returns-clause-tree c size head index reads epoch tree view pages is recovers =
    tree-read head index reads tree (tree-was head index reads tree view pages (recovered-as size reads (record { head = head; held = index.nodes }) epoch tree is recovers).entries)
