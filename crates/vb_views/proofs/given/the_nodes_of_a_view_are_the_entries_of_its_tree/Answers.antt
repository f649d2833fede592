use Rattle.vb_views.proofs.TreesGiven.{entries-given, paths-given}
use Rattle.vb_views.proofs.given.the_nodes_of_a_view_are_the_entries_of_its_tree.Goals as goal

pub returns-clause-paths : goal.returns-clause-paths
returns-clause-paths c = paths-given

pub returns-clause-entries : goal.returns-clause-entries
returns-clause-entries c = entries-given
