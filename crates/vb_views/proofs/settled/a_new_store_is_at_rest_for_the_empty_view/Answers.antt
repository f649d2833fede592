use Rattle.std.proofs.Common.{◌-◌}
use Rattle.vb_index.proofs.Contents.{fresh-tree}
use Rattle.vb_views.proofs.EmptyAtRest.{empty-rests, empty-view}
use Rattle.vb_views.proofs.settled.a_new_store_is_at_rest_for_the_empty_view.Goals as goal

pub returns-clause-view : goal.returns-clause-view
returns-clause-view c = empty-view

pub returns-clause-rests : goal.returns-clause-rests
returns-clause-rests c = empty-rests

pub returns-clause-tree : goal.returns-clause-tree
returns-clause-tree c id blocks nodes pages = fresh-tree (nodes - 1) pages
