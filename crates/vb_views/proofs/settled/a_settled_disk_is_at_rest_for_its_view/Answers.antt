use Rattle.vb_views.proofs.SettledViews.{settled-rests, settled-tree}
use Rattle.vb_views.proofs.settled.a_settled_disk_is_at_rest_for_its_view.Goals as goal

pub returns-clause-rests : goal.returns-clause-rests
returns-clause-rests c view head index d disk its metadata is = settled-rests view head index d (record { disk = disk; its = its; metadata = metadata; fits = is })

pub returns-clause-tree : goal.returns-clause-tree
returns-clause-tree c view head index d disk its metadata is = settled-tree view head index d (record { disk = disk; its = its; metadata = metadata; fits = is })
