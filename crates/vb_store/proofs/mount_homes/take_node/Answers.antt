use Rattle.vb_store.proofs.MountRests.{rest-added}
use Rattle.vb_store.proofs.PlacesLeft.{places-added}
use Rattle.vb_store.proofs.mount_homes.take_node.Goals as goal
use Rattle.vb_store.proofs.ReadsFalling.{home-falls}

pub returns-in-Ok-clause-rest : goal.returns-in-Ok-clause-rest
returns-in-Ok-clause-rest c = λ reads read. rest-added reads c.args.homes c.add.new.self c.args.node read c.in-Ok.ensures.ok

pub returns-in-Ok-clause-list : goal.returns-in-Ok-clause-list
returns-in-Ok-clause-list c = λ reads read. places-added reads c.args.homes c.add.new.self c.args.node read c.in-Ok.ensures.ok

pub returns-in-Ok-clause-falls : goal.returns-in-Ok-clause-falls
returns-in-Ok-clause-falls c = home-falls c.args.homes c.add.new.self c.args.node c.in-Ok.ensures.ok
