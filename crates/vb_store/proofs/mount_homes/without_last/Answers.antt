use Rattle.vb_store.proofs.MountRests.{popped}
use Rattle.vb_store.proofs.Surveyed.{front_of}
use Rattle.vb_store.proofs.mount_homes.without_last.Goals as goal

pub invariant_of-result-clause-left : goal.invariant_of-result-clause-left
invariant_of-result-clause-left c = (front_of c.args.head.nodes c.pop.result c.args.nodes c.pop.new.self c.requires.all c.requires.is.range.nodes_low c.requires.read c.pop.ensures.last c.pop.ensures.none).left

pub invariant_of-result-clause-read : goal.invariant_of-result-clause-read
invariant_of-result-clause-read c = (front_of c.args.head.nodes c.pop.result c.args.nodes c.pop.new.self c.requires.all c.requires.is.range.nodes_low c.requires.read c.pop.ensures.last c.pop.ensures.none).read

pub returns-clause-nodes : goal.returns-clause-nodes
returns-clause-nodes c = λ front node is. popped c.pop.result c.args.nodes c.pop.new.self front node c.pop.ensures.last c.pop.ensures.none is
