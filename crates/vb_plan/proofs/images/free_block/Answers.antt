use Rattle.std.proofs.Common.{rules}
use Rattle.vb_inode.specs.Nodes.{may_be_named}
use Rattle.vb_plan.proofs.images.free_block.Goals as goal

pub encode_node-requires : goal.encode_node-requires
unfolding may_be_named
encode_node-requires c = search rules
