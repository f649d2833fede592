use Rattle.vb_inode.proofs.Spelled.{map_spelled, node_spelled}
use Rattle.vb_inode.proofs.spellings.a_page_has_one_spelling.Goals as goal

pub returns-clause-node : goal.returns-clause-node
returns-clause-node c nodes page node is read = node_spelled nodes page node is read

pub returns-clause-map : goal.returns-clause-map
returns-clause-map c count page refs few is read = map_spelled count page refs few is read
