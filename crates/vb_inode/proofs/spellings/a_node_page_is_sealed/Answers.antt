use Rattle.vb_inode.proofs.Spelled.{node_page_sealed, node_page_slot}
use Rattle.vb_inode.proofs.spellings.a_node_page_is_sealed.Goals as goal

pub returns-clause-sealed : goal.returns-clause-sealed
returns-clause-sealed c nodes node few is = node_page_sealed nodes node few is

pub returns-clause-slot : goal.returns-clause-slot
returns-clause-slot c nodes node few is = node_page_slot nodes node few is
