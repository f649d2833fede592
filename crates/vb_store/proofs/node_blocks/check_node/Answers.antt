use Rattle.std.proofs.Common.{sym, ◌∙◌}
use Rattle.vb_journal.specs.Images.{slot_of}
use Rattle.vb_store.proofs.SlotsRead.{slot_read}
use Rattle.vb_store.proofs.node_blocks.check_node.Goals as goal

pub returns-then-is_own-clause-own_slot : goal.returns-then-is_own-clause-own_slot
unfolding slot_of
returns-then-is_own-clause-own_slot c =
    slot_read c.args.nodes c.args.page.now c.in-Ok.node c.in-Ok.ensures.read ∙ sym c.get_u32.ensures ∙ c.if-is_own.true
