use Rattle.std.proofs.Common.{◌≤◌, sym, subst}
use Rattle.std.specs.Prelude.{vec_len}
use Rattle.vb_journal.specs.Recovering.{most_slots}
use Rattle.vb_journal.proofs.RecoverStages.{slots-noted}
use Rattle.vb_journal.proofs.recover.RecoverMachine.after.Goals as goal

pub invariant_of-self-2 : goal.invariant_of-self-2
invariant_of-self-2 c =
    let few : vec_len c.make_room.new.slots ≤ most_slots c.args.self.now.stage = subst (λ n. n ≤ most_slots c.args.self.now.stage) (sym c.make_room.ensures.len) c.args.self.now.few in
    record { few = slots-noted c.args.self.now.stage c.after.new.self c.args.got c.reads_image-reads_image.result (vec_len c.make_room.new.slots) (vec_len c.note_slot.new.slots) few c.reads_image-reads_image.ensures c.in_ok-after.ensures.goes.view_is c.note_slot.ensures.len }
