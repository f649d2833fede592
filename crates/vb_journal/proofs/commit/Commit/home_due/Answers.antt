use Rattle.std.proofs.Common.{◌<◌, length, ap, arith}
use Rattle.vb_disk.specs.States.{DiskCall}
use Rattle.vb_steps.specs.Calls.{Change}
use Rattle.vb_journal.proofs.ImageWrites.{due-home, home_within, slot_read}
use Rattle.vb_journal.proofs.commit.Commit.home_due.Goals as goal

pub overflow_add-result : goal.overflow_add-result
overflow_add-result c =
    let commit = c.args.self.now in
    let left : c.args.next < length c.args.self.now.images = omega arith in
    let home = home_within commit.head commit.epoch commit.images c.args.next c.get_u32.result commit.can.finish left (slot_read commit.images c.args.next c.get-page.result.now c.get_u32.result c.get-page.ensures c.get_u32.ensures) in
    omega arith

pub returns-then-next-len-clause-due : goal.returns-then-next-len-clause-due
returns-then-next-len-clause-due c =
    let commit = c.args.self.now in
    let left : c.args.next < length c.args.self.now.images = omega arith in
    ap (λ (d : DiskCall). Change d) (due-home commit.head commit.epoch commit.images c.args.next c.get-page.result.now c.get_u32.result left c.get-page.ensures c.get_u32.ensures)
