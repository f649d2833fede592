use Rattle.std.proofs.Common.{◌≡◌, ◌+◌, ◌-◌, ◌*◌, ◌/◌, min, refl, ◌∙◌, arith}
use Rattle.vb_active.proofs.Causes.{looked-on}
use Rattle.vb_active.proofs.Ranges.{read-step}
use Rattle.vb_active.proofs.active.Active.read_range.Goals as goal

pub loop-at-preserved : goal.loop-at-preserved
loop-at-preserved g c =
    let next = c.min-next.result in
    let page = c.loop-at.at / 4096 in
    let is : next ≡ min c.args.end (4096 * page + 4096) = c.min-next.ensures in
    let looked = c.loop-at.invariant.looked in
    record {
      low = omega arith;
      high = omega arith;
      read = λ d told backs. read-step d c.args.self.now c.args.slot c.args.start c.loop-at.at c.args.end page (c.loop-at.at - 4096 * page) (next - 4096 * page) next c.loop-at.bytes c.add_piece.new.bytes (c.loop-at.invariant.read d told backs) c.loop-at.invariant.low c.loop-at-test.true refl refl refl is (c.in_ok-add_piece.ensures.piece d (looked.told_same ∙ told) backs);
      looked = looked-on c.add_piece.result (g.D.Disk.told c.args.disk.now) (g.D.Disk.told c.loop-at.disk) (g.D.Disk.told c.add_piece.new.disk) (g.D.Disk.seen c.args.disk.now) (g.D.Disk.seen c.loop-at.disk) (g.D.Disk.seen c.add_piece.new.disk) (g.D.Disk.faults c.args.disk.now) (g.D.Disk.faults c.loop-at.disk) (g.D.Disk.faults c.add_piece.new.disk) (g.D.Disk.failures_left c.args.disk.now) (g.D.Disk.failures_left c.loop-at.disk) (g.D.Disk.failures_left c.add_piece.new.disk) looked c.add_piece.ensures.told c.add_piece.ensures.seen c.add_piece.ensures.cause c.add_piece.ensures.left;
    }
