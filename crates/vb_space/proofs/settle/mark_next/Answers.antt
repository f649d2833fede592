use Rattle.std.proofs.Common.{◌<◌, ◌-◌, ◌+◌, ◌≤◌, length, arith, get_or}
use Rattle.vb_space.proofs.Counts.{next-marked, next-none}
use Rattle.vb_space.proofs.Marks.{mark_more}
use Rattle.vb_space.proofs.settle.mark_next.Goals as goal

pub loop-place-init : goal.loop-place-init
loop-place-init c = record {
  marked = λ k within. c.requires.fresh k;
  counted = omega (arith, next-none c.args.users.now c.requires.fresh);
}

pub loop-place-preserved : goal.loop-place-preserved
loop-place-preserved c =
    let l = c.loop-place in
    let place = get_or c.args.used.now l.place-index 0 in
    let above : c.args.first ≤ place = c.requires.within l.place-index 0 c.loop-place-test.true in
    let under : place < c.args.first + length l.users = omega (arith, c.requires.below l.place-index 0 c.loop-place-test.true) in
    let inside : place - c.args.first < length l.users = omega (arith, above, under) in
    record {
      marked = mark_more c.args.first l.users c.args.used.now l.place-index c.loop-place-test.true above under l.invariant.marked;
      counted = omega (arith, next-marked l.users (place - c.args.first) inside, l.invariant.counted);
    }
