use Rattle.std.proofs.Common.{◌≡◌, ◌+◌, ◌-◌, ◌/◌, true, arith, rules}
use Rattle.std.specs.Ordering.{is_lt}
use Rattle.vb_path.specs.Paths.{path_cmp}
use Rattle.vb_path.proofs.PathLaws.{before-path}
use Rattle.vb_helper.proofs.Following.{all_before}
use Rattle.vb_helper.proofs.following_page.first_from.Goals as goal

pub loop-low-preserved-then-is_lt : goal.loop-low-preserved-then-is_lt
loop-low-preserved-then-is_lt c =
    let l = c.loop-low in
    let e = c.index-order-middle.result in
    let low = l.invariant.ordered in
    let high = l.invariant.within in
    let test = c.loop-low-test.true in
    let less : is_lt (path_cmp e.path c.args.path.now) ≡ true = search rules in
    record {
      ordered = omega (arith, low, test);
      within = high;
      before = all_before c.args.order.now c.args.path.now (l.low + (l.high - l.low) / 2) e c.requires (omega (arith, low, high, test)) c.index-order-middle.is (before-path e.path c.args.path.now less);
    }
