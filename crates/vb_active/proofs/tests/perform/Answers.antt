use Rattle.std.proofs.Common.{◌<◌, ℕ, subst, sym}
use Rattle.vb_active.proofs.tests.perform.Goals as goal

pub invariant_of-live : goal.invariant_of-live
invariant_of-live c = record {
  below = λ s k r out.
      let P : ℕ → Type 0 = λ n. r.place < n in
      subst P (sym c.perform.ensures.seen) (c.args.live.now.below s k r (c.perform.ensures.performs.out s k r out));
}
