use Rattle.std.proofs.Common.{length, take, drop, ap, sym, ◌∙◌, arith}
use Rattle.vb_cloudlog.specs.Messages.{opening_of}
use Rattle.vb_cloudlog.specs.Replays.{ReplayState, fed}
use Rattle.vb_cloudlog.proofs.Feeding.{fed-nothing, fed-piece}
use Rattle.vb_cloudlog.proofs.replay.Replay.feed.Goals as goal

pub loop-at-init : goal.loop-at-init
loop-at-init c = record {
  within = omega arith;
  fed = sym (fed-nothing c.args.self.now (ap (λ (r : ReplayState). opening_of r.rest) (sym c.self.view_is) ∙ c.self.invariant.partial));
}

pub loop-at-preserved : goal.loop-at-preserved
loop-at-preserved c =
    let within = c.loop-at.invariant.within in
    let long = ap (λ xs. length xs) c.split_at.ensures.back in
    record {
      within = omega (arith, within, c.in-Some-step.ensures.within.1, c.split_at.ensures.back_len);
      fed =
          c.in-Some-step.ensures.fed ∙ ap (λ xs. fed c.loop-at.self (take c.in-Some-step.n xs)) c.split_at.ensures.back
          ∙ ap (λ (r : ReplayState). fed r (take c.in-Some-step.n (drop c.loop-at.at c.args.piece.now))) c.loop-at.invariant.fed
          ∙ fed-piece c.args.self.now c.loop-at.at c.in-Some-step.n c.args.piece.now;
    }
