use Rattle.vb_local.specs.States.{frozen_state}
use Rattle.vb_local.proofs.SettledPages.{settling-can, settling-goes}
use Rattle.vb_local.proofs.settling.settle_views.Goals as goal

pub loop-key-preserved : goal.loop-key-preserved
loop-key-preserved c =
    let one = c.settle_page.ensures.settles in
    record {
      can = settling-can c.args.index.now.nodes c.loop-key.live c.settle_page.new.live (frozen_state c.loop-key.frozen) (frozen_state c.settle_page.new.frozen) one c.loop-key.invariant.can;
      so_far = settling-goes c.args.index.now.nodes c.args.live.now c.loop-key.live c.settle_page.new.live (frozen_state c.args.frozen.now) (frozen_state c.loop-key.frozen) (frozen_state c.settle_page.new.frozen) c.loop-key.invariant.so_far one;
    }
