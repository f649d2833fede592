-- some pages were settled, and the others can be
use Rattle.std.proofs.Common.{length}
use Rattle.vb_local.specs.AtRest.{CanSettle, Settling}
use Rattle.vb_local.specs.States.{frozen_state}
use Rattle.vb_local.proofs.settling.settle_views.Given as goal

abbrev pub invariant-loop-key : goal.invariant-loop-key
invariant-loop-key l = record {
  can : CanSettle l.index.nodes l.live (frozen_state l.frozen);
  so_far : Settling l.index.nodes l.initial.live (frozen_state l.initial.frozen) l.live (frozen_state l.frozen);
}

abbrev pub decreases-loop-key : goal.decreases-loop-key
decreases-loop-key l = length l.frozen.pages
