use Rattle.std.proofs.Common.{sym, ap, ◌∙◌, subst}
use Rattle.vb_cloud.specs.Valid.{IsCloudState}
use Rattle.vb_cloudlog.specs.Messages.{opening_of}
use Rattle.vb_cloudlog.proofs.Openings.{opening-nothing}
use Rattle.vb_cloudlog.proofs.replay.Replay.new.Goals as goal

pub invariant_of-result : goal.invariant_of-result
invariant_of-result c = record {
  sound = subst IsCloudState (sym c.new.ensures) c.clouds_go_on.ensures.new;
  partial = ap opening_of c.new-2.ensures ∙ opening-nothing;
}
