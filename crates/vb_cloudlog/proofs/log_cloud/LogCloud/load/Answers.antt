use Rattle.vb_cloudlog.proofs.Loading.{held-now}
use Rattle.vb_cloudlog.proofs.log_cloud.LogCloud.load.Goals as goal

pub invariant_of-self : goal.invariant_of-self
invariant_of-self g c = record {
  sound = c.in-Ok.ensures.sound;
  held = held-now (g.F.LogFile.told c.args.self.now.file) (g.F.LogFile.told c.take_log.new.file) c.in-Ok.cloud c.in-Ok.ensures.loads c.in-Ok.ensures.untold;
}
