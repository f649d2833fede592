use Rattle.std.proofs.Common.{Ok}
use Rattle.vb_cloudlog.proofs.Loading.{told-stays}
use Rattle.vb_cloudlog.proofs.log_cloud.LogCloud.ready.Goals as goal

pub returns-in-Ok-clause-told : goal.returns-in-Ok-clause-told
returns-in-Ok-clause-told g c = told-stays (g.F.LogFile.told c.args.self.now.file) (g.F.LogFile.told c.load.new.self.file) c.load.new.self.cloud (Ok tt) c.in-Ok.ensures.loads c.in-Ok.ensures.untold
