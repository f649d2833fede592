use Rattle.vb_cloudlog.proofs.SentFrames.{own-later}
use Rattle.vb_cloudlog.proofs.link_calls.LogCloudLink.send.Goals as goal

pub returns-in-Ok-clause-own : goal.returns-in-Ok-clause-own
returns-in-Ok-clause-own g c =
    own-later c.send_loaded.result (g.F.LogFile.faults c.args.self.now.file) (g.F.LogFile.faults c.ready.new.self.file) (g.F.LogFile.faults c.send_loaded.new.self.file)
    c.args.self.now.own c.ready.new.self.own c.send_loaded.new.self.own c.in-Ok.ensures.faults c.in-Ok.ensures.own c.send_loaded.ensures.own
