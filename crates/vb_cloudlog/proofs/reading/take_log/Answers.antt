use Rattle.std.proofs.Common.{rules}
use Rattle.vb_cloudlog.proofs.Loading.{loads-read}
use Rattle.vb_cloudlog.proofs.reading.take_log.Goals as goal

pub returns-in-Ok-cut_rest-clause-loads : goal.returns-in-Ok-cut_rest-clause-loads
returns-in-Ok-cut_rest-clause-loads g c = λ all told.
    loads-read all (g.F.LogFile.told c.cut_rest.new.file) c.in-Ok.replay c.into_cloud.result (c.in-Ok.ensures.reads all told) c.in-Ok.ensures.goes_on
    (c.in-Ok-cut_rest.ensures.cuts all (search rules)) c.into_cloud.ensures.cloud
