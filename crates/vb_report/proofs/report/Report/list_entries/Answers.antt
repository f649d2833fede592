use Rattle.vb_report.proofs.Listings.{adds-listed}
use Rattle.vb_report.proofs.report.Report.list_entries.Goals as goal

pub loop-i-preserved : goal.loop-i-preserved
loop-i-preserved c =
    let e = c.entry-kind.result in
    adds-listed c.args.self.now c.loop-i.self c.listed.new.self c.args.heading.now c.args.cloud.now.epoch c.args.cloud.now.tree c.loop-i.i e.0.now e.1 e.2.now c.entry-kind.ensures c.loop-i.invariant c.in_ok-listed.ensures
