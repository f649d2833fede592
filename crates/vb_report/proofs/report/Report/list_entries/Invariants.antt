-- the report has the heading and the lines of the entries so far
use Rattle.std.proofs.Common.{◌≡◌, map, take}
use Rattle.vb_report.specs.Text.{listing_text, listed_of}
use Rattle.vb_report.specs.Reports.{with_text}
use Rattle.vb_report.proofs.report.Report.list_entries.Given as goal

abbrev pub invariant-loop-i : goal.invariant-loop-i
invariant-loop-i l = l.self ≡ with_text l.fn.self (listing_text l.heading l.cloud.epoch (map listed_of (take l.i l.cloud.tree)))
