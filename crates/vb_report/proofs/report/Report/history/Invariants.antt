-- the report has the lines of the entries so far
use Rattle.std.proofs.Common.{◌≡◌, take}
use Rattle.vb_report.specs.Text.{history_text}
use Rattle.vb_report.specs.Reports.{with_text}
use Rattle.vb_report.proofs.report.Report.history.Given as goal

abbrev pub invariant-loop-entry : goal.invariant-loop-entry
invariant-loop-entry l = l.self ≡ with_text l.fn.self (history_text (take l.entry-index l.entries))
