use Rattle.std.proofs.Common.{take, drop, ap, ◌∙◌}
use Rattle.std.proofs.lemmas.List.{take-append-drop}
use Rattle.std.proofs.lemmas.Result.{err_from_is_err_and}
use Rattle.vb_report.specs.Reports.{with_shortage}
use Rattle.vb_report.proofs.report.Report.history.Goals as goal

pub returns-in_err-entry : goal.returns-in_err-entry
returns-in_err-entry c =
    let p = err_from_is_err_and c.from_residual.result c.from_residual.ensures.1 in
    let n = c.loop-entry.entry-index in
    let entries = c.args.entries.now in
    rw p.1 (take n entries, (drop n entries, take-append-drop n entries), c.in_err-entry.ensures ∙ ap with_shortage c.loop-entry.invariant)
