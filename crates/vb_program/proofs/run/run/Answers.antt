use Rattle.std.proofs.Common.{◌++◌, refl, sym, ap, ◌∙◌}
use Rattle.vb_program.specs.Run.{error_line, faults_at_status}
use Rattle.vb_program.proofs.Endings.{may-end, written-whole, failed-four, source-status, words-two, source-three, five-wrong, eleven-not_yet, zero-whole, unread-refused}
use Rattle.vb_program.proofs.run.run.Goals as goal

pub returns-clause-written : goal.returns-clause-written
returns-clause-written g c = λ input before told_in told_out. (
  c.decide-ending.result,
  c.decide-ending.new.report.text ++ error_line c.decide-ending.result,
  c.write_both-outcome.result,
  (c.decide-ending.new.report.text, c.decide-ending.ensures.reports input told_in, refl),
  c.status_after.ensures,
  rw (c.bytes.ensures, c.error_line.ensures) at (c.write_both-outcome.ensures.written before told_out),
  record {
    faults_counted = c.write_both-outcome.ensures.faults;
    shortages_counted = c.write_both-outcome.ensures.shortages;
    nothing_follows = c.write_both-outcome.ensures.stopped;
  },
)

pub returns-clause-unread : goal.returns-clause-unread
returns-clause-unread g c = λ h.
    c.decide-ending.ensures.unread (words-two c.decide-ending.result c.write_both-outcome.result (sym c.status_after.ensures ∙ h))

pub returns-clause-source_fault : goal.returns-clause-source_fault
returns-clause-source_fault g c =
    let faults = g.S.Source.faults c.args.source.now in
    c.decide-ending.ensures.faults ∙ source-status c.decide-ending.result c.write_both-outcome.result faults ∙ ap (λ s. faults_at_status s faults) (sym c.status_after.ensures)

pub returns-clause-source_stopped : goal.returns-clause-source_stopped
returns-clause-source_stopped g c = λ h.
    c.decide-ending.ensures.stopped (source-three c.decide-ending.result c.write_both-outcome.result (sym c.status_after.ensures ∙ h))

pub returns-clause-sink_counts : goal.returns-clause-sink_counts
returns-clause-sink_counts g c = (
  c.write_both-outcome.result,
  record {
    faults_counted = c.write_both-outcome.ensures.faults;
    shortages_counted = c.write_both-outcome.ensures.shortages;
    nothing_follows = c.write_both-outcome.ensures.stopped;
  },
  λ h. written-whole c.decide-ending.result c.write_both-outcome.result (sym c.status_after.ensures ∙ h),
  λ h. failed-four c.decide-ending.result c.write_both-outcome.result (sym c.status_after.ensures ∙ h),
)

pub returns-clause-refused : goal.returns-clause-refused
returns-clause-refused g c = λ input told error is.
    unread-refused c.args.words.now input c.decide-ending.new.report.text c.decide-ending.result _ c.status_after.result error (c.decide-ending.ensures.reports input told) (may-end c.decide-ending.result c.write_both-outcome.result c.status_after.result c.status_after.ensures) is

pub returns-clause-wrong : goal.returns-clause-wrong
returns-clause-wrong g c = λ input told is.
    five-wrong c.args.words.now input c.decide-ending.new.report.text c.decide-ending.result _ c.status_after.result (c.decide-ending.ensures.reports input told) (may-end c.decide-ending.result c.write_both-outcome.result c.status_after.result c.status_after.ensures) is

pub returns-clause-not_yet : goal.returns-clause-not_yet
returns-clause-not_yet g c = λ input told is.
    eleven-not_yet c.args.words.now input c.decide-ending.new.report.text c.decide-ending.result _ c.status_after.result (c.decide-ending.ensures.reports input told) (may-end c.decide-ending.result c.write_both-outcome.result c.status_after.result c.status_after.ensures) is

pub returns-clause-whole : goal.returns-clause-whole
returns-clause-whole g c = λ input told is.
    zero-whole c.args.words.now input c.decide-ending.new.report.text c.decide-ending.result _ c.status_after.result (c.decide-ending.ensures.reports input told) (may-end c.decide-ending.result c.write_both-outcome.result c.status_after.result c.status_after.ensures) is
