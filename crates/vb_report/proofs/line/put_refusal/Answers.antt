-- The name and the numbers are those of the refusal.
use Rattle.vb_report.specs.Text.{refusal_text}
use Rattle.vb_report.proofs.line.put_refusal.Goals as goal

pub returns-in-TooManyNodes : goal.returns-in-TooManyNodes
unfolding refusal_text
returns-in-TooManyNodes c =
    rw (c.in-TooManyNodes.is, ← c.from.ensures, ← c.from-in-TooManyNodes.ensures) c.put_numbers.ensures
