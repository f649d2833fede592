use Rattle.vb_hist.proofs.Lines.{lines-all}
use Rattle.vb_hist.proofs.laws.writers_entries_are_lines.Goals as goal

pub returns : goal.returns
returns c = lines-all
