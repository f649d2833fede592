-- the line has the number of names, and the names so far
use Rattle.std.proofs.Common.{◌≡◌, ◌++◌, take, length, decimal}
use Rattle.vb_report.specs.Text.{names_text}
use Rattle.vb_report.proofs.line.put_names.Given as goal

abbrev pub invariant-loop-name : goal.invariant-loop-name
invariant-loop-name l = l.line ≡ l.fn.line ++ (decimal (length l.names) ++ names_text (take l.name-index l.names))
