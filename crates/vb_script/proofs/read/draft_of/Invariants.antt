use Rattle.std.proofs.Common.{◌≡◌, ◌+◌, ◌<◌, ◌≤◌, length}
use Rattle.vb_script.specs.Words.{lines_of}
use Rattle.vb_script.specs.Scripts.{blank, after_lines}
use Rattle.vb_script.specs.Sound.{IsSound, lines_in}
use Rattle.vb_script.proofs.read.draft_of.Given as goal

abbrev pub invariant-loop-line : goal.invariant-loop-line
invariant-loop-line l =
    (after_lines l.form l.number l.draft (lines_of l.rest) ≡ after_lines l.form 1 blank (lines_of l.bytes))
    × (l.number + length l.rest ≤ length l.bytes + 1) × IsSound l.draft × (lines_in l.draft < l.number)

abbrev pub decreases-loop-line : goal.decreases-loop-line
decreases-loop-line l = length l.rest
