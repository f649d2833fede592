-- The count is told the history of the value that comes back.
use Rattle.vb_turn.proofs.turn.Turn.leave.Given as goal

abbrev pub ghosts-count : goal.ghosts-count
ghosts-count g a = record { history = g.V.Kept.history a.value.now }
