use Rattle.std.proofs.Common.{◌≡◌, ◌++◌, ◌∷◌, [], take}
use Rattle.std.specs.List.{filter}
use Rattle.vb_hist.specs.Histories.{outlives_cut}
use Rattle.vb_hist.proofs.survival.cut_back.Given as goal

abbrev pub invariant-loop-entry : goal.invariant-loop-entry
invariant-loop-entry l = l.line.items ≡ (take l.front l.fn.line.items ++ l.fn.cut ∷ []) ++ filter outlives_cut l.yielded
