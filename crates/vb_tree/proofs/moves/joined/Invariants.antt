use Rattle.std.proofs.Common.{◌≡◌, ◌++◌, take}
use Rattle.vb_tree.proofs.moves.joined.Given as goal

abbrev pub invariant-loop-name : goal.invariant-loop-name
invariant-loop-name l = l.names ≡ l.front ++ take l.name-index l.back
