use Rattle.std.proofs.Common.{◌≡◌, take, map, get_or}
use Rattle.vb_nodes.specs.declared.ascents.Ascent.{Ascent}
use Rattle.vb_nodes.specs.Ascents.{followed_by, no_ascent}
use Rattle.vb_nodes.proofs.ascents.double.Given as goal

abbrev pub invariant-loop-ascent : goal.invariant-loop-ascent
invariant-loop-ascent l = l.twice.items ≡ map (λ (a : Ascent). followed_by a (get_or l.ascents a.to no_ascent)) (take l.ascent-index l.ascents)
