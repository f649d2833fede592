use Rattle.std.proofs.Common.{◌≡◌, ◌∷◌, map, take}
use Rattle.vb_frozen.specs.Sources.{next_node, next_root}
use Rattle.vb_frozen.proofs.sources.next_of.Given as goal

-- the root and the entries that were gone over
abbrev pub invariant-loop-entry : goal.invariant-loop-entry
invariant-loop-entry l = l.next ≡ next_root ∷ map (next_node l.pages) (take l.entry-index l.order)
