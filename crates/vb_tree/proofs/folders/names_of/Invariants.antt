use Rattle.std.proofs.Common.{◌≡◌, ◌++◌, drop}
use Rattle.vb_tree.specs.Trees.{names_in}
use Rattle.vb_tree.proofs.folders.names_of.Given as goal

abbrev pub invariant-loop-entry : goal.invariant-loop-entry
invariant-loop-entry l = names_in l.folder l.entries ≡ l.names ++ names_in l.folder (drop l.entry-index l.entries)
