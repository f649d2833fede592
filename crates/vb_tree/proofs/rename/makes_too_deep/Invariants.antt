use Rattle.std.proofs.Common.{◌≡◌, drop}
use Rattle.vb_tree.specs.Renames.{makes_deep}
use Rattle.vb_tree.proofs.rename.makes_too_deep.Given as goal

abbrev pub invariant-loop-entry : goal.invariant-loop-entry
invariant-loop-entry l = makes_deep l.source l.target l.entries ≡ makes_deep l.source l.target (drop l.entry-index l.entries)
