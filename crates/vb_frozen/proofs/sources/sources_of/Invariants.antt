use Rattle.std.proofs.Common.{◌≡◌, take}
use Rattle.vb_frozen.specs.Sources.{sources_from}
use Rattle.vb_frozen.proofs.sources.sources_of.Given as goal

-- the sources of the pages that were gone over
abbrev pub invariant-loop-page : goal.invariant-loop-page
invariant-loop-page l = l.sources ≡ sources_from l.pages l.slot 0 (take l.page l.refs)
