use Rattle.std.proofs.Common.{◌≡◌, ◌++◌, take}
use Rattle.vb_store.specs.Views.{places_of}
use Rattle.vb_store.proofs.used_places.add_refs.Given as goal

abbrev pub invariant-loop-reference : goal.invariant-loop-reference
invariant-loop-reference l = l.used.items ≡ l.initial.used.items ++ places_of (take l.reference-index l.refs)
