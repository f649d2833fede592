-- What a plan is made of, as contracts see it.
use Rattle.std.specs.Prelude.{List, [], ◌∷◌, Option, None, Some}
use Rattle.vb_index.specs.Indexes.{IndexState}
use Rattle.vb_space.specs.Spaces.{DataPlaces, free_places}
use Rattle.vb_plan.specs.declared.map_pages.OldRefs.{OldRefs}
use Rattle.vb_plan.specs.Maps.{FileRefs}
use Rattle.vb_plan.specs.Plans.{Basis}

-- the references of a file that are lent
abbrev pub seen_refs : OldRefs → FileRefs
seen_refs old = record { maps = old.maps.now; refs = old.refs.now }

-- what a plan stands on where these are the committed nodes, and the places of both views
abbrev pub basis_of : IndexState → DataPlaces → Basis
basis_of index space = record { nodes = index.nodes; free = free_places space }

-- the one item that there is, or none
abbrev pub items_of : {T : Type 0} → Option T → List T
items_of None = []
items_of (Some item) = item ∷ []
