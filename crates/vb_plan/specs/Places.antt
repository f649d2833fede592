-- The places that references name.
use Rattle.std.specs.Prelude.{ℕ, List, [], ◌++◌, map, unwrap_or, Option, None, Some}
use Rattle.std.specs.List.{flat_map}
use Rattle.vb_block.specs.declared.digest.Ref.{Ref}
use Rattle.vb_index.specs.declared.held.Held.{Held}
use Rattle.vb_index.specs.Nodes.{refs_of}

-- the places that references name
abbrev pub places_of : List Ref → List ℕ
places_of refs = map (λ r. r.place) refs

-- the places of the map pages of what a slot holds, and then those of its data pages
abbrev pub places_of_slot : Option Held → List ℕ
places_of_slot None = []
places_of_slot (Some held) = places_of held.node.maps ++ places_of (unwrap_or (refs_of held) [])

-- the places of the map pages and data pages of all slots
abbrev pub places_in : List (Option Held) → List ℕ
places_in nodes = flat_map places_of_slot nodes
