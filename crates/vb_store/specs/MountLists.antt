-- The places that a mount has still to read, in their order.
use Rattle.std.specs.Prelude.{◌≡◌, ℕ, zero, suc, ◌+◌, ◌-◌, List, [], ◌∷◌, ◌++◌, length, drop, map, Result, Ok, Err}
use Rattle.vb_head.specs.declared.head.Head.{Head}
use Rattle.vb_inode.specs.declared.node.Node.{Node}
use Rattle.vb_index.specs.Indexes.{IndexState}
use Rattle.vb_journal.specs.declared.recover_error.RecoverError.{RecoverError}
use Rattle.vb_journal.specs.declared.recover_error.RecoverError.TheVariants.{NotAStore, Damaged, Unfit, Rebuilding, DiskFault, Memory}
use Rattle.vb_nodes.specs.declared.errors.TableError.{TableError}
use Rattle.vb_nodes.specs.Holdings.{index_from}
use Rattle.vb_store.specs.declared.map_page.MapPage.{MapPage}
use Rattle.vb_store.specs.declared.mount_stage.MountStage.{MountStage}
use Rattle.vb_store.specs.declared.mount_stage.MountStage.TheVariants.{ReadHome, ReadMap, Finish, Refused}
use Rattle.vb_store.specs.Metadata.{maps_in, nodes_left}
use Rattle.vb_store.specs.MountStages.{home_of}
use Rattle.vb_store.specs.Views.{limits_of}

-- the places of so many homes, from that of this slot on
abbrev pub home_places : ℕ → ℕ → List ℕ
home_places slot zero = []
home_places slot (suc left) = (2 + slot) ∷ home_places (slot + 1) left

-- the places of map pages
abbrev pub map_places : List MapPage → List ℕ
map_places maps = map (λ m. m.reference.place) maps

-- the places of the map pages of an index, none where there is no index
abbrev pub places_of_tree : Result IndexState TableError → List ℕ
places_of_tree (Ok index) = map_places (maps_in index.nodes)
places_of_tree (Err error) = []

-- those of the tree that nodes make, none where they make none
abbrev pub places_of_table : Head → Result (List Node) RecoverError → List ℕ
places_of_table head (Ok nodes) = places_of_tree (index_from (limits_of head) nodes)
places_of_table head (Err error) = []

-- the homes that are left after these nodes, and then the map pages of the tree that all nodes make
abbrev pub places_of_homes : (ℕ → List ℕ) → Head → List ℕ → ℕ → List Node → List ℕ
places_of_homes reads head slots left nodes =
    home_places (length nodes) left ++ places_of_table head (nodes_left head.nodes (home_of reads slots head.nodes) left nodes)

-- the places that are left at a stage, if reads give these pages from now on
abbrev pub places_left : (ℕ → List ℕ) → MountStage → List ℕ
places_left reads (ReadHome h) = places_of_homes reads h.head h.slots.items (h.head.nodes - length h.nodes) h.nodes
places_left reads (ReadMap m) = m.map.reference.place ∷ map_places (drop m.tree.next m.tree.maps.items)
places_left reads (Finish w) = []
places_left reads (Refused r) = []

-- the same, but for the last one, which is read again where there was no memory for what comes after it
abbrev pub places_due : (ℕ → List ℕ) → MountStage → List ℕ
places_due reads (ReadHome h) = places_left reads (ReadHome h)
places_due reads (ReadMap m) = places_left reads (ReadMap m)
places_due reads (Finish w) = w.place ∷ []
places_due reads (Refused r) = []

-- a read of this place came before: nothing was refused, and where all was read, it was the last
abbrev pub ComesAfter : ℕ → MountStage → Type 0
ComesAfter place (ReadHome h) = Unit {0}
ComesAfter place (ReadMap m) = Unit {0}
ComesAfter place (Finish w) = w.place ≡ place
ComesAfter place (Refused r) = ⊥

-- a step read the first of the places that were left, and the others are left; after a fault and for want of memory
-- all are left
abbrev pub ReadsFirst : {T : Type 0} → (ℕ → List ℕ) → ℕ → MountStage → MountStage → Result T RecoverError → Type 0
ReadsFirst reads place before after (Ok done) = places_due reads before ≡ place ∷ places_left reads after
ReadsFirst reads place before after (Err (NotAStore at)) = Unit {0}
ReadsFirst reads place before after (Err (Damaged at kept found)) = Unit {0}
ReadsFirst reads place before after (Err (Unfit at why)) = Unit {0}
ReadsFirst reads place before after (Err Rebuilding) = Unit {0}
ReadsFirst reads place before after (Err DiskFault) = places_due reads after ≡ places_due reads before
ReadsFirst reads place before after (Err Memory) = places_due reads after ≡ places_due reads before
