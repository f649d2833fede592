-- How far a mount has come: what is left of its answer, and which call is due.
use Rattle.std.specs.Prelude.{◌≡◌, ◌≢◌, ℕ, ◌+◌, ◌-◌, Bool, true, false, List, length, drop, Option, Some, None, Result, Ok, Err}
use Rattle.vb_disk.specs.States.{DiskState, read_at}
use Rattle.vb_head.specs.declared.head.Head.{Head}
use Rattle.vb_inode.specs.declared.node.Node.{Node}
use Rattle.vb_index.specs.Indexes.{IndexState}
use Rattle.vb_journal.specs.declared.recover_error.RecoverError.{RecoverError}
use Rattle.vb_journal.specs.declared.recover_error.RecoverError.TheVariants.{NotAStore, Damaged, Unfit, Rebuilding, DiskFault, Memory}
use Rattle.vb_nodes.specs.Holdings.{index_from}
use Rattle.vb_store.specs.declared.map_page.MapPage.{MapPage}
use Rattle.vb_store.specs.declared.mount_stage.MountStage.{MountStage}
use Rattle.vb_store.specs.declared.mount_stage.MountStage.TheVariants.{ReadHome, ReadMap, Finish, Refused}
use Rattle.vb_store.specs.Metadata.{Mapped, Metadata, Standing, after_page, and_then, block_place, index_or_refusal, maps_in, maps_left, no_claims, nodes_left}
use Rattle.vb_store.specs.NodesRead.{is_retried}
use Rattle.vb_store.specs.Views.{limits_of}

-- ---- what is left of the answer

-- the metadata of a store at rest with this head
abbrev pub metadata_at : Head → Mapped → Metadata
metadata_at head known = record { head = head; held = known.slots }

-- the home of a slot, and where its block stood before the journal's images, which have these slots, were put over it
abbrev pub home_of : (ℕ → List ℕ) → List ℕ → ℕ → ℕ → Standing
home_of reads slots nodes slot = record { place = block_place slots nodes slot; page = reads (2 + slot) }

-- the metadata, where these map pages are left
abbrev pub rest_of_maps : (ℕ → List ℕ) → Head → List ℕ → List MapPage → Mapped → Result Metadata RecoverError
rest_of_maps reads head slots maps known =
    and_then (maps_left reads (block_place slots head.nodes) maps known) (λ end. Ok (metadata_at head end))

-- the metadata, where this map page is to be read, and then these
abbrev pub rest_of_map : (ℕ → List ℕ) → Head → List ℕ → MapPage → List MapPage → Mapped → Result Metadata RecoverError
rest_of_map reads head slots m maps known = and_then (after_page m (reads m.reference.place) known) (rest_of_maps reads head slots maps)

-- the metadata of an index, none of whose map pages was read
abbrev pub rest_of_index : (ℕ → List ℕ) → Head → List ℕ → IndexState → Result Metadata RecoverError
rest_of_index reads head slots index = rest_of_maps reads head slots (maps_in index.nodes) (record { slots = index.nodes; claims = no_claims head })

-- the metadata of these nodes, where the head stood at this place
abbrev pub rest_of_table : (ℕ → List ℕ) → Head → ℕ → List ℕ → List Node → Result Metadata RecoverError
rest_of_table reads head place slots nodes =
    and_then (index_or_refusal place (block_place slots head.nodes) (index_from (limits_of head) nodes)) (rest_of_index reads head slots)

-- the metadata, where so many homes are left after these nodes
abbrev pub rest_of_homes : (ℕ → List ℕ) → Head → ℕ → List ℕ → ℕ → List Node → Result Metadata RecoverError
rest_of_homes reads head place slots left nodes =
    and_then (nodes_left head.nodes (home_of reads slots head.nodes) left nodes) (rest_of_table reads head place slots)

-- what a mount answers in the end, if reads give these pages from now on
abbrev pub rest_of : (ℕ → List ℕ) → MountStage → Result Metadata RecoverError
rest_of reads (ReadHome h) = rest_of_homes reads h.head h.place h.slots.items (h.head.nodes - length h.nodes) h.nodes
rest_of reads (ReadMap m) = rest_of_map reads m.tree.head m.tree.slots.items m.map (drop m.tree.next m.tree.maps.items) (record { slots = m.tree.index.nodes; claims = m.tree.claims })
rest_of reads (Finish w) = Ok (record { head = w.head; held = w.index.nodes })
rest_of reads (Refused r) = Err r.error

-- ---- the call that is due

-- the place that is read next
abbrev pub due_place : MountStage → Option ℕ
due_place (ReadHome h) = Some (2 + length h.nodes)
due_place (ReadMap m) = Some m.map.reference.place
due_place (Finish w) = Some w.place
due_place (Refused r) = None

-- the blocks of the store that is mounted
abbrev pub blocks_of : MountStage → ℕ
blocks_of (ReadHome h) = h.head.blocks
blocks_of (ReadMap m) = m.tree.head.blocks
blocks_of (Finish w) = w.head.blocks
blocks_of (Refused r) = 0

-- a mount has ended with this refusal
abbrev pub HasEnded : MountStage → RecoverError → Type 0
HasEnded (ReadHome h) error = ⊥
HasEnded (ReadMap m) error = ⊥
HasEnded (Finish w) error = ⊥
HasEnded (Refused r) error = r.error ≡ error

-- after a fault and for want of memory the same call is due, and else the mount has ended with this error
abbrev pub StandsAfter : MountStage → MountStage → RecoverError → Type 0
StandsAfter old new (NotAStore place) = HasEnded new (NotAStore place)
StandsAfter old new (Damaged place kept found) = HasEnded new (Damaged place kept found)
StandsAfter old new (Unfit place why) = HasEnded new (Unfit place why)
StandsAfter old new Rebuilding = HasEnded new Rebuilding
StandsAfter old new DiskFault = due_place new ≡ due_place old
StandsAfter old new Memory = due_place new ≡ due_place old

-- what is left of the answer stands, whatever reads give that give this page at the place which was read
abbrev pub IsSameAnswer : ℕ → List ℕ → MountStage → MountStage → Type 0
IsSameAnswer place page before after = (reads : ℕ → List ℕ) → reads place ≡ page → rest_of reads after ≡ rest_of reads before

-- a stage stands after a retried error, and has ended after any other
abbrev pub Stops : Bool → MountStage → RecoverError → MountStage → Type 0
Stops true before error after = after ≡ before
Stops false before error after = HasEnded after error

-- so a stage does after this error
abbrev pub IsStopped : MountStage → RecoverError → MountStage → Type 0
IsStopped before error after = Stops (is_retried error) before error after

-- no call of the disk failed, and damage has two digests that differ
abbrev pub IsNoFault : RecoverError → Type 0
IsNoFault (NotAStore place) = Unit {0}
IsNoFault (Damaged place kept found) = kept ≢ found
IsNoFault (Unfit place why) = Unit {0}
IsNoFault Rebuilding = Unit {0}
IsNoFault DiskFault = ⊥
IsNoFault Memory = Unit {0}

-- the same, over a disk that goes on giving what its reads give
abbrev pub rest_on : DiskState → MountStage → Result Metadata RecoverError
rest_on d stage = rest_of (λ place. read_at d place) stage
