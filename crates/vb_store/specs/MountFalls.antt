-- The most calls that may be left of a mount, whatever its disk tells, which fall with each call that was made.
use Rattle.std.specs.Prelude.{◌≡◌, ℕ, ◌+◌, ◌-◌, ◌<◌, nat_lt, if◌then◌else◌, length, drop}
use Rattle.vb_geometry.specs.Layout.{page_limit}
use Rattle.vb_head.specs.declared.head.Head.{Head}
use Rattle.vb_journal.specs.Recovers.{recovery_stage}
use Rattle.vb_journal.specs.RecoveryCalls.{most_calls_left}
use Rattle.vb_store.specs.declared.mount_phase.MountPhase.{MountPhase}
use Rattle.vb_store.specs.declared.mount_phase.MountPhase.TheVariants.{Recovering, Reading, Ready}
use Rattle.vb_store.specs.declared.mount_stage.MountStage.{MountStage}
use Rattle.vb_store.specs.declared.mount_stage.MountStage.TheVariants.{ReadHome, ReadMap, Finish, Refused}

-- the most map pages that a store may have: with its data pages they are at most half of its data places
abbrev pub most_maps : Head → ℕ
most_maps head = page_limit head.blocks head.nodes

-- the most homes and map pages that any store may have: 65,536 nodes, and half of 262,144 blocks
abbrev pub most_reads : ℕ
most_reads = 65536 + 131072

-- the most reads that may be left at a stage: of the homes that weren't read yet, and of as many map pages as there may
-- be, until the tree is known. The last read, which is made again for want of memory, may be one of a home.
abbrev pub most_reads_left : MountStage → ℕ
most_reads_left (ReadHome h) = (h.head.nodes - length h.nodes) + most_maps h.head
most_reads_left (ReadMap m) = 1 + length (drop m.tree.next m.tree.maps.items)
most_reads_left (Finish w) = 1 + (if nat_lt w.place (2 + w.head.nodes) then most_maps w.head else 0)
most_reads_left (Refused r) = 0

-- the most calls that may be left of a mount: those of its recovery, and then reads
abbrev pub most_mount_calls : MountPhase → ℕ
most_mount_calls (Recovering r) = most_calls_left (recovery_stage r.recover) + most_reads
most_mount_calls (Reading stage) = most_reads_left stage
most_mount_calls (Ready ready) = 0

-- a read that was made leaves fewer; where it was the last, it may be made again for want of memory
abbrev pub FallsTo : MountStage → MountStage → Type 0
FallsTo before (ReadHome h) = most_reads_left (ReadHome h) < most_reads_left before
FallsTo before (ReadMap m) = most_reads_left (ReadMap m) < most_reads_left before
FallsTo before (Finish w) = most_reads_left (Finish w) ≡ most_reads_left before
FallsTo before (Refused r) = Unit {0}

-- so many map pages of a store with this head are left, after a read of this place
abbrev pub LeavesMaps : ℕ → Head → ℕ → MountStage → Type 0
LeavesMaps count head place (ReadHome h) = ⊥
LeavesMaps count head place (ReadMap m) = most_reads_left (ReadMap m) ≡ count
LeavesMaps count head place (Finish w) = (count ≡ 0) × (w.head ≡ head) × (w.place ≡ place)
LeavesMaps count head place (Refused r) = ⊥
