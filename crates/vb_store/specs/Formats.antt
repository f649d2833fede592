-- What makes a disk an empty store.
use Rattle.std.specs.Prelude.{◌≡◌, ℕ, zero, suc, ◌+◌, ◌*◌, ◌≤◌, min, Bool, true, false, nat_lt, ◌==◌, if◌then◌else◌, List, [], ◌∷◌, ◌++◌, Option, Some, None, Result, Ok, Err}
use Rattle.vb_cause.specs.Faults.{greatest_count}
use Rattle.vb_disk.specs.declared.disk_error.DiskError.{DiskError}
use Rattle.vb_disk.specs.declared.disk_error.DiskError.TheVariants as disk_errors
use Rattle.vb_disk.specs.States.{DiskState, DiskCall, Write, Sync, Resize, read_at}
use Rattle.vb_head.specs.declared.head.Head.{Head}
use Rattle.vb_head.specs.declared.head.HeadRead.{HeadRead}
use Rattle.vb_head.specs.declared.head.HeadRead.TheVariants.{Good, Bad, Alien, Unsealed, Blank}
use Rattle.vb_head.specs.declared.head.State.{State}
use Rattle.vb_head.specs.declared.head.State.TheVariants.{Closed, Opened, Rebuilding}
use Rattle.vb_head.specs.Heads.{head_page, head_read}
use Rattle.vb_head.specs.Layout.{are_zeros}
use Rattle.vb_inode.specs.declared.node.Node.{Node}
use Rattle.vb_inode.specs.declared.node.NodeKind.TheVariants.{Free, Folder}
use Rattle.vb_inode.specs.Layout.{node_page}
use Rattle.vb_journal.specs.declared.commit_stage.Turn.TheVariants.{First}
use Rattle.vb_journal.specs.Calls.{turn_calls}
use Rattle.vb_store.specs.declared.format_error.FormatError.{FormatError}
use Rattle.vb_store.specs.declared.format_error.FormatError.TheVariants.{Formatted, DiskFault, Memory}

-- a store of this size may be made for this folder
pub record CanFormat (id : List ℕ) (blocks nodes : ℕ) : Type 0 where
  pub named : are_zeros id ≡ false
  pub at_most : blocks ≤ 262144
  pub nodes_low : 16 ≤ nodes
  pub nodes_high : nodes ≤ 65536
  pub space : 2 + 2 * nodes + 4 ≤ blocks

-- ---- what stands on the disk already

-- whether a state is that of a store that can be read
abbrev pub is_readable : State → Bool
is_readable Closed = true
is_readable (Opened count) = true
is_readable Rebuilding = false

-- whether a page is the head of such a store
abbrev pub is_store : HeadRead → Bool
is_store (Good h) = is_readable h.state
is_store (Bad why) = false
is_store Alien = false
is_store (Unsealed kept found) = false
is_store Blank = false

-- the place of a head that says that a store stands on a disk: place 0, or else place 1
abbrev pub store_place : DiskState → Option ℕ
store_place d =
    if nat_lt d.size 2 then None else
    (if is_store (head_read (read_at d 0)) then Some 0 else
    (if is_store (head_read (read_at d 1)) then Some 1 else None))

-- ---- what is written

-- the head of an empty store in this state, with this sequence
abbrev pub empty_head : List ℕ → ℕ → ℕ → State → ℕ → Head
empty_head id blocks nodes state sequence = record { id = id; blocks = blocks; nodes = nodes; sequence = sequence; epoch = 0; state = state }

-- the head of a store that is being made
abbrev pub making_head : List ℕ → ℕ → ℕ → Head
making_head id blocks nodes = empty_head id blocks nodes Rebuilding 1

-- the head of the empty store
abbrev pub made_head : List ℕ → ℕ → ℕ → Head
made_head id blocks nodes = empty_head id blocks nodes Closed 2

-- the node of a slot in the empty store: the root at slot 0, and elsewhere none
abbrev pub empty_node : ℕ → Node
empty_node slot = record { slot = slot; kind = if slot == 0 then Folder else Free; parent = 0; name = []; length = 0; maps = [] }

-- a write of each home, of so many slots
unfoldable pub home_calls : ℕ → List DiskCall
home_calls zero = []
home_calls (suc slot) = home_calls slot ++ Write (2 + slot) (node_page (empty_node slot)) ∷ []

-- the calls that make a disk an empty store: the size, the heads of a store that is being made, the homes, and the
-- heads of the empty store, with a sync after each head and after the homes
abbrev pub format_calls : List ℕ → ℕ → ℕ → List DiskCall
format_calls id blocks nodes =
    Resize blocks
    ∷ turn_calls (head_page (making_head id blocks nodes)) First
    ++ (home_calls nodes ++ (Sync ∷ turn_calls (head_page (made_head id blocks nodes)) First))

-- ---- how many calls are made

-- how many calls look for a store on a disk of this size: its size, and both heads where there are places for them
abbrev pub looking_calls : ℕ → ℕ
looking_calls size = if nat_lt size 2 then 1 else 3

-- the calls that look for a store were made, and so many more, as far as the count goes
pub record LooksAndMakes (told : Option DiskState) (more before after : ℕ) : Type 0 where
  pub size : ℕ
  pub told_size : (d : DiskState) → told ≡ Some d → size ≡ d.size
  pub called : after ≡ min (before + (looking_calls size + more)) greatest_count

-- ---- the answer

-- the answer is Formatted with this place where there is one, unless the disk failed or memory ran out
abbrev pub AnswersFormat : Option ℕ → Result (Unit {0}) FormatError → Type 0
AnswersFormat found (Ok done) = found ≡ None
AnswersFormat found (Err (Formatted place)) = found ≡ Some place
AnswersFormat found (Err DiskFault) = Unit {0}
AnswersFormat found (Err Memory) = Unit {0}

-- what a disk's error is to a format
abbrev pub format_error_of : DiskError → FormatError
format_error_of disk_errors.Failed = DiskFault
format_error_of disk_errors.Memory = Memory
