-- Calls that a step makes: what they give, and what they leave. Calls of something else than a disk join here.
use Rattle.std.specs.Prelude.{◌≡◌, ◌⊎◌, ℕ, ◌<◌, Bool, true, false}
use Rattle.vb_disk.specs.States.{DiskState, DiskCall, Write as WritePage, Sync as MakeSync, Resize as SetSize, after_call, read_at, written}
use Rattle.vb_steps.specs.declared.due.Due.{Due}
use Rattle.vb_steps.specs.declared.due.Due.TheVariants.{Idle, Size, Read, Sync, Write, WriteMade}
use Rattle.vb_steps.specs.declared.due.Got.{Got}
use Rattle.vb_steps.specs.declared.due.Got.TheVariants.{Size as GotSize, Page as GotPage, Done}

-- a call that a step makes: none, the size, a read, or one that changes a disk
pub data Call : Type 0 where
  Rest : Call
  Ask : Call
  ReadPlace : (place : ℕ) → Call
  Change : (call : DiskCall) → Call

-- the call that is due
abbrev pub call_of : Due → Call
call_of Idle = Rest
call_of Size = Ask
call_of (Read place) = ReadPlace place
call_of Sync = Change MakeSync
call_of (Write place page) = Change (WritePage place page.now)
call_of (WriteMade place page) = Change (WritePage place page)

-- what a call gives on a disk
abbrev pub answer_of : DiskState → Call → Got
answer_of d Rest = Done
answer_of d Ask = GotSize d.size
answer_of d (ReadPlace place) = GotPage (read_at d place)
answer_of d (Change call) = Done

-- the disk after a call that was made
abbrev pub after : DiskState → Call → DiskState
after d Rest = d
after d Ask = d
after d (ReadPlace place) = d
after d (Change call) = after_call d call

-- what a change that failed may leave: a write was made or wasn't, and a sync and a resize were not
abbrev pub ChangeMayFailTo : DiskCall → DiskState → DiskState → Type 0
ChangeMayFailTo (WritePage place page) d left = (left ≡ d) ⊎ (left ≡ written d place page)
ChangeMayFailTo MakeSync d left = left ≡ d
ChangeMayFailTo (SetSize blocks) d left = left ≡ d

-- what a call that failed may leave
abbrev pub MayFailTo : Call → DiskState → DiskState → Type 0
MayFailTo Rest d left = left ≡ d
MayFailTo Ask d left = left ≡ d
MayFailTo (ReadPlace place) d left = left ≡ d
MayFailTo (Change call) d left = ChangeMayFailTo call d left

-- it is a size
abbrev pub IsSize : Got → Type 0
IsSize (GotSize blocks) = Unit {0}
IsSize (GotPage page) = ⊥
IsSize Done = ⊥

-- it is a page
abbrev pub IsPageGot : Got → Type 0
IsPageGot (GotSize blocks) = ⊥
IsPageGot (GotPage page) = Unit {0}
IsPageGot Done = ⊥

-- a call gives what is of its kind: a size, a page, or nothing
abbrev pub Fits : Call → Got → Type 0
Fits Rest got = got ≡ Done
Fits Ask got = IsSize got
Fits (ReadPlace place) got = IsPageGot got
Fits (Change call) got = got ≡ Done

-- a change writes to none but the first so many places
abbrev pub IsChangeWithin : DiskCall → ℕ → Type 0
IsChangeWithin (WritePage place page) blocks = place < blocks
IsChangeWithin MakeSync blocks = Unit {0}
IsChangeWithin (SetSize size) blocks = Unit {0}

-- a call reads and writes none but the first so many places
abbrev pub IsWithin : Call → ℕ → Type 0
IsWithin Rest blocks = Unit {0}
IsWithin Ask blocks = Unit {0}
IsWithin (ReadPlace place) blocks = place < blocks
IsWithin (Change call) blocks = IsChangeWithin call blocks

-- the size that was given, and else this one
abbrev pub size_in : Got → ℕ → ℕ
size_in (GotSize blocks) seen = blocks
size_in (GotPage page) seen = seen
size_in Done seen = seen

-- the seen size after a call: where it was asked, the one that was given
abbrev pub seen_after : Call → ℕ → Got → ℕ
seen_after Rest seen got = seen
seen_after Ask seen got = size_in got seen
seen_after (ReadPlace place) seen got = seen
seen_after (Change call) seen got = seen

-- the seen size stands, unless it was asked
abbrev pub SeenStays : Call → ℕ → ℕ → Type 0
SeenStays Rest old new = new ≡ old
SeenStays Ask old new = Unit {0}
SeenStays (ReadPlace place) old new = new ≡ old
SeenStays (Change call) old new = new ≡ old

-- whether a call is made at all
abbrev pub is_due : Call → Bool
is_due Rest = false
is_due Ask = true
is_due (ReadPlace place) = true
is_due (Change call) = true

-- whether a call reads a place
abbrev pub is_read : Call → Bool
is_read Rest = false
is_read Ask = false
is_read (ReadPlace place) = true
is_read (Change call) = false

-- whether a change may want memory
abbrev pub may_want : DiskCall → Bool
may_want (WritePage place page) = true
may_want MakeSync = false
may_want (SetSize blocks) = true

-- whether a call changes a disk and may want memory, as a write does
abbrev pub is_write : Call → Bool
is_write Rest = false
is_write Ask = false
is_write (ReadPlace place) = false
is_write (Change call) = may_want call

-- whether a call changes a disk
abbrev pub is_change : Call → Bool
is_change Rest = false
is_change Ask = false
is_change (ReadPlace place) = false
is_change (Change call) = true
