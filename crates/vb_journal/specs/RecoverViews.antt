-- How far a recovery has come, as plain values, and how it goes on after what its calls give.
use Rattle.std.specs.Prelude.{◌≡◌, ℕ, ◌+◌, ◌-◌, nat_lt, ◌==◌, if◌then◌else◌, List, [], ◌∷◌, ◌++◌, length, Option, Some, None, Result, Ok, Err}
use Rattle.vb_head.specs.declared.head.Head.{Head}
use Rattle.vb_head.specs.declared.head.HeadRead.{HeadRead}
use Rattle.vb_head.specs.declared.head.State.{State}
use Rattle.vb_head.specs.declared.head.State.TheVariants.{Closed, Opened, Rebuilding as IsBeingMade}
use Rattle.vb_disk.specs.States.{Sync, Write}
use Rattle.vb_head.specs.declared.head.HeadRead.TheVariants.{Good}
use Rattle.vb_head.specs.Heads.{IsHead, head_page, head_read}
use Rattle.vb_journal.specs.declared.commit_stage.Stage.{Stage}
use Rattle.vb_journal.specs.declared.commit_stage.Stage.TheVariants.{Journal, Opening, Homes, Closing, Rested}
use Rattle.vb_journal.specs.declared.recover.Ahead.{Ahead}
use Rattle.vb_journal.specs.declared.recover.Ahead.TheVariants.{More, Ready as AllDone}
use Rattle.vb_journal.specs.declared.recover_error.RecoverError.{RecoverError}
use Rattle.vb_journal.specs.declared.recover_error.RecoverError.TheVariants.{NotAStore}
use Rattle.vb_journal.specs.declared.recover_stage.RecoverStage.{RecoverStage}
use Rattle.vb_journal.specs.declared.recover_stage.RecoverStage.TheVariants.{Ask, Settle, ReadFirst, ReadSecond, Mend, SettleMend, ReadImage, Replay, Ready, Refused}
use Rattle.vb_journal.specs.Commits.{epoch_of, head_of, images_of, stage_of}
use Rattle.vb_journal.specs.Plans.{call_at, closed_head, next_stage}
use Rattle.vb_journal.specs.Recoveries.{are_one_head, greater_place, head_choice, image_refusal, journal_place, least_size}
use Rattle.vb_journal.specs.Shown.{good_of}
use Rattle.vb_steps.specs.declared.due.Got.{Got}
use Rattle.vb_steps.specs.declared.due.Got.TheVariants.{Size as GotSize, Page as GotPage, Done}
use Rattle.vb_steps.specs.Calls.{Ask as AskSize, Call, Change, ReadPlace, Rest, size_in}

-- a stage of a recovery, without what is known of it and what it keeps for speed
pub data RecoverView : Type 0 where
  AtAsk : RecoverView
  AtSettle : (places : ℕ) → RecoverView
  AtFirst : (places : ℕ) → RecoverView
  AtSecond : (places : ℕ) (read : HeadRead) → RecoverView
  AtMend : (head : Head) (other : ℕ) → RecoverView
  AtSettleMend : (head : Head) (other : ℕ) → RecoverView
  AtImage : (head : Head) (count : ℕ) (images : List (List ℕ)) → RecoverView
  AtReplay : (head : Head) (epoch : ℕ) (images : List (List ℕ)) (stage : Stage) → RecoverView
  AtReady : (head : Head) → RecoverView
  AtRefused : (why : RecoverError) → RecoverView

-- the stage as a plain value
abbrev pub view_of : RecoverStage → RecoverView
view_of Ask = AtAsk
view_of (Settle size) = AtSettle size.places
view_of (ReadFirst size) = AtFirst size.places
view_of (ReadSecond first) = AtSecond first.size.places first.read
view_of (Mend mending) = AtMend mending.head mending.place
view_of (SettleMend mending) = AtSettleMend mending.head mending.place
view_of (ReadImage journal) = AtImage journal.head journal.count journal.images
view_of (Replay replay) = AtReplay (head_of replay.commit) (epoch_of replay.commit) (images_of replay.commit) (stage_of replay.commit)
view_of (Ready ready) = AtReady ready.head
view_of (Refused refusal) = AtRefused refusal.error

-- ---- how it goes on

-- the page that a read gave
abbrev pub page_in : Got → List ℕ
page_in (GotSize blocks) = []
page_in (GotPage page) = page
page_in Done = []

-- after the size: it is enough for a store, or there is none
abbrev pub after_size : ℕ → RecoverView
after_size places = if nat_lt places least_size then AtRefused (NotAStore 0) else AtSettle places

-- the head before the commit that this head counts the journal in of
abbrev pub head_before : Head → Head
head_before head = record head { sequence = head.sequence - 1; state = Closed }

-- the commit that these images belong to, from its homes on
abbrev pub replay_from : Head → List (List ℕ) → RecoverView
replay_from head images = AtReplay (head_before head) head.epoch images (Homes 0)

-- once both copies of a head in this state are whole: its journal, if it counts one in
abbrev pub after_both : Head → State → RecoverView
after_both head Closed = AtReady head
after_both head (Opened count) = if count == 0 then replay_from head [] else AtImage head count []
after_both head IsBeingMade = AtReady head

-- once both heads were read as these, of which this one counts
abbrev pub after_heads : HeadRead → HeadRead → Result Head RecoverError → RecoverView
after_heads a b (Err why) = AtRefused why
after_heads a b (Ok head) = if are_one_head a b then after_both head head.state else AtMend head (1 - greater_place (good_of a) (good_of b))

-- after one image more that isn't refused
abbrev pub with_image : Head → ℕ → List (List ℕ) → RecoverView
with_image head count images = if nat_lt (length images) count then AtImage head count images else replay_from head images

-- after one image more
abbrev pub after_image : Head → ℕ → List (List ℕ) → Option RecoverError → RecoverView
after_image head count images None = with_image head count images
after_image head count images (Some why) = AtRefused why

-- after a call of the commit
abbrev pub after_replay : Head → ℕ → List (List ℕ) → Stage → RecoverView
after_replay head epoch images (Journal next) = AtReplay head epoch images (Journal next)
after_replay head epoch images (Opening turn) = AtReplay head epoch images (Opening turn)
after_replay head epoch images (Homes next) = AtReplay head epoch images (Homes next)
after_replay head epoch images (Closing turn) = AtReplay head epoch images (Closing turn)
after_replay head epoch images Rested = AtReady (closed_head head epoch)

-- after the call that was due, by what it gave
abbrev pub next : RecoverView → Got → RecoverView
next AtAsk got = after_size (size_in got 0)
next (AtSettle places) got = AtFirst places
next (AtFirst places) got = AtSecond places (head_read (page_in got))
next (AtSecond places read) got = after_heads read (head_read (page_in got)) (head_choice places read (head_read (page_in got)))
next (AtMend head other) got = AtSettleMend head other
next (AtSettleMend head other) got = after_both head head.state
next (AtImage head count images) got =
    after_image head count (images ++ page_in got ∷ []) (image_refusal head.nodes (journal_place head + length images) images (page_in got))
next (AtReplay head epoch images stage) got = after_replay head epoch images (next_stage (length images) stage)
next (AtReady head) got = AtReady head
next (AtRefused why) got = AtRefused why

-- ---- the machine

-- the call that the next step makes
abbrev pub call_in : RecoverView → Call
call_in AtAsk = AskSize
call_in (AtSettle places) = Change Sync
call_in (AtFirst places) = ReadPlace 0
call_in (AtSecond places read) = ReadPlace 1
call_in (AtMend head other) = Change (Write other (head_page head))
call_in (AtSettleMend head other) = Change Sync
call_in (AtImage head count images) = ReadPlace (journal_place head + length images)
call_in (AtReplay head epoch images stage) = call_at head epoch images stage
call_in (AtReady head) = Rest
call_in (AtRefused why) = Rest

-- so it does at a stage
abbrev pub recover_call : RecoverStage → Call
recover_call stage = call_in (view_of stage)

-- what reads as a good head is the one page of that head
pub record IsSpelled (page : List ℕ) : Type 0 where
  pub spelled : (h : Head) → head_read page ≡ Good h → (page ≡ head_page h) × IsHead h

-- so it is with what was read where a head was
abbrev pub Reads : RecoverView → Got → Type 0
Reads AtAsk got = Unit {0}
Reads (AtSettle places) got = Unit {0}
Reads (AtFirst places) got = IsSpelled (page_in got)
Reads (AtSecond places read) got = IsSpelled (page_in got)
Reads (AtMend head other) got = Unit {0}
Reads (AtSettleMend head other) got = Unit {0}
Reads (AtImage head count images) got = Unit {0}
Reads (AtReplay head epoch images stage) got = Unit {0}
Reads (AtReady head) got = Unit {0}
Reads (AtRefused why) got = Unit {0}

-- the stage goes on so after its call
pub record ComesAfter (old : RecoverStage) (got : Got) (new : RecoverStage) : Type 0 where
  pub view_is : view_of new ≡ next (view_of old) got
  pub reads : Reads (view_of old) got

-- the same stage, but for what it keeps for speed
abbrev pub IsSame : RecoverStage → RecoverStage → Type 0
IsSame old new = view_of new ≡ view_of old

-- what a step answers that led there: that calls are left, that none is, or the reason where it is a refusal
abbrev pub answer_in : RecoverView → Result Ahead RecoverError
answer_in AtAsk = Ok More
answer_in (AtSettle places) = Ok More
answer_in (AtFirst places) = Ok More
answer_in (AtSecond places read) = Ok More
answer_in (AtMend head other) = Ok More
answer_in (AtSettleMend head other) = Ok More
answer_in (AtImage head count images) = Ok More
answer_in (AtReplay head epoch images stage) = Ok More
answer_in (AtReady head) = Ok AllDone
answer_in (AtRefused why) = Err why
