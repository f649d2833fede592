-- The calls of a commit of some images, in their order.
use Rattle.std.specs.Prelude.{◌≡◌, ℕ, ◌+◌, ◌<◌, ◌≤◌, ◌^◌, Bool, true, false, nat_lt, ◌==◌, if◌then◌else◌, List, [], ◌∷◌, ◌++◌, length, drop, Option, Some, None}
use Rattle.vb_disk.specs.States.{DiskCall, Write, Sync, Resize}
use Rattle.vb_geometry.specs.Layout.{home_place, journal_place}
use Rattle.vb_head.specs.declared.head.Head.{Head}
use Rattle.vb_head.specs.declared.head.State.TheVariants.{Closed, Opened}
use Rattle.vb_head.specs.Heads.{IsInRange, head_page}
use Rattle.vb_journal.specs.declared.commit_stage.CommitStep.{CommitStep}
use Rattle.vb_journal.specs.declared.commit_stage.CommitStep.TheVariants.{Wrote, Synced, Committed, Rested as RestedNow, Idle}
use Rattle.vb_journal.specs.declared.commit_stage.Stage.{Stage}
use Rattle.vb_journal.specs.declared.commit_stage.Stage.TheVariants.{Journal, Opening, Homes, Closing, Rested}
use Rattle.vb_journal.specs.declared.commit_stage.Turn.{Turn}
use Rattle.vb_journal.specs.declared.commit_stage.Turn.TheVariants.{First, FirstSync, Second, SecondSync}
use Rattle.vb_journal.specs.Calls.{turn_after, turn_call, turn_calls}
use Rattle.vb_journal.specs.Images.{AreImages, image_at, slot_of}
use Rattle.vb_steps.specs.Calls.{Call, Change, Rest}

-- these images may be committed at this epoch over a store with this head
pub record CanCommit (head : Head) (epoch : ℕ) (images : List (List ℕ)) : Type 0 where
  pub range : IsInRange head
  pub closed : head.state ≡ Closed
  pub sequence : head.sequence < 2 ^ 63
  pub new_epoch : epoch < 2 ^ 63
  pub count : length images ≤ head.nodes
  pub images_are : AreImages head.nodes images

-- the head that counts the journal in
abbrev pub opened_head : Head → ℕ → List (List ℕ) → Head
opened_head head epoch images = record head { sequence = head.sequence + 1; epoch = epoch; state = Opened (length images) }

-- the head that counts it out
abbrev pub closed_head : Head → ℕ → Head
closed_head head epoch = record head { sequence = head.sequence + 2; epoch = epoch; state = Closed }

-- both heads that a commit writes are in their ranges, and its images are images. Nothing is asked of the head from
-- before it, so that it may go on where the heads that count the journal in were found.
pub record CanFinish (head : Head) (epoch : ℕ) (images : List (List ℕ)) : Type 0 where
  pub opened : IsInRange (opened_head head epoch images)
  pub closed : IsInRange (closed_head head epoch)
  pub images_are : AreImages head.nodes images

-- whether a stage lies before the second sync of the heads that count the journal in
abbrev pub is_early : Stage → Bool
is_early (Journal next) = true
is_early (Opening turn) = true
is_early (Homes next) = false
is_early (Closing turn) = false
is_early Rested = false

-- a commit can go on from a stage
pub record CanGoOn (head : Head) (epoch : ℕ) (images : List (List ℕ)) (stage : Stage) : Type 0 where
  pub finish : CanFinish head epoch images
  pub early : is_early stage ≡ true → CanCommit head epoch images

-- the images one after the other from a place of the journal on
abbrev pub journal_calls : ℕ → List (List ℕ) → List DiskCall
journal_calls place [] = []
journal_calls place (image ∷ images) = Write place image ∷ journal_calls (place + 1) images

-- each image at its home
abbrev pub home_calls : List (List ℕ) → List DiskCall
home_calls [] = []
home_calls (image ∷ images) = Write (home_place (slot_of image)) image ∷ home_calls images

-- the calls that are left at each stage: the journal, the heads that count it in, the homes, the heads that count
-- it out, and a sync after each of them
abbrev pub calls_from : Head → ℕ → List (List ℕ) → Stage → List DiskCall
calls_from head epoch images (Journal next) =
    journal_calls (journal_place head.nodes next) (drop next images) ++ (Sync ∷ (turn_calls (head_page (opened_head head epoch images)) First
    ++ (home_calls images ++ (Sync ∷ turn_calls (head_page (closed_head head epoch)) First))))
calls_from head epoch images (Opening turn) =
    turn_calls (head_page (opened_head head epoch images)) turn
    ++ (home_calls images ++ (Sync ∷ turn_calls (head_page (closed_head head epoch)) First))
calls_from head epoch images (Homes next) =
    home_calls (drop next images) ++ (Sync ∷ turn_calls (head_page (closed_head head epoch)) First)
calls_from head epoch images (Closing turn) = turn_calls (head_page (closed_head head epoch)) turn
calls_from head epoch images Rested = []

-- the call that is due at a stage, where there is one
abbrev pub due_call : Head → ℕ → List (List ℕ) → Stage → DiskCall
due_call head epoch images (Journal next) = if nat_lt next (length images) then Write (journal_place head.nodes next) (image_at images next) else Sync
due_call head epoch images (Opening turn) = turn_call (head_page (opened_head head epoch images)) turn
due_call head epoch images (Homes next) = if nat_lt next (length images) then Write (home_place (slot_of (image_at images next))) (image_at images next) else Sync
due_call head epoch images (Closing turn) = turn_call (head_page (closed_head head epoch)) turn
due_call head epoch images Rested = Sync

-- the call that a step makes at a stage: the one that is due, or none
abbrev pub call_at : Head → ℕ → List (List ℕ) → Stage → Call
call_at head epoch images (Journal next) = Change (due_call head epoch images (Journal next))
call_at head epoch images (Opening turn) = Change (due_call head epoch images (Opening turn))
call_at head epoch images (Homes next) = Change (due_call head epoch images (Homes next))
call_at head epoch images (Closing turn) = Change (due_call head epoch images (Closing turn))
call_at head epoch images Rested = Rest

-- the next turn of these, or else the stage after them
abbrev pub after_turn : (Turn → Stage) → Stage → Option Turn → Stage
after_turn stage done None = done
after_turn stage done (Some turn) = stage turn

-- the stage after the call
abbrev pub next_stage : ℕ → Stage → Stage
next_stage count (Journal next) = if nat_lt next count then Journal (next + 1) else Opening First
next_stage count (Opening turn) = after_turn Opening (Homes 0) (turn_after turn)
next_stage count (Homes next) = if nat_lt next count then Homes (next + 1) else Closing First
next_stage count (Closing turn) = after_turn Closing Rested (turn_after turn)
next_stage count Rested = Rested

-- how many images went into the journal, or home
abbrev pub position_of : Stage → ℕ
position_of (Journal next) = next
position_of (Opening turn) = 0
position_of (Homes next) = next
position_of (Closing turn) = 0
position_of Rested = 0

-- whether the commit is at its end
abbrev pub is_rested : Stage → Bool
is_rested (Journal next) = false
is_rested (Opening turn) = false
is_rested (Homes next) = false
is_rested (Closing turn) = false
is_rested Rested = true

-- what a call does
abbrev pub kind_of : DiskCall → CommitStep
kind_of (Write place page) = Wrote
kind_of Sync = Synced
kind_of (Resize blocks) = Synced

-- what a step answers that makes the first of these calls: the one after which the homes and the heads that count
-- the journal out are left is the one that commits
abbrev pub answer_to : ℕ → List DiskCall → CommitStep
answer_to count [] = Idle
answer_to count (call ∷ calls) =
    if length calls == 0 then RestedNow else (if length calls == count + 5 then Committed else kind_of call)

-- the answer to a call of two heads, of which the last has this answer
abbrev pub turn_answer : CommitStep → Turn → CommitStep
turn_answer last First = Wrote
turn_answer last FirstSync = Synced
turn_answer last Second = Wrote
turn_answer last SecondSync = last

-- the answer at each stage
abbrev pub answer_at : ℕ → Stage → CommitStep
answer_at count (Journal next) = if nat_lt next count then Wrote else Synced
answer_at count (Opening turn) = turn_answer Committed turn
answer_at count (Homes next) = if nat_lt next count then Wrote else Synced
answer_at count (Closing turn) = turn_answer RestedNow turn
answer_at count Rested = Idle
