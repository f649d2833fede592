-- What each call of a folder makes of it: it answers one event.
use Rattle.std.specs.Prelude.{◌≡◌, ◌⊎◌, ℕ, ◌++◌, Option, Some, Result, Ok, Err}
use Rattle.vb_disk.specs.States.{DiskState}
use Rattle.vb_disk.specs.declared.disk_error.DiskError.{DiskError}
use Rattle.vb_disk.specs.declared.disk_error.DiskError.TheVariants as disks
use Rattle.vb_event.specs.Answers.{MayAnswer}
use Rattle.vb_event.specs.Core.{Given, IsGiven}
use Rattle.vb_event.specs.Steps.{core_after, pushed_by}
use Rattle.vb_event.specs.declared.answer.FaultKind.{FaultKind}
use Rattle.vb_event.specs.declared.answer.FaultKind.TheVariants.{Damaged, Disk, Memory}
use Rattle.vb_event.specs.declared.answer.FolderAnswer.{FolderAnswer}
use Rattle.vb_event.specs.declared.answer.FolderAnswer.TheVariants as answers
use Rattle.vb_event.specs.declared.event.FolderEvent.{FolderEvent}
use Rattle.vb_event.specs.declared.event.FolderEvent.TheVariants as events
use Rattle.vb_hist.specs.declared.entry.Stage.{Stage}
use Rattle.vb_hist.specs.declared.entry.Stage.TheVariants as stages
use Rattle.vb_journal.specs.declared.commit_stage.CommitStep.{CommitStep}
use Rattle.vb_journal.specs.declared.commit_stage.CommitStep.TheVariants.{Wrote, Synced, Committed, Rested, Idle}
use Rattle.vb_local.specs.Events.{StepsOn}
use Rattle.vb_local.specs.Shown.{LocalTrees, ShowsOn}
use Rattle.vb_pages.specs.declared.page_error.PageError.{PageError}
use Rattle.vb_pages.specs.declared.page_error.PageError.TheVariants as pages
use Rattle.vb_steps.specs.Disks.{DiskView}
use Rattle.vb_tree.specs.Operations.{tree_after_reply}
use Rattle.vb_tree.specs.declared.reply.Reply.{Reply}
use Rattle.vb_folder.specs.declared.refusals.FreezeError.{FreezeError}
use Rattle.vb_folder.specs.declared.refusals.FreezeError.TheVariants as freezes
use Rattle.vb_folder.specs.declared.refusals.NoView.{NoView}
use Rattle.vb_folder.specs.Ledgers.{LedgerState, core_of}

-- ---- results as answers

-- why a page wasn't given
abbrev pub page_fault : PageError → FaultKind
page_fault (pages.Damaged place kept found) = Damaged
page_fault pages.DiskFault = Disk
page_fault pages.Memory = Memory

-- why a call of the disk wasn't made
abbrev pub disk_fault : DiskError → FaultKind
disk_fault disks.Failed = Disk
disk_fault disks.Memory = Memory

-- that of an operation
abbrev pub call_answer : Result Reply PageError → FolderAnswer
call_answer (Ok reply) = answers.Called reply
call_answer (Err error) = answers.Fault (page_fault error)

-- that of a freeze
abbrev pub frozen_answer : Result ℕ FreezeError → FolderAnswer
frozen_answer (Ok epoch) = answers.Frozen epoch
frozen_answer (Err (freezes.Busy epoch)) = answers.Busy epoch
frozen_answer (Err (freezes.Spent epoch sequence)) = answers.Spent epoch sequence
frozen_answer (Err freezes.Memory) = answers.Fault Memory

-- that of a commit step
abbrev pub step_answer : Result CommitStep DiskError → FolderAnswer
step_answer (Ok step) = answers.CommitStepped step
step_answer (Err error) = answers.Fault (disk_fault error)

-- how far a commit is after a step that did this
abbrev pub stage_after : Stage → CommitStep → Stage
stage_after stage Wrote = stage
stage_after stage Synced = stage
stage_after stage Committed = stages.Committed
stage_after stage Rested = stages.Rested
stage_after stage Idle = stage

-- that of a drop
abbrev pub dropped_answer : Result ℕ NoView → FolderAnswer
dropped_answer (Ok epoch) = answers.Dropped epoch
dropped_answer (Err none) = answers.NoView

-- ---- the trees afterwards

-- the trees after an event: an operation that was done changes the live tree, a freeze makes it the frozen one, and a commit
-- that rests makes the frozen one the committed one
abbrev pub trees_after : FolderEvent → FolderAnswer → LocalTrees → LocalTrees
trees_after (events.Call writer op) (answers.Called reply) t = record t { active = tree_after_reply t.active op reply }
trees_after (events.Freeze by) (answers.Frozen epoch) t = record t { frozen = t.active }
trees_after events.CommitStep (answers.CommitStepped Rested) t = record t { committed = t.frozen }
trees_after event answer t = t

-- ---- an event

-- a disk that showed the folder with these trees shows it afterwards, the answer is one that may come, and the folder is what
-- the answer makes of it
pub record ShowsAfter (given : Given) (event : FolderEvent) (answer : FolderAnswer) (old new : LedgerState) (t : LocalTrees) (after : Option DiskState) : Type 0 where
  pub next : DiskState
  pub told : after ≡ Some next
  pub shows : ShowsOn next new.local (trees_after event answer t)
  pub may : MayAnswer given (core_of old t) event answer
  pub core : core_of new (trees_after event answer t) ≡ core_after given (core_of old t) event answer

-- an event was answered so: what it pushes stands at the end of the history, also where the disk tells nothing, and over each
-- told disk that shows the folder it is what the answer makes of it
pub record Makes (event : FolderEvent) (answer : FolderAnswer) (old new : LedgerState) (before after : Option DiskState) : Type 0 where
  pub given : Given
  pub is_given : IsGiven given
  pub pushed : (t : LocalTrees) → new.history.entries ≡ old.history.entries ++ pushed_by given (core_of old t) event answer
  pub shown : (d : DiskState) (t : LocalTrees) → before ≡ Some d → ShowsOn d old.local t → ShowsAfter given event answer old new t after

-- ---- what else changes

-- an operation changes the live view and the history alone
abbrev pub IsCalled : LedgerState → LedgerState → Type 0
IsCalled old new = new ≡ record old { local = record old.local { live = new.local.live }; history = new.history }

-- nothing was done
pub record StaysStill (old new : LedgerState) (before after : DiskView) : Type 0 where
  pub folder : new ≡ old
  pub disk : after ≡ before

-- a commit step is one of the views, or nothing was done, at rest or for want of memory
abbrev pub StepsOnce : LedgerState → LedgerState → DiskView → DiskView → Result CommitStep DiskError → Type 0
StepsOnce old new before after result = StepsOn old.local new.local before after result ⊎ StaysStill old new before after
