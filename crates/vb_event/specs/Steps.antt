-- What an event makes of a folder, by its answer.
use Rattle.std.specs.Prelude.{◌≡◌, ◌⊎◌, ℕ, ◌+◌, ◌-◌, ◌≤◌, max, Bool, not, ◌||◌, is_some, if◌then◌else◌, List, [], ◌∷◌, ◌++◌, length, Option, Some, None}
use Rattle.vb_cause.specs.Faults.{HasRisen}
use Rattle.vb_tree.specs.declared.tree.TreeEntry.{TreeEntry}
use Rattle.vb_tree.specs.declared.operation.Op.{Op}
use Rattle.vb_tree.specs.Operations.{tree_after_reply}
use Rattle.vb_hist.specs.declared.entry.Entry.{Entry}
use Rattle.vb_hist.specs.declared.entry.Entry.TheVariants.{Call, Freeze, FreezeBusy, Commit, Rest, Publish, Doubt, Dropped, End}
use Rattle.vb_hist.specs.declared.entry.Stage.{Stage}
use Rattle.vb_hist.specs.declared.entry.Stage.TheVariants.{Rested, Written, Committed}
use Rattle.vb_hist.specs.Legal.{standing_without}
use Rattle.vb_cloud.specs.Machine.{CloudState}
use Rattle.vb_publish.specs.Clouds.{HasTaken}
use Rattle.vb_publish.specs.declared.step.UploadStep.TheVariants as uploads
use Rattle.vb_event.specs.declared.event.FolderEvent.{FolderEvent}
use Rattle.vb_event.specs.declared.event.FolderEvent.TheVariants as events
use Rattle.vb_event.specs.declared.answer.FolderAnswer.{FolderAnswer}
use Rattle.vb_event.specs.declared.answer.FolderAnswer.TheVariants as answers
use Rattle.vb_journal.specs.declared.commit_stage.CommitStep.{CommitStep}
use Rattle.vb_journal.specs.declared.commit_stage.CommitStep.TheVariants as commits
use Rattle.vb_event.specs.declared.answer.FaultKind.TheVariants.{Disk, Link}
use Rattle.vb_event.specs.Core.{Core, FolderView, Given, IsGiven, is_rested}
use Rattle.vb_event.specs.Answers.{MayAnswer, due_view, is_last_due}

-- ---- what is pushed

-- the other epoch where there is none
abbrev pub epoch_or : Option ℕ → Option ℕ → Option ℕ
epoch_or None other = other
epoch_or (Some epoch) other = Some epoch

-- the view whose last message is due
abbrev pub last_view : Bool → Option ℕ → Option ℕ
last_view last view = if last then view else None

-- the epoch that a link which fails now leaves in doubt: that of the view whose last message was due, where none was before
abbrev pub doubt_of : Given → Core → Option ℕ → Option ℕ
doubt_of given core (Some doubt) = None
doubt_of given core None = last_view (is_last_due given core) (due_view core.standing core.stage)

-- the entry of a doubt
abbrev pub doubt_entries : Option ℕ → List Entry
doubt_entries None = []
doubt_entries (Some epoch) = Doubt epoch ∷ []

-- an operation that was answered pushes its call with the reply
abbrev pub pushed_by_call : ℕ → Op → FolderAnswer → List Entry
pushed_by_call writer op (answers.Called reply) = Call writer op reply ∷ []
pushed_by_call writer op other = []

-- a freeze pushes itself, or that it found the folder busy
abbrev pub pushed_by_freeze : ℕ → FolderAnswer → List Entry
pushed_by_freeze by (answers.Frozen epoch) = Freeze by epoch ∷ []
pushed_by_freeze by (answers.Busy epoch) = FreezeBusy by epoch ∷ []
pushed_by_freeze by other = []

-- a commit step pushes that the last epoch is committed, or that its commit rests
abbrev pub pushed_by_commit : ℕ → FolderAnswer → List Entry
pushed_by_commit last (answers.CommitStepped commits.Committed) = Commit last ∷ []
pushed_by_commit last (answers.CommitStepped commits.Rested) = Rest last ∷ []
pushed_by_commit last other = []

-- an upload step pushes a publication, and where the link failed the doubt that this leaves
abbrev pub pushed_by_upload : Option ℕ → FolderAnswer → List Entry
pushed_by_upload doubt (answers.UploadStepped (uploads.Published epoch)) = Publish epoch ∷ []
pushed_by_upload doubt (answers.Fault Link) = doubt_entries doubt
pushed_by_upload doubt other = []

-- a drop pushes that the view was given up
abbrev pub pushed_by_drop : FolderAnswer → List Entry
pushed_by_drop (answers.Dropped epoch) = Dropped epoch ∷ []
pushed_by_drop other = []

-- the end of a writer pushes itself
abbrev pub pushed_by_end : ℕ → FolderAnswer → List Entry
pushed_by_end writer answers.Ended = End writer ∷ []
pushed_by_end writer other = []

-- the entries that an event pushes where it is answered so, in order
abbrev pub pushed_by : Given → Core → FolderEvent → FolderAnswer → List Entry
pushed_by given core (events.Call writer op) answer = pushed_by_call writer op answer
pushed_by given core (events.Freeze by) answer = pushed_by_freeze by answer
pushed_by given core events.CommitStep answer = pushed_by_commit core.epoch answer
pushed_by given core events.UploadStep answer = pushed_by_upload (doubt_of given core core.unsure) answer
pushed_by given core events.DropView answer = pushed_by_drop answer
pushed_by given core (events.End writer) answer = pushed_by_end writer answer

-- ---- what is left

-- the frozen tree while a view stands or a commit is on, and none else
abbrev pub frozen_while : Option ℕ → Stage → Option (List TreeEntry) → Option (List TreeEntry)
frozen_while standing stage frozen = if is_some standing || not (is_rested stage) then frozen else None

-- what is left behind the first
abbrev pub rest_of : List CommitStep → List CommitStep
rest_of [] = []
rest_of (step ∷ left) = left

-- after a writer's operation: its effect on the live tree, where the reply is Done
abbrev pub after_call : Core → Op → FolderAnswer → Core
after_call core op (answers.Called reply) = record core { active = tree_after_reply core.active op reply }
after_call core op other = core

-- after a freeze: the frozen tree is the live tree of that moment, its commit begins, and no message of it was sent
abbrev pub after_freeze : Given → Core → FolderAnswer → Core
after_freeze given core (answers.Frozen epoch) = record core {
  epoch = epoch;
  standing = Some epoch;
  stage = Written;
  frozen = Some core.active;
  left = given.commit;
  sent = 0;
}
after_freeze given core other = core

-- after a commit step: one answer less is left; at its rest the heads have two sequences more, and no frozen tree is kept but
-- that of a view that stands
abbrev pub after_commit_step : Core → FolderAnswer → Core
after_commit_step core (answers.CommitStepped commits.Committed) = record core { stage = Committed; left = rest_of core.left }
after_commit_step core (answers.CommitStepped commits.Rested) = record core {
  stage = Rested;
  left = rest_of core.left;
  sequence = core.sequence + 2;
  frozen = frozen_while core.standing Rested core.frozen;
}
after_commit_step core (answers.CommitStepped other) = record core { left = rest_of core.left }
after_commit_step core other = core

-- after an upload step: a message that was sent counts; a publication takes away the view of its epoch and no other, and
-- settles the doubt, as the answer that another epoch is shown does; and a link that failed leaves a doubt where it is to
abbrev pub after_upload_step : Option ℕ → Core → FolderAnswer → Core
after_upload_step doubt core (answers.UploadStepped uploads.Sent) = record core { sent = core.sent + 1 }
after_upload_step doubt core (answers.UploadStepped (uploads.Published epoch)) = record core {
  published = epoch;
  standing = standing_without core.standing epoch;
  frozen = frozen_while (standing_without core.standing epoch) core.stage core.frozen;
  unsure = None;
  sent = 0;
}
after_upload_step doubt core (answers.UploadStepped uploads.Asked) = record core { unsure = None }
after_upload_step doubt core (answers.Fault Link) = record core { unsure = epoch_or core.unsure doubt; sent = 0 }
after_upload_step doubt core other = core

-- after a drop: no view stands, and the frozen tree is kept for a commit that is on
abbrev pub after_drop : Core → FolderAnswer → Core
after_drop core (answers.Dropped epoch) =
    record core { standing = None; frozen = frozen_while None core.stage core.frozen; sent = 0 }
after_drop core other = core

-- the folder after an event, but for its history
abbrev pub state_after : Given → Core → FolderEvent → FolderAnswer → Core
state_after given core (events.Call writer op) answer = after_call core op answer
state_after given core (events.Freeze by) answer = after_freeze given core answer
state_after given core events.CommitStep answer = after_commit_step core answer
state_after given core events.UploadStep answer = after_upload_step (doubt_of given core core.unsure) core answer
state_after given core events.DropView answer = after_drop core answer
state_after given core (events.End writer) answer = core

-- the folder after an event that was answered so: what was pushed stands at the end of its history
abbrev pub core_after : Given → Core → FolderEvent → FolderAnswer → Core
core_after given core event answer =
    record (state_after given core event answer) { history = core.history ++ pushed_by given core event answer }

-- the folder after commit steps that answered these, in order
abbrev pub after_answers : Given → Core → List CommitStep → Core
after_answers given core [] = core
after_answers given core (step ∷ steps) =
    after_answers given (core_after given core events.CommitStep (answers.CommitStepped step)) steps

-- ---- what the cloud is then

-- the tree where there is one, and else the empty tree
abbrev pub tree_in : Option (List TreeEntry) → List TreeEntry
tree_in None = []
tree_in (Some tree) = tree

-- a cloud shows what another one shows
abbrev pub ShowsAs : CloudState → CloudState → Type 0
ShowsAs before after = (after.epoch ≡ before.epoch) × (after.tree ≡ before.tree)

-- a cloud shows a view
abbrev pub ShowsView : ℕ → Option (List TreeEntry) → CloudState → Type 0
ShowsView epoch frozen k = (k.epoch ≡ epoch) × (k.tree ≡ tree_in frozen)

-- a publication: the cloud was asked and shows the epoch in doubt, or it took the last message and shows the frozen tree
abbrev pub LeavesPublished : Option ℕ → Option (List TreeEntry) → ℕ → CloudState → CloudState → Type 0
LeavesPublished (Some doubt) frozen epoch before after = (after ≡ before) × (before.epoch ≡ epoch)
LeavesPublished None frozen epoch before after = ShowsView epoch frozen after

-- where a view is left in doubt the cloud may show it; what it showed stays else
abbrev pub LeavesDoubt : Option ℕ → Option (List TreeEntry) → CloudState → CloudState → Type 0
LeavesDoubt None frozen before after = ShowsAs before after
LeavesDoubt (Some epoch) frozen before after = ShowsAs before after ⊎ ShowsView epoch frozen after

-- what a cloud may be after an upload step that was answered so; a message that was sent and isn't the last leaves what it
-- shows, and the messages so far make its draft
abbrev pub LeavesCloud : Option ℕ → Core → FolderAnswer → CloudState → CloudState → Type 0
LeavesCloud doubt core (answers.UploadStepped uploads.Sent) before after =
    ShowsAs before after × HasTaken (core.sent + 1) core.epoch (tree_in core.frozen) after
LeavesCloud doubt core (answers.UploadStepped (uploads.Published epoch)) before after = LeavesPublished core.unsure core.frozen epoch before after
LeavesCloud doubt core (answers.UploadStepped uploads.Asked) before after = (after ≡ before) × (core.unsure ≡ Some before.epoch → ⊥)
LeavesCloud doubt core (answers.Fault Link) before after = LeavesDoubt doubt core.frozen before after
LeavesCloud doubt core other before after = after ≡ before

-- what a cloud may be after an event that was answered so: an upload step alone calls it
abbrev pub MayBecome : Given → Core → FolderEvent → FolderAnswer → CloudState → CloudState → Type 0
MayBecome given core events.UploadStep answer before after = LeavesCloud (doubt_of given core core.unsure) core answer before after
MayBecome given core (events.Call writer op) answer before after = after ≡ before
MayBecome given core (events.Freeze by) answer before after = after ≡ before
MayBecome given core events.CommitStep answer before after = after ≡ before
MayBecome given core events.DropView answer before after = after ≡ before
MayBecome given core (events.End writer) answer before after = after ≡ before

-- ---- one event

-- room for one entry was made, unless nothing can be pushed: it stays as it was at each fault, at a commit step where none is
-- left, and at an upload step where no view is due. The doubt that a fault leaves takes of the room that was there, where there was any.
abbrev pub room_after : ℕ → FolderAnswer → ℕ
room_after spare (answers.Fault kind) = spare
room_after spare (answers.CommitStepped commits.Idle) = spare
room_after spare (answers.UploadStepped uploads.Nothing) = spare
room_after spare other = max spare 1

-- the counts of faults never fall, and a fault of a device comes only where its count rose
pub record HasItsCause (answer : FolderAnswer) (before after : FolderView) : Type 0 where
  pub disk_kept : before.disk_faults ≤ after.disk_faults
  pub link_kept : before.link_faults ≤ after.link_faults
  pub disk : answer ≡ answers.Fault Disk → HasRisen before.disk_faults after.disk_faults
  pub link : answer ≡ answers.Fault Link → HasRisen before.link_faults after.link_faults

-- one event: the answer is one that may come, and the folder, its told cloud, its room for entries and its counts of faults are
-- as the answer says
pub record Steps (given : Given) (before : FolderView) (event : FolderEvent) (answer : FolderAnswer) (after : FolderView) : Type 0 where
  pub may : MayAnswer given before.core event answer
  pub core : after.core ≡ core_after given before.core event answer
  pub told : (k : CloudState) → after.cloud ≡ Some k → (was : CloudState) × (before.cloud ≡ Some was) × MayBecome given before.core event answer was k
  pub spare : after.spare ≡ room_after before.spare answer - length (pushed_by given before.core event answer)
  pub cause : HasItsCause answer before after

-- one event of a run: what was given at it, and what it answered
pub record Happening : Type 0 where
  pub given : Given
  pub event : FolderEvent
  pub answer : FolderAnswer

-- these events were made, one after the other, and answered so
abbrev pub Runs : FolderView → List Happening → FolderView → Type 0
Runs before [] after = after ≡ before
Runs before (one ∷ others) after =
    (next : FolderView) × IsGiven one.given × Steps one.given before one.event one.answer next × Runs next others after
