-- The answers that may come to an event.
use Rattle.std.specs.Prelude.{◌≡◌, ◌⊎◌, ℕ, ◌+◌, nat_le, Bool, ◌||◌, ◌==◌, if◌then◌else◌, List, [], ◌∷◌, Option, Some, None}
use Rattle.std.specs.List.{Contains}
use Rattle.vb_tree.specs.Operations.{reply_of}
use Rattle.vb_hist.specs.declared.entry.Stage.{Stage}
use Rattle.vb_hist.specs.declared.entry.Stage.TheVariants.{Rested, Written, Committed}
use Rattle.vb_publish.specs.declared.step.UploadStep.{UploadStep}
use Rattle.vb_publish.specs.declared.step.UploadStep.TheVariants as uploads
use Rattle.vb_event.specs.declared.event.FolderEvent.{FolderEvent}
use Rattle.vb_event.specs.declared.event.FolderEvent.TheVariants as events
use Rattle.vb_event.specs.declared.answer.FolderAnswer.{FolderAnswer}
use Rattle.vb_event.specs.declared.answer.FolderAnswer.TheVariants as answers
use Rattle.vb_journal.specs.declared.commit_stage.CommitStep.{CommitStep}
use Rattle.vb_journal.specs.declared.commit_stage.CommitStep.TheVariants as commits
use Rattle.vb_event.specs.declared.answer.FaultKind.{FaultKind}
use Rattle.vb_event.specs.declared.answer.FaultKind.TheVariants.{Damaged, Disk, Link, Memory}
use Rattle.vb_event.specs.Core.{Core, Given, greatest_epoch, is_busy, sequences_end}

-- whether no epoch is left, or no sequence
abbrev pub is_spent : Core → Bool
is_spent core = core.epoch == greatest_epoch || nat_le sequences_end core.sequence

-- a freeze answers Busy, else Spent, else the last epoch plus one
abbrev pub freeze_answer : Core → FolderAnswer
freeze_answer core =
    if is_busy core then answers.Busy core.epoch
    else (if is_spent core then answers.Spent core.epoch core.sequence else answers.Frozen (core.epoch + 1))

-- a commit step answers the first of what is left, and Idle where nothing is
abbrev pub commit_answer : List CommitStep → CommitStep
commit_answer [] = commits.Idle
commit_answer (step ∷ left) = step

-- the view whose messages are due: the one that stands, once it is committed
abbrev pub due_view : Option ℕ → Stage → Option ℕ
due_view standing Written = None
due_view standing Committed = standing
due_view standing Rested = standing

-- whether the message that is due is the last one of its view
abbrev pub is_last_due : Given → Core → Bool
is_last_due given core = nat_le given.messages (core.sent + 1)

-- what a message answers: the last one publishes its view, and there is none where no view is due
abbrev pub message_answer : Bool → Option ℕ → UploadStep
message_answer last None = uploads.Nothing
message_answer last (Some epoch) = if last then uploads.Published epoch else uploads.Sent

-- the answers of an upload step: where a publication is in doubt, whether the cloud shows it, and else those of a message
abbrev pub MayStep : Given → Core → Option ℕ → UploadStep → Type 0
MayStep given core (Some doubt) step = (step ≡ uploads.Published doubt) ⊎ (step ≡ uploads.Asked)
MayStep given core None step = step ≡ message_answer (is_last_due given core) (due_view core.standing core.stage)

-- a drop answers the epoch of the view that stood
abbrev pub drop_answer : Option ℕ → FolderAnswer
drop_answer None = answers.NoView
drop_answer (Some epoch) = answers.Dropped epoch

-- an answer to an event that didn't fail
abbrev pub IsDue : Given → Core → FolderEvent → FolderAnswer → Type 0
IsDue given core (events.Call writer op) answer = answer ≡ answers.Called (reply_of core.limits core.active op)
IsDue given core (events.Freeze by) answer = answer ≡ freeze_answer core
IsDue given core events.CommitStep answer = answer ≡ answers.CommitStepped (commit_answer core.left)
IsDue given core events.UploadStep answer = (step : UploadStep) × (answer ≡ answers.UploadStepped step) × MayStep given core core.unsure step
IsDue given core events.DropView answer = answer ≡ drop_answer core.standing
IsDue given core (events.End writer) answer = answer ≡ answers.Ended

-- ---- faults

-- a commit step fails by its device call, and where none is left it doesn't
abbrev pub faults_of_commit : List CommitStep → List FaultKind
faults_of_commit [] = []
faults_of_commit (step ∷ left) = Disk ∷ Memory ∷ []

-- an upload step fails where it asks the cloud, and where it reads a page and sends a message
abbrev pub faults_of_upload : Option ℕ → Option ℕ → List FaultKind
faults_of_upload (Some doubt) view = Link ∷ Memory ∷ []
faults_of_upload None (Some epoch) = Damaged ∷ Disk ∷ Link ∷ Memory ∷ []
faults_of_upload None None = []

-- what an event may fail by
abbrev pub faults_of : Core → FolderEvent → List FaultKind
faults_of core (events.Call writer op) = Damaged ∷ Disk ∷ Memory ∷ []
faults_of core (events.Freeze by) = if is_busy core || is_spent core then [] else Memory ∷ []
faults_of core events.CommitStep = faults_of_commit core.left
faults_of core events.UploadStep = faults_of_upload core.unsure (due_view core.standing core.stage)
faults_of core events.DropView = []
faults_of core (events.End writer) = []

-- an event failed by one of these
abbrev pub IsFaultOf : Core → FolderEvent → FolderAnswer → Type 0
IsFaultOf core event answer = (kind : FaultKind) × (answer ≡ answers.Fault kind) × Contains (faults_of core event) kind

-- the answers that may come to an event
abbrev pub MayAnswer : Given → Core → FolderEvent → FolderAnswer → Type 0
MayAnswer given core event answer = IsDue given core event answer ⊎ IsFaultOf core event answer
