-- No event changes the limits of a folder.
use Rattle.std.proofs.Common.{◌≡◌, ℕ, Option, refl}
use Rattle.vb_event.specs.Core.{Core, Given}
use Rattle.vb_event.specs.Steps.{after_call, after_commit_step, after_drop, after_freeze, after_upload_step, core_after, doubt_of}
use Rattle.vb_event.specs.declared.answer.FaultKind.TheVariants.{Link}
use Rattle.vb_event.specs.declared.answer.FolderAnswer.{FolderAnswer}
use Rattle.vb_event.specs.declared.answer.FolderAnswer.TheVariants as answers
use Rattle.vb_event.specs.declared.event.FolderEvent.{FolderEvent}
use Rattle.vb_event.specs.declared.event.FolderEvent.TheVariants as events
use Rattle.vb_journal.specs.declared.commit_stage.CommitStep.TheVariants as commits
use Rattle.vb_publish.specs.declared.step.UploadStep.TheVariants as uploads
use Rattle.vb_tree.specs.declared.operation.Op.{Op}

limits-call : (core : Core) (op : Op) (answer : FolderAnswer) → (after_call core op answer).limits ≡ core.limits
limits-call core op (answers.Called reply) = refl
limits-call core op other = refl

limits-freeze : (given : Given) (core : Core) (answer : FolderAnswer) → (after_freeze given core answer).limits ≡ core.limits
limits-freeze given core (answers.Frozen epoch) = refl
limits-freeze given core other = refl

limits-commit : (core : Core) (answer : FolderAnswer) → (after_commit_step core answer).limits ≡ core.limits
limits-commit core (answers.CommitStepped commits.Committed) = refl
limits-commit core (answers.CommitStepped commits.Rested) = refl
limits-commit core (answers.CommitStepped other) = refl
limits-commit core other = refl

limits-upload : (doubt : Option ℕ) (core : Core) (answer : FolderAnswer) → (after_upload_step doubt core answer).limits ≡ core.limits
limits-upload doubt core (answers.UploadStepped uploads.Sent) = refl
limits-upload doubt core (answers.UploadStepped (uploads.Published epoch)) = refl
limits-upload doubt core (answers.UploadStepped uploads.Asked) = refl
limits-upload doubt core (answers.Fault Link) = refl
limits-upload doubt core other = refl

limits-drop : (core : Core) (answer : FolderAnswer) → (after_drop core answer).limits ≡ core.limits
limits-drop core (answers.Dropped epoch) = refl
limits-drop core other = refl

-- no event changes the limits
pub limits-after : (given : Given) (core : Core) (event : FolderEvent) (answer : FolderAnswer) → (core_after given core event answer).limits ≡ core.limits
limits-after given core (events.Call writer op) answer = limits-call core op answer
limits-after given core (events.Freeze by) answer = limits-freeze given core answer
limits-after given core events.CommitStep answer = limits-commit core answer
limits-after given core events.UploadStep answer = limits-upload (doubt_of given core core.unsure) core answer
limits-after given core events.DropView answer = limits-drop core answer
limits-after given core (events.End writer) answer = refl
