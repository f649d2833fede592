-- A folder keeps pace, and is then not spent.
use Rattle.std.proofs.Common.{◌≡◌, ℕ, ◌+◌, ◌<◌, inl, inr, false, ◌||◌, ◌==◌, List, [], ◌∷◌, Option, refl, ap, sym, ◌∙◌, subst, arith}
use Rattle.std.specs.Prelude.{nat_le}
use Rattle.std.proofs.lemmas.Bool.Decides.{nat_tests}
use Rattle.vb_tree.specs.declared.operation.Op.{Op}
use Rattle.vb_hist.specs.declared.entry.Stage.{Stage}
use Rattle.vb_hist.specs.declared.entry.Stage.TheVariants.{Rested, Written, Committed}
use Rattle.vb_publish.specs.declared.step.UploadStep.TheVariants as uploads
use Rattle.vb_journal.specs.declared.commit_stage.CommitStep.{CommitStep}
use Rattle.vb_journal.specs.declared.commit_stage.CommitStep.TheVariants as commits
use Rattle.vb_event.specs.declared.answer.FaultKind.TheVariants.{Link}
use Rattle.vb_event.specs.declared.answer.FolderAnswer.{FolderAnswer}
use Rattle.vb_event.specs.declared.answer.FolderAnswer.TheVariants as answers
use Rattle.vb_event.specs.declared.event.FolderEvent.{FolderEvent}
use Rattle.vb_event.specs.declared.event.FolderEvent.TheVariants as events
use Rattle.vb_event.specs.Answers.{MayAnswer, commit_answer, is_spent}
use Rattle.vb_event.specs.Core.{Core, Given, BringToRest, KeepsPace, epochs_end, greatest_epoch, sequences_end, sequences_left}
use Rattle.vb_event.specs.Steps.{after_call, after_commit_step, after_drop, after_freeze, after_upload_step, core_after, doubt_of}
use Rattle.vb_event.proofs.Trees.{freeze-next}

pace-call : (core : Core) (op : Op) (answer : FolderAnswer) → KeepsPace core → KeepsPace (after_call core op answer)
pace-call core op (answers.Called reply) h = h
pace-call core op other h = h

pace-freeze : (given : Given) (core : Core) (answer : FolderAnswer) → ((frozen : ℕ) → answer ≡ answers.Frozen frozen → frozen ≡ core.epoch + 1) → KeepsPace core → KeepsPace (after_freeze given core answer)
pace-freeze given core (answers.Frozen epoch) next h = (let at = next epoch refl in omega arith)
pace-freeze given core other next h = h

pace-commit_at : (core : Core) (stage : Stage) (left : List CommitStep) → core.stage ≡ stage → BringToRest stage left → KeepsPace core → KeepsPace (after_commit_step core (answers.CommitStepped (commit_answer left)))
pace-commit_at core Rested [] is brings h = h
pace-commit_at core Written (commits.Wrote ∷ left) is brings h = h
pace-commit_at core Written (commits.Synced ∷ left) is brings h = h
pace-commit_at core Written (commits.Committed ∷ left) is brings h = (let taken = ap sequences_left is in omega arith)
pace-commit_at core Committed (commits.Wrote ∷ left) is brings h = h
pace-commit_at core Committed (commits.Synced ∷ left) is brings h = h
pace-commit_at core Committed (commits.Rested ∷ left) is brings h = (let taken = ap sequences_left is in omega arith)
pace-commit_at core stage left is brings h = absurd brings

pace-upload : (doubt : Option ℕ) (core : Core) (answer : FolderAnswer) → KeepsPace core → KeepsPace (after_upload_step doubt core answer)
pace-upload doubt core (answers.UploadStepped uploads.Sent) h = h
pace-upload doubt core (answers.UploadStepped (uploads.Published epoch)) h = h
pace-upload doubt core (answers.UploadStepped uploads.Asked) h = h
pace-upload doubt core (answers.Fault Link) h = h
pace-upload doubt core other h = h

pace-drop : (core : Core) (answer : FolderAnswer) → KeepsPace core → KeepsPace (after_drop core answer)
pace-drop core (answers.Dropped epoch) h = h
pace-drop core other h = h

pub pace-event : (core : Core) (given : Given) (event : FolderEvent) (answer : FolderAnswer) → MayAnswer given core event answer → BringToRest core.stage core.left → KeepsPace core → KeepsPace (core_after given core event answer)
pace-event core given (events.Call writer op) answer may brings h = pace-call core op answer h
pace-event core given (events.Freeze by) answer may brings h = pace-freeze given core answer (λ frozen at. freeze-next given core by frozen (subst (MayAnswer given core (events.Freeze by)) at may)) h
pace-event core given events.CommitStep answer (inl due) brings h = subst (λ a. KeepsPace (after_commit_step core a)) (sym due) (pace-commit_at core core.stage core.left refl brings h)
pace-event core given events.CommitStep answer (inr fault) brings h = subst (λ a. KeepsPace (after_commit_step core a)) (sym fault.1) h
pace-event core given events.UploadStep answer may brings h = pace-upload (doubt_of given core core.unsure) core answer h
pace-event core given events.DropView answer may brings h = pace-drop core answer h
pace-event core given (events.End writer) answer may brings h = h

-- with an early epoch neither its last epoch nor its sequence is the last
pub unspent : (core : Core) → KeepsPace core → core.epoch < epochs_end → is_spent core ≡ false
unspent core h early =
    let low : core.sequence < sequences_end = omega arith in
    let epoch : (core.epoch == greatest_epoch) ≡ false = grind (arith, nat_tests) in
    let sequence : nat_le sequences_end core.sequence ≡ false = grind (arith, nat_tests) in
    ap (λ b. b || nat_le sequences_end core.sequence) epoch ∙ sequence
