-- What is published never falls, in the folder and in its cloud.
use Rattle.std.proofs.Common.{◌≡◌, ◌≢◌, ℕ, ◌<◌, ◌≤◌, ◌⊎◌, inl, inr, Bool, true, false, IfSome, Option, Some, None, refl, ap, sym, ◌∙◌, subst, arith}
use Rattle.vb_tree.specs.declared.operation.Op.{Op}
use Rattle.vb_hist.specs.declared.entry.Stage.{Stage}
use Rattle.vb_hist.specs.declared.entry.Stage.TheVariants.{Rested, Written, Committed}
use Rattle.vb_hist.specs.Legal.{Opening}
use Rattle.vb_cloud.specs.Machine.{CloudState}
use Rattle.vb_publish.specs.declared.step.UploadStep.TheVariants as uploads
use Rattle.vb_event.specs.declared.event.FolderEvent.{FolderEvent}
use Rattle.vb_event.specs.declared.event.FolderEvent.TheVariants as events
use Rattle.vb_event.specs.declared.answer.FolderAnswer.{FolderAnswer}
use Rattle.vb_event.specs.declared.answer.FolderAnswer.TheVariants as answers
use Rattle.vb_journal.specs.declared.commit_stage.CommitStep.TheVariants as commits
use Rattle.vb_event.specs.declared.answer.FaultKind.TheVariants.{Link}
use Rattle.vb_event.specs.Core.{Core, Given}
use Rattle.vb_event.specs.Answers.{MayAnswer, MayStep, due_view, is_last_due, message_answer}
use Rattle.vb_event.specs.Steps.{LeavesDoubt, LeavesPublished, LeavesCloud, MayBecome, after_call, after_commit_step, after_drop, after_freeze, after_upload_step, core_after, doubt_of}
use Rattle.vb_event.specs.Sound.{HasSoundHistory, HasSoundCloud}
use Rattle.vb_event.proofs.Transitions.{doubt-tells}

-- the message that publishes an epoch is one of its view
message-view : (last : Bool) (standing : Option ℕ) (stage : Stage) (epoch : ℕ) → uploads.Published epoch ≡ message_answer last (due_view standing stage) → standing ≡ Some epoch
message-view last standing Written epoch h = cc
message-view last None Committed epoch h = cc
message-view last None Rested epoch h = cc
message-view false (Some view) Committed epoch h = cc
message-view false (Some view) Rested epoch h = cc
message-view true (Some view) Committed epoch h = cc
message-view true (Some view) Rested epoch h = cc

-- what may be published is above what is
publishes-above : (o : Opening) (core : Core) (given : Given) (epoch : ℕ) → MayAnswer given core events.UploadStep (answers.UploadStepped (uploads.Published epoch)) → HasSoundHistory o core → core.published < epoch
publishes-above o core given epoch (inr fault) s = absurd (differ fault.1)
  where
    differ : answers.UploadStepped (uploads.Published epoch) ≡ answers.Fault fault.0 → ⊥
    differ h = cc
publishes-above o core given epoch (inl due) s = at core.unsure refl due.2
  where
    is : uploads.Published epoch ≡ due.0
    is = cc (due.1)

    at : (unsure : Option ℕ) → core.unsure ≡ unsure → MayStep given core unsure due.0 → core.published < epoch
    at None sure may = (subst (λ v. IfSome v (λ e. (e ≡ core.epoch) × (core.published < e))) (message-view (is_last_due given core) core.standing core.stage epoch (is ∙ may)) s.order.view_is_last).1
    at (Some doubt) unsure (inl may) = (let same : epoch ≡ doubt = cc (is, may) in
        let newer = subst (λ u. IfSome u (λ e. (core.published < e) × (e ≤ core.epoch))) unsure s.order.doubt_is_newer in omega (arith, newer.0))
    at (Some doubt) unsure (inr may) = absurd (let both : uploads.Published epoch ≡ uploads.Asked = is ∙ may in cc)

-- ---- in the folder

stays-call : (core : Core) (op : Op) (answer : FolderAnswer) → (after_call core op answer).published ≡ core.published
stays-call core op (answers.Called reply) = refl
stays-call core op other = refl

stays-freeze : (given : Given) (core : Core) (answer : FolderAnswer) → (after_freeze given core answer).published ≡ core.published
stays-freeze given core (answers.Frozen epoch) = refl
stays-freeze given core other = refl

stays-commit : (core : Core) (answer : FolderAnswer) → (after_commit_step core answer).published ≡ core.published
stays-commit core (answers.CommitStepped commits.Committed) = refl
stays-commit core (answers.CommitStepped commits.Rested) = refl
stays-commit core (answers.CommitStepped other) = refl
stays-commit core other = refl

stays-drop : (core : Core) (answer : FolderAnswer) → (after_drop core answer).published ≡ core.published
stays-drop core (answers.Dropped epoch) = refl
stays-drop core other = refl

later-upload : (doubt : Option ℕ) (core : Core) (answer : FolderAnswer) → ((epoch : ℕ) → answer ≡ answers.UploadStepped (uploads.Published epoch) → core.published < epoch) → core.published ≤ (after_upload_step doubt core answer).published
later-upload doubt core (answers.UploadStepped (uploads.Published epoch)) above = (let h = above epoch refl in omega arith)
later-upload doubt core (answers.UploadStepped uploads.Sent) above = omega arith
later-upload doubt core (answers.UploadStepped uploads.Asked) above = omega arith
later-upload doubt core (answers.Fault Link) above = omega arith
later-upload doubt core other above = omega arith

pub published-later : (o : Opening) (core : Core) (given : Given) (event : FolderEvent) (answer : FolderAnswer) → MayAnswer given core event answer → HasSoundHistory o core → core.published ≤ (core_after given core event answer).published
published-later o core given (events.Call writer op) answer may s = (let same = stays-call core op answer in omega arith)
published-later o core given (events.Freeze by) answer may s = (let same = stays-freeze given core answer in omega arith)
published-later o core given events.CommitStep answer may s = (let same = stays-commit core answer in omega arith)
published-later o core given events.UploadStep answer may s =
    later-upload (doubt_of given core core.unsure) core answer (λ epoch is. publishes-above o core given epoch (subst (MayAnswer given core events.UploadStep) is may) s)
published-later o core given events.DropView answer may s = (let same = stays-drop core answer in omega arith)
published-later o core given (events.End writer) answer may s = omega arith

-- ---- in the cloud

-- where nothing is in doubt a sound cloud shows the published epoch
shown-sure : (o : Opening) (core : Core) (k : CloudState) → core.unsure ≡ None → HasSoundCloud o core k → k.epoch ≡ core.published
shown-sure o core k sure c = at c.epoch
  where
    none_of : ℕ → Option ℕ
    none_of e = None

    at : (k.epoch ≡ core.published) ⊎ (core.unsure ≡ Some k.epoch) → k.epoch ≡ core.published
    at (inl is) = is
    at (inr is) = absurd (let e : none_of 0 ≡ Some k.epoch = sym sure ∙ is in cc)

as-before : (before after : CloudState) → after ≡ before → before.epoch ≤ after.epoch
as-before before after is = (let e = ap (λ k. k.epoch) is in omega arith)

seen-published : (o : Opening) (core : Core) (unsure : Option ℕ) (epoch : ℕ) (before after : CloudState) → core.unsure ≡ unsure → core.published < epoch → LeavesPublished unsure core.frozen epoch before after → HasSoundCloud o core before → before.epoch ≤ after.epoch
seen-published o core (Some doubt) epoch before after is above may c = as-before before after may.0
seen-published o core None epoch before after is above may c = (let shown = shown-sure o core before is c in omega (arith, may.0))

seen-doubt : (o : Opening) (core : Core) (doubt : Option ℕ) (before after : CloudState) → IfSome doubt (λ epoch. (core.unsure ≡ None) × (core.standing ≡ Some epoch) × (core.stage ≢ Written)) → LeavesDoubt doubt core.frozen before after
    → HasSoundHistory o core → HasSoundCloud o core before → before.epoch ≤ after.epoch
seen-doubt o core None before after tells may s c = omega (arith, may.0)
seen-doubt o core (Some epoch) before after tells (inl may) s c = omega (arith, may.0)
seen-doubt o core (Some epoch) before after tells (inr may) s c =
    let shown = shown-sure o core before tells.0 c in
    let view = subst (λ v. IfSome v (λ e. (e ≡ core.epoch) × (core.published < e))) tells.1 s.order.view_is_last in
    omega (arith, may.0, view.1)

seen-upload : (o : Opening) (core : Core) (doubt : Option ℕ) (answer : FolderAnswer) (before after : CloudState) → IfSome doubt (λ epoch. (core.unsure ≡ None) × (core.standing ≡ Some epoch) × (core.stage ≢ Written))
    → ((epoch : ℕ) → answer ≡ answers.UploadStepped (uploads.Published epoch) → core.published < epoch) → LeavesCloud doubt core answer before after → HasSoundHistory o core → HasSoundCloud o core before → before.epoch ≤ after.epoch
seen-upload o core doubt (answers.UploadStepped uploads.Sent) before after tells above may s c = omega (arith, may.0.0)
seen-upload o core doubt (answers.UploadStepped (uploads.Published epoch)) before after tells above may s c = seen-published o core core.unsure epoch before after refl (above epoch refl) may c
seen-upload o core doubt (answers.UploadStepped uploads.Asked) before after tells above may s c = as-before before after may.0
seen-upload o core doubt (answers.Fault Link) before after tells above may s c = seen-doubt o core doubt before after tells may s c
seen-upload o core doubt other before after tells above may s c = as-before before after may

pub seen-later : (o : Opening) (core : Core) (given : Given) (event : FolderEvent) (answer : FolderAnswer) (before after : CloudState) → MayAnswer given core event answer → MayBecome given core event answer before after
    → HasSoundHistory o core → HasSoundCloud o core before → before.epoch ≤ after.epoch
seen-later o core given events.UploadStep answer before after may becomes s c =
    seen-upload o core (doubt_of given core core.unsure) answer before after (doubt-tells given core core.unsure refl)
    (λ epoch is. publishes-above o core given epoch (subst (MayAnswer given core events.UploadStep) is may) s) becomes s c
seen-later o core given (events.Call writer op) answer before after may becomes s c = as-before before after becomes
seen-later o core given (events.Freeze by) answer before after may becomes s c = as-before before after becomes
seen-later o core given events.CommitStep answer before after may becomes s c = as-before before after becomes
seen-later o core given events.DropView answer before after may becomes s c = as-before before after becomes
seen-later o core given (events.End writer) answer before after may becomes s c = as-before before after becomes
