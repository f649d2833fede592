-- What one call of a loop leaves, by what it answered.
use Rattle.std.proofs.Common.{◌≡◌, ◌≢◌, ⊎_elim, ℕ, List, [], ◌∷◌, length, arith, Result, Ok, Err, IfOk, OnOk, OnErr, refl, sym, ap, subst, ◌∙◌}
use Rattle.vb_core.specs.Folders.{ledger_in}
use Rattle.vb_event.specs.declared.answer.FolderAnswer.TheVariants as answers
use Rattle.vb_event.specs.declared.event.FolderEvent.TheVariants as events
use Rattle.vb_hist.specs.declared.entry.Entry.{Entry}
use Rattle.vb_hist.specs.declared.entry.Stage.TheVariants as stages
use Rattle.vb_hist.specs.Quiet.{after_quiet_freeze}
use mathlib.Core.List.{IsPrefix}
use Rattle.vb_journal.specs.declared.commit_stage.CommitStep.{CommitStep}
use Rattle.vb_local.specs.Shown.{LocalTrees}
use Rattle.vb_publish.specs.declared.step.UploadStep.{UploadStep}
use Rattle.vb_publish.specs.declared.step.UploadStep.TheVariants as uploads
use Rattle.vb_program.specs.Playing.{history_in, last_epoch_in, IsRehearsed, IsUnderWay, Makes, MemoryFolder}
use Rattle.vb_program.proofs.QuietSteps.{way-answers, way-front, way-goes_on, way-publishes, way-sends, GoesOn, IsFrozenWhole, Sends}

-- a list without a length has no items
pub no-items : {A : Type 0} (xs : List A) → length xs ≡ 0 → xs ≡ []
no-items [] none = refl
no-items (x ∷ xs) none = absurd (omega (arith, none))

-- what follows from an Ok
pub on-ok : {A E P Q : Type 0} (outcome : Result A E) → (P → Q) → OnOk outcome P → OnOk outcome Q
on-ok (Ok value) f p = f p
on-ok (Err error) f p = tt

-- what follows from an Err
pub on-err : {A E P Q : Type 0} (outcome : Result A E) → (P → Q) → OnErr outcome P → OnErr outcome Q
on-err (Ok value) f p = tt
on-err (Err error) f p = f p

-- what a commit step of the loop leaves
pub commit-goes_on : {E : Type 0} (history : List Entry) (by : ℕ) (folder now : MemoryFolder) (result : Result CommitStep E) (step : CommitStep) → result ≡ Ok step
    → (w : IsUnderWay history by folder) → (ledger_in folder).stage ≢ stages.Rested
    → ((t : LocalTrees) → IsRehearsed folder t → IfOk result (λ step. Makes folder t events.CommitStep (answers.CommitStepped step) now)) → GoesOn history by folder now step
commit-goes_on {E} history by folder now result step is w on ok =
    way-goes_on history by folder now step w on
    (subst (λ (r : Result CommitStep E). IfOk r (λ step. Makes folder w.trees events.CommitStep (answers.CommitStepped step) now)) is (ok w.trees w.rehearsed))

-- what a message of the loop leaves that isn't the last
pub upload-sends : {E : Type 0} (history : List Entry) (by : ℕ) (folder now : MemoryFolder) (result : Result UploadStep E) → result ≡ Ok uploads.Sent
    → (w : IsUnderWay history by folder) → (ledger_in folder).stage ≡ stages.Rested
    → ((t : LocalTrees) → IsRehearsed folder t → IfOk result (λ step. Makes folder t events.UploadStep (answers.UploadStepped step) now)) → Sends history by folder now
upload-sends {E} history by folder now result is w rested ok =
    way-sends history by folder now w rested
    (subst (λ (r : Result UploadStep E). IfOk r (λ step. Makes folder w.trees events.UploadStep (answers.UploadStepped step) now)) is (ok w.trees w.rehearsed))

-- what the last message leaves
pub upload-publishes : {E : Type 0} (history : List Entry) (by epoch : ℕ) (folder now : MemoryFolder) (result : Result UploadStep E) → result ≡ Ok (uploads.Published epoch)
    → (w : IsUnderWay history by folder) → (ledger_in folder).stage ≡ stages.Rested
    → ((t : LocalTrees) → IsRehearsed folder t → IfOk result (λ step. Makes folder t events.UploadStep (answers.UploadStepped step) now)) → IsFrozenWhole history by folder now
upload-publishes {E} history by epoch folder now result is w rested ok =
    way-publishes history by epoch folder now w rested
    (subst (λ (r : Result UploadStep E). IfOk r (λ step. Makes folder w.trees events.UploadStep (answers.UploadStepped step) now)) is (ok w.trees w.rehearsed))

-- each message of the loop that isn't the last is sent
pub upload-is_sent : {E : Type 0} (history : List Entry) (by : ℕ) (folder now : MemoryFolder) (result : Result UploadStep E) (step : UploadStep) → result ≡ Ok step
    → ((epoch : ℕ) → step ≡ uploads.Published epoch → ⊥) → (w : IsUnderWay history by folder) → (ledger_in folder).stage ≡ stages.Rested
    → ((t : LocalTrees) → IsRehearsed folder t → IfOk result (λ step. Makes folder t events.UploadStep (answers.UploadStepped step) now)) → step ≡ uploads.Sent
upload-is_sent {E} history by folder now result step is other w rested ok =
    ⊎_elim (λ sent. sent) (λ published. absurd (other (last_epoch_in folder) published))
    (way-answers history by folder now step w rested
    (subst (λ (r : Result UploadStep E). IfOk r (λ step. Makes folder w.trees events.UploadStep (answers.UploadStepped step) now)) is (ok w.trees w.rehearsed)))

-- at an error the history so far is a front
pub way-stops : {A E : Type 0} (history : List Entry) (by : ℕ) (folder now : MemoryFolder) (result : Result A E) (error : E) → result ≡ Err error → IsUnderWay history by folder
    → OnErr result (history_in now ≡ history_in folder) → IsPrefix (history_in now) (after_quiet_freeze by history)
way-stops {A} {E} history by folder now result error is w same =
    way-front history by folder now w (subst (λ (r : Result A E). OnErr r (history_in now ≡ history_in folder)) is same)
