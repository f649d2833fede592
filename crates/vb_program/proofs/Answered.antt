-- What the calls of a rehearsed folder answer, and what each leaves.
use Rattle.std.proofs.Common.{◌≡◌, ◌⊎◌, inl, inr, ⊎_elim, ℕ, ◌+◌, ◌-◌, ◌<◌, ◌≤◌, max, List, [], ◌++◌, length, Option, Some, None, Result, Ok, Err, IfOk, OnErr, OnOk, refl, sym, ap, subst, ◌∙◌, arith}
use Rattle.std.specs.Option.{is_some}
use Rattle.std.proofs.lemmas.List.{append-nil}
use Rattle.vb_cause.specs.Causes.{left_of, UsesFailures}
use Rattle.vb_core.specs.Folders.{called_answer, disk_in, folder_fault, ledger_in, link_in, uploaded_answer}
use Rattle.vb_core.specs.Names.{NamesPage, IsMadeOf, TellsStep}
use Rattle.vb_core.specs.declared.folder_error.FolderError.{FolderError}
use Rattle.vb_core.specs.declared.folder_error.FolderError.TheVariants as failures
use Rattle.vb_disk.specs.Memory.{failures_left_of, state_of}
use Rattle.vb_disk.specs.Moments.{Reaches}
use Rattle.vb_disk.specs.States.{DiskState}
use Rattle.vb_disk.specs.declared.disk_error.DiskError.{DiskError}
use Rattle.vb_disk.specs.declared.disk_error.DiskError.TheVariants as disks
use Rattle.vb_disk.specs.declared.memory_disk.MemoryDisk.{MemoryDisk}
use Rattle.vb_during.specs.TornPages.{IsAllWhole}
use Rattle.vb_event.specs.Answers.{IsDue}
use Rattle.vb_event.specs.Core.{Core, is_rested}
use Rattle.vb_event.specs.Steps.{MayBecome}
use Rattle.vb_event.specs.declared.answer.FaultKind.TheVariants as faults
use Rattle.vb_event.specs.declared.answer.FolderAnswer.{FolderAnswer}
use Rattle.vb_event.specs.declared.answer.FolderAnswer.TheVariants as answers
use Rattle.vb_event.specs.declared.event.FolderEvent.{FolderEvent}
use Rattle.vb_event.specs.declared.event.FolderEvent.TheVariants as events
use Rattle.vb_faultless.specs.Faultless.{BlamesNone, IsDueOrMemory, ShowsWhole}
use Rattle.vb_faultless.proofs.Answered.{end-blames, freeze-blames, link-blames, made-due, step-blames}
use Rattle.vb_faultless.proofs.Undamaged.{shown-backs}
use Rattle.vb_faultless.proofs.Whole.{whole-reached}
use Rattle.vb_folder.specs.Events.{frozen_answer, step_answer, IsCalled, Makes as MakesOne, StaysStill, StepsOnce}
use Rattle.vb_folder.specs.declared.refusals.FreezeError.{FreezeError}
use Rattle.vb_folder.specs.declared.refusals.FreezeError.TheVariants as freezes
use Rattle.vb_folder.specs.Ledgers.{core_of, IsKept, LedgerState}
use Rattle.vb_folder.specs.Uploads.{upload_answer, ChangesUpload, LinkMoment, Uploads}
use Rattle.vb_head.specs.declared.head.Head.{Head}
use Rattle.vb_hist.specs.declared.entry.Entry.{Entry}
use Rattle.vb_journal.specs.declared.commit_stage.CommitStep.{CommitStep}
use Rattle.vb_journal.specs.declared.commit_stage.CommitStep.TheVariants as commits
use Rattle.vb_journal.specs.Plans.{closed_head}
use Rattle.vb_link.specs.Links.{KeepsFailures}
use Rattle.vb_link.specs.Memory.{cloud_of, link_failures_left_of}
use Rattle.vb_link.specs.declared.memory_cloud.MemoryCloud.{MemoryCloud}
use Rattle.vb_local.specs.Answers.{answers_in, GivesFirst}
use Rattle.vb_local.specs.Events.{Drops, Freezes, StepsOn}
use Rattle.vb_local.specs.Shown.{LocalTrees, ShowsOn}
use Rattle.vb_local.specs.States.{epoch_in, LocalState, PhaseState, Rests, Waits, Writes}
use Rattle.vb_publish.specs.declared.step.UploadStep.{UploadStep}
use Rattle.vb_store.specs.Views.{ViewState}
use Rattle.vb_steps.specs.Disks.{DiskView}
use Rattle.vb_tree.specs.declared.operation.Op.{Op}
use Rattle.vb_tree.specs.declared.reply.Reply.{Reply}
use Rattle.vb_upload.specs.declared.answer.UploadError.{UploadError}
use Rattle.vb_upload.specs.declared.answer.UploadError.TheVariants as uploads
use Rattle.vb_program.specs.Playing.{cloud_in, core_in, disk_of, history_in, HasWholeDevices, IsRehearsed, Makes, MemoryFolder}
use Rattle.vb_program.proofs.Made.{devices-stay, made-event, no-failure, none-left, rehearsed-shows, rehearsed-whole}

-- what isn't a want of memory was answered as is due
pub answered : (old new : MemoryFolder) (t : LocalTrees) (event : FolderEvent) (answer : FolderAnswer)
    (made : MakesOne event answer (ledger_in old) (ledger_in new) (Some (disk_of old)) (Some (disk_of new))) → IsRehearsed old t → BlamesNone answer
    → (answer ≡ answers.Fault faults.Memory → ⊥) → IsDue made.given (core_in old t) event answer
answered old new t event answer made r blames found =
    ⊎_elim (λ due. due) (λ memory. absurd (found memory)) (made-due event answer (ledger_in old) (ledger_in new) (disk_of old) t (Some (disk_of new)) made (rehearsed-shows old t r) blames)

-- ---- operations

-- what a call of a folder gives, over whole devices
pub record Called (old new : MemoryFolder) (writer : ℕ) (op : Op) (result : Result Reply FolderError) : Type 0 where
  pub makes : MakesOne (events.Call writer op) (called_answer result) (ledger_in old) (ledger_in new) (Some (disk_of old)) (Some (disk_of new))
  pub others : IsCalled (ledger_in old) (ledger_in new)
  pub damage : NamesPage (Some (disk_of old)) (ledger_in old).local.live op result
  pub told : Some (disk_of new) ≡ Some (disk_of old)
  pub left : UsesFailures failures.DiskFault (failures_left_of (disk_in old)) (failures_left_of (disk_in new)) result
  pub link : link_in new ≡ link_in old

pub called-blames : (old new : MemoryFolder) (t : LocalTrees) (writer : ℕ) (op : Op) (result : Result Reply FolderError) → ShowsWhole (disk_of old) (ledger_in old) t → HasWholeDevices old
    → Called old new writer op result → BlamesNone (called_answer result)
called-blames old new t writer op (Ok reply) shows devices called kind e = absurd (cc e)
called-blames old new t writer op (Err (failures.Damaged path page place kept found)) shows devices called kind e =
    let hurt = called.damage.hurt (disk_of old) refl (shown-backs (disk_of old) (ledger_in old) t shows) in
    let whole = shows.whole place in
    absurd cc
called-blames old new t writer op (Err failures.DiskFault) shows devices called kind e =
    absurd (no-failure failures.DiskFault (failures_left_of (disk_in old)) (failures_left_of (disk_in new)) (Err failures.DiskFault) called.left devices.disk refl)
called-blames old new t writer op (Err failures.LinkFault) shows devices called kind e = absurd called.damage
called-blames old new t writer op (Err failures.Memory) shows devices called kind e = sym (cc e)

pub called-makes : (old new : MemoryFolder) (t : LocalTrees) (writer : ℕ) (op : Op) (reply : Reply) → ShowsWhole (disk_of old) (ledger_in old) t → IsRehearsed old t
    → Called old new writer op (Ok reply) → Makes old t (events.Call writer op) (answers.Called reply) new
called-makes old new t writer op reply shows r called =
    made-event old new t (events.Call writer op) (answers.Called reply) called.makes r
    (devices-stay failures.DiskFault (Ok reply) old new r.devices called.told called.left (ap link_failures_left_of called.link ∙ r.devices.link) (ap (λ (s : LedgerState). s.local.view.head.blocks) called.others))
    (answered old new t (events.Call writer op) (answers.Called reply) called.makes r (called-blames old new t writer op (Ok reply) shows r.devices called) (λ e. cc e))
    (ap cloud_of called.link)

-- ---- the room for an entry

-- it is of no matter to an event
pub reserved-makes : (event : FolderEvent) (answer : FolderAnswer) (s mid new : LedgerState) (room : ℕ) (before after : Option DiskState)
    → mid ≡ record s { history = record s.history { spare = room } } → MakesOne event answer mid new before after → MakesOne event answer s new before after
reserved-makes event answer s mid new room before after is made =
    let m = subst (λ (m : LedgerState). MakesOne event answer m new before after) is made in
    record {
      given = m.given;
      is_given = m.is_given;
      pushed = m.pushed;
      shown = λ d t told shows.
          let after = m.shown d t told shows in
          record { next = after.next; told = after.told; shows = after.shows; may = after.may; core = after.core };
    }

-- ---- freezes and ends

-- what a call gives that makes no call of a device, behind a reservation
pub record Stays (old mid new : MemoryFolder) (room : ℕ) : Type 0 where
  pub reserved : ledger_in mid ≡ record (ledger_in old) { history = record (ledger_in old).history { spare = room } }
  pub disk_reserved : disk_in mid ≡ disk_in old
  pub link_reserved : link_in mid ≡ link_in old
  pub disk : disk_in new ≡ disk_in mid
  pub link : link_in new ≡ link_in mid
  pub head : (ledger_in new).local.view.head ≡ (ledger_in mid).local.view.head

stays-devices : (old mid new : MemoryFolder) (room : ℕ) → Stays old mid new room → HasWholeDevices old → HasWholeDevices new
stays-devices old mid new room stays devices =
    let disk = stays.disk ∙ stays.disk_reserved in
    let link = stays.link ∙ stays.link_reserved in
    let head : (ledger_in new).local.view.head.blocks ≡ (ledger_in old).local.view.head.blocks = ap (λ (h : Head). h.blocks) (stays.head ∙ ap (λ (s : LedgerState). s.local.view.head) stays.reserved) in
    record {
      whole = subst (λ (m : MemoryDisk). IsAllWhole (state_of m)) (sym disk) devices.whole;
      disk = ap failures_left_of disk ∙ devices.disk;
      link = ap link_failures_left_of link ∙ devices.link;
      places = (let size = ap (λ (m : MemoryDisk). (state_of m).size) disk in let places = devices.places in omega (arith, head, size, places));
    }

pub stays-makes : (old mid new : MemoryFolder) (t : LocalTrees) (room : ℕ) (event : FolderEvent) (answer : FolderAnswer) → Stays old mid new room
    → ((told : Option DiskState) → MakesOne event answer (ledger_in mid) (ledger_in new) told told) → BlamesNone answer → (answer ≡ answers.Fault faults.Memory → ⊥)
    → ((made : MakesOne event answer (ledger_in old) (ledger_in new) (Some (disk_of old)) (Some (disk_of new))) → cloud_in new ≡ cloud_in old → MayBecome made.given (core_in old t) event answer (cloud_in old) (cloud_in new))
    → IsRehearsed old t → Makes old t event answer new
stays-makes old mid new t room event answer stays makes blames found becomes r =
    let disk : Some (disk_of old) ≡ Some (disk_of new) = sym (ap (λ (m : MemoryDisk). Some (state_of m)) (stays.disk ∙ stays.disk_reserved)) in
    let made = subst (λ (told : Option DiskState). MakesOne event answer (ledger_in old) (ledger_in new) (Some (disk_of old)) told) disk
    (reserved-makes event answer (ledger_in old) (ledger_in mid) (ledger_in new) room (Some (disk_of old)) (Some (disk_of old)) stays.reserved (makes (Some (disk_of old)))) in
    made-event old new t event answer made r (stays-devices old mid new room stays r.devices) (answered old new t event answer made r blames found)
    (becomes made (ap cloud_of (stays.link ∙ stays.link_reserved)))

-- the committed head stays at a freeze
pub freeze-head : (old new : LedgerState) (result : Result ℕ FreezeError) → IfOk result (λ epoch. Freezes old.local epoch new.local) → OnErr result (new.local ≡ old.local)
    → new.local.view.head ≡ old.local.view.head
freeze-head old new (Ok epoch) freezes kept = ap (λ (s : LocalState). s.view.head) freezes.waits
freeze-head old new (Err error) freezes kept = ap (λ (s : LocalState). s.view.head) kept

-- ---- commit steps

-- what a commit step gives, over whole devices
pub record Stepped (old new : MemoryFolder) (before after : DiskView) (result : Result CommitStep DiskError) : Type 0 where
  pub makes : MakesOne events.CommitStep (step_answer result) (ledger_in old) (ledger_in new) (Some (disk_of old)) (Some (disk_of new))
  pub steps : StepsOnce (ledger_in old) (ledger_in new) before after result
  pub before_told : before.told ≡ Some (disk_of old)
  pub after_told : after.told ≡ Some (disk_of new)
  pub seen : (disk_of new).size ≡ (disk_of old).size
  pub left : UsesFailures disks.Failed (failures_left_of (disk_in old)) (failures_left_of (disk_in new)) result
  pub link : link_in new ≡ link_in old

stepped-whole : (old new : MemoryFolder) (t : LocalTrees) (before after : DiskView) (result : Result CommitStep DiskError) → IsRehearsed old t → Stepped old new before after result → IsAllWhole (disk_of new)
stepped-whole old new t before after result r stepped = ⊎_elim
    (λ on.
    let next = on.shown (disk_of old) t stepped.before_told (rehearsed-shows old t r) in
    let same : next.next ≡ disk_of new = (let told = sym next.is_told ∙ stepped.after_told in cc told) in
    subst IsAllWhole same (whole-reached (disk_of old) next.next next.moments.reached r.devices.whole))
    (λ still.
    let told : Some (disk_of new) ≡ Some (disk_of old) = sym stepped.after_told ∙ ap (λ (v : DiskView). v.told) still.disk ∙ stepped.before_told in
    let same : disk_of new ≡ disk_of old = cc told in
    subst IsAllWhole (sym same) r.devices.whole)
    stepped.steps

-- a commit that rests was on
on-epoch : (v : ViewState) (phase : PhaseState) (left : List CommitStep) → GivesFirst (answers_in v phase) left (Ok commits.Rested) → (epoch : ℕ) × (epoch_in phase ≡ Some epoch)
on-epoch v (Rests frozen) left gives = absurd (cc gives.0)
on-epoch v (Waits frozen epoch) left gives = (epoch, refl)
on-epoch v (Writes frozen way) left gives = (way.epoch, refl)

-- the committed head has as many blocks after a step
step-blocks : (old new : LocalState) (before after : DiskView) (step : CommitStep) → StepsOn old new before after (Ok step) → new.view.head.blocks ≡ old.view.head.blocks
step-blocks old new before after commits.Wrote on = ap (λ (h : Head). h.blocks) (on.keeps (λ e. cc e)).head
step-blocks old new before after commits.Synced on = ap (λ (h : Head). h.blocks) (on.keeps (λ e. cc e)).head
step-blocks old new before after commits.Committed on = ap (λ (h : Head). h.blocks) (on.keeps (λ e. cc e)).head
step-blocks old new before after commits.Idle on = ap (λ (h : Head). h.blocks) (on.keeps (λ e. cc e)).head
step-blocks old new before after commits.Rested on =
    let at = on-epoch old.view old.phase _ on.answer in
    ap (λ (h : Head). h.blocks) ((on.settles refl).head at.0 at.1)

pub stepped-makes : (old new : MemoryFolder) (t : LocalTrees) (before after : DiskView) (step : CommitStep) → IsRehearsed old t → Stepped old new before after (Ok step)
    → Makes old t events.CommitStep (answers.CommitStepped step) new
stepped-makes old new t before after step r stepped =
    let blocks : (ledger_in new).local.view.head.blocks ≡ (ledger_in old).local.view.head.blocks =
    ⊎_elim (λ on. step-blocks (ledger_in old).local (ledger_in new).local before after step on) (λ still. ap (λ (s : LedgerState). s.local.view.head.blocks) still.folder) stepped.steps in
    made-event old new t events.CommitStep (answers.CommitStepped step) stepped.makes r (record {
      whole = stepped-whole old new t before after (Ok step) r stepped;
      disk = none-left disks.Failed (length (disk_in old).fails) (length (disk_in new).fails) (Ok step) stepped.left r.devices.disk;
      link = ap link_failures_left_of stepped.link ∙ r.devices.link;
      places = (let seen = stepped.seen in let places = r.devices.places in omega (arith, blocks, seen, places));
    })
    (answered old new t events.CommitStep (answers.CommitStepped step) stepped.makes r (step-blames (failures_left_of (disk_in new)) (Ok step) (subst (λ left. UsesFailures disks.Failed left (failures_left_of (disk_in new)) (Ok step)) r.devices.disk stepped.left)) (λ e. cc e))
    (ap cloud_of stepped.link)

-- a step that isn't answered so finds no memory
pub stepped-never_fails : (old new : MemoryFolder) (t : LocalTrees) (before after : DiskView) (error : DiskError) → IsRehearsed old t → Stepped old new before after (Err error) → error ≡ disks.Failed → ⊥
stepped-never_fails old new t before after error r stepped is =
    no-failure disks.Failed (failures_left_of (disk_in old)) (failures_left_of (disk_in new)) (Err error) stepped.left r.devices.disk (ap Err is)

-- ---- want of memory

-- a fault for want of memory is that error
pub memory-error : (error : FolderError) → folder_fault error ≡ faults.Memory → error ≡ failures.Memory
memory-error (failures.Damaged path page place kept found) is = absurd (cc is)
memory-error failures.DiskFault is = absurd (cc is)
memory-error failures.LinkFault is = absurd (cc is)
memory-error failures.Memory is = refl
