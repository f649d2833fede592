use Rattle.std.proofs.Common.{◌≡◌, ℕ, max, Option, Result, Ok, Err, refl, ap}
use Rattle.vb_core.specs.Folders.{ledger_in}
use Rattle.vb_disk.specs.States.{DiskState}
use Rattle.vb_event.specs.declared.answer.FaultKind.TheVariants as faults
use Rattle.vb_event.specs.declared.answer.FolderAnswer.{FolderAnswer}
use Rattle.vb_event.specs.declared.answer.FolderAnswer.TheVariants as answers
use Rattle.vb_event.specs.declared.event.FolderEvent.TheVariants as events
use Rattle.vb_faultless.proofs.Answered.{freeze-blames}
use Rattle.vb_folder.specs.Events.{frozen_answer, Makes as MakesOne}
use Rattle.vb_folder.specs.declared.refusals.FreezeError.{FreezeError}
use Rattle.vb_folder.specs.declared.refusals.FreezeError.TheVariants as freezes
use Rattle.vb_local.specs.Shown.{LocalTrees}
use Rattle.vb_local.specs.States.{LocalState}
use Rattle.vb_program.specs.Playing.{IsRehearsed, Makes, MemoryFolder}
use Rattle.vb_program.proofs.Answered.{freeze-head, stays-makes, Stays}
use Rattle.vb_program.proofs.events.freeze.Goals as goal

-- only want of memory is answered as such
memory-freeze : (result : Result ℕ FreezeError) → frozen_answer result ≡ answers.Fault faults.Memory → result ≡ Err freezes.Memory
memory-freeze (Ok epoch) is = absurd (cc is)
memory-freeze (Err (freezes.Busy epoch)) is = absurd (cc is)
memory-freeze (Err (freezes.Spent epoch sequence)) is = absurd (cc is)
memory-freeze (Err freezes.Memory) is = refl

-- a freeze that found memory is answered as is due
freeze-makes : (old mid new : MemoryFolder) (t : LocalTrees) (room by : ℕ) (result : Result ℕ FreezeError) → Stays old mid new room
    → ((told : Option DiskState) → MakesOne (events.Freeze by) (frozen_answer result) (ledger_in mid) (ledger_in new) told told)
    → (result ≡ Err freezes.Memory → ⊥) → IsRehearsed old t → (answer : FolderAnswer) × Makes old t (events.Freeze by) answer new
freeze-makes old mid new t room by result stays makes found r = (
  frozen_answer result,
  stays-makes old mid new t room (events.Freeze by) (frozen_answer result) stays makes (freeze-blames result)
      (λ memory. found (memory-freeze result memory)) (λ made same. same) r,
)

pub returns-in-Ok-clause-ok : goal.returns-in-Ok-clause-ok
returns-in-Ok-clause-ok c = λ t r.
    let old = c.args.folder.now in
    let mid = c.reserve.new.self in
    let new = c.freeze.new.self in
    let stays : Stays old mid new (max (ledger_in old).history.spare 1) = record {
      reserved = c.in_ok-reserve.ensures.ok;
      disk_reserved = c.reserve.ensures.disk;
      link_reserved = c.reserve.ensures.link;
      disk = c.freeze.ensures.disk;
      link = c.freeze.ensures.link;
      head = freeze-head (ledger_in mid) (ledger_in new) c.freeze.result c.freeze.ensures.views c.freeze.ensures.kept;
    } in
    freeze-makes old mid new t (max (ledger_in old).history.spare 1) c.args.by c.freeze.result stays c.freeze.ensures.makes (λ memory. (let is = c.in-Ok.is in cc)) r

pub returns-in-Err-Busy-clause-ok : goal.returns-in-Err-Busy-clause-ok
returns-in-Err-Busy-clause-ok c = λ t r.
    let old = c.args.folder.now in
    let mid = c.reserve.new.self in
    let new = c.freeze.new.self in
    let stays : Stays old mid new (max (ledger_in old).history.spare 1) = record {
      reserved = c.in_ok-reserve.ensures.ok;
      disk_reserved = c.reserve.ensures.disk;
      link_reserved = c.reserve.ensures.link;
      disk = c.freeze.ensures.disk;
      link = c.freeze.ensures.link;
      head = freeze-head (ledger_in mid) (ledger_in new) c.freeze.result c.freeze.ensures.views c.freeze.ensures.kept;
    } in
    freeze-makes old mid new t (max (ledger_in old).history.spare 1) c.args.by c.freeze.result stays c.freeze.ensures.makes (λ memory. (let is = c.in-Err-Busy.is in let busy = c.in-Err-Busy.field-0-is in cc)) r

pub returns-in-Err-Spent-clause-ok : goal.returns-in-Err-Spent-clause-ok
returns-in-Err-Spent-clause-ok c = λ t r.
    let old = c.args.folder.now in
    let mid = c.reserve.new.self in
    let new = c.freeze.new.self in
    let stays : Stays old mid new (max (ledger_in old).history.spare 1) = record {
      reserved = c.in_ok-reserve.ensures.ok;
      disk_reserved = c.reserve.ensures.disk;
      link_reserved = c.reserve.ensures.link;
      disk = c.freeze.ensures.disk;
      link = c.freeze.ensures.link;
      head = freeze-head (ledger_in mid) (ledger_in new) c.freeze.result c.freeze.ensures.views c.freeze.ensures.kept;
    } in
    freeze-makes old mid new t (max (ledger_in old).history.spare 1) c.args.by c.freeze.result stays c.freeze.ensures.makes (λ memory. (let is = c.in-Err-Spent.is in let spent = c.in-Err-Spent.field-0-is in cc)) r
