-- What is given at an upload step, and what an upload step is made of.
use Rattle.std.proofs.Common.{◌≡◌, ℕ, ◌+◌, ◌-◌, ◌<◌, ◌≤◌, [], ◌∷◌, ◌++◌, Option, Some, None, IsSome, length, refl, ap, ◌∙◌, arith}
use Rattle.std.specs.Prelude.{max, min, nat_le}
use Rattle.vb_disk.specs.States.{DiskState}
use Rattle.vb_event.specs.Answers.{is_last_due, MayAnswer}
use Rattle.vb_event.specs.Core.{Core, Given, IsGiven}
use Rattle.vb_event.specs.Steps.{core_after, pushed_by, room_after, MayBecome}
use Rattle.vb_cause.specs.Causes.{left_of}
use Rattle.vb_event.specs.declared.answer.FaultKind.{FaultKind}
use Rattle.vb_event.specs.declared.answer.FaultKind.TheVariants.{Link}
use Rattle.vb_link.specs.Links.{KeepsFailures}
use Rattle.vb_event.specs.declared.answer.FolderAnswer.{FolderAnswer}
use Rattle.vb_event.specs.declared.answer.FolderAnswer.TheVariants as answers
use Rattle.vb_event.specs.declared.event.FolderEvent.TheVariants as events
use Rattle.vb_cloud.specs.Machine.{CloudState}
use Rattle.vb_hist.specs.Legal.{Opening}
use Rattle.vb_journal.specs.declared.commit_stage.CommitStep.TheVariants.{Committed, Rested}
use Rattle.vb_local.specs.Shown.{LocalTrees, ShowsOn}
use Rattle.vb_local.specs.States.{frozen_in}
use Rattle.vb_local.specs.Ties.{FrozenState}
use Rattle.vb_publish.specs.Plans.{plan_length}
use Rattle.vb_upload.specs.Cursors.{counts_of}
use Rattle.vb_upload.specs.Steps.{cursor_of, is_last_at}
use Rattle.vb_folder.specs.Events.{Makes, ShowsAfter}
use Rattle.vb_folder.specs.Ledgers.{LedgerState, core_of, sent_in}
use Rattle.vb_folder.specs.Uploads.{BecomesAs, IsSoundWith, LinkMoment, Uploads}
use Rattle.vb_folder.proofs.Roomed.{room-after, room-before, with_room}

-- ---- what is given

-- as many messages as the frozen view takes, and one where there is none
abbrev pub messages_in : Option FrozenState → ℕ
messages_in None = 1
messages_in (Some frozen) = plan_length (counts_of frozen.order)

-- some steps of a commit, and those messages
abbrev pub given_for : LedgerState → Given
given_for s = record { commit = Committed ∷ Rested ∷ []; messages = messages_in (frozen_in s.local.phase) }

some-messages : (o : Option FrozenState) → 1 ≤ messages_in o
some-messages None = omega arith
some-messages (Some frozen) = omega arith

given-is : (s : LedgerState) → IsGiven (given_for s)
given-is s = record { commit = tt; messages = some-messages (frozen_in s.local.phase) }

-- the last message is due where it is the last one at the cursor
pub last-is : (s : LedgerState) (t : LocalTrees) (frozen : FrozenState) → frozen_in s.local.phase ≡ Some frozen → is_last_due (given_for s) (core_of s t) ≡ is_last_at frozen.order (cursor_of s.upload)
last-is s t frozen at = ap (λ (o : Option FrozenState). nat_le (messages_in o) (sent_in o s.upload + 1)) at

-- ---- what it makes

-- the folder is what the answer makes of it, and each disk that showed it shows it
pub record IsMade (answer : FolderAnswer) (s new : LedgerState) : Type 0 where
  pub shows : (d : DiskState) (t : LocalTrees) → ShowsOn d s.local t → ShowsOn d new.local t
  pub may : (t : LocalTrees) → MayAnswer (given_for s) (core_of s t) events.UploadStep answer
  pub core : (t : LocalTrees) → core_of new t ≡ core_after (given_for s) (core_of s t) events.UploadStep answer
  pub spare : (t : LocalTrees) → new.history.spare ≡ room_after s.history.spare answer - length (pushed_by (given_for s) (core_of s t) events.UploadStep answer)

abbrev made : (answer : FolderAnswer) (s new : LedgerState) (before after : Option DiskState) → after ≡ before → IsMade answer s new → Makes events.UploadStep answer s new before after
made answer s new before after same is = record {
  given = given_for s;
  is_given = given-is s;
  pushed = λ t. ap (λ (c : Core). c.history) (is.core t);
  shown = λ d t told shows. record { next = d; told = same ∙ told; shows = is.shows d t shows; may = is.may t; core = is.core t };
}

-- what its link became
pub record IsLinked (answer : FolderAnswer) (s : LedgerState) (disk : Option DiskState) (before after : LinkMoment) : Type 0 where
  pub becomes : (o : Opening) (t : LocalTrees) (k : CloudState) → IsSoundWith o s disk before.cloud t k → BecomesAs (given_for s) s t answer k after.cloud
  pub untold : before.cloud ≡ None → after.cloud ≡ None
  pub left : KeepsFailures before.left after.left
  pub used : (o : Opening) (t : LocalTrees) (k : CloudState) → IsSoundWith o s disk before.cloud t k → IsSome before.left → answer ≡ answers.Fault Link → left_of after.left < left_of before.left

pub uploads-made : (answer : FolderAnswer) (s new : LedgerState) (disk_before disk_after : Option DiskState) (before after : LinkMoment) → disk_after ≡ disk_before → IsMade answer s new → IsLinked answer s disk_before before after → Uploads answer s new disk_before disk_after before after
uploads-made answer s new disk_before disk_after before after same is linked = record {
  makes = made answer s new disk_before disk_after same is;
  spare = is.spare;
  becomes = linked.becomes;
  untold = linked.untold;
  left = linked.left;
  used = linked.used;
}

-- a link that wasn't called
pub uncalled : (answer : FolderAnswer) (s : LedgerState) (disk : Option DiskState) (link : LinkMoment) → (answer ≡ answers.Fault Link → ⊥) → ((t : LocalTrees) (k : CloudState) → MayBecome (given_for s) (core_of s t) events.UploadStep answer k k) → IsLinked answer s disk link link
uncalled answer s disk link other may = record {
  becomes = λ o t k sound. record { next = k; told = sound.cloud_told; may = may t k };
  untold = λ none. none;
  left = record { told = λ some. some; kept = λ some. omega arith };
  used = λ o t k sound some is. absurd (other is);
}

-- ---- room for an entry

-- a fault leaves no more room than there was, whatever was pushed
forgotten : (now was pushed : ℕ) → now ≡ max was 1 - pushed → min now was ≡ was - pushed
forgotten now was pushed is = omega arith

abbrev sound-before : (o : Opening) (s : LedgerState) (n : ℕ) (disk : Option DiskState) (cloud : Option CloudState) (t : LocalTrees) (k : CloudState) → IsSoundWith o s disk cloud t k → IsSoundWith o (with_room s n) disk cloud t k
sound-before o s n disk cloud t k sound = record { d = sound.d; disk_told = sound.disk_told; cloud_told = sound.cloud_told; shows = sound.shows; history = sound.history; cloud_sound = sound.cloud_sound }

-- an upload step of the folder with room is one of the folder, where its answer leaves as much room
pub uploads-roomed : (answer : FolderAnswer) (s new : LedgerState) (n : ℕ) (disk_before disk_after : Option DiskState) (before after : LinkMoment) → room_after n answer ≡ room_after s.history.spare answer → Uploads answer (with_room s n) new disk_before disk_after before after → Uploads answer s new disk_before disk_after before after
uploads-roomed answer s new n disk_before disk_after before after same uploads = record {
  makes = room-before events.UploadStep answer s new n disk_before disk_after uploads.makes;
  spare = λ t. uploads.spare t ∙ ap (λ (room : ℕ). room - length (pushed_by uploads.makes.given (core_of s t) events.UploadStep answer)) same;
  becomes = λ o t k sound. record { next = (later o t k sound).next; told = (later o t k sound).told; may = (later o t k sound).may };
  untold = uploads.untold;
  left = uploads.left;
  used = λ o t k sound. uploads.used o t k (sound-before o s n disk_before before.cloud t k sound);
} where
  later : (o : Opening) (t : LocalTrees) (k : CloudState) → IsSoundWith o s disk_before before.cloud t k → BecomesAs uploads.makes.given (with_room s n) t answer k after.cloud
  later o t k sound = uploads.becomes o t k (sound-before o s n disk_before before.cloud t k sound)

-- and one that failed leaves no more room than there was
pub uploads-forgot : (kind : FaultKind) (s new : LedgerState) (disk_before disk_after : Option DiskState) (before after : LinkMoment) → Uploads (answers.Fault kind) (with_room s (max s.history.spare 1)) new disk_before disk_after before after → Uploads (answers.Fault kind) s (with_room new (min new.history.spare s.history.spare)) disk_before disk_after before after
uploads-forgot kind s new disk_before disk_after before after uploads = record {
  makes = room-after events.UploadStep (answers.Fault kind) s new (min new.history.spare s.history.spare) disk_before disk_after (room-before events.UploadStep (answers.Fault kind) s new (max s.history.spare 1) disk_before disk_after uploads.makes);
  spare = λ t. forgotten new.history.spare s.history.spare (length (pushed_by uploads.makes.given (core_of s t) events.UploadStep (answers.Fault kind))) (uploads.spare t);
  becomes = λ o t k sound. record { next = (later o t k sound).next; told = (later o t k sound).told; may = (later o t k sound).may };
  untold = uploads.untold;
  left = uploads.left;
  used = λ o t k sound. uploads.used o t k (sound-before o s (max s.history.spare 1) disk_before before.cloud t k sound);
} where
  later : (o : Opening) (t : LocalTrees) (k : CloudState) → IsSoundWith o s disk_before before.cloud t k → BecomesAs uploads.makes.given (with_room s (max s.history.spare 1)) t (answers.Fault kind) k after.cloud
  later o t k sound = uploads.becomes o t k (sound-before o s (max s.history.spare 1) disk_before before.cloud t k sound)
