-- What a call makes of a sound folder and its cloud is a step of a run, and keeps both sound.
use Rattle.std.proofs.Common.{◌≡◌, ℕ, ◌-◌, Option, Some, length, refl, sym, subst, ap, ◌∙◌}
use Rattle.vb_cloud.specs.Machine.{CloudState}
use Rattle.vb_disk.specs.States.{DiskState}
use Rattle.vb_event.specs.Answers.{MayAnswer}
use Rattle.vb_event.specs.Core.{Core, Given, IsGiven}
use Rattle.vb_event.specs.Sound.{HasSoundCloud, HasSoundHistory}
use Rattle.vb_event.specs.Steps.{core_after, pushed_by, room_after, HasItsCause, MayBecome, Steps}
use Rattle.vb_event.specs.declared.answer.FolderAnswer.{FolderAnswer}
use Rattle.vb_event.specs.declared.event.FolderEvent.{FolderEvent}
use Rattle.vb_event.specs.declared.event.FolderEvent.TheVariants as events
use Rattle.vb_hist.specs.Legal.{Opening}
use Rattle.vb_local.specs.Shown.{LocalTrees, ShowsOn}
use Rattle.vb_folder.specs.Events.{trees_after, Makes, ShowsAfter}
use Rattle.vb_folder.specs.Ledgers.{LedgerState, core_of}
use Rattle.vb_folder.specs.Runs.{folder_view, Happens, MakesAside}
use Rattle.vb_folder.specs.Uploads.{BecomesAs, IsSoundWith, LinkMoment, Uploads}
use Rattle.vb_folder.proofs.SoundMade.{KeepsHistories}

-- each event keeps the cloud sound
abbrev pub KeepsClouds : Type 0
KeepsClouds = (o : Opening) (core : Core) (given : Given) (event : FolderEvent) (answer : FolderAnswer) (before after : CloudState)
    → IsGiven given → MayAnswer given core event answer → MayBecome given core event answer before after
    → HasSoundHistory o core → HasSoundCloud o core before → HasSoundCloud o (core_after given core event answer) after

-- what happened, in parts that are the same for every event: where the folder and its told cloud were sound
pub record IsEvent (o : Opening) (event : FolderEvent) (answer : FolderAnswer) (old new : LedgerState) (before after : Option DiskState) (was is : Option CloudState) (t : LocalTrees) (k : CloudState) : Type 0 where
  pub given : Given
  pub is_given : IsGiven given
  pub shown : ShowsAfter given event answer old new t after
  pub spare : new.history.spare ≡ room_after old.history.spare answer - length (pushed_by given (core_of old t) event answer)
  pub next : CloudState
  pub told : is ≡ Some next
  pub may : MayBecome given (core_of old t) event answer k next

aside-event : (o : Opening) (event : FolderEvent) (answer : FolderAnswer) (old new : LedgerState) (before after : Option DiskState) (was is : Option CloudState) (t : LocalTrees) (k : CloudState) → ((given : Given) → MayBecome given (core_of old t) event answer k k) → MakesAside event answer old new before after → is ≡ was → IsSoundWith o old before was t k → IsEvent o event answer old new before after was is t k
aside-event o event answer old new before after was is t k stays aside same sound = record {
  given = aside.makes.given;
  is_given = aside.makes.is_given;
  shown = aside.makes.shown sound.d t sound.disk_told sound.shows;
  spare = aside.spare t;
  next = k;
  told = same ∙ sound.cloud_told;
  may = stays aside.makes.given;
}

upload-event : (o : Opening) (answer : FolderAnswer) (old new : LedgerState) (disk_before disk_after : Option DiskState) (before after : LinkMoment) (t : LocalTrees) (k : CloudState) → Uploads answer old new disk_before disk_after before after → IsSoundWith o old disk_before before.cloud t k → IsEvent o events.UploadStep answer old new disk_before disk_after before.cloud after.cloud t k
upload-event o answer old new disk_before disk_after before after t k uploads sound = record {
  given = uploads.makes.given;
  is_given = uploads.makes.is_given;
  shown = uploads.makes.shown sound.d t sound.disk_told sound.shows;
  spare = uploads.spare t;
  next = becomes.next;
  told = becomes.told;
  may = becomes.may;
} where
  becomes : BecomesAs uploads.makes.given old t answer k after.cloud
  becomes = uploads.becomes o t k sound

pub event-of : (o : Opening) (event : FolderEvent) (answer : FolderAnswer) (old new : LedgerState) (disk_before disk_after : Option DiskState) (before after : LinkMoment) (t : LocalTrees) (k : CloudState) → Happens event answer old new disk_before disk_after before after → IsSoundWith o old disk_before before.cloud t k → IsEvent o event answer old new disk_before disk_after before.cloud after.cloud t k
event-of o events.UploadStep answer old new disk_before disk_after before after t k happens sound = upload-event o answer old new disk_before disk_after before after t k happens sound
event-of o (events.Call writer op) answer old new disk_before disk_after before after t k happens sound = aside-event o (events.Call writer op) answer old new disk_before disk_after before.cloud after.cloud t k (λ given. refl) happens.0 happens.1 sound
event-of o (events.Freeze by) answer old new disk_before disk_after before after t k happens sound = aside-event o (events.Freeze by) answer old new disk_before disk_after before.cloud after.cloud t k (λ given. refl) happens.0 happens.1 sound
event-of o events.CommitStep answer old new disk_before disk_after before after t k happens sound = aside-event o events.CommitStep answer old new disk_before disk_after before.cloud after.cloud t k (λ given. refl) happens.0 happens.1 sound
event-of o events.DropView answer old new disk_before disk_after before after t k happens sound = aside-event o events.DropView answer old new disk_before disk_after before.cloud after.cloud t k (λ given. refl) happens.0 happens.1 sound
event-of o (events.End writer) answer old new disk_before disk_after before after t k happens sound = aside-event o (events.End writer) answer old new disk_before disk_after before.cloud after.cloud t k (λ given. refl) happens.0 happens.1 sound

-- both stay sound
pub sound-with : KeepsHistories → KeepsClouds → (o : Opening) (event : FolderEvent) (answer : FolderAnswer) (old new : LedgerState) (before after : Option DiskState) (was is : Option CloudState) (t : LocalTrees) (k : CloudState) → IsSoundWith o old before was t k → IsEvent o event answer old new before after was is t k → (next : CloudState) × IsSoundWith o new after is (trees_after event answer t) next
sound-with histories clouds o event answer old new before after was is t k sound one = (
  one.next,
  record {
    d = one.shown.next;
    disk_told = one.shown.told;
    cloud_told = one.told;
    shows = one.shown.shows;
    history = subst (HasSoundHistory o) (sym one.shown.core) (histories o (core_of old t) one.given event answer one.is_given one.shown.may sound.history);
    cloud_sound = subst (λ (c : Core). HasSoundCloud o c one.next) (sym one.shown.core)
        (clouds o (core_of old t) one.given event answer k one.next one.is_given one.shown.may one.may sound.history sound.cloud_sound);
  },
)

some-cloud : (a b : CloudState) → (◌≡◌ {A = Option CloudState} (Some a) (Some b)) → b ≡ a
some-cloud a b same = cc same

-- and it is a step of a run
pub run-step : (o : Opening) (event : FolderEvent) (answer : FolderAnswer) (old new : LedgerState) (before after : Option DiskState) (was is : Option CloudState) (t : LocalTrees) (k : CloudState) (disk disk_later link link_later : ℕ) → IsSoundWith o old before was t k → (one : IsEvent o event answer old new before after was is t k) → HasItsCause answer (folder_view old t was disk link) (folder_view new (trees_after event answer t) is disk_later link_later) → Steps one.given (folder_view old t was disk link) event answer (folder_view new (trees_after event answer t) is disk_later link_later)
run-step o event answer old new before after was is t k disk disk_later link link_later sound one cause = record {
  may = one.shown.may;
  core = one.shown.core;
  told = λ later at. (k, sound.cloud_told, subst (MayBecome one.given (core_of old t) event answer k) (sym (some-cloud one.next later (sym one.told ∙ at))) one.may);
  spare = one.spare;
  cause = cause;
}
