-- An upload step's error with the path of its entry, or want of memory where there was none for that path.
use Rattle.std.proofs.Common.{◌≡◌, ◌⊎◌, ℕ, ◌<◌, List, [], ◌∷◌, Option, Some, None, Result, Ok, Err, IsSome, is_some, slice_get, refl, sym, subst, ap, ◌∙◌, inl, inr, arith}
use Rattle.std.specs.List.{Contains}
use Rattle.vb_cause.specs.Causes.{HasCause, UsesFailures}
use Rattle.vb_cloud.specs.Machine.{CloudState}
use Rattle.vb_disk.specs.States.{DiskState}
use Rattle.vb_event.specs.Answers.{due_view, faults_of_upload, MayAnswer}
use Rattle.vb_event.specs.Core.{Core, Given}
use Rattle.vb_event.specs.declared.answer.FaultKind.{FaultKind}
use Rattle.vb_event.specs.declared.answer.FaultKind.TheVariants.{Damaged, Disk, Link, Memory}
use Rattle.vb_event.specs.declared.answer.FolderAnswer.{FolderAnswer}
use Rattle.vb_event.specs.declared.answer.FolderAnswer.TheVariants as answers
use Rattle.vb_event.specs.declared.event.FolderEvent.TheVariants as events
use Rattle.vb_folder.specs.Events.{Makes, ShowsAfter}
use Rattle.vb_folder.specs.Ledgers.{core_of, LedgerState}
use Rattle.vb_folder.specs.Uploads.{upload_answer, view_due, BecomesAs, CallCounts, CallsForUpload, IsOfView, IsSoundWith, LinkMoment, NamesDamage, TellsUpload, Uploads}
use Rattle.vb_frozen.specs.declared.entry.FrozenEntry.{FrozenEntry}
use Rattle.vb_hist.specs.declared.entry.Stage.{Stage}
use Rattle.vb_hist.specs.declared.entry.Stage.TheVariants as stages
use Rattle.vb_link.specs.Views.{LinkView}
use Rattle.vb_local.specs.Shown.{LocalTrees, ShowsOn}
use Rattle.vb_local.specs.States.{frozen_in, LocalState}
use Rattle.vb_local.specs.Ties.{FrozenState}
use Rattle.vb_upload.specs.declared.answer.UploadError.{UploadError}
use Rattle.vb_upload.specs.declared.answer.UploadError.TheVariants as uploads
use Rattle.vb_core.specs.Folders.{uploaded_answer}
use Rattle.vb_core.specs.Names.{IsMadeOf, IsNamedOf, IsPathIn, NamesEntry, TellsStep}
use Rattle.vb_core.specs.declared.folder_error.FolderError.{FolderError}
use Rattle.vb_core.specs.declared.folder_error.FolderError.TheVariants as errors

-- where a step may fail by damage, it may fail for want of memory too
memory-of : (unsure view : Option ℕ) (kind : FaultKind) → Contains (faults_of_upload unsure view) kind → Contains (faults_of_upload unsure view) Memory
memory-of (Some doubt) view kind may = (1, omega arith, refl)
memory-of None (Some epoch) kind may = (3, omega arith, refl)
memory-of None None kind may = (let none : may.0 < 0 = may.1 in absurd (omega arith))

memory-may : (given : Given) (core : Core) → MayAnswer given core events.UploadStep (answers.Fault Damaged) → MayAnswer given core events.UploadStep (answers.Fault Memory)
memory-may given core (inl due) = (let e : answers.Fault Damaged ≡ answers.UploadStepped due.0 = due.1 in absurd (cc e))
memory-may given core (inr fault) = inr (Memory, refl, memory-of core.unsure _ fault.0 fault.2)

-- the step is the same one, whether it is told by damage or by want of memory
memory-shows : (given : Given) (old mid : LedgerState) (t : LocalTrees) (after : Option DiskState) → ShowsAfter given events.UploadStep (answers.Fault Damaged) old mid t after → ShowsAfter given events.UploadStep (answers.Fault Memory) old mid t after
memory-shows given old mid t after shows = record {
  next = shows.next;
  told = shows.told;
  shows = shows.shows;
  may = memory-may given (core_of old t) shows.may;
  core = shows.core;
}

memory-becomes : (given : Given) (old : LedgerState) (t : LocalTrees) (k : CloudState) (after : Option CloudState) → BecomesAs given old t (answers.Fault Damaged) k after → BecomesAs given old t (answers.Fault Memory) k after
memory-becomes given old t k after becomes = record { next = becomes.next; told = becomes.told; may = becomes.may }

uploads-memory : (old mid : LedgerState) (disk_before disk_after : Option DiskState) (before after : LinkMoment) → Uploads (answers.Fault Damaged) old mid disk_before disk_after before after → Uploads (answers.Fault Memory) old mid disk_before disk_after before after
uploads-memory old mid disk_before disk_after before after uploads = record {
  makes = record {
    given = uploads.makes.given;
    is_given = uploads.makes.is_given;
    pushed = uploads.makes.pushed;
    shown = λ d t told shows. memory-shows uploads.makes.given old mid t disk_after (uploads.makes.shown d t told shows);
  };
  spare = uploads.spare;
  becomes = λ o t k sound. memory-becomes uploads.makes.given old t k after.cloud (uploads.becomes o t k sound);
  untold = uploads.untold;
  left = record { told = uploads.left.told; kept = uploads.left.kept };
  used = λ o t k sound some fault. (let e : answers.Fault Memory ≡ answers.Fault Link = fault in absurd (cc e));
}

pub named-uploads : (error : UploadError) (named : FolderError) (old mid : LedgerState) (disk_before disk_after : Option DiskState) (before after : LinkMoment) → IsNamedOf mid error named → Uploads (upload_answer (Err error)) old mid disk_before disk_after before after → Uploads (uploaded_answer (Err named)) old mid disk_before disk_after before after
named-uploads (uploads.Damaged i page place kept found) named old mid disk_before disk_after before after (inl none) step =
    subst (λ (e : FolderError). Uploads (uploaded_answer (Err e)) old mid disk_before disk_after before after) (sym none) (uploads-memory old mid disk_before disk_after before after step)
named-uploads (uploads.Damaged i page place kept found) named old mid disk_before disk_after before after (inr path) step =
    subst (λ (e : FolderError). Uploads (uploaded_answer (Err e)) old mid disk_before disk_after before after) (sym path.2) step
named-uploads uploads.DiskFault named old mid disk_before disk_after before after is step = subst (λ (e : FolderError). Uploads (uploaded_answer (Err e)) old mid disk_before disk_after before after) (sym is) step
named-uploads uploads.LinkFault named old mid disk_before disk_after before after is step = subst (λ (e : FolderError). Uploads (uploaded_answer (Err e)) old mid disk_before disk_after before after) (sym is) step
named-uploads uploads.Memory named old mid disk_before disk_after before after is step = subst (λ (e : FolderError). Uploads (uploaded_answer (Err e)) old mid disk_before disk_after before after) (sym is) step

-- ---- what it tells

made-of : (error : UploadError) (named : FolderError) (mid : LedgerState) → IsNamedOf mid error named → IsMadeOf (Err error) (Err named)
made-of (uploads.Damaged i page place kept found) named mid (inl none) = inl (ap Err none)
made-of (uploads.Damaged i page place kept found) named mid (inr path) = inr (path.0, ap Err path.2)
made-of uploads.DiskFault named mid is = ap Err is
made-of uploads.LinkFault named mid is = ap Err is
made-of uploads.Memory named mid is = ap Err is

pub named-tells : (error : UploadError) (named : FolderError) (old mid : LedgerState) (told : Option DiskState) (shown : Option LinkView) (before after : CallCounts) → IsNamedOf mid error named → TellsUpload old told shown (Err error) → CallsForUpload old before after (Err error) → TellsStep old told shown before after (Err named)
named-tells error named old mid told shown before after is tells calls = record { below = Err error; made = made-of error named mid is; tells = tells; calls = calls }

-- an upload step that met damage leaves the views, the epochs and the doubt
abbrev pub LeavesDamaged : LedgerState → LedgerState → UploadError → Type 0
LeavesDamaged old mid error = (i page place : ℕ) (kept found : List ℕ) → error ≡ uploads.Damaged i page place kept found → mid ≡ record old { history = mid.history; upload = mid.upload }

-- so its entry stands in the view that is being sent afterwards too
pub named-then : (error : UploadError) (old mid : LedgerState) → LeavesDamaged old mid error → NamesDamage old (Err error) → NamesDamage mid (Err error)
named-then (uploads.Damaged i page place kept found) old mid leaves of =
    subst (λ (s : LedgerState). IsOfView s i) (sym (leaves i page place kept found refl)) (record { frozen = of.frozen; sends = of.sends; view = of.view; entry = of.entry; there = of.there })
named-then uploads.DiskFault old mid leaves names = tt
named-then uploads.LinkFault old mid leaves names = tt
named-then uploads.Memory old mid leaves names = tt

-- the path of an entry is the same in both
path-before : (old mid : LedgerState) (i : ℕ) (path : List (List ℕ)) → mid ≡ record old { history = mid.history; upload = mid.upload } → IsPathIn mid i path → IsPathIn old i path
path-before old mid i path same is = subst (λ (l : LocalState). (frozen : FrozenState) (entry : FrozenEntry) → frozen_in l.phase ≡ Some frozen → slice_get frozen.order i ≡ Some entry → path ≡ entry.path) (ap (λ (s : LedgerState). s.local) same) is

pub named-damage : (error : UploadError) (named : FolderError) (old mid : LedgerState) (told : Option DiskState) (shown : Option LinkView) → IsNamedOf mid error named → LeavesDamaged old mid error → TellsUpload old told shown (Err error) → NamesEntry old told (Err named)
named-damage (uploads.Damaged i page place kept found) named old mid told shown (inl none) leaves tells = subst (λ (e : FolderError). NamesEntry old told (Err e)) (sym none) tt
named-damage (uploads.Damaged i page place kept found) named old mid told shown (inr path) leaves tells =
    let of : IsOfView old i = tells.damage in
    subst (λ (e : FolderError). NamesEntry old told (Err e)) (sym path.2) (record {
      frozen = of.frozen;
      sends = of.sends;
      view = of.view;
      i = i;
      entry = of.entry;
      there = of.there;
      its_path = path-before old mid i path.0 (leaves i page place kept found refl) path.1 of.frozen of.entry of.view of.there;
      damage = tells.page of.frozen of.sends of.view;
    })
named-damage uploads.DiskFault named old mid told shown is leaves tells = subst (λ (e : FolderError). NamesEntry old told (Err e)) (sym is) tt
named-damage uploads.LinkFault named old mid told shown is leaves tells = subst (λ (e : FolderError). NamesEntry old told (Err e)) (sym is) tt
named-damage uploads.Memory named old mid told shown is leaves tells = subst (λ (e : FolderError). NamesEntry old told (Err e)) (sym is) tt

-- ---- its causes

-- it blames a device only where the step did
pub blames-disk : (error : UploadError) (named : FolderError) (mid : LedgerState) → IsNamedOf mid error named → named ≡ errors.DiskFault → error ≡ uploads.DiskFault
blames-disk (uploads.Damaged i page place kept found) named mid (inl none) is = absurd (let e = sym none ∙ is in cc e)
blames-disk (uploads.Damaged i page place kept found) named mid (inr path) is = absurd (let e = sym path.2 ∙ is in cc e)
blames-disk uploads.DiskFault named mid made is = refl
blames-disk uploads.LinkFault named mid made is = absurd (let e = sym made ∙ is in cc e)
blames-disk uploads.Memory named mid made is = absurd (let e = sym made ∙ is in cc e)

pub blames-link : (error : UploadError) (named : FolderError) (mid : LedgerState) → IsNamedOf mid error named → named ≡ errors.LinkFault → error ≡ uploads.LinkFault
blames-link (uploads.Damaged i page place kept found) named mid (inl none) is = absurd (let e = sym none ∙ is in cc e)
blames-link (uploads.Damaged i page place kept found) named mid (inr path) is = absurd (let e = sym path.2 ∙ is in cc e)
blames-link uploads.DiskFault named mid made is = absurd (let e = sym made ∙ is in cc e)
blames-link uploads.LinkFault named mid made is = refl
blames-link uploads.Memory named mid made is = absurd (let e = sym made ∙ is in cc e)

the-error : {T E : Type 0} (a b : E) → (◌≡◌ {A = Result T E} (Err a) (Err b)) → a ≡ b
the-error a b same = cc same

-- a cause of the step is one of the answer, for each of both devices
pub named-cause : {T U E F : Type 0} (error due : E) (named owed : F) (before after : ℕ) → (named ≡ owed → error ≡ due) → HasCause {T = T} due before after (Err error) → HasCause {T = U} owed before after (Err named)
named-cause error due named owed before after blames cause = record { kept = cause.kept; failed = λ is. cause.failed (ap Err (blames (the-error named owed is))) }

pub named-left : {T U E F : Type 0} (error due : E) (named owed : F) (before after : Option ℕ) → (named ≡ owed → error ≡ due) → UsesFailures {T = T} due before after (Err error) → UsesFailures {T = U} owed before after (Err named)
named-left error due named owed before after blames uses = record { told = uses.told; kept = uses.kept; used = λ some is. uses.used some (ap Err (blames (the-error named owed is))) }

-- ---- the view that is being sent

-- it stands
pub sending-stands : (unsure standing : Option ℕ) (stage : Stage) → IsSome (view_due unsure (due_view standing stage)) → IsSome standing
sending-stands (Some doubt) standing stage is = absurd (cc is)
sending-stands None (Some epoch) stage is = refl
sending-stands None None stages.Written is = absurd (cc is)
sending-stands None None stages.Committed is = absurd (cc is)
sending-stands None None stages.Rested is = absurd (cc is)
