-- The question after a publication in doubt is an event of the folder.
use Rattle.std.proofs.Common.{◌≡◌, ◌≢◌, ◌⊎◌, ℕ, ◌-◌, ◌<◌, Bool, true, false, cond, not, ◌||◌, List, [], ◌∷◌, ◌++◌, Option, Some, None, IsSome, length, refl, sym, subst, ap, ◌∙◌, arith, inl, inr}
use Rattle.std.specs.Prelude.{max, min}
use Rattle.std.specs.List.{Contains}
use Rattle.std.proofs.lemmas.Bool.Decides.{eqb_tells}
use Rattle.vb_active.specs.Views.{ActiveState}
use Rattle.vb_cause.specs.Causes.{left_of, UsesFailures}
use Rattle.vb_cloud.specs.Machine.{CloudState}
use Rattle.vb_disk.specs.States.{DiskState}
use Rattle.vb_event.specs.Answers.{due_view, faults_of_upload, MayAnswer, MayStep}
use Rattle.vb_event.specs.Core.{Core, is_rested}
use Rattle.vb_event.specs.Steps.{core_after, doubt_entries, doubt_of, frozen_while, epoch_or, room_after, LeavesDoubt, LeavesPublished}
use Rattle.vb_event.specs.declared.answer.FaultKind.{FaultKind}
use Rattle.vb_event.specs.declared.answer.FaultKind.TheVariants as faults
use Rattle.vb_event.specs.declared.answer.FolderAnswer.TheVariants as answers
use Rattle.vb_event.specs.declared.event.FolderEvent.TheVariants as events
use Rattle.vb_hist.specs.Legal.{standing_without, Opening}
use Rattle.vb_hist.specs.Histories.{Recorded}
use Rattle.vb_hist.specs.declared.entry.Entry.{Entry}
use Rattle.vb_hist.specs.declared.entry.Entry.TheVariants.{Publish}
use Rattle.vb_hist.specs.declared.entry.Stage.{Stage}
use Rattle.vb_hist.specs.declared.entry.Stage.TheVariants as stages
use Rattle.vb_journal.specs.declared.commit_stage.CommitStep.{CommitStep}
use Rattle.vb_link.specs.Links.{KeepsFailures}
use Rattle.vb_local.specs.Answers.{answers_left}
use Rattle.vb_local.specs.Events.{Drops}
use Rattle.vb_local.specs.Shown.{LocalTrees, ShowsOn}
use Rattle.vb_local.specs.States.{LocalState, frozen_in}
use Rattle.vb_publish.specs.declared.step.UploadStep.{UploadStep}
use Rattle.vb_publish.specs.declared.step.UploadStep.TheVariants as uploads
use Rattle.vb_store.specs.Views.{ViewState}
use Rattle.vb_tree.specs.declared.tree.TreeEntry.{TreeEntry}
use Rattle.vb_upload.specs.Steps.{cursor_of}
use Rattle.vb_upload.specs.declared.answer.UploadError.{UploadError}
use Rattle.vb_upload.specs.declared.answer.UploadError.TheVariants.{LinkFault, Memory}
use Rattle.vb_upload.specs.declared.cursor.Cursor.TheVariants.{Begin}
use Rattle.vb_upload.specs.declared.upload.Upload.{Upload}
use Rattle.vb_folder.specs.Ledgers.{IsKept, LedgerState, core_of, sent_in}
use Rattle.vb_folder.specs.Sending.{DropsEpoch, Publishes, Settles}
use Rattle.vb_folder.specs.Uploads.{upload_answer, upload_fault, BecomesAs, IsSoundWith, LinkMoment, Uploads}
use Rattle.vb_folder.proofs.FreezesMade.{sent-none}
use Rattle.vb_folder.proofs.Given.{with_entries, unnoted}
use Rattle.vb_folder.proofs.Roomed.{with_room}
use Rattle.vb_folder.proofs.Stepped.{begins}
use Rattle.vb_folder.proofs.UploadsGiven.{given_for, uncalled, uploads-forgot, uploads-made, uploads-roomed, IsLinked, IsMade}

-- ---- what a publication leaves

-- a view of an epoch is without itself none, and another one stays
without-itself : (epoch : ℕ) → standing_without (Some epoch) epoch ≡ None
without-itself epoch = elim (eqb_tells epoch epoch) [
  | inl equal ↦ ap (λ (b : Bool). cond b None (Some epoch)) equal.0
  | inr unequal ↦ absurd (unequal.1 refl)
]

without-another : (o : Option ℕ) (epoch : ℕ) → o ≢ Some epoch → standing_without o epoch ≡ o
without-another None epoch other = refl
without-another (Some e) epoch other = elim (eqb_tells e epoch) [
  | inl equal ↦ absurd (other (ap Some equal.1))
  | inr unequal ↦ ap (λ (b : Bool). cond b None (Some e)) unequal.0
]

-- the frozen tree is kept for a commit that is on, whatever stood before
while-without : (o : Option ℕ) (epoch : ℕ) (stage : Stage) (tree : Option (List TreeEntry)) → frozen_while (standing_without o epoch) stage tree ≡ frozen_while (standing_without o epoch) stage (frozen_while o stage tree)
while-without None epoch stages.Rested tree = refl
while-without None epoch stages.Written tree = refl
while-without None epoch stages.Committed tree = refl
while-without (Some e) epoch stage tree = refl

-- the views without one of an epoch
pub record LeavesView (epoch : ℕ) (old new : LocalState) : Type 0 where
  pub live : new.live ≡ old.live
  pub view : new.view ≡ old.view
  pub standing : new.standing ≡ standing_without old.standing epoch
  pub left : answers_left new ≡ answers_left old
  pub shows : (d : DiskState) (t : LocalTrees) → ShowsOn d old t → ShowsOn d new t

leaves-view : (epoch : ℕ) (old new : LocalState) → DropsEpoch epoch old new → LeavesView epoch old new
leaves-view epoch old new (inl (stands, drops)) = record {
  live = drops.live;
  view = drops.view;
  standing = drops.none ∙ sym (ap (λ (o : Option ℕ). standing_without o epoch) stands ∙ without-itself epoch);
  left = drops.answers;
  shows = drops.shows;
}
leaves-view epoch old new (inr (other, same)) = record {
  live = ap (λ (l : LocalState). l.live) same;
  view = ap (λ (l : LocalState). l.view) same;
  standing = ap (λ (l : LocalState). l.standing) same ∙ sym (without-another old.standing epoch other);
  left = ap answers_left same;
  shows = λ d t shows. subst (λ (l : LocalState). ShowsOn d l t) (sym same) shows;
}

-- the folder that notes it
abbrev pub published_now : LedgerState → LocalState → Recorded → ℕ → Upload → LedgerState
published_now s local history epoch upload = record s { local = local; history = history; published = epoch; unsure = None; upload = upload }

-- the core of a folder by what a publication may change of it
abbrev core_with : Core → ℕ → ActiveState → ViewState → Option ℕ → List CommitStep → ℕ → List Entry → Option (List TreeEntry) → Core
core_with core epoch live v standing left sent entries frozen = record core {
  limits = live.index.limits;
  sequence = v.head.sequence;
  published = epoch;
  standing = standing;
  left = left;
  unsure = None;
  sent = sent;
  history = entries;
  frozen = frozen;
}

published-core : (epoch : ℕ) (s : LedgerState) (local : LocalState) (history : Recorded) (upload : Upload) (t : LocalTrees) → LeavesView epoch s.local local → cursor_of upload ≡ Begin → history.entries ≡ s.history.entries ++ Publish epoch ∷ [] → core_of (published_now s local history epoch upload) t ≡ core_after (given_for s) (core_of s t) events.UploadStep (answers.UploadStepped (uploads.Published epoch))
published-core epoch s local history upload t leaves begin noted =
    ap (λ (o : Option ℕ). core_with (core_of s t) epoch local.live local.view o (answers_left local) (sent_in (frozen_in local.phase) upload) history.entries (frozen_while o s.stage (Some t.frozen))) leaves.standing
    ∙ ap (λ (a : ActiveState). core_with (core_of s t) epoch a local.view standing (answers_left local) (sent_in (frozen_in local.phase) upload) history.entries kept) leaves.live
    ∙ ap (λ (v : ViewState). core_with (core_of s t) epoch s.local.live v standing (answers_left local) (sent_in (frozen_in local.phase) upload) history.entries kept) leaves.view
    ∙ ap (λ (left : List CommitStep). core_with (core_of s t) epoch s.local.live s.local.view standing left (sent_in (frozen_in local.phase) upload) history.entries kept) leaves.left
    ∙ ap (λ (n : ℕ). core_with (core_of s t) epoch s.local.live s.local.view standing (answers_left s.local) n history.entries kept) (sent-none (frozen_in local.phase) upload begin)
    ∙ ap (λ (es : List Entry). core_with (core_of s t) epoch s.local.live s.local.view standing (answers_left s.local) 0 es kept) noted
    ∙ ap (λ (o : Option (List TreeEntry)). core_with (core_of s t) epoch s.local.live s.local.view standing (answers_left s.local) 0 (s.history.entries ++ Publish epoch ∷ []) o) (while-without s.local.standing epoch s.stage (Some t.frozen)) where
      standing : Option ℕ
      standing = standing_without s.local.standing epoch

      kept : Option (List TreeEntry)
      kept = frozen_while standing s.stage (Some t.frozen)

pub published-made : (epoch : ℕ) (s : LedgerState) (local : LocalState) (history : Recorded) (upload : Upload) → 0 < s.history.spare → ((t : LocalTrees) → MayAnswer (given_for s) (core_of s t) events.UploadStep (answers.UploadStepped (uploads.Published epoch))) → DropsEpoch epoch s.local local → cursor_of upload ≡ Begin → history ≡ record { entries = s.history.entries ++ Publish epoch ∷ []; spare = s.history.spare - 1 } → IsMade (answers.UploadStepped (uploads.Published epoch)) s (published_now s local history epoch upload)
published-made epoch s local history upload room may drops begin noted = record {
  shows = (leaves-view epoch s.local local drops).shows;
  may = may;
  core = λ t. published-core epoch s local history upload t (leaves-view epoch s.local local drops) begin (ap (λ (r : Recorded). r.entries) noted);
  spare = λ t. ap (λ (r : Recorded). r.spare) noted ∙ (let e : s.history.spare - 1 ≡ max s.history.spare 1 - 1 = omega arith in e);
}

-- ---- the answer to the question

-- the link was asked, and this epoch is shown
pub record IsAsked (shown : ℕ) (before after : LinkMoment) : Type 0 where
  pub same : after.cloud ≡ before.cloud
  pub cloud : (k : CloudState) → after.cloud ≡ Some k → k.epoch ≡ shown
  pub left : KeepsFailures before.left after.left

one-epoch : (a b : ℕ) → Some a ≡ Some b → a ≡ b
one-epoch a b same = cc same

-- where something is in doubt no message counts as sent
pub doubt-begins : (s : LedgerState) (doubt : ℕ) → IsKept s → s.unsure ≡ Some doubt → cursor_of s.upload ≡ Begin
doubt-begins s doubt kept unsure = elim (begins (cursor_of s.upload)) [
  | inl at ↦ at
  | inr other ↦ absurd (let e = sym unsure ∙ (kept.now other).sure in cc e)
]

asked-made : (doubt : ℕ) (s : LedgerState) → 0 < s.history.spare → s.unsure ≡ Some doubt → IsMade (answers.UploadStepped uploads.Asked) s (record s { unsure = None })
asked-made doubt s room unsure = record {
  shows = λ d t shows. shows;
  may = λ t. inl (uploads.Asked, refl, subst (λ (o : Option ℕ). MayStep (given_for s) (core_of s t) o uploads.Asked) (sym unsure) (inr refl));
  core = λ t. ap (λ (es : List Entry). record (core_of s t) { unsure = None; history = es }) (unnoted s s.history refl);
  spare = λ t. (let e : s.history.spare ≡ max s.history.spare 1 - 0 = omega arith in e);
}

pub settled-uploads : (doubt shown : ℕ) (step : UploadStep) (s new : LedgerState) (told : Option DiskState) (before after : LinkMoment) → 0 < s.history.spare → s.unsure ≡ Some doubt → cursor_of s.upload ≡ Begin → IsAsked shown before after → Settles doubt shown s new step → Uploads (answers.UploadStepped step) s new told told before after
settled-uploads doubt shown uploads.Asked s new told before after room unsure begin asked (other, is) =
    subst (λ (n : LedgerState). Uploads (answers.UploadStepped uploads.Asked) s n told told before after) (sym is)
    (uploads-made (answers.UploadStepped uploads.Asked) s (record s { unsure = None }) told told before after refl (asked-made doubt s room unsure) (record {
      becomes = λ o t k sound. record {
        next = k;
        told = asked.same ∙ sound.cloud_told;
        may = (refl, λ at. other (sym (asked.cloud k (asked.same ∙ sound.cloud_told)) ∙ sym (one-epoch doubt k.epoch (sym unsure ∙ at))));
      };
      untold = λ none. asked.same ∙ none;
      left = asked.left;
      used = λ o t k sound some at. absurd (cc at);
    }))
settled-uploads doubt shown (uploads.Published epoch) s new told before after room unsure begin asked (shows, at, publishes) =
    subst (λ (e : ℕ). Uploads (answers.UploadStepped (uploads.Published e)) s new told told before after) (sym at)
    (subst (λ (n : LedgerState). Uploads (answers.UploadStepped (uploads.Published doubt)) s n told told before after) (sym publishes.others)
    (uploads-made (answers.UploadStepped (uploads.Published doubt)) s (published_now s new.local new.history doubt s.upload) told told before after refl
    (published-made doubt s new.local new.history s.upload room (λ t. inl (uploads.Published doubt, refl, subst (λ (o : Option ℕ). MayStep (given_for s) (core_of s t) o (uploads.Published doubt)) (sym unsure) (inl refl))) publishes.view begin publishes.noted)
    (record {
      becomes = λ o t k sound. record {
        next = k;
        told = asked.same ∙ sound.cloud_told;
        may = subst (λ (o : Option ℕ). LeavesPublished o (core_of s t).frozen doubt k k) (sym unsure) (refl, asked.cloud k (asked.same ∙ sound.cloud_told) ∙ shows);
      };
      untold = λ none. asked.same ∙ none;
      left = asked.left;
      used = λ o t k sound some at. absurd (cc at);
    })))
settled-uploads doubt shown uploads.Sent s new told before after room unsure begin asked settles = absurd settles
settled-uploads doubt shown uploads.Kept s new told before after room unsure begin asked settles = absurd settles
settled-uploads doubt shown uploads.Nothing s new told before after room unsure begin asked settles = absurd settles

-- ---- no answer

-- the core with another doubt, another count of messages, and another history
abbrev doubt_core : Core → Option ℕ → ℕ → List Entry → Core
doubt_core core unsure sent entries = record core { unsure = unsure; sent = sent; history = entries }

-- what was in doubt stays in doubt
link-core : (doubt : ℕ) (s : LedgerState) (t : LocalTrees) → s.unsure ≡ Some doubt → cursor_of s.upload ≡ Begin → core_of s t ≡ core_after (given_for s) (core_of s t) events.UploadStep (answers.Fault faults.Link)
link-core doubt s t unsure begin =
    ap (λ (o : Option ℕ). doubt_core (core_of s t) o (core_of s t).sent s.history.entries) unsure
    ∙ ap (λ (n : ℕ). doubt_core (core_of s t) (Some doubt) n s.history.entries) (sent-none (frozen_in s.local.phase) s.upload begin)
    ∙ ap (λ (es : List Entry). doubt_core (core_of s t) (Some doubt) 0 es) (unnoted s s.history refl)
    ∙ sym (ap (λ (o : Option ℕ). doubt_core (core_of s t) (epoch_or o (doubt_of (given_for s) (core_of s t) o)) 0 (s.history.entries ++ doubt_entries (doubt_of (given_for s) (core_of s t) o))) unsure)

link-made : (doubt : ℕ) (s : LedgerState) → s.unsure ≡ Some doubt → cursor_of s.upload ≡ Begin → IsMade (answers.Fault faults.Link) s s
link-made doubt s unsure begin = record {
  shows = λ d t shows. shows;
  may = λ t. inr (faults.Link, refl, subst (λ (o : Option ℕ). Contains (faults_of_upload o (due_view s.local.standing s.stage)) faults.Link) (sym unsure) (0, omega arith, refl));
  core = λ t. link-core doubt s t unsure begin;
  spare = λ t. (let e : s.history.spare ≡ s.history.spare - 0 = omega arith in e) ∙ sym (ap (λ (o : Option ℕ). s.history.spare - length (doubt_entries (doubt_of (given_for s) (core_of s t) o))) unsure);
}

-- nothing was done for want of memory
pub memory-made : (s : LedgerState) → Contains (faults_of_upload s.unsure (due_view s.local.standing s.stage)) faults.Memory → IsMade (answers.Fault faults.Memory) s s
memory-made s may = record {
  shows = λ d t shows. shows;
  may = λ t. inr (faults.Memory, refl, may);
  core = λ t. ap (with_entries (core_of s t)) (unnoted s s.history refl);
  spare = λ t. (let e : s.history.spare ≡ s.history.spare - 0 = omega arith in e);
}

pub doubt-memory : (doubt : ℕ) (s : LedgerState) → s.unsure ≡ Some doubt → IsMade (answers.Fault faults.Memory) s s
doubt-memory doubt s unsure = memory-made s (subst (λ (o : Option ℕ). Contains (faults_of_upload o (due_view s.local.standing s.stage)) faults.Memory) (sym unsure) (1, omega arith, refl))

-- ---- a question that failed

pub failed-uploads : (doubt : ℕ) (error : UploadError) (s : LedgerState) (told : Option DiskState) (before after : LinkMoment) → s.unsure ≡ Some doubt → cursor_of s.upload ≡ Begin → (error ≡ LinkFault) ⊎ (error ≡ Memory) → after.cloud ≡ before.cloud → KeepsFailures before.left after.left → (IsSome before.left → error ≡ LinkFault → left_of after.left < left_of before.left) → Uploads (answers.Fault (upload_fault error)) s s told told before after
failed-uploads doubt error s told before after unsure begin (inl link) same left used =
    subst (λ (e : UploadError). Uploads (answers.Fault (upload_fault e)) s s told told before after) (sym link)
    (uploads-made (answers.Fault faults.Link) s s told told before after refl (link-made doubt s unsure begin) (record {
      becomes = λ o t k sound. record {
        next = k;
        told = same ∙ sound.cloud_told;
        may = subst (λ (o : Option ℕ). LeavesDoubt (doubt_of (given_for s) (core_of s t) o) (core_of s t).frozen k k) (sym unsure) (refl, refl);
      };
      untold = λ none. same ∙ none;
      left = left;
      used = λ o t k sound some at. used some link;
    }))
failed-uploads doubt error s told before after unsure begin (inr memory) same left used =
    subst (λ (e : UploadError). Uploads (answers.Fault (upload_fault e)) s s told told before after) (sym memory)
    (uploads-made (answers.Fault faults.Memory) s s told told before after refl (doubt-memory doubt s unsure) (record {
      becomes = λ o t k sound. record { next = k; told = same ∙ sound.cloud_told; may = refl };
      untold = λ none. same ∙ none;
      left = left;
      used = λ o t k sound some at. absurd (cc at);
    }))

-- ---- with the room that is made before

-- the question was answered
pub settled-now : (doubt shown : ℕ) (step : UploadStep) (s roomed new : LedgerState) (told : Option DiskState) (before after : LinkMoment) → roomed ≡ with_room s (max s.history.spare 1) → s.unsure ≡ Some doubt → cursor_of s.upload ≡ Begin → IsAsked shown before after → Settles doubt shown roomed new step → Uploads (answers.UploadStepped step) s new told told before after
settled-now doubt shown step s roomed new told before after room unsure begin asked settles =
    uploads-roomed (answers.UploadStepped step) s new (max s.history.spare 1) told told before after (room-made doubt shown step s roomed new settles)
    (settled-uploads doubt shown step (with_room s (max s.history.spare 1)) new told before after (omega arith) unsure begin asked (subst (λ (x : LedgerState). Settles doubt shown x new step) room settles)) where
      room-made : (doubt shown : ℕ) (step : UploadStep) (s roomed new : LedgerState) → Settles doubt shown roomed new step → room_after (max s.history.spare 1) (answers.UploadStepped step) ≡ room_after s.history.spare (answers.UploadStepped step)
      room-made doubt shown uploads.Asked s roomed new settles = omega arith
      room-made doubt shown (uploads.Published epoch) s roomed new settles = omega arith
      room-made doubt shown uploads.Sent s roomed new settles = absurd settles
      room-made doubt shown uploads.Kept s roomed new settles = absurd settles
      room-made doubt shown uploads.Nothing s roomed new settles = absurd settles

-- it failed
pub failed-now : (doubt : ℕ) (error : UploadError) (s roomed new : LedgerState) (n : ℕ) (told : Option DiskState) (before after : LinkMoment) → roomed ≡ with_room s (max s.history.spare 1) → new ≡ with_room roomed (min roomed.history.spare n) → n ≡ s.history.spare → s.unsure ≡ Some doubt → cursor_of s.upload ≡ Begin → (error ≡ LinkFault) ⊎ (error ≡ Memory) → after.cloud ≡ before.cloud → KeepsFailures before.left after.left → (IsSome before.left → error ≡ LinkFault → left_of after.left < left_of before.left) → Uploads (answers.Fault (upload_fault error)) s new told told before after
failed-now doubt error s roomed new n told before after room forgot is unsure begin which same left used =
    subst (λ (x : LedgerState). Uploads (answers.Fault (upload_fault error)) s x told told before after) (sym (forgot ∙ ap (λ (x : LedgerState). with_room x (min x.history.spare n)) room ∙ ap (λ (m : ℕ). with_room s (min (max s.history.spare 1) m)) is))
    (uploads-forgot (upload_fault error) s (with_room s (max s.history.spare 1)) told told before after
    (failed-uploads doubt error (with_room s (max s.history.spare 1)) told before after unsure begin which same left used))

-- there was no room
pub unasked : (doubt : ℕ) (s : LedgerState) (told : Option DiskState) (link : LinkMoment) → s.unsure ≡ Some doubt → Uploads (answers.Fault faults.Memory) s s told told link link
unasked doubt s told link unsure =
    uploads-made (answers.Fault faults.Memory) s s told told link link refl (doubt-memory doubt s unsure) (uncalled (answers.Fault faults.Memory) s told link (λ at. cc at) (λ t k. refl))
