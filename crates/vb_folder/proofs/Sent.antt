-- A message that was handed over is an event of the folder.
use Rattle.std.proofs.Common.{◌≡◌, ◌≢◌, ◌⊎◌, ℕ, ◌+◌, ◌-◌, ◌<◌, ◌≤◌, ◌^◌, Bool, true, false, cond, not, List, [], ◌∷◌, ◌++◌, Option, Some, None, Result, Ok, Err, IfSome, IsSome, is_some, length, refl, sym, subst, ap, ◌∙◌, arith, inl, inr, if◌then◌else◌}
use Rattle.std.specs.Prelude.{max, min, nat_le, slice_get, IsErr, IsOk}
use Rattle.std.specs.List.{Contains}
use Rattle.std.proofs.lemmas.Bool.Decides.{nat_tests}
use Rattle.std.proofs.lemmas.List.{length-map}
use Rattle.vb_cause.specs.Causes.{left_of}
use Rattle.vb_cloud.specs.Machine.{CloudState, cloud_step}
use Rattle.vb_cloud.specs.declared.refusal.CloudRefusal.{CloudRefusal}
use Rattle.vb_disk.specs.States.{DiskState}
use Rattle.vb_event.specs.Answers.{due_view, faults_of_upload, is_last_due, message_answer, MayAnswer, MayStep}
use Rattle.vb_event.specs.Core.{Core, Given}
use Rattle.vb_event.specs.Sound.{HasSoundCloud, HasSoundHistory, IsDueMessage}
use Rattle.vb_event.specs.Steps.{core_after, doubt_entries, doubt_of, epoch_or, frozen_while, MayBecome}
use Rattle.vb_event.specs.declared.answer.FaultKind.{FaultKind}
use Rattle.vb_event.specs.declared.answer.FaultKind.TheVariants as faults
use Rattle.vb_event.specs.declared.answer.FolderAnswer.TheVariants as answers
use Rattle.vb_event.specs.declared.event.FolderEvent.TheVariants as events
use Rattle.vb_frozen.specs.Views.{HasFrozenTree}
use Rattle.vb_frozen.specs.declared.entry.FrozenEntry.{FrozenEntry}
use Rattle.vb_hist.specs.Histories.{Recorded}
use Rattle.vb_hist.specs.Legal.{Opening}
use Rattle.vb_hist.specs.declared.entry.Entry.{Entry}
use Rattle.vb_hist.specs.declared.entry.Entry.TheVariants.{Doubt, Publish}
use Rattle.vb_hist.specs.declared.entry.Stage.{Stage}
use Rattle.vb_hist.specs.declared.entry.Stage.TheVariants as stages
use Rattle.vb_link.specs.Links.{IsTold}
use Rattle.vb_local.specs.Shown.{LocalTrees, ShowsOn}
use Rattle.vb_local.specs.States.{LocalState, frozen_in}
use Rattle.vb_local.specs.Ties.{FrozenState}
use Rattle.vb_msg.specs.declared.message.Msg.{Msg}
use Rattle.vb_pages.specs.declared.kept.KeptPage.{KeptPage}
use Rattle.vb_pages.specs.declared.kept.PageKey.{PageKey}
use Rattle.vb_publish.specs.Plans.{counts_of_tree, messages_for, plan_length, upload_plan}
use Rattle.vb_publish.specs.declared.step.UploadStep.{UploadStep}
use Rattle.vb_publish.specs.declared.step.UploadStep.TheVariants as uploads
use Rattle.vb_tree.specs.declared.tree.TreeEntry.{TreeEntry}
use Rattle.vb_upload.specs.Cursors.{counts_of, sent_at, IsUploadOf, StandsIn}
use Rattle.vb_upload.specs.Steps.{cursor_of, epoch_of, is_last_at, sent_of, AnswersUpload, GoesTo, IsDueTo}
use Rattle.vb_upload.specs.declared.answer.UploadError.{UploadError}
use Rattle.vb_upload.specs.declared.answer.UploadError.TheVariants.{Damaged, DiskFault, LinkFault, Memory}
use Rattle.vb_upload.specs.declared.cursor.Cursor.{Cursor}
use Rattle.vb_upload.specs.declared.cursor.Cursor.TheVariants.{Begin}
use Rattle.vb_upload.specs.declared.upload.Upload.{Upload}
use Rattle.vb_folder.specs.Ledgers.{IsKept, LedgerState, SendsView, core_of, sent_in}
use Rattle.vb_folder.specs.Sending.{upload_moment, CanBeShown, DeviceMoment, HandsOver}
use Rattle.vb_folder.specs.Uploads.{upload_answer, BecomesAs, IsSoundWith, LinkMoment, Uploads}
use Rattle.vb_folder.proofs.Doubted.{published-made, published_now}
use Rattle.vb_folder.proofs.FreezesMade.{sent-none}
use Rattle.vb_folder.proofs.Given.{with_entries, unnoted}
use Rattle.vb_folder.proofs.UploadsGiven.{given_for, last-is, messages_in, uploads-made, IsLinked, IsMade}

-- ---- the laws that it needs

pub record SendingLaws : Type 0 where
  pub taken : (o : Opening) (core : Core) (given : Given) (k : CloudState) (tree : List TreeEntry) (m : Msg) → HasSoundHistory o core → HasSoundCloud o core k → IsDueMessage given core k tree m → IsOk (cloud_step k m)
  pub sent : (o : Opening) (core : Core) (given : Given) (k after : CloudState) (tree : List TreeEntry) (m : Msg) → HasSoundHistory o core → HasSoundCloud o core k → IsDueMessage given core k tree m → cloud_step k m ≡ Ok after → MayBecome given core events.UploadStep (answers.UploadStepped (message_answer (is_last_due given core) (Some core.epoch))) k after
  pub failed : (o : Opening) (core : Core) (given : Given) (k after : CloudState) (tree : List TreeEntry) (m : Msg) → HasSoundHistory o core → HasSoundCloud o core k → IsDueMessage given core k tree m → (after ≡ k) ⊎ (cloud_step k m ≡ Ok after) → MayBecome given core events.UploadStep (answers.Fault faults.Link) k after
  pub within : (order : List FrozenEntry) (cursor : Cursor) → StandsIn order cursor → sent_at (counts_of order) cursor < plan_length (counts_of order)
  pub counts : (order : List FrozenEntry) (pages : List (PageKey × KeptPage)) (d : DiskState) (tree : List TreeEntry) → HasFrozenTree order pages d tree → counts_of order ≡ counts_of_tree tree
  pub there : (epoch place : ℕ) (tree published : List TreeEntry) → place < plan_length (counts_of_tree tree) → IsSome (slice_get (upload_plan epoch tree published) place)

-- ---- the view that is sent

-- a committed view stands, and nothing is in doubt
pub record IsSending (s : LedgerState) : Type 0 where
  pub sure : s.unsure ≡ None
  pub stands : s.local.standing ≡ Some s.epoch
  pub view : due_view s.local.standing s.stage ≡ Some s.epoch
  pub above : s.published < s.epoch

-- a view of which a message is due stands
due-stands : (o : Option ℕ) (stage : Stage) → is_some (due_view o stage) ≡ true → due_view o stage ≡ o
due-stands o stages.Written due = absurd (cc due)
due-stands o stages.Committed due = refl
due-stands o stages.Rested due = refl

stands-last : (o : Option ℕ) (published epoch : ℕ) → is_some o ≡ true → IfSome o (λ e. (e ≡ epoch) × (published < e)) → (o ≡ Some epoch) × (published < epoch)
stands-last None published epoch some view = absurd (cc some)
stands-last (Some e) published epoch some view = (ap Some view.0, subst (λ (n : ℕ). published < n) view.0 view.1)

pub is-sending : (s : LedgerState) → IsKept s → s.unsure ≡ None → is_some (due_view s.local.standing s.stage) ≡ true → IsSending s
is-sending s kept sure due = record { sure = sure; stands = last.0; view = same ∙ last.0; above = last.1 } where
  same : due_view s.local.standing s.stage ≡ s.local.standing
  same = due-stands s.local.standing s.stage due

  last : (s.local.standing ≡ Some s.epoch) × (s.published < s.epoch)
  last = stands-last s.local.standing s.published s.epoch (sym (ap is_some same) ∙ due) kept.view

-- its frozen tree is there
frozen-there : (o : Option ℕ) (stage : Stage) (tree : Option (List TreeEntry)) (epoch : ℕ) → o ≡ Some epoch → frozen_while o stage tree ≡ tree
frozen-there o stage tree epoch stands = ap (λ (o : Option ℕ). frozen_while o stage tree) stands

-- ---- the answer

not-last : (a b : ℕ) → b < a → nat_le a b ≡ false
not-last a b less = grind (arith, nat_tests)

at-last : (a b : ℕ) → b ≡ a → nat_le a b ≡ true
at-last a b same = grind (arith, nat_tests)

-- the step is the one that the message answers
step-is : (s : LedgerState) (t : LocalTrees) (frozen : FrozenState) (after : Upload) (step : UploadStep) → frozen_in s.local.phase ≡ Some frozen → epoch_of s.upload ≡ s.epoch → GoesTo frozen.order s.upload after (Ok step) → step ≡ message_answer (is_last_due (given_for s) (core_of s t)) (Some s.epoch)
step-is s t frozen after uploads.Sent at epoch goes =
    ap (λ (b : Bool). cond b (uploads.Published s.epoch) uploads.Sent) (sym (last-is s t frozen at ∙ not-last (plan_length (counts_of frozen.order)) (sent_of frozen.order s.upload + 1) (let one = goes.one_more in let less = goes.not_last in omega arith)))
step-is s t frozen after (uploads.Published e) at epoch goes =
    ap uploads.Published (goes.its_epoch ∙ epoch)
    ∙ ap (λ (b : Bool). cond b (uploads.Published s.epoch) uploads.Sent) (sym (last-is s t frozen at ∙ at-last (plan_length (counts_of frozen.order)) (sent_of frozen.order s.upload + 1) goes.last))
step-is s t frozen after uploads.Kept at epoch goes = absurd goes
step-is s t frozen after uploads.Asked at epoch goes = absurd goes
step-is s t frozen after uploads.Nothing at epoch goes = absurd goes

fault-may : (s : LedgerState) (t : LocalTrees) (kind : FaultKind) → IsSending s → Contains (faults.Damaged ∷ faults.Disk ∷ faults.Link ∷ faults.Memory ∷ []) kind → MayAnswer (given_for s) (core_of s t) events.UploadStep (answers.Fault kind)
fault-may s t kind sending may = inr (
  kind,
  refl,
  subst (λ (o : Option ℕ). Contains (faults_of_upload o (due_view s.local.standing s.stage)) kind) (sym sending.sure)
      (subst (λ (v : Option ℕ). Contains (faults_of_upload None v) kind) (sym sending.view) may),
)

pub sent-may : (s : LedgerState) (t : LocalTrees) (frozen : FrozenState) (after : Upload) (result : Result UploadStep UploadError) → IsSending s → frozen_in s.local.phase ≡ Some frozen → epoch_of s.upload ≡ s.epoch → GoesTo frozen.order s.upload after result → MayAnswer (given_for s) (core_of s t) events.UploadStep (upload_answer result)
sent-may s t frozen after (Ok step) sending at epoch goes = inl (
  step,
  refl,
  subst (λ (o : Option ℕ). MayStep (given_for s) (core_of s t) o step) (sym sending.sure)
      (step-is s t frozen after step at epoch goes ∙ ap (message_answer (is_last_due (given_for s) (core_of s t))) (sym sending.view)),
)
sent-may s t frozen after (Err (Damaged i page place kept found)) sending at epoch goes = fault-may s t faults.Damaged sending (0, omega arith, refl)
sent-may s t frozen after (Err DiskFault) sending at epoch goes = fault-may s t faults.Disk sending (1, omega arith, refl)
sent-may s t frozen after (Err LinkFault) sending at epoch goes = fault-may s t faults.Link sending (2, omega arith, refl)
sent-may s t frozen after (Err Memory) sending at epoch goes = fault-may s t faults.Memory sending (3, omega arith, refl)

-- ---- the cloud

-- the message that is due, to the folder and to the upload
pub record HasMessage (s : LedgerState) (frozen : FrozenState) (before : DeviceMoment) (t : LocalTrees) (k : CloudState) : Type 0 where
  pub m : Msg
  pub due : IsDueMessage (given_for s) (core_of s t) k t.frozen m
  pub to : IsDueTo frozen.order frozen.pages (upload_moment s.upload before) k m

found : {A : Type 0} → (o : Option A) → IsSome o → (x : A) × (o ≡ Some x)
found None some = absurd (cc some)
found (Some x) some = (x, refl)

-- what the cloud shows is published, where nothing is in doubt
shows-published : (s : LedgerState) (k : CloudState) → s.unsure ≡ None → (k.epoch ≡ s.published) ⊎ (s.unsure ≡ Some k.epoch) → k.epoch ≡ s.published
shows-published s k sure (inl at) = at
shows-published s k sure (inr doubt) = absurd (let e = sym sure ∙ doubt in cc e)

pub message-of : SendingLaws → (o : Opening) (s : LedgerState) (frozen : FrozenState) (before : DeviceMoment) (t : LocalTrees) (k : CloudState) → IsKept s → IsSending s → frozen_in s.local.phase ≡ Some frozen → CanBeShown s frozen → IsSoundWith o s before.disk before.link.cloud t k → HasMessage s frozen before t k
message-of laws o s frozen before t k kept sending at shown sound = record {
  m = message.0;
  due = record {
    sure = sending.sure;
    view = sending.view;
    frozen = frozen-there s.local.standing s.stage (Some t.frozen) s.epoch sending.stands;
    messages = ap messages_in at ∙ ap plan_length counts;
    may = record {
      later = subst (λ (e : ℕ). e < s.epoch) (sym (shows-published s k sending.sure sound.cloud_sound.epoch)) sending.above;
      small = kept.small;
      is_tree = tree.has.is_tree;
      few = (let few = shown.few in let same : length (counts_of frozen.order) ≡ length (counts_of_tree t.frozen) = ap length counts in omega (arith, length-map frozen.order (λ (e : FrozenEntry). messages_for e.kind e.len), length-map t.frozen (λ (e : TreeEntry). messages_for e.kind (length e.bytes))));
    };
    there = ap (slice_get (upload_plan s.epoch t.frozen k.tree)) sent ∙ message.1;
  };
  to = record {
    d = sound.d;
    tree = t.frozen;
    disk = sound.disk_told;
    cloud = sound.cloud_told;
    view = tree;
    planned = ap (λ (e : ℕ). slice_get (upload_plan e t.frozen k.tree) (sent_of frozen.order s.upload)) sends.epoch ∙ message.1;
  };
} where
  tree : IsUploadOf frozen.order frozen.pages sound.d (cursor_of s.upload) t.frozen
  tree = shown.view sound.d t sound.shows

  counts : counts_of frozen.order ≡ counts_of_tree t.frozen
  counts = laws.counts frozen.order frozen.pages sound.d t.frozen tree.has

  sends : SendsView s frozen
  sends = kept.sends frozen at (ap is_some sending.stands)

  sent : (core_of s t).sent ≡ sent_of frozen.order s.upload
  sent = ap (λ (f : Option FrozenState). sent_in f s.upload) at

  less : sent_of frozen.order s.upload < plan_length (counts_of_tree t.frozen)
  less = subst (λ (counts : List ℕ). sent_of frozen.order s.upload < plan_length counts) counts (laws.within frozen.order (cursor_of s.upload) sends.stands)

  message : (m : Msg) × (slice_get (upload_plan s.epoch t.frozen k.tree) (sent_of frozen.order s.upload) ≡ Some m)
  message = found (slice_get (upload_plan s.epoch t.frozen k.tree) (sent_of frozen.order s.upload)) (laws.there s.epoch (sent_of frozen.order s.upload) t.frozen k.tree less)

-- the state that is told is what the step leaves
told-after : (step : Result CloudState CloudRefusal) (told : Option CloudState) → IsTold step told → (after : CloudState) × (step ≡ Ok after) × (told ≡ Some after)
told-after (Ok after) told is = (after, refl, is)
told-after (Err refusal) told is = absurd is

some-told : (step : Result CloudState CloudRefusal) (told : Option CloudState) (k : CloudState) → (told ≡ Some k) ⊎ IsTold step told → (after : CloudState) × ((after ≡ k) ⊎ (step ≡ Ok after)) × (told ≡ Some after)
some-told step told k (inl stays) = (k, inl refl, stays)
some-told step told k (inr is) = ((told-after step told is).0, inr (told-after step told is).1, (told-after step told is).2)

-- the cloud is one that the answer may leave
sent-becomes : SendingLaws → (o : Opening) (s : LedgerState) (frozen : FrozenState) (before : DeviceMoment) (t : LocalTrees) (k : CloudState) (upload : Upload) (cloud : Option CloudState) (result : Result UploadStep UploadError) → IsSending s → frozen_in s.local.phase ≡ Some frozen → epoch_of s.upload ≡ s.epoch → IsSoundWith o s before.disk before.link.cloud t k → (message : HasMessage s frozen before t k) → GoesTo frozen.order s.upload upload result → AnswersUpload k message.m cloud result → BecomesAs (given_for s) s t (upload_answer result) k cloud
sent-becomes laws o s frozen before t k upload cloud (Ok step) sending at epoch sound message goes is = record {
  next = after.0;
  told = after.2;
  may = subst (λ (x : UploadStep). MayBecome (given_for s) (core_of s t) events.UploadStep (answers.UploadStepped x) k after.0) (sym (step-is s t frozen upload step at epoch goes))
      (laws.sent o (core_of s t) (given_for s) k after.0 t.frozen message.m sound.history sound.cloud_sound message.due after.1);
} where
  after : (after : CloudState) × (cloud_step k message.m ≡ Ok after) × (cloud ≡ Some after)
  after = told-after (cloud_step k message.m) cloud is
sent-becomes laws o s frozen before t k upload cloud (Err LinkFault) sending at epoch sound message goes is = record {
  next = after.0;
  told = after.2;
  may = laws.failed o (core_of s t) (given_for s) k after.0 t.frozen message.m sound.history sound.cloud_sound message.due after.1;
} where
  after : (after : CloudState) × ((after ≡ k) ⊎ (cloud_step k message.m ≡ Ok after)) × (cloud ≡ Some after)
  after = some-told (cloud_step k message.m) cloud k is
sent-becomes laws o s frozen before t k upload cloud (Err (Damaged i page place kept found)) sending at epoch sound message goes is = record { next = k; told = is; may = refl }
sent-becomes laws o s frozen before t k upload cloud (Err DiskFault) sending at epoch sound message goes is = record { next = k; told = is; may = refl }
sent-becomes laws o s frozen before t k upload cloud (Err Memory) sending at epoch sound message goes is = record { next = k; told = is; may = refl }

link-error : (result : Result UploadStep UploadError) → upload_answer result ≡ answers.Fault faults.Link → result ≡ Err LinkFault
link-error (Ok step) is = absurd (cc is)
link-error (Err LinkFault) is = refl
link-error (Err (Damaged i page place kept found)) is = absurd (cc is)
link-error (Err DiskFault) is = absurd (cc is)
link-error (Err Memory) is = absurd (cc is)

takes-it : (step : Result CloudState CloudRefusal) → IsOk step → IsErr step → ⊥
takes-it (Ok after) ok err = cc err
takes-it (Err refusal) ok err = cc ok

fewer-left : (before after : ℕ) (k : CloudState) (m : Msg) → IsOk (cloud_step k m) → (after < before) ⊎ IsErr (cloud_step k m) → after < before
fewer-left before after k m ok (inl less) = less
fewer-left before after k m ok (inr err) = absurd (takes-it (cloud_step k m) ok err)

pub sent-linked : SendingLaws → (s sent : LedgerState) (before after : DeviceMoment) (result : Result UploadStep UploadError) → IsKept s → IsSending s → HandsOver s sent before after result → IsLinked (upload_answer result) s before.disk before.link after.link
sent-linked laws s sent before after result kept sending hands = record {
  becomes = λ o t k sound. sent-becomes laws o s hands.frozen before t k sent.upload after.link.cloud result sending hands.view epoch sound (message o t k sound) hands.steps.goes (hands.steps.message k (message o t k sound).m (message o t k sound).to);
  untold = hands.steps.untold;
  left = hands.steps.left;
  used = λ o t k sound some at. fewer-left (left_of before.link.left) (left_of after.link.left) k (message o t k sound).m
      (laws.taken o (core_of s t) (given_for s) k t.frozen (message o t k sound).m sound.history sound.cloud_sound (message o t k sound).due)
      (hands.steps.used k (message o t k sound).m (message o t k sound).to some (link-error result at));
} where
  epoch : epoch_of s.upload ≡ s.epoch
  epoch = (kept.sends hands.frozen hands.view (ap is_some sending.stands)).epoch

  message : (o : Opening) (t : LocalTrees) (k : CloudState) → IsSoundWith o s before.disk before.link.cloud t k → HasMessage s hands.frozen before t k
  message o t k sound = message-of laws o s hands.frozen before t k kept sending hands.view hands.shown sound

-- ---- what is made of the folder

-- which doubt a link leaves that fails now
doubt-is : (s : LedgerState) (t : LocalTrees) (frozen : FrozenState) (last : Bool) → IsSending s → frozen_in s.local.phase ≡ Some frozen → is_last_at frozen.order (cursor_of s.upload) ≡ last → doubt_of (given_for s) (core_of s t) s.unsure ≡ (if last then Some s.epoch else None)
doubt-is s t frozen last sending at is =
    ap (doubt_of (given_for s) (core_of s t)) sending.sure
    ∙ ap (λ (v : Option ℕ). cond (is_last_due (given_for s) (core_of s t)) v None) sending.view
    ∙ ap (λ (b : Bool). cond b (Some s.epoch) None) (last-is s t frozen at ∙ is)

-- the core with another doubt, another count of messages, and another history
abbrev doubt_core : Core → Option ℕ → ℕ → List Entry → Core
doubt_core core unsure sent entries = record core { unsure = unsure; sent = sent; history = entries }

-- the core where a link failed that leaves this doubt
failed-core : (s : LedgerState) (t : LocalTrees) (doubt : Option ℕ) → s.unsure ≡ None → doubt_of (given_for s) (core_of s t) s.unsure ≡ doubt → doubt_core (core_of s t) doubt 0 (s.history.entries ++ doubt_entries doubt) ≡ core_after (given_for s) (core_of s t) events.UploadStep (answers.Fault faults.Link)
failed-core s t doubt sure is = sym (
    ap (λ (o : Option ℕ). doubt_core (core_of s t) (epoch_or o (doubt_of (given_for s) (core_of s t) s.unsure)) 0 (s.history.entries ++ doubt_entries (doubt_of (given_for s) (core_of s t) s.unsure))) sure
    ∙ ap (λ (d : Option ℕ). doubt_core (core_of s t) d 0 (s.history.entries ++ doubt_entries d)) is)

-- the folder with its upload elsewhere
abbrev pub sent_now : LedgerState → Upload → LedgerState
sent_now s upload = record s { upload = upload }

-- and with its last epoch in doubt
abbrev pub doubted_now : LedgerState → Upload → LedgerState
doubted_now s upload = record s { upload = upload; unsure = Some s.epoch; history = record { entries = s.history.entries ++ Doubt s.epoch ∷ []; spare = s.history.spare - 1 } }

-- the last message failed
pub doubted-made : (s : LedgerState) (frozen : FrozenState) (upload : Upload) → IsSending s → frozen_in s.local.phase ≡ Some frozen → is_last_at frozen.order (cursor_of s.upload) ≡ true → cursor_of upload ≡ Begin → IsMade (answers.Fault faults.Link) s (doubted_now s upload)
doubted-made s frozen upload sending at last begin = record {
  shows = λ d t shows. shows;
  may = λ t. fault-may s t faults.Link sending (2, omega arith, refl);
  core = λ t. ap (λ (n : ℕ). doubt_core (core_of s t) (Some s.epoch) n (s.history.entries ++ Doubt s.epoch ∷ [])) (sent-none (frozen_in s.local.phase) upload begin)
      ∙ failed-core s t (Some s.epoch) sending.sure (doubt-is s t frozen true sending at last);
  spare = λ t. sym (ap (λ (d : Option ℕ). s.history.spare - length (doubt_entries d)) (doubt-is s t frozen true sending at last));
}

-- the core with another count of messages, and another history
abbrev sent_core : Core → ℕ → List Entry → Core
sent_core core sent entries = record core { sent = sent; history = entries }

-- the same message is due
same-core : (s : LedgerState) (t : LocalTrees) (upload : Upload) → cursor_of upload ≡ cursor_of s.upload → core_of (sent_now s upload) t ≡ with_entries (core_of s t) (s.history.entries ++ [])
same-core s t upload same =
    ap (λ (n : ℕ). sent_core (core_of s t) n s.history.entries) (same-sent (frozen_in s.local.phase) s.upload upload same) ∙ ap (with_entries (core_of s t)) (unnoted s s.history refl) where
      same-sent : (o : Option FrozenState) (old new : Upload) → cursor_of new ≡ cursor_of old → sent_in o new ≡ sent_in o old
      same-sent None old new same = refl
      same-sent (Some frozen) old new same = ap (sent_at (counts_of frozen.order)) same

unpushed : (s : LedgerState) → s.history.spare ≡ s.history.spare - 0
unpushed s = omega arith

-- nothing is noted
pub sent-made : (s : LedgerState) (frozen : FrozenState) (upload : Upload) (result : Result UploadStep UploadError) → 0 < s.history.spare → IsSending s → frozen_in s.local.phase ≡ Some frozen → epoch_of s.upload ≡ s.epoch → GoesTo frozen.order s.upload upload result → ((epoch : ℕ) → result ≡ Ok (uploads.Published epoch) → ⊥) → (result ≡ Err LinkFault → is_last_at frozen.order (cursor_of s.upload) ≡ false) → IsMade (upload_answer result) s (sent_now s upload)
sent-made s frozen upload (Ok uploads.Sent) room sending at epoch goes other last = record {
  shows = λ d t shows. shows;
  may = λ t. sent-may s t frozen upload (Ok uploads.Sent) sending at epoch goes;
  core = λ t. ap (λ (n : ℕ). sent_core (core_of s t) n s.history.entries)
      (ap (λ (f : Option FrozenState). sent_in f upload) at ∙ goes.one_more ∙ sym (ap (λ (f : Option FrozenState). sent_in f s.upload + 1) at))
      ∙ ap (λ (es : List Entry). sent_core (core_of s t) ((core_of s t).sent + 1) es) (unnoted s s.history refl);
  spare = λ t. (let e : s.history.spare ≡ max s.history.spare 1 - 0 = omega arith in e);
}
sent-made s frozen upload (Ok (uploads.Published e)) room sending at epoch goes other last = absurd (other e refl)
sent-made s frozen upload (Ok uploads.Kept) room sending at epoch goes other last = absurd goes
sent-made s frozen upload (Ok uploads.Asked) room sending at epoch goes other last = absurd goes
sent-made s frozen upload (Ok uploads.Nothing) room sending at epoch goes other last = absurd goes
sent-made s frozen upload (Err LinkFault) room sending at epoch goes other last = record {
  shows = λ d t shows. shows;
  may = λ t. fault-may s t faults.Link sending (2, omega arith, refl);
  core = λ t. ap (λ (o : Option ℕ). doubt_core (core_of s t) o (sent_in (frozen_in s.local.phase) upload) s.history.entries) sending.sure
      ∙ ap (λ (n : ℕ). doubt_core (core_of s t) None n s.history.entries) (sent-none (frozen_in s.local.phase) upload goes)
      ∙ ap (λ (es : List Entry). doubt_core (core_of s t) None 0 es) (unnoted s s.history refl)
      ∙ failed-core s t None sending.sure (doubt-is s t frozen false sending at (last refl));
  spare = λ t. unpushed s ∙ sym (ap (λ (d : Option ℕ). s.history.spare - length (doubt_entries d)) (doubt-is s t frozen false sending at (last refl)));
}
sent-made s frozen upload (Err (Damaged i page place kept found)) room sending at epoch goes other last = record {
  shows = λ d t shows. shows;
  may = λ t. fault-may s t faults.Damaged sending (0, omega arith, refl);
  core = λ t. same-core s t upload goes;
  spare = λ t. unpushed s;
}
sent-made s frozen upload (Err DiskFault) room sending at epoch goes other last = record {
  shows = λ d t shows. shows;
  may = λ t. fault-may s t faults.Disk sending (1, omega arith, refl);
  core = λ t. same-core s t upload goes;
  spare = λ t. unpushed s;
}
sent-made s frozen upload (Err Memory) room sending at epoch goes other last = record {
  shows = λ d t shows. shows;
  may = λ t. fault-may s t faults.Memory sending (3, omega arith, refl);
  core = λ t. same-core s t upload goes;
  spare = λ t. unpushed s;
}
