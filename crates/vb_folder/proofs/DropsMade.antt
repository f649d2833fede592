-- A view that is given up is an event of the folder.
use Rattle.std.proofs.Common.{◌≡◌, ℕ, ◌+◌, ◌<◌, List, [], ◌∷◌, ◌++◌, Option, Some, None, IfSome, is_some, cond, refl, sym, subst, ap, ◌∙◌, inl}
use Rattle.vb_disk.specs.States.{DiskState}
use Rattle.vb_event.specs.Answers.{drop_answer}
use Rattle.vb_event.specs.Core.{BringToRest, Core, is_rested}
use Rattle.vb_event.specs.Steps.{frozen_while}
use Rattle.vb_event.specs.declared.answer.FolderAnswer.TheVariants as answers
use Rattle.vb_event.specs.declared.event.FolderEvent.TheVariants as events
use Rattle.vb_active.specs.Views.{ActiveState}
use Rattle.vb_hist.specs.Histories.{Recorded}
use Rattle.vb_hist.specs.declared.entry.Entry.{Entry}
use Rattle.vb_hist.specs.declared.entry.Entry.TheVariants.{Dropped}
use Rattle.vb_journal.specs.declared.commit_stage.CommitStep.{CommitStep}
use Rattle.vb_local.specs.Answers.{answers_left}
use Rattle.vb_local.specs.Events.{Drops}
use Rattle.vb_local.specs.Shown.{LocalTrees}
use Rattle.vb_local.specs.States.{LocalState, frozen_in}
use Rattle.vb_store.specs.Views.{ViewState}
use Rattle.vb_tree.specs.declared.tree.TreeEntry.{TreeEntry}
use Rattle.vb_upload.specs.Steps.{cursor_of}
use Rattle.vb_upload.specs.declared.cursor.Cursor.TheVariants.{Begin}
use Rattle.vb_upload.specs.declared.upload.Upload.{Upload}
use Rattle.vb_folder.specs.Events.{Makes}
use Rattle.vb_folder.specs.Ledgers.{IsKept, LedgerState, core_of, sent_in}
use Rattle.vb_folder.proofs.FreezesMade.{sent-none}
use Rattle.vb_folder.proofs.Given.{some_given, some-is-given, still-makes, unnoted}
use Rattle.vb_folder.proofs.Stepped.{on-epoch}

-- ---- there is none

pub nothing-makes : (s : LedgerState) (told : Option DiskState) → s.local.standing ≡ None → Makes events.DropView answers.NoView s s told told
nothing-makes s told none =
    still-makes events.DropView answers.NoView s s.history [] told (record { trees = λ t. refl; pushed = λ t. refl; core = λ t. refl }) (λ t. inl (sym (ap drop_answer none))) (unnoted s s.history refl)

-- ---- one is dropped

-- the folder without it
abbrev pub dropped_now : LedgerState → LocalState → Recorded → Upload → LedgerState
dropped_now s local history upload = record s { local = local; history = history; upload = upload }

-- the core of a folder by what a drop may change of it
abbrev core_with : Core → ActiveState → ViewState → Option ℕ → List CommitStep → ℕ → List Entry → Option (List TreeEntry) → Core
core_with core live v standing left sent entries frozen = record core {
  limits = live.index.limits;
  sequence = v.head.sequence;
  standing = standing;
  left = left;
  sent = sent;
  history = entries;
  frozen = frozen;
}

dropped-core : (epoch : ℕ) (s : LedgerState) (local : LocalState) (history : Recorded) (upload : Upload) (t : LocalTrees) → s.local.standing ≡ Some epoch → Drops s.local local → history.entries ≡ s.history.entries ++ Dropped epoch ∷ [] → cursor_of upload ≡ Begin → core_of (dropped_now s local history upload) t ≡ record (core_of s t) { standing = None; frozen = frozen_while None s.stage (frozen_while s.local.standing s.stage (Some t.frozen)); sent = 0; history = s.history.entries ++ Dropped epoch ∷ [] }
dropped-core epoch s local history upload t stands drops noted begins =
    ap (λ (o : Option ℕ). core_with (core_of s t) local.live local.view o (answers_left local) (sent_in (frozen_in local.phase) upload) history.entries (frozen_while o s.stage (Some t.frozen))) drops.none
    ∙ ap (λ (a : ActiveState). core_with (core_of s t) a local.view None (answers_left local) (sent_in (frozen_in local.phase) upload) history.entries kept) drops.live
    ∙ ap (λ (v : ViewState). core_with (core_of s t) s.local.live v None (answers_left local) (sent_in (frozen_in local.phase) upload) history.entries kept) drops.view
    ∙ ap (λ (left : List CommitStep). core_with (core_of s t) s.local.live s.local.view None left (sent_in (frozen_in local.phase) upload) history.entries kept) drops.answers
    ∙ ap (λ (n : ℕ). core_with (core_of s t) s.local.live s.local.view None (answers_left s.local) n history.entries kept) (sent-none (frozen_in local.phase) upload begins)
    ∙ ap (λ (es : List Entry). core_with (core_of s t) s.local.live s.local.view None (answers_left s.local) 0 es kept) noted
    ∙ ap (λ (o : Option (List TreeEntry)). core_with (core_of s t) s.local.live s.local.view None (answers_left s.local) 0 (s.history.entries ++ Dropped epoch ∷ []) (frozen_while None s.stage o)) (sym (ap (λ (o : Option ℕ). frozen_while o s.stage (Some t.frozen)) stands)) where
      kept : Option (List TreeEntry)
      kept = frozen_while None s.stage (Some t.frozen)

pub dropped-makes : (epoch : ℕ) (s : LedgerState) (local : LocalState) (history : Recorded) (upload : Upload) (told : Option DiskState) → s.local.standing ≡ Some epoch → Drops s.local local → history.entries ≡ s.history.entries ++ Dropped epoch ∷ [] → cursor_of upload ≡ Begin → Makes events.DropView (answers.Dropped epoch) s (dropped_now s local history upload) told told
dropped-makes epoch s local history upload told stands drops noted begins = record {
  given = some_given;
  is_given = some-is-given;
  pushed = λ t. noted;
  shown = λ d t is shows. record {
    next = d;
    told = is;
    shows = drops.shows d t shows;
    may = inl (sym (ap drop_answer stands));
    core = dropped-core epoch s local history upload t stands drops noted begins;
  };
}

-- its parts hang together
pub dropped-kept : (s : LedgerState) (local : LocalState) (history : Recorded) (upload : Upload) → IsKept s → Drops s.local local → cursor_of upload ≡ Begin → IsKept (dropped_now s local history upload)
dropped-kept s local history upload kept drops begins = record {
  left = subst (BringToRest s.stage) (sym drops.answers) kept.left;
  on = on-epoch local.phase ∙ ap is_some drops.epoch ∙ sym (on-epoch s.local.phase) ∙ kept.on;
  frozen = subst (λ (o : Option ℕ). IfSome o (λ epoch. epoch ≡ s.epoch)) (sym drops.epoch) kept.frozen;
  committed = ap (λ (v : ViewState). v.head.epoch + cond (is_rested s.stage) 0 1) drops.view ∙ kept.committed;
  view = subst (λ (o : Option ℕ). IfSome o (λ epoch. (epoch ≡ s.epoch) × (s.published < epoch))) (sym drops.none) tt;
  past = kept.past;
  doubt = kept.doubt;
  small = kept.small;
  sends = λ frozen at some. absurd (let e = sym (ap is_some drops.none) ∙ some in cc e);
  now = λ other. absurd (other begins);
}
