-- A freeze is an event of the folder: it finds it busy, spent, or freezes it.
use Rattle.std.proofs.Common.{◌≡◌, ℕ, ◌+◌, ◌<◌, ◌≤◌, ◌^◌, Bool, true, false, cond, not, ◌||◌, ◌==◌, List, [], ◌∷◌, ◌++◌, Option, Some, None, IfSome, is_some, refl, sym, subst, ap, ◌∙◌, arith, inl, inr}
use Rattle.std.specs.Prelude.{nat_le}
use Rattle.std.proofs.lemmas.Bool.Decides.{nat_tests}
use Rattle.vb_disk.specs.States.{DiskState}
use Rattle.vb_event.specs.Core.{BringToRest, Core, greatest_epoch, is_rested, sequences_end}
use Rattle.std.specs.List.{Contains}
use Rattle.vb_event.specs.declared.answer.FaultKind.TheVariants.{Memory}
use Rattle.vb_event.specs.declared.answer.FolderAnswer.TheVariants as answers
use Rattle.vb_event.specs.declared.event.FolderEvent.TheVariants as events
use Rattle.vb_frozen.specs.Orders.{AreApart}
use Rattle.vb_hist.specs.Histories.{Recorded}
use Rattle.vb_hist.specs.declared.entry.Entry.{Entry}
use Rattle.vb_hist.specs.declared.entry.Entry.TheVariants.{Freeze, FreezeBusy}
use Rattle.vb_hist.specs.declared.entry.Stage.{Stage}
use Rattle.vb_hist.specs.declared.entry.Stage.TheVariants.{Rested, Written, Committed}
use Rattle.vb_journal.specs.declared.commit_stage.CommitStep.{CommitStep}
use Rattle.vb_local.specs.Answers.{answers_left}
use Rattle.vb_local.specs.Events.{Freezes}
use Rattle.vb_local.specs.Phases.{plan_over}
use Rattle.vb_local.specs.Shown.{LocalTrees}
use Rattle.vb_local.specs.States.{LocalState, Waits}
use Rattle.vb_local.specs.Ties.{FrozenState}
use Rattle.vb_upload.specs.Cursors.{counts_of, sent_at, AllCanBeSent, StandsIn}
use Rattle.vb_upload.specs.Steps.{cursor_of, epoch_of}
use Rattle.vb_upload.specs.declared.cursor.Cursor.TheVariants.{Begin}
use Rattle.vb_upload.specs.declared.upload.Upload.{Upload}
use Rattle.vb_folder.specs.Events.{Makes}
use Rattle.vb_folder.specs.Ledgers.{IsKept, LedgerState, SendsView, core_of, is_busy_now, is_spent_now, sent_in}
use Rattle.vb_folder.proofs.Given.{still-makes, unnoted}
use Rattle.vb_folder.proofs.PlanAnswers.{plan-rests}

-- ---- refused

-- what a freeze answers where the folder is busy, and where it isn't
freeze-busy : {busy : Bool} (spent : Bool) (epoch sequence : ℕ) → busy ≡ true → cond busy (answers.Busy epoch) (cond spent (answers.Spent epoch sequence) (answers.Frozen (epoch + 1))) ≡ answers.Busy epoch
freeze-busy spent epoch sequence is = ap (λ (b : Bool). cond b (answers.Busy epoch) (cond spent (answers.Spent epoch sequence) (answers.Frozen (epoch + 1)))) is

freeze-idle : {busy : Bool} (spent : Bool) (epoch sequence : ℕ) → busy ≡ false → cond busy (answers.Busy epoch) (cond spent (answers.Spent epoch sequence) (answers.Frozen (epoch + 1))) ≡ cond spent (answers.Spent epoch sequence) (answers.Frozen (epoch + 1))
freeze-idle spent epoch sequence is = ap (λ (b : Bool). cond b (answers.Busy epoch) (cond spent (answers.Spent epoch sequence) (answers.Frozen (epoch + 1)))) is

pub busy-makes : (by : ℕ) (s : LedgerState) (history : Recorded) (told : Option DiskState) → is_busy_now s ≡ true → history.entries ≡ s.history.entries ++ FreezeBusy by s.epoch ∷ [] → Makes (events.Freeze by) (answers.Busy s.epoch) s (record s { history = history }) told told
busy-makes by s history told busy noted =
    still-makes (events.Freeze by) (answers.Busy s.epoch) s history (FreezeBusy by s.epoch ∷ []) told (record { trees = λ t. refl; pushed = λ t. refl; core = λ t. refl })
    (λ t. inl (sym (freeze-busy (is_spent_now s) s.epoch s.local.view.head.sequence busy))) noted

pub spent-makes : (by : ℕ) (s : LedgerState) (told : Option DiskState) → is_busy_now s ≡ false → is_spent_now s ≡ true → Makes (events.Freeze by) (answers.Spent s.epoch s.local.view.head.sequence) s s told told
spent-makes by s told busy spent =
    still-makes (events.Freeze by) (answers.Spent s.epoch s.local.view.head.sequence) s s.history [] told (record { trees = λ t. refl; pushed = λ t. refl; core = λ t. refl })
    (λ t. inl (sym (freeze-idle (is_spent_now s) s.epoch s.local.view.head.sequence busy ∙ ap (λ (b : Bool). cond b (answers.Spent s.epoch s.local.view.head.sequence) (answers.Frozen (s.epoch + 1))) spent))) (unnoted s s.history refl)

-- ---- frozen

neither : (a b : Bool) → (a || b) ≡ false → (a ≡ false) × (b ≡ false)
neither true b off = absurd (cc off)
neither false b off = (refl, off)

none-some : (o : Option ℕ) → is_some o ≡ false → o ≡ None
none-some None off = refl
none-some (Some n) off = absurd (cc off)

at-rest : (st : Stage) → not (is_rested st) ≡ false → st ≡ Rested
at-rest Rested off = refl
at-rest Written off = absurd (cc off)
at-rest Committed off = absurd (cc off)

-- where it isn't busy it is at rest
pub idle-rests : (s : LedgerState) → is_busy_now s ≡ false → s.stage ≡ Rested
idle-rests s idle = at-rest s.stage (neither (is_some s.local.standing) (not (is_rested s.stage)) idle).1

-- where it isn't spent there is an epoch
unspent-epoch : (s : LedgerState) → is_spent_now s ≡ false → s.epoch < 2 ^ 63 → s.epoch < greatest_epoch
unspent-epoch s unspent small =
    let other : (s.epoch == greatest_epoch) ≡ false = (neither (s.epoch == greatest_epoch) (nat_le sequences_end s.local.view.head.sequence) unspent).0 in
    grind (arith, nat_tests)

-- the views with a frozen one that waits
abbrev pub waiting : LocalState → FrozenState → ℕ → LocalState
waiting l frozen epoch = record l { phase = Waits frozen epoch; standing = Some epoch }

-- the folder that is frozen so
abbrev pub frozen_now : LedgerState → LocalState → Recorded → Upload → LedgerState
frozen_now s local history upload = record s { local = local; history = history; epoch = s.epoch + 1; stage = Written; upload = upload }

frozen-left : (l local : LocalState) (frozen : FrozenState) (epoch : ℕ) → local ≡ waiting l frozen epoch → BringToRest Written (answers_left local)
frozen-left l local frozen epoch waits = subst (λ (x : LocalState). BringToRest Written (answers_left x)) (sym waits) (plan-rests (plan_over l.view frozen))

-- no message counts as sent at the beginning
pub sent-none : (o : Option FrozenState) (upload : Upload) → cursor_of upload ≡ Begin → sent_in o upload ≡ 0
sent-none None upload begins = refl
sent-none (Some frozen) upload begins = ap (sent_at (counts_of frozen.order)) begins

-- the core of the folder that is frozen so, but for its history
abbrev frozen_core : LedgerState → LocalTrees → List CommitStep → ℕ → List Entry → Core
frozen_core s t left sent entries = record (core_of s t) { epoch = s.epoch + 1; standing = Some (s.epoch + 1); stage = Written; frozen = Some t.active; left = left; sent = sent; history = entries }

frozen-core : (by : ℕ) (s : LedgerState) (local : LocalState) (history : Recorded) (upload : Upload) (frozen : FrozenState) (t : LocalTrees) → local ≡ waiting s.local frozen (s.epoch + 1) → history.entries ≡ s.history.entries ++ Freeze by (s.epoch + 1) ∷ [] → cursor_of upload ≡ Begin → core_of (frozen_now s local history upload) (record t { frozen = t.active }) ≡ frozen_core s t (answers_left local) 0 (s.history.entries ++ Freeze by (s.epoch + 1) ∷ [])
frozen-core by s local history upload frozen t waits noted begins =
    ap (λ (x : LocalState). core_of (frozen_now s x history upload) (record t { frozen = t.active })) waits
    ∙ ap (λ (n : ℕ). frozen_core s t (answers_left (waiting s.local frozen (s.epoch + 1))) n history.entries) (sent-none (Some frozen) upload begins)
    ∙ ap (λ (es : List Entry). frozen_core s t (answers_left (waiting s.local frozen (s.epoch + 1))) 0 es) noted
    ∙ ap (λ (x : LocalState). frozen_core s t (answers_left x) 0 (s.history.entries ++ Freeze by (s.epoch + 1) ∷ [])) (sym waits)

pub frozen-makes : (by : ℕ) (s : LedgerState) (local : LocalState) (history : Recorded) (upload : Upload) (told : Option DiskState) → is_busy_now s ≡ false → is_spent_now s ≡ false → Freezes s.local (s.epoch + 1) local → history.entries ≡ s.history.entries ++ Freeze by (s.epoch + 1) ∷ [] → cursor_of upload ≡ Begin → Makes (events.Freeze by) (answers.Frozen (s.epoch + 1)) s (frozen_now s local history upload) told told
frozen-makes by s local history upload told idle unspent freezes noted begins = record {
  given = record { commit = answers_left local; messages = 1 };
  is_given = record { commit = frozen-left s.local local freezes.frozen (s.epoch + 1) freezes.waits; messages = omega arith };
  pushed = λ t. noted;
  shown = λ d t is shows. record {
    next = d;
    told = is;
    shows = freezes.shows d t shows;
    may = inl (sym (freeze-idle (is_spent_now s) s.epoch s.local.view.head.sequence idle ∙ ap (λ (b : Bool). cond b (answers.Spent s.epoch s.local.view.head.sequence) (answers.Frozen (s.epoch + 1))) unspent));
    core = frozen-core by s local history upload freezes.frozen t freezes.waits noted begins;
  };
}

-- its parts hang together
later-doubt : (o : Option ℕ) (published epoch : ℕ) → IfSome o (λ e. (published < e) × (e ≤ epoch)) → IfSome o (λ e. (published < e) × (e ≤ epoch + 1))
later-doubt None published epoch doubt = tt
later-doubt (Some e) published epoch doubt = (doubt.0, (let low = doubt.1 in omega arith))

frozen-one : (a b : FrozenState) → Some a ≡ Some b → a ≡ b
frozen-one a b same = cc same

pub frozen-kept : (s : LedgerState) (local : LocalState) (history : Recorded) (upload : Upload) (frozen : FrozenState) → IsKept s → is_busy_now s ≡ false → is_spent_now s ≡ false → local ≡ waiting s.local frozen (s.epoch + 1) → AllCanBeSent frozen.order → AreApart frozen.order → cursor_of upload ≡ Begin → epoch_of upload ≡ s.epoch + 1 → IsKept (frozen_now s local history upload)
frozen-kept s local history upload frozen kept idle unspent waits can apart begins epoch = subst (λ (x : LocalState). IsKept (frozen_now s x history upload)) (sym waits) (record {
  left = plan-rests (plan_over s.local.view frozen);
  on = refl;
  frozen = refl;
  committed = committed;
  view = (refl, (let past = kept.past in omega arith));
  past = (let past = kept.past in omega arith);
  doubt = later-doubt s.unsure s.published s.epoch kept.doubt;
  small = omega arith;
  sends = λ f at some. subst (λ (x : FrozenState). SendsView (frozen_now s (waiting s.local frozen (s.epoch + 1)) history upload) x) (frozen-one frozen f at) (record {
    can = can;
    apart = apart;
    stands = subst (StandsIn frozen.order) (sym begins) tt;
    epoch = epoch;
  });
  now = λ other. absurd (other begins);
}) where
  rested : s.stage ≡ Rested
  rested = idle-rests s idle

  early : s.epoch < greatest_epoch
  early = unspent-epoch s unspent kept.small

  committed : s.local.view.head.epoch + 1 ≡ s.epoch + 1
  committed = (let at : s.local.view.head.epoch + 0 ≡ s.epoch = ap (λ (st : Stage). s.local.view.head.epoch + cond (is_rested st) 0 1) (sym rested) ∙ kept.committed in omega arith)

-- ---- no memory

pub unfrozen-makes : (by : ℕ) (s : LedgerState) (told : Option DiskState) → is_busy_now s ≡ false → is_spent_now s ≡ false → Makes (events.Freeze by) (answers.Fault Memory) s s told told
unfrozen-makes by s told idle unspent =
    still-makes (events.Freeze by) (answers.Fault Memory) s s.history [] told (record { trees = λ t. refl; pushed = λ t. refl; core = λ t. refl }) (λ t. inr (Memory, refl, may)) (unnoted s s.history refl) where
      may : Contains (cond (is_busy_now s || is_spent_now s) [] (Memory ∷ [])) Memory
      may = subst (λ (b : Bool). Contains (cond b [] (Memory ∷ [])) Memory) (sym (ap (λ (b : Bool). b || is_spent_now s) idle ∙ unspent)) (0, omega arith, refl)
