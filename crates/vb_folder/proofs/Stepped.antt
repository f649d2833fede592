-- A step of the commit that is on is an event of the folder.
use Rattle.std.proofs.Common.{◌≡◌, ◌≢◌, ◌⊎◌, ℕ, ◌+◌, ◌<◌, Bool, true, false, cond, if◌then◌else◌, not, List, [], ◌∷◌, Option, Some, None, Ok, IfSome, IsSome, is_some, is_none, refl, sym, subst, ap, ◌∙◌, arith, inl, inr}
use Rattle.vb_event.specs.Core.{BringToRest, Core, is_rested}
use Rattle.vb_event.specs.Steps.{frozen_while, rest_of}
use Rattle.vb_active.specs.Views.{ActiveState}
use Rattle.vb_block.specs.declared.digest.Ref.{Ref}
use Rattle.vb_frozen.specs.declared.entry.FrozenEntry.{FrozenEntry}
use Rattle.vb_frozen.specs.Orders.{with_reference, AreApart}
use Rattle.vb_tree.specs.declared.tree.Limits.{Limits}
use Rattle.vb_tree.specs.declared.tree.TreeEntry.{TreeEntry}
use Rattle.vb_upload.specs.declared.upload.Upload.{Upload}
use Rattle.vb_head.specs.declared.head.Head.{Head}
use Rattle.vb_hist.specs.Histories.{Recorded}
use Rattle.vb_hist.specs.declared.entry.Entry.{Entry}
use Rattle.vb_hist.specs.declared.entry.Stage.{Stage}
use Rattle.vb_hist.specs.declared.entry.Stage.TheVariants as stages
use Rattle.vb_journal.specs.declared.commit_stage.CommitStep.{CommitStep}
use Rattle.vb_journal.specs.declared.commit_stage.CommitStep.TheVariants.{Wrote, Synced, Committed, Rested, Idle}
use Rattle.vb_local.specs.Answers.{answers_left, GivesFirst}
use Rattle.vb_local.specs.AtRest.{with_references, HasNewRefs, NewRef}
use Rattle.vb_local.specs.Events.{KeepsViews, SettlesViews}
use Rattle.vb_local.specs.Shown.{LocalTrees}
use Rattle.vb_local.specs.States.{LocalState, PhaseState, Rests, Waits, Writes, epoch_in, frozen_in, is_on}
use Rattle.vb_local.specs.Ties.{FrozenState}
use Rattle.vb_upload.specs.Cursors.{counts_of, sent_at, AllCanBeSent, StandsIn}
use Rattle.vb_upload.specs.Steps.{cursor_of}
use Rattle.vb_upload.specs.declared.cursor.Cursor.{Cursor}
use Rattle.vb_upload.specs.declared.cursor.Cursor.TheVariants.{Begin, Entry as AtEntry, Page, Sealed}
use Rattle.vb_folder.specs.Events.{stage_after}
use Rattle.vb_folder.specs.Ledgers.{IsKept, LedgerState, SendsView, core_of, sent_in}
use Rattle.vb_folder.proofs.FreezesMade.{sent-none}

-- ---- what a settled view sends

-- an upload stands in an order with new references as in the order before
pub record StandsOnSettled : Type 0 where
  pub can : (refs : List NewRef) (order : List FrozenEntry) → AllCanBeSent order → AllCanBeSent (with_references refs order)
  pub apart : (refs : List NewRef) (order : List FrozenEntry) → AreApart order → AreApart (with_references refs order)
  pub counts : (refs : List NewRef) (order : List FrozenEntry) → counts_of (with_references refs order) ≡ counts_of order
  pub stands : (refs : List NewRef) (order : List FrozenEntry) (cursor : Cursor) → StandsIn order cursor → StandsIn (with_references refs order) cursor

-- ---- the parts of a step

-- the folder after a step
abbrev pub stepped : LedgerState → LocalState → Recorded → Stage → LedgerState
stepped s local history stage = record s { local = local; history = history; stage = stage }

-- a commit is on exactly where an epoch of one is told
pub on-epoch : (phase : PhaseState) → is_on phase ≡ is_some (epoch_in phase)
on-epoch (Rests frozen) = refl
on-epoch (Waits frozen epoch) = refl
on-epoch (Writes frozen way) = refl

same-on : (old new : PhaseState) → epoch_in new ≡ epoch_in old → is_on new ≡ is_on old
same-on old new same = on-epoch new ∙ ap is_some same ∙ sym (on-epoch old)

-- which stages an answer but Rested comes at, and leaves
still-on : (stage : Stage) (step : CommitStep) (left : List CommitStep) → (step ≡ Rested → ⊥) → GivesFirst left (rest_of left) (Ok step) → BringToRest stage left → is_rested (stage_after stage step) ≡ is_rested stage
still-on stage Wrote left other gives rests = refl
still-on stage Synced left other gives rests = refl
still-on stage Idle left other gives rests = refl
still-on stage Rested left other gives rests = absurd (other refl)
still-on stages.Rested Committed [] other gives rests = (let e : Ok Committed ≡ Ok Idle = gives.0 in absurd (cc e))
still-on stages.Rested Committed (first ∷ left) other gives rests = absurd rests
still-on stages.Written Committed left other gives rests = refl
still-on stages.Committed Committed left other gives rests = refl

-- a law on one new reference is one on some
pub settled-law : ((order : List FrozenEntry) (slot page : ℕ) (reference : Ref) → AllCanBeSent order → AllCanBeSent (with_reference slot page reference order)) → ((order : List FrozenEntry) (slot page : ℕ) (reference : Ref) → AreApart order → AreApart (with_reference slot page reference order)) → ((order : List FrozenEntry) (slot page : ℕ) (reference : Ref) → counts_of (with_reference slot page reference order) ≡ counts_of order) → ((order : List FrozenEntry) (slot page : ℕ) (reference : Ref) (cursor : Cursor) → StandsIn order cursor → StandsIn (with_reference slot page reference order) cursor) → StandsOnSettled
settled-law can apart counts stands = record { can = cans; apart = all-apart; counts = all-counts; stands = all-stand } where
  cans : (refs : List NewRef) (order : List FrozenEntry) → AllCanBeSent order → AllCanBeSent (with_references refs order)
  cans [] order all = all
  cans (r ∷ rs) order all = cans rs (with_reference r.slot r.page r.reference order) (can order r.slot r.page r.reference all)

  all-apart : (refs : List NewRef) (order : List FrozenEntry) → AreApart order → AreApart (with_references refs order)
  all-apart [] order all = all
  all-apart (r ∷ rs) order all = all-apart rs (with_reference r.slot r.page r.reference order) (apart order r.slot r.page r.reference all)

  all-counts : (refs : List NewRef) (order : List FrozenEntry) → counts_of (with_references refs order) ≡ counts_of order
  all-counts [] order = refl
  all-counts (r ∷ rs) order = all-counts rs (with_reference r.slot r.page r.reference order) ∙ counts order r.slot r.page r.reference

  all-stand : (refs : List NewRef) (order : List FrozenEntry) (cursor : Cursor) → StandsIn order cursor → StandsIn (with_references refs order) cursor
  all-stand [] order cursor at = at
  all-stand (r ∷ rs) order cursor at = all-stand rs (with_reference r.slot r.page r.reference order) cursor (stands order r.slot r.page r.reference cursor at)

-- ---- a step that keeps the views

-- the core of a folder by what a step may change of it
abbrev core_with : Core → ActiveState → Head → Option ℕ → Option FrozenState → Upload → List CommitStep → List Entry → Stage → Option (List TreeEntry) → Core
core_with core live head standing frozen upload left entries stage tree = record core {
  limits = live.index.limits;
  sequence = head.sequence;
  standing = standing;
  sent = sent_in frozen upload;
  left = left;
  history = entries;
  stage = stage;
  frozen = frozen_while standing stage tree;
}

pub step-core : (s : LedgerState) (local : LocalState) (history : Recorded) (stage : Stage) (t : LocalTrees) → KeepsViews s.local local → local.standing ≡ s.local.standing → core_of (stepped s local history stage) t ≡ record (core_of s t) { stage = stage; frozen = frozen_while s.local.standing stage (Some t.frozen); left = answers_left local; history = history.entries }
step-core s local history stage t keeps standing =
    ap (λ (o : Option ℕ). core_with (core_of s t) local.live local.view.head o (frozen_in local.phase) s.upload (answers_left local) history.entries stage (Some t.frozen)) standing
    ∙ ap (λ (a : ActiveState). core_with (core_of s t) a local.view.head s.local.standing (frozen_in local.phase) s.upload (answers_left local) history.entries stage (Some t.frozen)) keeps.live
    ∙ ap (λ (h : Head). core_with (core_of s t) s.local.live h s.local.standing (frozen_in local.phase) s.upload (answers_left local) history.entries stage (Some t.frozen)) keeps.head
    ∙ ap (λ (f : Option FrozenState). core_with (core_of s t) s.local.live s.local.view.head s.local.standing f s.upload (answers_left local) history.entries stage (Some t.frozen)) keeps.frozen

-- while a commit is on the frozen tree is there
pub while-on : (o : Option ℕ) (stage : Stage) (tree : Option (List TreeEntry)) → is_rested stage ≡ false → frozen_while o stage tree ≡ tree
while-on None stages.Rested tree on = absurd (cc on)
while-on None stages.Written tree on = refl
while-on None stages.Committed tree on = refl
while-on (Some e) stage tree on = refl

pub views-kept : (s : LedgerState) (local : LocalState) (history : Recorded) (stage : Stage) → IsKept s → KeepsViews s.local local → local.standing ≡ s.local.standing → BringToRest stage (answers_left local) → is_rested stage ≡ is_rested s.stage → (s.stage ≢ stages.Written → stage ≢ stages.Written) → IsKept (stepped s local history stage)
views-kept s local history stage kept keeps standing left same later = record {
  left = left;
  on = same-on s.local.phase local.phase keeps.epoch ∙ kept.on ∙ ap not (sym same);
  frozen = subst (λ (o : Option ℕ). IfSome o (λ epoch. epoch ≡ s.epoch)) (sym keeps.epoch) kept.frozen;
  committed = ap (λ (h : Head). h.epoch + cond (is_rested stage) 0 1) keeps.head ∙ ap (λ (b : Bool). s.local.view.head.epoch + cond b 0 1) same ∙ kept.committed;
  view = subst (λ (o : Option ℕ). IfSome o (λ epoch. (epoch ≡ s.epoch) × (s.published < epoch))) (sym standing) kept.view;
  past = kept.past;
  doubt = kept.doubt;
  small = kept.small;
  sends = λ frozen at some.
      let sends = kept.sends frozen (sym keeps.frozen ∙ at) (subst (λ (o : Option ℕ). IsSome o) standing some) in
      record { can = sends.can; apart = sends.apart; stands = sends.stands; epoch = sends.epoch };
  now = λ other. let now = kept.now other in record { stands = standing ∙ now.stands; committed = later now.committed; sure = now.sure };
}

-- ---- the step after which the commit rests

pub begins : (c : Cursor) → (c ≡ Begin) ⊎ (c ≡ Begin → ⊥)
begins Begin = inl refl
begins (AtEntry i) = inr (λ e. cc e)
begins (Page i page) = inr (λ e. cc e)
begins (Sealed i) = inr (λ e. cc e)

-- where no view stands none is being sent
begins-without : (s : LedgerState) → IsKept s → s.local.standing ≡ None → cursor_of s.upload ≡ Begin
begins-without s kept none = elim (begins (cursor_of s.upload)) [
  | inl at ↦ at
  | inr other ↦ absurd (let e = sym none ∙ (kept.now other).stands in cc e)
]

-- what is kept of a frozen view: nothing where no view stands
abbrev kept_frozen : Option ℕ → FrozenState → Option FrozenState
kept_frozen standing settled = if is_none standing then None else Some settled

settled-sent : (s : LedgerState) (frozen settled : FrozenState) (o : Option ℕ) → StandsOnSettled → IsKept s → s.local.standing ≡ o → HasNewRefs frozen.order settled.order → sent_in (kept_frozen o settled) s.upload ≡ sent_in (Some frozen) s.upload
settled-sent s frozen settled None law kept none order = sym (sent-none (Some frozen) s.upload (begins-without s kept none))
settled-sent s frozen settled (Some e) law kept stands order =
    ap (λ (es : List FrozenEntry). sent_at (counts_of es) (cursor_of s.upload)) order.1 ∙ ap (λ (counts : List ℕ). sent_at counts (cursor_of s.upload)) (law.counts order.0 frozen.order)

settled-one : (settled f : FrozenState) → Some settled ≡ Some f → settled ≡ f
settled-one settled f same = cc same

settled-sends : (s : LedgerState) (frozen settled f : FrozenState) (o : Option ℕ) → StandsOnSettled → SendsView s frozen → HasNewRefs frozen.order settled.order → kept_frozen o settled ≡ Some f → SendsView s f
settled-sends s frozen settled f None law sends order at = absurd (cc at)
settled-sends s frozen settled f (Some e) law sends order at = subst (SendsView s) (settled-one settled f at) (record {
  can = subst AllCanBeSent (sym order.1) (law.can order.0 frozen.order sends.can);
  apart = subst AreApart (sym order.1) (law.apart order.0 frozen.order sends.apart);
  stands = subst (λ (es : List FrozenEntry). StandsIn es (cursor_of s.upload)) (sym order.1) (law.stands order.0 frozen.order (cursor_of s.upload) sends.stands);
  epoch = sends.epoch;
})

-- its commit has the last epoch
on-last : (o : Option ℕ) (epoch : ℕ) → is_some o ≡ true → IfSome o (λ e. e ≡ epoch) → o ≡ Some epoch
on-last None epoch on is = absurd (cc on)
on-last (Some e) epoch on is = ap Some is

-- a commit that isn't at rest has its epoch
pub going-epoch : (s : LedgerState) → IsKept s → is_rested s.stage ≡ false → epoch_in s.local.phase ≡ Some s.epoch
going-epoch s kept going = on-last (epoch_in s.local.phase) s.epoch (sym (on-epoch s.local.phase) ∙ kept.on ∙ ap not going) kept.frozen

rested-frozen : (local : LocalState) (o : Option FrozenState) → local.phase ≡ Rests o → frozen_in local.phase ≡ o
rested-frozen local o rests = ap frozen_in rests

pub rested-kept : (s : LedgerState) (local : LocalState) (history : Recorded) → StandsOnSettled → IsKept s → is_rested s.stage ≡ false → SettlesViews s.local local → local.standing ≡ s.local.standing → BringToRest stages.Rested (answers_left local) → IsKept (stepped s local history stages.Rested)
rested-kept s local history law kept going settles standing left = record {
  left = left;
  on = ap is_on settles.rests;
  frozen = subst (λ (p : PhaseState). IfSome (epoch_in p) (λ epoch. epoch ≡ s.epoch)) (sym settles.rests) tt;
  committed = ap (λ (h : Head). h.epoch + 0) (settles.head s.epoch (going-epoch s kept going)) ∙ (let e : s.epoch + 0 ≡ s.epoch = omega arith in e);
  view = subst (λ (o : Option ℕ). IfSome o (λ epoch. (epoch ≡ s.epoch) × (s.published < epoch))) (sym standing) kept.view;
  past = kept.past;
  doubt = kept.doubt;
  small = kept.small;
  sends = λ f at some.
      let sends = settled-sends s settles.frozen settles.settled f s.local.standing law (kept.sends settles.frozen settles.was (subst (λ (o : Option ℕ). IsSome o) standing some)) settles.order (sym (rested-frozen local _ settles.rests) ∙ at) in
      record { can = sends.can; apart = sends.apart; stands = sends.stands; epoch = sends.epoch };
  now = λ other. let now = kept.now other in record { stands = standing ∙ now.stands; committed = λ e. cc e; sure = now.sure };
}

-- the core at rest
abbrev rested_core : LedgerState → LocalTrees → Limits → ℕ → ℕ → List CommitStep → List Entry → Core
rested_core s t limits sequence sent left entries = record (core_of s t) { limits = limits; stage = stages.Rested; sequence = sequence; sent = sent; left = left; history = entries; frozen = frozen_while s.local.standing stages.Rested (Some t.frozen) }

pub rested-core : (s : LedgerState) (local : LocalState) (history : Recorded) (t : LocalTrees) → StandsOnSettled → IsKept s → is_rested s.stage ≡ false → SettlesViews s.local local → local.standing ≡ s.local.standing → local.live.index.limits ≡ s.local.live.index.limits → core_of (stepped s local history stages.Rested) (record t { committed = t.frozen }) ≡ record (core_of s t) { stage = stages.Rested; sequence = s.local.view.head.sequence + 2; left = answers_left local; history = history.entries; frozen = frozen_while s.local.standing stages.Rested (frozen_while s.local.standing s.stage (Some t.frozen)) }
rested-core s local history t law kept going settles standing limits =
    ap (λ (o : Option ℕ). core_with (core_of s t) local.live local.view.head o (frozen_in local.phase) s.upload (answers_left local) history.entries stages.Rested (Some t.frozen)) standing
    ∙ ap (λ (l : Limits). rested_core s t l local.view.head.sequence (sent_in (frozen_in local.phase) s.upload) (answers_left local) history.entries) limits
    ∙ ap (λ (h : Head). rested_core s t s.local.live.index.limits h.sequence (sent_in (frozen_in local.phase) s.upload) (answers_left local) history.entries) (settles.head s.epoch (going-epoch s kept going))
    ∙ ap (λ (n : ℕ). rested_core s t s.local.live.index.limits (s.local.view.head.sequence + 2) n (answers_left local) history.entries) sent
    ∙ ap (λ (o : Option (List TreeEntry)). record (rested_core s t s.local.live.index.limits (s.local.view.head.sequence + 2) (core_of s t).sent (answers_left local) history.entries) { frozen = frozen_while s.local.standing stages.Rested o }) (sym (while-on s.local.standing s.stage (Some t.frozen) going)) where
      sent : sent_in (frozen_in local.phase) s.upload ≡ sent_in (frozen_in s.local.phase) s.upload
      sent = ap (λ (o : Option FrozenState). sent_in o s.upload) (rested-frozen local _ settles.rests) ∙ settled-sent s settles.frozen settles.settled s.local.standing law kept refl settles.order ∙ ap (λ (o : Option FrozenState). sent_in o s.upload) (sym settles.was)
