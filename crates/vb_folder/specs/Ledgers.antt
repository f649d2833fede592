-- A folder without its devices: its views, its history, and what it knows of its cloud.
use Rattle.std.specs.Prelude.{◌≡◌, ◌≢◌, ℕ, ◌+◌, ◌<◌, ◌≤◌, ◌^◌, ◌||◌, ◌==◌, nat_le, is_some, Bool, not, if◌then◌else◌, Option, Some, None, IfSome, IsSome}
use Rattle.vb_event.specs.Core.{BringToRest, Core, greatest_epoch, is_rested, sequences_end}
use Rattle.vb_event.specs.Steps.{frozen_while}
use Rattle.vb_frozen.specs.Orders.{AreApart}
use Rattle.vb_hist.specs.Histories.{Recorded}
use Rattle.vb_hist.specs.declared.entry.Stage.{Stage}
use Rattle.vb_hist.specs.declared.entry.Stage.TheVariants.{Written}
use Rattle.vb_local.specs.Answers.{answers_left}
use Rattle.vb_local.specs.Shown.{LocalTrees}
use Rattle.vb_local.specs.States.{LocalState, epoch_in, frozen_in, is_on}
use Rattle.vb_local.specs.Ties.{FrozenState}
use Rattle.vb_upload.specs.Cursors.{AllCanBeSent, StandsIn}
use Rattle.vb_upload.specs.Steps.{cursor_of, epoch_of, sent_of}
use Rattle.vb_upload.specs.declared.cursor.Cursor.TheVariants.{Begin}
use Rattle.vb_upload.specs.declared.upload.Upload.{Upload}

-- a folder beside its devices: its views and the commit that is on, its history, the last epoch, the epoch that was last
-- published, the one whose publication is in doubt, how far the commit is, and where the upload stands
pub record LedgerState : Type 0 where
  pub local : LocalState
  pub history : Recorded
  pub epoch : ℕ
  pub published : ℕ
  pub unsure : Option ℕ
  pub stage : Stage
  pub upload : Upload

-- a folder of these parts
abbrev pub ledger_of : LocalState → Recorded → ℕ → ℕ → Option ℕ → Stage → Upload → LedgerState
ledger_of local history epoch published unsure stage upload =
    record { local = local; history = history; epoch = epoch; published = published; unsure = unsure; stage = stage; upload = upload }

-- how many messages of a frozen view count as sent
abbrev pub sent_in : Option FrozenState → Upload → ℕ
sent_in None upload = 0
sent_in (Some frozen) upload = sent_of frozen.order upload

-- the folder that it is, where its views have these trees
abbrev pub core_of : LedgerState → LocalTrees → Core
core_of s t = record {
  limits = s.local.live.index.limits;
  history = s.history.entries;
  epoch = s.epoch;
  sequence = s.local.view.head.sequence;
  published = s.published;
  standing = s.local.standing;
  stage = s.stage;
  active = t.active;
  frozen = frozen_while s.local.standing s.stage (Some t.frozen);
  left = answers_left s.local;
  unsure = s.unsure;
  sent = sent_in (frozen_in s.local.phase) s.upload;
}

-- ---- how its parts hang together, whatever a disk tells

-- the view that stands can be sent, no two of its entries have one slot, and the upload stands in it at its epoch
pub record SendsView (s : LedgerState) (frozen : FrozenState) : Type 0 where
  pub can : AllCanBeSent frozen.order
  pub apart : AreApart frozen.order
  pub stands : StandsIn frozen.order (cursor_of s.upload)
  pub epoch : epoch_of s.upload ≡ s.epoch

-- messages count as sent of a committed view that stands alone, and while nothing is in doubt
pub record SendsNow (s : LedgerState) : Type 0 where
  pub stands : s.local.standing ≡ Some s.epoch
  pub committed : s.stage ≢ Written
  pub sure : s.unsure ≡ None

-- the answers that are left bring the commit to its rest, and a commit is on exactly where the folder isn't at rest; what is
-- committed, frozen and standing has the last epoch, or the one before until the commit rests; what stands or is in doubt is
-- above what is published
pub record IsKept (s : LedgerState) : Type 0 where
  pub left : BringToRest s.stage (answers_left s.local)
  pub on : is_on s.local.phase ≡ not (is_rested s.stage)
  pub frozen : IfSome (epoch_in s.local.phase) (λ epoch. epoch ≡ s.epoch)
  pub committed : s.local.view.head.epoch + (if is_rested s.stage then 0 else 1) ≡ s.epoch
  pub view : IfSome s.local.standing (λ epoch. (epoch ≡ s.epoch) × (s.published < epoch))
  pub past : s.published ≤ s.epoch
  pub doubt : IfSome s.unsure (λ epoch. (s.published < epoch) × (epoch ≤ s.epoch))
  pub small : s.epoch < 2 ^ 63
  pub sends : (frozen : FrozenState) → frozen_in s.local.phase ≡ Some frozen → IsSome s.local.standing → SendsView s frozen
  pub now : (cursor_of s.upload ≡ Begin → ⊥) → SendsNow s

-- ---- what a freeze asks

-- whether a view stands or a commit is on
abbrev pub is_busy_now : LedgerState → Bool
is_busy_now s = is_some s.local.standing || not (is_rested s.stage)

-- whether no epoch is left, or no sequence for the heads of a commit
abbrev pub is_spent_now : LedgerState → Bool
is_spent_now s = s.epoch == greatest_epoch || nat_le sequences_end s.local.view.head.sequence
