-- How a recovery goes on, with what it notes.
use Rattle.std.specs.Prelude.{◌≡◌, ℕ, Bool, if◌then◌else◌, List, None, refl}
use Rattle.vb_journal.specs.declared.recover.Recover.{Recover}
use Rattle.vb_journal.specs.declared.recover_stage.RecoverStage.{RecoverStage}
use Rattle.vb_journal.specs.Notes.{place_after, slots_with}
use Rattle.vb_journal.specs.Recovering.{images_by}
use Rattle.vb_journal.specs.Recovers.{is_reading, last_of}
use Rattle.vb_journal.specs.RecoverViews.{ComesAfter, IsSame}
use Rattle.vb_steps.specs.declared.due.Got.{Got}

-- a recovery at this stage, with this place and these slots noted, went on so after its call: the image that was read
-- is lent, and its slot is noted
pub record GoesOnFrom (stage : RecoverStage) (place : ℕ) (slots : List ℕ) (got : Got) (new : Recover) : Type 0 where
  pub goes : ComesAfter stage got new.stage
  pub place_is : new.place ≡ place_after stage place
  pub lends : new.lends ≡ is_reading stage
  pub slots_are : new.slots.items ≡ slots_with slots (if is_reading stage then last_of (images_by new.stage) else None)

-- so a recovery goes on
abbrev pub GoesOn : Recover → Got → Recover → Type 0
GoesOn old got new = GoesOnFrom old.stage old.place old.slots.items got new

-- the recovery stays, but for what it keeps for speed
pub record StaysAt (stage : RecoverStage) (place : ℕ) (slots : List ℕ) (lends : Bool) (new : Recover) : Type 0 where
  pub same : IsSame stage new.stage
  pub place_is : new.place ≡ place
  pub slots_are : new.slots.items ≡ slots
  pub lends_too : new.lends ≡ lends

-- so a recovery stays
abbrev pub IsSameRecovery : Recover → Recover → Type 0
IsSameRecovery old new = StaysAt old.stage old.place old.slots.items old.lends new

-- each recovery is the same as itself
pub same_recovery : (r : Recover) → IsSameRecovery r r
same_recovery r = record { same = refl; place_is = refl; slots_are = refl; lends_too = refl }
