-- A folder on its disk in memory: its live and its committed view, the frozen one and its commit, and which view stands.
use Rattle.std.specs.Prelude.{ℕ, Bool, true, false, Option, Some, None}
use Rattle.std.specs.Option.{option_map}
use Rattle.vb_active.specs.Views.{ActiveState}
use Rattle.vb_commit.specs.Ways.{WayState}
use Rattle.vb_frozen.specs.declared.frozen.Frozen.{Frozen}
use Rattle.vb_local.specs.declared.phase.Phase.{Phase}
use Rattle.vb_local.specs.declared.phase.Phase.TheVariants as phases
use Rattle.vb_local.specs.Ties.{FrozenState}
use Rattle.vb_store.specs.Views.{ViewState}

-- where the frozen view is: at rest, where the committed one may stand as a frozen one; frozen at an epoch, and not
-- planned yet; or its commit is on its way
pub data PhaseState : Type 0 where
  Rests : (frozen : Option FrozenState) → PhaseState
  Waits : (frozen : FrozenState) (epoch : ℕ) → PhaseState
  Writes : (frozen : FrozenState) (way : WayState) → PhaseState

-- a folder in memory: its live and its committed view, where the frozen one is, and the epoch of the view that stands
pub record LocalState : Type 0 where
  pub live : ActiveState
  pub view : ViewState
  pub phase : PhaseState
  pub standing : Option ℕ

-- ---- what is in a phase

-- the frozen view, where there is one
abbrev pub frozen_in : PhaseState → Option FrozenState
frozen_in (Rests frozen) = frozen
frozen_in (Waits frozen epoch) = Some frozen
frozen_in (Writes frozen way) = Some frozen

-- the epoch of the commit that is on, where one is
abbrev pub epoch_in : PhaseState → Option ℕ
epoch_in (Rests frozen) = None
epoch_in (Waits frozen epoch) = Some epoch
epoch_in (Writes frozen way) = Some way.epoch

-- whether a commit is on
abbrev pub is_on : PhaseState → Bool
is_on (Rests frozen) = false
is_on (Waits frozen epoch) = true
is_on (Writes frozen way) = true

-- no commit is on
abbrev pub IsResting : PhaseState → Type 0
IsResting (Rests frozen) = Unit {0}
IsResting (Waits frozen epoch) = ⊥
IsResting (Writes frozen way) = ⊥

-- a phase in which no view stands: at rest the frozen view goes
abbrev pub dropped_in : PhaseState → PhaseState
dropped_in (Rests frozen) = Rests None
dropped_in (Waits frozen epoch) = Waits frozen epoch
dropped_in (Writes frozen way) = Writes frozen way

-- ---- what contracts see of a phase in the code

-- a frozen view
abbrev pub frozen_state : Frozen → FrozenState
frozen_state frozen = record { order = frozen.order; pages = frozen.pages }

-- a phase
abbrev pub phase_state : Phase → PhaseState
phase_state (phases.Rests frozen) = Rests (option_map frozen_state frozen)
phase_state (phases.Waits frozen epoch) = Waits (frozen_state frozen) epoch
phase_state (phases.Writes frozen commit) = Writes (frozen_state frozen) commit

-- a folder of these parts
abbrev pub state_of : ActiveState → ViewState → Phase → Option ℕ → LocalState
state_of live view phase standing = record { live = live; view = view; phase = phase_state phase; standing = standing }
