-- Recoveries that crashes interrupt, each of which begins on what the crash before it left.
use Rattle.std.specs.Prelude.{◌≡◌, ℕ, Bool, true, false, List, [], ◌∷◌, None}
use Rattle.vb_disk.specs.Crashes.{MayCrashTo}
use Rattle.vb_disk.specs.States.{DiskState}
use Rattle.vb_journal.specs.declared.recover_stage.RecoverStage.{RecoverStage}
use Rattle.vb_journal.specs.declared.recover_stage.RecoverStage.TheVariants.{Ask, Settle, ReadFirst, ReadSecond, Mend, SettleMend, ReadImage, Replay, Ready, Refused}
use Rattle.vb_journal.specs.Recovering.{IsRecovering}
use Rattle.vb_journal.specs.RecoverViews.{RecoverView, AtAsk, AtSettle, AtFirst, AtSecond, AtMend, AtSettleMend, AtImage, AtReplay, AtReady, AtRefused, view_of}

-- each place has one candidate, as after each sync and each crash
abbrev pub AreSettled : DiskState → Type 0
AreSettled d = (place : ℕ) → (d.cells place).later ≡ []

-- whether the first sync was made
abbrev pub is_synced_in : RecoverView → Bool
is_synced_in AtAsk = false
is_synced_in (AtSettle places) = false
is_synced_in (AtFirst places) = true
is_synced_in (AtSecond places read) = true
is_synced_in (AtMend head other) = true
is_synced_in (AtSettleMend head other) = true
is_synced_in (AtImage head count images) = true
is_synced_in (AtReplay head epoch images stage) = true
is_synced_in (AtReady head) = true
is_synced_in (AtRefused why) = true

-- so it is at a stage
abbrev pub is_synced : RecoverStage → Bool
is_synced stage = is_synced_in (view_of stage)

-- a crash at this stage leaves what the recovery began with: up to the first sync where each place had one candidate
-- then, and while the other head is mended where that one wasn't hurt
abbrev pub IsSteadyAt : RecoverStage → DiskState → Type 0
IsSteadyAt Ask begun = AreSettled begun
IsSteadyAt (Settle size) begun = AreSettled begun
IsSteadyAt (ReadFirst size) begun = Unit {0}
IsSteadyAt (ReadSecond first) begun = Unit {0}
IsSteadyAt (Mend mending) begun = (begun.cells mending.place).hurt ≡ None
IsSteadyAt (SettleMend mending) begun = (begun.cells mending.place).hurt ≡ None
IsSteadyAt (ReadImage journal) begun = Unit {0}
IsSteadyAt (Replay replay) begun = Unit {0}
IsSteadyAt (Ready ready) begun = Unit {0}
IsSteadyAt (Refused refusal) begun = Unit {0}

-- a recovery that was interrupted at a stage and a moment, and what the crash left
pub record Interruption : Type 0 where
  pub stage : RecoverStage
  pub at : DiskState
  pub left : DiskState

-- the first of these recoveries began on this disk, and each other one on what the crash before it left
abbrev pub AreInterrupted : DiskState → List Interruption → Type 0
AreInterrupted begun [] = Unit {0}
AreInterrupted begun (i ∷ is) = IsRecovering i.stage begun i.at × IsSteadyAt i.stage begun × MayCrashTo i.at i.left × AreInterrupted i.left is

-- what the last crash left
abbrev pub left_by : DiskState → List Interruption → DiskState
left_by begun [] = begun
left_by begun (i ∷ is) = left_by i.left is
