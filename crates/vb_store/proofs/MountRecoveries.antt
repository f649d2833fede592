-- The steps of a mount that are those of its recovery.
use Rattle.std.proofs.Common.{◌≡◌, List, [], ◌∷◌, ◌++◌, Option, Some, None, Err, refl, sym, ap, subst, ◌∙◌}
use Rattle.std.specs.Prelude.{IsSome}
use Rattle.vb_disk.specs.States.{DiskState, IsDiskState}
use Rattle.vb_journal.specs.declared.recover.Recover.{Recover}
use Rattle.vb_journal.specs.declared.recover_error.RecoverError.{RecoverError}
use Rattle.vb_journal.specs.declared.recover_stage.RecoverStage.{RecoverStage}
use Rattle.vb_journal.specs.declared.recover_stage.RecoverStage.TheVariants.{Ask, Settle, ReadFirst, ReadSecond, Mend, SettleMend, ReadImage, Replay, Ready, Refused}
use Rattle.vb_journal.specs.Outcomes.{recovery_on}
use Rattle.vb_journal.specs.Recovering.{HasEnded, RecoverCall, due_of}
use Rattle.vb_journal.specs.RecoveryCalls.{IsFirst, recovery_calls_left}
use Rattle.vb_journal.specs.Recovers.{recovery_stage}
use Rattle.vb_store.specs.declared.mount_phase.JournalPhase.{JournalPhase}
use Rattle.vb_store.specs.declared.mount_phase.MountPhase.{MountPhase}
use Rattle.vb_store.specs.declared.mount_phase.MountPhase.TheVariants.{Recovering, Reading, Ready as Mounted}
use Rattle.vb_store.specs.declared.mount_stage.MountStage.TheVariants.{ReadHome, ReadMap, Finish, Refused as MountRefused}
use Rattle.vb_store.specs.LentImages.{IsPhaseOf}
use Rattle.vb_store.specs.Mounts.{HasMountEnded, IsJournalRead, IsMounting, mount_calls_left, store_reads}
use Rattle.vb_store.specs.RecoveredStores.{metadata_on}
use Rattle.vb_store.proofs.RecoveryRefusals.{refusal-told}

-- ---- the list

pub phase-list : (r : Recover) (phase : MountPhase) (begun d : DiskState) → IsPhaseOf r phase → mount_calls_left phase begun d ≡ recovery_calls_left (recovery_stage r) begun ++ store_reads begun
phase-list r (Recovering j) begun d is = ap (λ (x : Recover). recovery_calls_left (recovery_stage x) begun ++ store_reads begun) is
phase-list r (Reading stage) begun d is = absurd is
phase-list r (Mounted ready) begun d is = absurd is

-- the calls after the first of some, and then others
pub list-more : (due : Option RecoverCall) (old new more rest : List RecoverCall) → IsSome due → IsFirst due old new → rest ≡ new ++ more → IsFirst due (old ++ more) rest
list-more None old new more rest some first is = absurd (cc some)
list-more (Some call) old new more rest some first is = ap (λ (l : List RecoverCall). l ++ more) first ∙ ap (λ (l : List RecoverCall). call ∷ l) (sym is)

-- ---- a refusal

-- nothing is left of a recovery that was refused
none_left : (stage : RecoverStage) (begun : DiskState) (e : RecoverError) → HasEnded stage e → recovery_calls_left stage begun ≡ []
none_left Ask begun e ended = absurd ended
none_left (Settle size) begun e ended = absurd ended
none_left (ReadFirst size) begun e ended = absurd ended
none_left (ReadSecond first) begun e ended = absurd ended
none_left (Mend mending) begun e ended = absurd ended
none_left (SettleMend mending) begun e ended = absurd ended
none_left (ReadImage journal) begun e ended = absurd ended
none_left (Replay replay) begun e ended = absurd ended
none_left (Ready ready) begun e ended = absurd ended
none_left (Refused refusal) begun e ended = refl

-- the call that is due
pub record IsDueCall (due : Option RecoverCall) : Type 0 where
  pub call : RecoverCall
  pub is : due ≡ Some call

due_call_of : (due : Option RecoverCall) → IsSome due → IsDueCall due
due_call_of (Some call) some = record { call = call; is = refl }
due_call_of None some = absurd (cc some)

first_only : (due : Option RecoverCall) (call : RecoverCall) (old new : List RecoverCall) → due ≡ Some call → new ≡ [] → IsFirst due old new → old ≡ call ∷ []
first_only due call old new is none first =
    subst (λ (o : Option RecoverCall). IsFirst o old new) is first ∙ ap (λ (l : List RecoverCall). call ∷ l) none

-- a refusal of the recovery is that of the metadata
pub refused-by : (journal : JournalPhase) (r : Recover) (begun d : DiskState) (e : RecoverError) → IsJournalRead journal.recover begun d → HasEnded (recovery_stage r) e → recovery_on begun ≡ Err e → IsFirst (due_of (recovery_stage journal.recover)) (recovery_calls_left (recovery_stage journal.recover) begun) (recovery_calls_left (recovery_stage r) begun) → metadata_on begun ≡ Err e
refused-by journal r begun d e is ended refused first =
    let stage = recovery_stage journal.recover in
    let due = due_call_of (due_of stage) journal.going in
    refusal-told stage begun d journal.recover.place journal.recover.slots.items e due.call is.known is.noted is.sound due.is refused
    (first_only (due_of stage) due.call (recovery_calls_left stage begun) (recovery_calls_left (recovery_stage r) begun) due.is (none_left (recovery_stage r) begun e ended) first)

-- what is known once a mount has ended
pub ended-known : (phase : MountPhase) (begun next : DiskState) (e : RecoverError) → IsDiskState begun → HasMountEnded phase e → metadata_on begun ≡ Err e → IsMounting phase begun next
ended-known (Recovering j) begun next e is_disk ended is = absurd ended
ended-known (Reading (ReadHome h)) begun next e is_disk ended is = absurd ended
ended-known (Reading (ReadMap m)) begun next e is_disk ended is = absurd ended
ended-known (Reading (Finish w)) begun next e is_disk ended is = absurd ended
ended-known (Reading (MountRefused x)) begun next e is_disk ended is = record { is = is_disk; recovered = tt; rest = is ∙ ap (λ (y : RecoverError). Err y) (sym ended) }
ended-known (Mounted ready) begun next e is_disk ended is = absurd ended

pub phase-known : (r : Recover) (phase : MountPhase) (begun next : DiskState) → IsPhaseOf r phase → IsJournalRead r begun next → IsMounting phase begun next
phase-known r (Recovering j) begun next is known = subst (λ (x : Recover). IsJournalRead x begun next) (sym is) known
phase-known r (Reading stage) begun next is known = absurd is
phase-known r (Mounted ready) begun next is known = absurd is
