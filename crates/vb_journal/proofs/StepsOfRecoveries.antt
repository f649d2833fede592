-- What a step of a recovery leaves.
use Rattle.std.proofs.Common.{◌≡◌, ℕ, ◌+◌, List, [], ◌∷◌, ◌++◌, length, Option, Some, Result, Ok, Err, refl, sym, subst, ◌∙◌, ◌⊎◌, inl, inr}
use Rattle.vb_disk.specs.declared.disk_error.DiskError.{DiskError}
use Rattle.vb_disk.specs.declared.disk_error.DiskError.TheVariants.{Failed, Memory}
use Rattle.std.specs.Prelude.{OnOk}
use Rattle.vb_journal.specs.Recoveries.{journal_place}
use Rattle.vb_disk.specs.Crashes.{MayCrashTo}
use Rattle.vb_disk.specs.States.{DiskCall, DiskState, Write, after_call, read_at, written}
use Rattle.vb_disk.proofs.Ways.{EachMoment-call, EachMoment-none, EachMoment-tried}
use Rattle.vb_journal.specs.declared.journal.Journal.{Journal}
use Rattle.vb_journal.specs.declared.recover_error.RecoverError.{RecoverError}
use Rattle.vb_journal.specs.declared.recover_stage.RecoverStage.{RecoverStage}
use Rattle.vb_journal.specs.declared.recover_stage.RecoverStage.TheVariants.{Ask, Settle, ReadFirst, ReadSecond, Mend, SettleMend, ReadImage, Replay, Ready, Refused}
use Rattle.vb_journal.specs.declared.refusal.Refusal.{Refusal}
use Rattle.vb_journal.specs.Calls.{Makes, MayFailTo}
use Rattle.vb_journal.specs.Outcomes.{recovery_on}
use Rattle.vb_journal.specs.Recovering.{EachRecovers, IsHopeless, IsRecovering, MayRecover, RecoversTo, TakesImage, images_by}
use Rattle.vb_journal.proofs.AfterRecoveries.{EachRecovers-known}
use Rattle.vb_journal.proofs.FirstCalls.{gone}

-- each moment is known at the stage before a step or at the one after it
abbrev KnownIn : DiskState → RecoverStage → RecoverStage → DiskState → Type 0
KnownIn begun before after = λ m. IsRecovering before begun m ⊎ IsRecovering after begun m

-- no call changed the disk
pub stays : (begun d : DiskState) (before after : RecoverStage) (new : Option DiskState) → new ≡ Some d → IsRecovering before begun d → IsRecovering after begun d → RecoversTo begun before after d new
stays begun d before after new told was known = record {
  next = d;
  told = told;
  known = known;
  moments = EachMoment-none (KnownIn begun before after) d (inl was);
  crashes = EachMoment-none (EachRecovers before begun) d (EachRecovers-known before begun d was);
}

-- the recovery ended, and no call changed the disk
pub ends : (begun d : DiskState) (before after : RecoverStage) (refusal : Refusal) (new : Option DiskState) → after ≡ Refused refusal → new ≡ Some d → IsRecovering before begun d → IsHopeless begun refusal.error d → RecoversTo begun before after d new
ends begun d before after refusal new is told was known =
    let Q : RecoverStage → Type 0 = λ s. RecoversTo begun before s d new in
    subst Q (sym is) (stays begun d before (Refused refusal) new told was known)

-- one call did
pub changes : (begun d : DiskState) (call : DiskCall) (before after : RecoverStage) (new : Option DiskState) → new ≡ Some (after_call d call) → IsRecovering before begun d → IsRecovering after begun (after_call d call) → EachRecovers before begun (after_call d call) → RecoversTo begun before after d new
changes begun d call before after new told was known then = record {
  next = after_call d call;
  told = told;
  known = known;
  moments = EachMoment-call (KnownIn begun before after) d call (inl was) (inr known);
  crashes = EachMoment-call (EachRecovers before begun) d call (EachRecovers-known before begun d was) then;
}

-- one call did, or didn't
pub moves : (begun d next : DiskState) (call : DiskCall) (before after : RecoverStage) (new : Option DiskState) → new ≡ Some next → (next ≡ d) ⊎ (next ≡ after_call d call) → IsRecovering before begun d → IsRecovering after begun next → EachRecovers before begun next → RecoversTo begun before after d new
moves begun d next call before after new told moved was known then = record {
  next = next;
  told = told;
  known = known;
  moments = EachMoment-tried (KnownIn begun before after) d next call moved (inl was) (inr known);
  crashes = EachMoment-tried (EachRecovers before begun) d next call moved (EachRecovers-known before begun d was) then;
}

-- a write failed, and was made or wasn't
pub tries-write : (begun d : DiskState) (place : ℕ) (page : List ℕ) (stage : RecoverStage) (new : Option DiskState) → MayFailTo (Write place page) d new → IsRecovering stage begun d → IsRecovering stage begun (written d place page) → RecoversTo begun stage stage d new
tries-write begun d place page stage new may was then = elim may [
  | inl none ↦ stays begun d stage stage new none was was
  | inr made ↦ changes begun d (Write place page) stage stage new made was then (EachRecovers-known stage begun (written d place page) then)
]

-- at an error the disk is known at the same stage
pub fails-write : (begun d : DiskState) (place : ℕ) (page : List ℕ) (stage : RecoverStage) (e : DiskError) (old new : Option DiskState) → old ≡ Some d → Makes (Write place page) old new (gone {T = Unit {0}} e) → IsRecovering stage begun d → IsRecovering stage begun (written d place page) → RecoversTo begun stage stage d new
fails-write begun d place page stage Failed old new told makes was then = tries-write begun d place page stage new (makes.failed d told refl) was then
fails-write begun d place page stage Memory old new told makes was then = stays begun d stage stage new (makes.memory refl ∙ told) was was

-- what recovers as it did when the recovery began may be recovered at each stage after the first
pub same-recovers : (stage : RecoverStage) (begun new : DiskState) → recovery_on new ≡ recovery_on begun → (stage ≡ Ask → MayCrashTo begun new) → MayRecover stage begun new
same-recovers Ask begun new same first = first refl
same-recovers (Settle size) begun new same first = inr same
same-recovers (ReadFirst size) begun new same first = same
same-recovers (ReadSecond read) begun new same first = same
same-recovers (Mend mending) begun new same first = inl same
same-recovers (SettleMend mending) begun new same first = inl same
same-recovers (ReadImage journal) begun new same first = same
same-recovers (Replay replay) begun new same first = same
same-recovers (Ready ready) begun new same first = same
same-recovers (Refused refusal) begun new same first = same

-- an image was taken that was read
pub takes-image : (journal : Journal) (image : List ℕ) (after : RecoverStage) (told : Option DiskState) (result : Result (Unit {0}) RecoverError) → OnOk result (images_by after ≡ journal.images ++ image ∷ []) → ((d : DiskState) → told ≡ Some d → image ≡ read_at d (journal_place journal.head + length journal.images)) → OnOk result (TakesImage (ReadImage journal) after told)
takes-image journal image after told (Ok done) more read = (image, more, read)
takes-image journal image after told (Err e) more read = tt
