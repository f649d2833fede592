-- A mount leaves a clear disk clear.
use Rattle.std.proofs.Common.{◌≡◌, false, Option, Err, refl, sym, subst, ◌∙◌, ◌⊎◌, inl, inr}
use Rattle.vb_disk.specs.Crashes.{MayCrashTo}
use Rattle.vb_disk.specs.Moments.{EachMoment}
use Rattle.vb_disk.specs.States.{DiskState, IsDiskState, synced}
use Rattle.vb_disk.proofs.Ways.{EachMoment-weaker}
use Rattle.vb_journal.specs.declared.recover_error.RecoverError.{RecoverError}
use Rattle.vb_journal.specs.declared.recover_stage.RecoverStage.{RecoverStage}
use Rattle.vb_journal.specs.declared.recover_stage.RecoverStage.TheVariants.{Ask, Settle, ReadFirst, ReadSecond, Mend, SettleMend, ReadImage, Replay, Ready, Refused}
use Rattle.vb_journal.specs.Outcomes.{reads_of, recovery_on}
use Rattle.vb_journal.specs.Recovering.{IsRecovering, RecoversTo}
use Rattle.vb_journal.proofs.Mended.{mending-again}
use Rattle.vb_store.specs.Clear.{IsClear, RecoversTree, taken_as}
use Rattle.vb_store.proofs.CrashesOfClear.{IsClear-crashed}
use Rattle.vb_store.proofs.CrashesOfMounts.{has_metadata, recovers}
use Rattle.vb_store.proofs.TakenDisks.{clear-recovers, last_picked}
use Rattle.vb_store.proofs.TakenHeads.{IsKept, kept-both, kept-mending, kept-standing}
use Rattle.vb_store.proofs.TakenRecoveries.{kept-recovered, kept-replaying}
use Rattle.vb_store.proofs.TreesKept.{metadata_of_tree, tree-kept}

-- a tree is recovered from what the crash left
kept_tree : (begun new : DiskState) → IsClear begun → IsKept begun new → RecoversTree new
kept_tree begun new clear kept = tree-kept (taken_as kept.whole begun) new kept.same (clear-recovers kept.whole begun clear)

-- a store that can't be recovered isn't clear
hopeless_clear : (begun : DiskState) (error : RecoverError) → IsClear begun → recovery_on begun ≡ Err error → ⊥
hopeless_clear begun error clear refused =
    let tree : RecoversTree (taken_as (λ place. false) begun) = clear-recovers (λ place. false) begun clear in
    let from = metadata_of_tree begun.size (reads_of begun) tree.epoch tree.tree tree.recovers in
    let clash = sym (recovers begun from.metadata (has_metadata begun.size (reads_of begun) from.metadata from.is)) ∙ refused in
    cc clash

pub IsClear-mounting : (stage : RecoverStage) (begun d : DiskState) → IsDiskState begun → IsClear begun → IsRecovering stage begun d → IsClear d
IsClear-mounting Ask begun d disk clear is = subst IsClear (sym is) clear
IsClear-mounting (Settle size) begun d disk clear is = subst IsClear (sym is.0) clear
IsClear-mounting (ReadFirst size) begun d disk clear is = λ whole new crash. kept_tree begun new clear (kept-standing whole begun d new is.0 crash)
IsClear-mounting (ReadSecond first) begun d disk clear is = λ whole new crash. kept_tree begun new clear (kept-standing whole begun d new is.stands crash)
IsClear-mounting (Mend mending) begun d disk clear is = λ whole new crash. kept_tree begun new clear (kept-mending whole begun d new mending.head mending.place mending.other mending.is is crash)
IsClear-mounting (SettleMend mending) begun d disk clear is = λ whole new crash.
    kept_tree begun new clear (kept-mending whole begun d new mending.head mending.place mending.other mending.is (mending-again begun mending.head mending.place d is) crash)
IsClear-mounting (ReadImage journal) begun d disk clear is = λ whole new crash. kept_tree begun new clear (kept-both whole begun d new journal.head is.heads crash)
IsClear-mounting (Replay replay) begun d disk clear is = λ whole new crash. kept_tree begun new clear (kept-replaying whole begun d new replay disk is crash)
IsClear-mounting (Ready ready) begun d disk clear is = λ whole new crash. kept_tree begun new clear (kept-recovered whole begun d new ready.head disk is crash)
IsClear-mounting (Refused refusal) begun d disk clear is = absurd (hopeless_clear begun refusal.error clear is.recovery)

-- at each moment of a step
pub IsClear-moments : (before after : RecoverStage) (begun d : DiskState) (new : Option DiskState) → IsDiskState begun → IsClear begun → (step : RecoversTo begun before after d new) → EachMoment IsClear d step.next
IsClear-moments before after begun d new disk clear step =
    EachMoment-weaker (λ m. IsRecovering before begun m ⊎ IsRecovering after begun m) IsClear d step.next (λ m known. elim known [
      | inl old ↦ IsClear-mounting before begun m disk clear old
      | inr fresh ↦ IsClear-mounting after begun m disk clear fresh
    ]) step.moments

-- ---- a sync

pub last-crash : (d : DiskState) → MayCrashTo d (record (synced d) { synced_at = d.synced_at })
last-crash d = record { size = refl; writes = refl; resizes = refl; synced_at = refl; each = λ place. last_picked (d.cells place) }

pub IsClear-synced : (d : DiskState) → IsClear d → IsClear (synced d)
IsClear-synced d clear whole new crash =
    let left : DiskState = record (synced d) { synced_at = d.synced_at } in
    let has = IsClear-crashed d left clear (last-crash d) whole (record new { synced_at = d.synced_at }) (record { size = crash.size; writes = crash.writes; resizes = crash.resizes; synced_at = refl; each = crash.each }) in
    record { epoch = has.epoch; tree = has.tree; recovers = has.recovers }
