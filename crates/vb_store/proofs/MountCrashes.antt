-- What crashes leave while a store is mounted.
use Rattle.std.proofs.Common.{◌≡◌, ◌⊎◌, inl, inr, ℕ, ◌≤◌, true, false, eqb, List, Option, Ok, Err, refl, sym, subst, ◌∙◌, arith}
use Rattle.std.proofs.lemmas.Bool.{cond-false, ne_eqb}
use Rattle.vb_disk.specs.Cells.{synced_cell}
use Rattle.vb_disk.specs.Crashes.{MayCrashTo}
use Rattle.vb_disk.specs.States.{DiskState, IsDiskState, read_at}
use Rattle.vb_head.specs.declared.head.Head.{Head}
use Rattle.vb_journal.specs.declared.mending.ClosedHead.{ClosedHead}
use Rattle.vb_journal.specs.declared.mending.Mending.{Mending}
use Rattle.vb_journal.specs.declared.recover_error.RecoverError.{RecoverError}
use Rattle.vb_journal.specs.declared.recover_stage.RecoverStage.{RecoverStage}
use Rattle.vb_journal.specs.declared.recover_stage.RecoverStage.TheVariants.{Ask, Settle, ReadFirst, ReadSecond, Mend, SettleMend, ReadImage, Replay, Ready, Refused}
use Rattle.vb_journal.specs.Interruptions.{is_synced}
use Rattle.vb_journal.specs.Outcomes.{reads_of, recovery_on}
use Rattle.vb_journal.specs.Recovering.{IsRecovered, IsRecovering, MayRecover, RecoversTo, RecoversWhole, reads_whole}
use Rattle.vb_journal.specs.Recovers.{recovery_stage}
use Rattle.vb_journal.proofs.AfterRecoveries.{EachRecovers-known}
use Rattle.vb_store.specs.declared.mount_phase.JournalPhase.{JournalPhase}
use Rattle.vb_store.specs.declared.mount_phase.MountPhase.{MountPhase}
use Rattle.vb_store.specs.declared.mount_phase.MountPhase.TheVariants.{Recovering}
use Rattle.vb_store.specs.Clear.{IsClear, RecoversTree, taken_as}
use Rattle.vb_store.specs.Metadata.{Metadata}
use Rattle.vb_store.specs.Mounts.{IsMounting, Leaves, LeavesWhole, MayLeaveAt, MountsTo}
use Rattle.vb_store.specs.RecoveredStores.{metadata_on}
use Rattle.vb_store.proofs.CrashesOfMounts.{DataStands, HasMetadata, crashed-read, has_metadata, refused_recovery, stands_synced}
use Rattle.vb_store.proofs.ClearMounts.{IsClear-moments, IsClear-mounting}
use Rattle.vb_store.proofs.TakenDisks.{clear-recovers}
use Rattle.vb_store.proofs.TreesKept.{metadata_of_tree, store-kept}

-- the metadata and the tree stay where the journal recovers the same and the data places stand
leaves : (begun at new : DiskState) → recovery_on new ≡ recovery_on begun → ((m : Metadata) (has : HasMetadata begun.size (reads_of begun) m) → metadata_on begun ≡ Ok m → DataStands has.head begun at) → MayCrashTo at new → Leaves begun new
leaves begun at new same stands crash m there =
    let has = has_metadata begun.size (reads_of begun) m there in
    let stood = stands m has there in
    store-kept begun.size (reads_of begun) new m has there (crash.size ∙ stood.size) same (λ place above. crashed-read begun at new place (stood.each place above) crash)

-- so they do at each stage after the first sync
leaves_synced : (stage : RecoverStage) (begun at new : DiskState) → is_synced stage ≡ true → IsRecovering stage begun at → recovery_on new ≡ recovery_on begun → MayCrashTo at new → Leaves begun new
leaves_synced stage begun at new synced known same crash =
    leaves begun at new same (λ m has there. stands_synced stage begun at m has there synced known) crash

-- ---- a head that was hurt

-- behind the heads a disk reads as it does where one of them is whole
reads_behind : (begun : DiskState) (place other : ℕ) → place ≤ 1 → 2 ≤ other → reads_whole begun place other ≡ read_at begun other
reads_behind begun place other first behind =
    cond-false (eqb other place) _ (read_at begun other) (ne_eqb other place (λ same. absurd (omega (arith, first, behind, same))))

-- the metadata are those of the other head, were it whole
leaves_whole : (begun at new : DiskState) (place : ℕ) → place ≤ 1 → ((p : ℕ) → 2 ≤ p → at.cells p ≡ synced_cell (begun.cells p)) → RecoversWhole begun place new → at.size ≡ begun.size → MayCrashTo at new → LeavesWhole begun place new
leaves_whole begun at new place first stands whole size crash = record {
  hurt = whole.hurt;
  leaves = λ m there.
      let old : ℕ → List ℕ = reads_whole begun place in
      let has = has_metadata begun.size old m there in
      store-kept begun.size old new m has there (crash.size ∙ size) whole.recovers
      (λ other above.
      let behind : 2 ≤ other = omega (arith, above) in
      crashed-read begun at new other (stands other behind) crash ∙ sym (reads_behind begun place other first behind));
}

-- ---- a step of the recovery

-- up to the first sync
leaves_settling : (stage : RecoverStage) (begun at new : DiskState) → IsRecovering stage begun at → recovery_on new ≡ recovery_on begun → MayCrashTo at new → MayCrashTo begun new ⊎ Leaves begun new
leaves_settling Ask begun at new known same crash = inl (subst (λ (e : DiskState). MayCrashTo e new) known crash)
leaves_settling (Settle size) begun at new known same crash = inl (subst (λ (e : DiskState). MayCrashTo e new) known.0 crash)
leaves_settling (ReadFirst size) begun at new known same crash = inr (leaves_synced (ReadFirst size) begun at new refl known same crash)
leaves_settling (ReadSecond first) begun at new known same crash = inr (leaves_synced (ReadSecond first) begun at new refl known same crash)
leaves_settling (Mend mending) begun at new known same crash = inr (leaves_synced (Mend mending) begun at new refl known same crash)
leaves_settling (SettleMend mending) begun at new known same crash = inr (leaves_synced (SettleMend mending) begun at new refl known same crash)
leaves_settling (ReadImage journal) begun at new known same crash = inr (leaves_synced (ReadImage journal) begun at new refl known same crash)
leaves_settling (Replay replay) begun at new known same crash = inr (leaves_synced (Replay replay) begun at new refl known same crash)
leaves_settling (Ready ready) begun at new known same crash = inr (leaves_synced (Ready ready) begun at new refl known same crash)
leaves_settling (Refused refusal) begun at new known same crash = inr (λ m there. refused_recovery begun m refusal.error known.recovery there)

-- while the other head is mended
leaves_mending : (mending : Mending) (stage : RecoverStage) (begun at new : DiskState) → is_synced stage ≡ true → IsRecovering stage begun at → (recovery_on new ≡ recovery_on begun) ⊎ RecoversWhole begun mending.place new → MayCrashTo at new → Leaves begun new ⊎ LeavesWhole begun mending.place new
leaves_mending mending stage begun at new synced known (inl same) crash = inl (leaves_synced stage begun at new synced known same crash)
leaves_mending mending Ask begun at new synced known (inr whole) crash = absurd (cc synced)
leaves_mending mending (Settle size) begun at new synced known (inr whole) crash = absurd (cc synced)
leaves_mending mending (ReadFirst size) begun at new synced known (inr whole) crash = inl (leaves_synced (ReadFirst size) begun at new refl known (EachRecovers-known (ReadFirst size) begun at known new crash) crash)
leaves_mending mending (ReadSecond first) begun at new synced known (inr whole) crash = inl (leaves_synced (ReadSecond first) begun at new refl known (EachRecovers-known (ReadSecond first) begun at known new crash) crash)
leaves_mending mending (Mend m) begun at new synced known (inr whole) crash = inr (leaves_whole begun at new mending.place mending.other known.stands.each whole known.stands.size crash)
leaves_mending mending (SettleMend m) begun at new synced known (inr whole) crash = inr (leaves_whole begun at new mending.place mending.other known.stands.each whole known.stands.size crash)
leaves_mending mending (ReadImage journal) begun at new synced known (inr whole) crash = inl (leaves_synced (ReadImage journal) begun at new refl known (EachRecovers-known (ReadImage journal) begun at known new crash) crash)
leaves_mending mending (Replay replay) begun at new synced known (inr whole) crash = inl (leaves_synced (Replay replay) begun at new refl known (EachRecovers-known (Replay replay) begun at known new crash) crash)
leaves_mending mending (Ready ready) begun at new synced known (inr whole) crash = inl (leaves_synced (Ready ready) begun at new refl known (EachRecovers-known (Ready ready) begun at known new crash) crash)
leaves_mending mending (Refused refusal) begun at new synced known (inr whole) crash = inl (leaves_synced (Refused refusal) begun at new refl known (EachRecovers-known (Refused refusal) begun at known new crash) crash)

-- what a crash leaves of a disk that is known at a stage, by what the stage before it says of the journal
leaves-by : (before stage : RecoverStage) (begun at new : DiskState) → (is_synced before ≡ true → is_synced stage ≡ true) → IsRecovering stage begun at → MayRecover before begun new → MayCrashTo at new → MayLeaveAt before begun new
leaves-by Ask stage begun at new order known may crash = may
leaves-by (Settle size) stage begun at new order known (inl earlier) crash = inl earlier
leaves-by (Settle size) stage begun at new order known (inr same) crash = leaves_settling stage begun at new known same crash
leaves-by (ReadFirst size) stage begun at new order known may crash = leaves_synced stage begun at new (order refl) known may crash
leaves-by (ReadSecond first) stage begun at new order known may crash = leaves_synced stage begun at new (order refl) known may crash
leaves-by (Mend mending) stage begun at new order known may crash = leaves_mending mending stage begun at new (order refl) known may crash
leaves-by (SettleMend mending) stage begun at new order known may crash = leaves_mending mending stage begun at new (order refl) known may crash
leaves-by (ReadImage journal) stage begun at new order known may crash = leaves_synced stage begun at new (order refl) known may crash
leaves-by (Replay replay) stage begun at new order known may crash = leaves_synced stage begun at new (order refl) known may crash
leaves-by (Ready ready) stage begun at new order known may crash = leaves_synced stage begun at new (order refl) known may crash
leaves-by (Refused refusal) stage begun at new order known may crash = leaves_synced stage begun at new (order refl) known may crash

-- a step of the recovery, after which this is known
pub recovery-mounts : (r : JournalPhase) (after : RecoverStage) (phase : MountPhase) (begun d : DiskState) (new : Option DiskState) (to : RecoversTo begun (recovery_stage r.recover) after d new) → (is_synced (recovery_stage r.recover) ≡ true → is_synced after ≡ true) → IsDiskState begun → IsMounting phase begun to.next → MountsTo begun (Recovering r) phase d new
recovery-mounts r after phase begun d new to order is_disk known =
    let before = recovery_stage r.recover in
    record {
      next = to.next;
      told = to.told;
      known = known;
      crashes = record {
        reached = to.crashes.reached;
        each = λ m counts moment left crash. elim (to.moments.each m counts moment) [
          | inl here ↦ leaves-by before before begun m left (λ synced. synced) here (to.crashes.each m counts moment left crash) crash
          | inr there ↦ leaves-by before after begun m left order there (to.crashes.each m counts moment left crash) crash
        ];
      };
      clear = λ clear. IsClear-moments before after begun d new is_disk clear to;
    }

-- ---- a read after it

-- a store that was recovered leaves its metadata
pub leaves-recovered : (begun d new : DiskState) (head : Head) → IsRecovered begun head d → MayCrashTo d new → Leaves begun new
leaves-recovered begun d new head is crash =
    let ready : ClosedHead = record { head = head; is = is.is; closed = is.closed } in
    leaves_synced (Ready ready) begun d new refl is (EachRecovers-known (Ready ready) begun d is new crash) crash

-- and a clear disk clear
pub clear-recovered : (begun d : DiskState) (head : Head) → IsDiskState begun → IsClear begun → IsRecovered begun head d → IsClear d
clear-recovered begun d head is_disk clear is =
    let ready : ClosedHead = record { head = head; is = is.is; closed = is.closed } in
    IsClear-mounting (Ready ready) begun d is_disk clear is

-- a clear disk has metadata
pub clear-refused : {A : Type 0} (begun : DiskState) (e : RecoverError) → IsClear begun → metadata_on begun ≡ Err e → A
clear-refused begun e clear refused =
    let tree : RecoversTree (taken_as (λ place. false) begun) = clear-recovers (λ place. false) begun clear in
    let from = metadata_of_tree begun.size (reads_of begun) tree.epoch tree.tree tree.recovers in
    let clash = sym from.is ∙ refused in
    absurd (cc clash)
