-- Where the recovery of a mount ends, and the reads begin; and what the reads leave.
use Rattle.std.proofs.Common.{◌≡◌, ℕ, ◌-◌, ◌++◌, List, [], length, Option, Some, None, Result, Ok, Err, refl, sym, ap, subst, ◌∙◌, arith}
use Rattle.std.proofs.lemmas.List.{length-map}
use Rattle.vb_disk.specs.Crashes.{MayCrashTo}
use Rattle.vb_disk.specs.States.{DiskState, IsDiskState, read_at}
use Rattle.vb_disk.proofs.Ways.{EachMoment-none}
use Rattle.vb_head.specs.declared.head.Head.{Head}
use Rattle.vb_head.specs.Heads.{count_of}
use Rattle.vb_index.specs.Indexes.{IndexState}
use Rattle.vb_inode.specs.declared.node.Node.{Node}
use Rattle.vb_journal.specs.declared.recover.Ahead.{Ahead}
use Rattle.vb_journal.specs.declared.recover_error.RecoverError.{RecoverError}
use Rattle.vb_journal.specs.Images.{slot_of}
use Rattle.vb_journal.specs.Outcomes.{reads_of}
use Rattle.vb_journal.specs.Notes.{AreJournalSlots, HasNotedAt, IsNoted, journal_slots}
use Rattle.vb_journal.specs.declared.recover_stage.RecoverStage.{RecoverStage}
use Rattle.vb_journal.specs.declared.recover_stage.RecoverStage.TheVariants.{Ask, Settle, ReadFirst, ReadSecond, Mend, SettleMend, ReadImage, Replay, Ready as RecoveryReady, Refused as RecoveryRefused}
use Rattle.vb_journal.specs.RecoveryCalls.{recovery_calls_left}
use Rattle.vb_journal.specs.Recovers.{ready_head}
use Rattle.vb_store.specs.LentImages.{fault_of_image}
use Rattle.vb_journal.specs.Recoveries.{choice_of, journal_of, journal_place, settled_head}
use Rattle.vb_journal.specs.Recovering.{IsRecovered, IsRecovering, RecoverCall, nodes_of}
use Rattle.vb_journal.specs.Shown.{pages_from}
use Rattle.vb_journal.proofs.JournalReads.{length-pages_from}
use Rattle.vb_store.specs.declared.mount_parts.Homes.{Homes}
use Rattle.vb_store.specs.declared.mount_parts.Whole.{Whole}
use Rattle.vb_store.specs.declared.mount_phase.MountPhase.{MountPhase}
use Rattle.vb_store.specs.declared.mount_phase.ReadyView.{ReadyView}
use Rattle.vb_store.specs.declared.mount_phase.MountPhase.TheVariants.{Recovering, Reading, Ready}
use Rattle.vb_store.specs.declared.mount_stage.MountStage.{MountStage}
use Rattle.vb_store.specs.declared.mount_stage.MountStage.TheVariants.{ReadHome, ReadMap, Finish, Refused}
use Rattle.vb_store.specs.Clear.{IsClear}
use Rattle.vb_store.specs.Metadata.{Metadata, images_fault, journal_fault}
use Rattle.vb_store.specs.MountLists.{places_due, places_of_homes}
use Rattle.vb_store.specs.MountMoves.{AreLikeHomes, IsStageLike}
use Rattle.vb_store.specs.Mounts.{AreSoundTo, EachCrashLeaves, IsMounted, IsMounting, IsReading, Leaves, MountsTo, WasRecoveredAt, place_reads, store_places_by, store_reads}
use Rattle.vb_store.specs.MountStages.{rest_of_homes, rest_on}
use Rattle.vb_store.specs.Readings.{Closes, IsClosed, IsLikeWhole, ReadsOn}
use Rattle.vb_store.specs.RecoveredStores.{IsSoundlyRecovered, metadata_on}
use Rattle.vb_store.specs.Views.{ViewState}
use Rattle.vb_store.proofs.CrashesOfMounts.{has_metadata}
use Rattle.vb_store.proofs.HomesTold.{homes-told, nodes-told}
use Rattle.vb_store.proofs.MountCrashes.{clear-recovered, clear-refused, leaves-recovered}

-- ---- where the reads begin

-- all images of the journal are sound, once as many are as the head counts in
journal_sound : (begun : DiskState) (chosen : Head) (slots : List ℕ) → choice_of begun.size (reads_of begun) ≡ Ok chosen → slots ≡ journal_slots (reads_of begun) chosen → AreSoundTo begun (length slots) → journal_fault (reads_of begun) chosen ≡ None
journal_sound begun chosen slots counts are sound =
    let reads : ℕ → List ℕ = reads_of begun in
    let place : ℕ = journal_place chosen in
    let count : length slots ≡ count_of chosen.state = ap length are ∙ length-map (journal_of reads chosen) slot_of ∙ length-pages_from reads place (count_of chosen.state) in
    ap (λ (n : ℕ). images_fault chosen.nodes place [] (pages_from reads place n)) (sym count) ∙ sound chosen counts

-- what homes that weren't read yet have to be
pub record AreFirst (h : Homes) (head : Head) (place : ℕ) (slots : List ℕ) : Type 0 where
  pub head_is : h.head ≡ head
  pub place_is : h.place ≡ place
  pub slots_are : h.slots.items ≡ slots
  pub none : h.nodes ≡ []

-- nothing is taken from all homes
all_left : (n : ℕ) → n ≡ n - length {A = Node} []
all_left n = omega arith

-- the homes are read of a store whose journal was recovered
reading-begins : (begun next : DiskState) (h : Homes) (head : Head) (place : ℕ) (slots : List ℕ) → IsDiskState begun → AreFirst h head place slots → (is : IsRecovered begun head next) → IsNoted begun place slots → journal_fault (reads_of begun) is.chosen ≡ None → IsReading (ReadHome h) begun next
reading-begins begun next h head place slots is_disk first is noted sound =
    let soundly : IsSoundlyRecovered begun head next = record { recovered = is; sound = sound } in
    let reads : ℕ → List ℕ = reads_of next in
    let are = noted.slots_are is.chosen is.counts in
    record {
      is = is_disk;
      recovered = record { head = head; recovered = is };
      rest = homes-told begun next head soundly
          ∙ ap (λ (p : ℕ). rest_of_homes reads head p (journal_slots (reads_of begun) is.chosen) head.nodes []) (sym (first.place_is ∙ noted.place_is))
          ∙ ap (λ (s : List ℕ). rest_of_homes reads head h.place s head.nodes []) (sym (first.slots_are ∙ are))
          ∙ ap (λ (x : Head). rest_of_homes reads x h.place h.slots.items x.nodes []) (sym first.head_is)
          ∙ ap (λ (n : ℕ). rest_of_homes reads h.head h.place h.slots.items n []) (all_left h.head.nodes)
          ∙ ap (λ (l : List Node). rest_of_homes reads h.head h.place h.slots.items (h.head.nodes - length l) l) (sym first.none);
    }

-- and the reads are those that are left of the mount
reads-begin : (begun next : DiskState) (h : Homes) (head : Head) (place : ℕ) (slots : List ℕ) → AreFirst h head place slots → (is : IsRecovered begun head next) → IsNoted begun place slots → place_reads (places_due (λ p. read_at next p) (ReadHome h)) ≡ store_reads begun
reads-begin begun next h head place slots first is noted =
    let old : ℕ → List ℕ = reads_of begun in
    let reads : ℕ → List ℕ = reads_of next in
    let are = noted.slots_are is.chosen is.counts in
    let counts : store_reads begun ≡ place_reads (store_places_by old (Ok is.chosen)) = ap (λ (r : Result Head RecoverError). place_reads (store_places_by old r)) is.counts in
    let told : places_of_homes reads head (journal_slots old is.chosen) head.nodes [] ≡ store_places_by old (Ok is.chosen) = nodes-told begun next head is in
    ap place_reads (
    ap (λ (l : List Node). places_of_homes reads h.head h.slots.items (h.head.nodes - length l) l) first.none
    ∙ ap (λ (n : ℕ). places_of_homes reads h.head h.slots.items n []) (sym (all_left h.head.nodes))
    ∙ ap (λ (x : Head). places_of_homes reads x h.slots.items x.nodes []) first.head_is
    ∙ ap (λ (s : List ℕ). places_of_homes reads head s head.nodes []) (first.slots_are ∙ are)
    ∙ told)
    ∙ sym counts

-- ---- the end of the recovery

-- what is known where the recovery has a head
record HasReady (stage : RecoverStage) (begun next : DiskState) (head : Head) : Type 0 where
  pub recovered : IsRecovered begun head next
  pub none_left : recovery_calls_left stage begun ≡ []

has_ready : (stage : RecoverStage) (begun next : DiskState) (head : Head) → ready_head stage ≡ Some head → IsRecovering stage begun next → HasReady stage begun next head
has_ready Ask begun next head ready known = absurd (cc ready)
has_ready (Settle size) begun next head ready known = absurd (cc ready)
has_ready (ReadFirst size) begun next head ready known = absurd (cc ready)
has_ready (ReadSecond first) begun next head ready known = absurd (cc ready)
has_ready (Mend mending) begun next head ready known = absurd (cc ready)
has_ready (SettleMend mending) begun next head ready known = absurd (cc ready)
has_ready (ReadImage journal) begun next head ready known = absurd (cc ready)
has_ready (Replay replay) begun next head ready known = absurd (cc ready)
has_ready (RecoveryReady r) begun next head ready known =
    let same : r.head ≡ head = cc ready in
    record { recovered = subst (λ (h : Head). IsRecovered begun h next) same known; none_left = refl }
has_ready (RecoveryRefused refusal) begun next head ready known = absurd (cc ready)

-- no image is at fault where the recovery has a head
pub ready-fault : (stage : RecoverStage) (head : Head) (lent : Option (List ℕ)) (count : ℕ) → ready_head stage ≡ Some head → fault_of_image lent (nodes_of stage) count ≡ None
ready-fault Ask head lent count ready = absurd (cc ready)
ready-fault (Settle size) head lent count ready = absurd (cc ready)
ready-fault (ReadFirst size) head lent count ready = absurd (cc ready)
ready-fault (ReadSecond first) head lent count ready = absurd (cc ready)
ready-fault (Mend mending) head lent count ready = absurd (cc ready)
ready-fault (SettleMend mending) head lent count ready = absurd (cc ready)
ready-fault (ReadImage journal) head lent count ready = absurd (cc ready)
ready-fault (Replay replay) head lent count ready = absurd (cc ready)
ready-fault (RecoveryReady r) head None count ready = refl
ready-fault (RecoveryReady r) head (Some image) count ready = refl
ready-fault (RecoveryRefused refusal) head lent count ready = absurd (cc ready)

-- the slots that are noted where the recovery has a head
ready_slots : (stage : RecoverStage) (head : Head) (place : ℕ) (slots : List ℕ) (begun : DiskState) → ready_head stage ≡ Some head → HasNotedAt stage place slots begun → AreJournalSlots begun slots
ready_slots Ask head place slots begun ready noted = absurd (cc ready)
ready_slots (Settle size) head place slots begun ready noted = absurd (cc ready)
ready_slots (ReadFirst size) head place slots begun ready noted = absurd (cc ready)
ready_slots (ReadSecond first) head place slots begun ready noted = absurd (cc ready)
ready_slots (Mend mending) head place slots begun ready noted = absurd (cc ready)
ready_slots (SettleMend mending) head place slots begun ready noted = absurd (cc ready)
ready_slots (ReadImage journal) head place slots begun ready noted = absurd (cc ready)
ready_slots (Replay replay) head place slots begun ready noted = absurd (cc ready)
ready_slots (RecoveryReady r) head place slots begun ready noted = noted.slots_are
ready_slots (RecoveryRefused refusal) head place slots begun ready noted = absurd (cc ready)

-- the recovery has a head, and the homes are to be read
pub begins-known : (stage : RecoverStage) (begun next : DiskState) (h : Homes) (head : Head) (place at : ℕ) (slots noted : List ℕ) → IsDiskState begun → AreFirst h head place slots → ready_head stage ≡ Some head → IsRecovering stage begun next → IsNoted begun place slots → HasNotedAt stage at noted begun → AreSoundTo begun (length noted) → IsReading (ReadHome h) begun next
begins-known stage begun next h head place at slots noted is_disk first ready known are has sound =
    let is = (has_ready stage begun next head ready known).recovered in
    reading-begins begun next h head place slots is_disk first is are
    (journal_sound begun is.chosen noted is.counts (ready_slots stage head at noted begun ready has is.chosen is.counts) sound)

-- whose places are all that is left
pub begins-list : (stage : RecoverStage) (begun next : DiskState) (h : Homes) (head : Head) (place : ℕ) (slots : List ℕ) → AreFirst h head place slots → ready_head stage ≡ Some head → IsRecovering stage begun next → IsNoted begun place slots → place_reads (places_due (λ p. read_at next p) (ReadHome h)) ≡ recovery_calls_left stage begun ++ store_reads begun
begins-list stage begun next h head place slots first ready known are =
    let has = has_ready stage begun next head ready known in
    reads-begin begun next h head place slots first has.recovered are
    ∙ ap (λ (l : List RecoverCall). l ++ store_reads begun) (sym has.none_left)

-- ---- what the reads leave

-- the metadata of a head and an index
abbrev metadata_of_parts : Head → IndexState → Result Metadata RecoverError
metadata_of_parts head index = Ok (record { head = head; held = index.nodes })

abbrev whole_metadata : Whole → Result Metadata RecoverError
whole_metadata w = metadata_of_parts w.head w.index

-- the head of the metadata is the one that the recovery left
mounted_head : (begun d : DiskState) (head : Head) (m : Metadata) → metadata_on begun ≡ Ok m → IsRecovered begun head d → head ≡ m.head
mounted_head begun d head m there is =
    let has = has_metadata begun.size (reads_of begun) m there in
    let same : (let r : Result Head RecoverError = Ok is.chosen in r ≡ Ok has.head) = sym is.counts ∙ has.counts in
    let chosen : is.chosen ≡ has.head = cc same in
    sym is.settles ∙ ap settled_head chosen ∙ ap (λ (x : Metadata). x.head) has.made

-- what is left of the answer of one whole is that of a like one
whole-same : (w v : Whole) → (v.head ≡ w.head) × (v.index ≡ w.index) × (v.place ≡ w.place) → whole_metadata w ≡ whole_metadata v
whole-same w v like =
    ap (λ (h : Head). metadata_of_parts h w.index) (sym like.0) ∙ ap (metadata_of_parts v.head) (sym like.1)

view-same : (w : Whole) (view : ViewState) → view.head ≡ w.head → view.index ≡ w.index → whole_metadata w ≡ metadata_of_parts view.head view.index
view-same w view head index =
    ap (λ (h : Head). metadata_of_parts h w.index) (sym head) ∙ ap (metadata_of_parts view.head) (sym index)

-- the recovery was made before each read
recovered_still : (stage after : MountStage) (begun d : DiskState) (answer : Result (Unit {0}) RecoverError) → ReadsOn (λ p. read_at d p) stage after answer → WasRecoveredAt stage begun d → WasRecoveredAt after begun d
recovered_still (ReadHome h) (ReadHome x) begun d answer reads was = was
recovered_still (ReadHome h) (ReadMap x) begun d answer reads was = was
recovered_still (ReadHome h) (Finish x) begun d answer reads was = was
recovered_still (ReadHome h) (Refused x) begun d answer reads was = tt
recovered_still (ReadMap m) (ReadHome x) begun d answer reads was = was
recovered_still (ReadMap m) (ReadMap x) begun d answer reads was = was
recovered_still (ReadMap m) (Finish x) begun d answer reads was = was
recovered_still (ReadMap m) (Refused x) begun d answer reads was = tt
recovered_still (Finish w) (ReadHome x) begun d answer reads was = was
recovered_still (Finish w) (ReadMap x) begun d answer reads was = was
recovered_still (Finish w) (Finish x) begun d answer reads was = was
recovered_still (Finish w) (Refused x) begun d answer reads was = tt
recovered_still (Refused r) after begun d answer reads was = subst (λ (s : MountStage). WasRecoveredAt s begun d) (sym reads) tt

-- a stage after a read
still_reading : (stage after : MountStage) (begun d : DiskState) (answer : Result (Unit {0}) RecoverError) → IsReading stage begun d → rest_on d after ≡ rest_on d stage → ReadsOn (λ p. read_at d p) stage after answer → IsReading after begun d
still_reading stage after begun d answer is rest reads = record { is = is.is; recovered = recovered_still stage after begun d answer reads is.recovered; rest = is.rest ∙ sym rest }

like_reading : (w : Whole) (after : MountStage) (begun d : DiskState) → IsLikeWhole w after → IsReading (Finish w) begun d → IsReading after begun d
like_reading w (ReadHome h) begun d like is = absurd like
like_reading w (ReadMap m) begun d like is = absurd like
like_reading w (Finish v) begun d like is = record {
  is = is.is;
  recovered = is.recovered;
  rest = is.rest ∙ whole-same w v like;
}
like_reading w (Refused r) begun d like is = absurd like

-- the store is mounted
now_mounted : (w : Whole) (view : ViewState) (begun d : DiskState) → view.head ≡ w.head → view.index ≡ w.index → IsReading (Finish w) begun d → IsMounted view begun d
now_mounted w view begun d head index is =
    let there : metadata_on begun ≡ Ok (record { head = view.head; held = view.index.nodes }) = is.rest ∙ view-same w view head index in
    record {
      is = is.is;
      metadata = there;
      recovered = subst (λ (h : Head). IsRecovered begun h d) (mounted_head begun d is.recovered.head (record { head = view.head; held = view.index.nodes }) there is.recovered.recovered) is.recovered.recovered;
    }

closed_known : (w : Whole) (phase : MountPhase) (result : Result Ahead RecoverError) (begun d : DiskState) → IsClosed w phase result → IsReading (Finish w) begun d → IsMounting phase begun d
closed_known w (Recovering j) result begun d closed is = absurd closed
closed_known w (Reading stage) result begun d closed is = like_reading w stage begun d closed.0 is
closed_known w (Ready ready) result begun d closed is = now_mounted w ready.view begun d closed.0 closed.1 is

pub known-read : (after : MountStage) (answer : Result (Unit {0}) RecoverError) (phase : MountPhase) (result : Result Ahead RecoverError) (begun d : DiskState) → Closes after answer phase result → IsReading after begun d → IsMounting phase begun d
known-read (ReadHome h) (Ok done) phase result begun d closes is = subst (λ (p : MountPhase). IsMounting p begun d) (sym closes.0) is
known-read (ReadMap m) (Ok done) phase result begun d closes is = subst (λ (p : MountPhase). IsMounting p begun d) (sym closes.0) is
known-read (Finish w) (Ok done) phase result begun d closes is = closed_known w phase result begun d closes is
known-read (Refused r) (Ok done) phase result begun d closes is = subst (λ (p : MountPhase). IsMounting p begun d) (sym closes.0) is
known-read after (Err e) phase result begun d closes is = subst (λ (p : MountPhase). IsMounting p begun d) (sym closes.0) is

-- crashes leave the metadata
reading_leaves : (stage : MountStage) (begun d new : DiskState) → IsReading stage begun d → MayCrashTo d new → Leaves begun new
reading_leaves (ReadHome h) begun d new is crash = leaves-recovered begun d new is.recovered.head is.recovered.recovered crash
reading_leaves (ReadMap m) begun d new is crash = leaves-recovered begun d new is.recovered.head is.recovered.recovered crash
reading_leaves (Finish w) begun d new is crash = leaves-recovered begun d new is.recovered.head is.recovered.recovered crash
reading_leaves (Refused r) begun d new is crash = λ m there. (let clash : (let x : Result Metadata RecoverError = Ok m in x ≡ Err r.error) = sym there ∙ is.rest in absurd (cc clash))

-- and a clear disk clear
reading_clear : (stage : MountStage) (begun d : DiskState) → IsReading stage begun d → IsClear begun → IsClear d
reading_clear (ReadHome h) begun d is clear = clear-recovered begun d is.recovered.head is.is clear is.recovered.recovered
reading_clear (ReadMap m) begun d is clear = clear-recovered begun d is.recovered.head is.is clear is.recovered.recovered
reading_clear (Finish w) begun d is clear = clear-recovered begun d is.recovered.head is.is clear is.recovered.recovered
reading_clear (Refused r) begun d is clear = clear-refused begun r.error clear is.rest

-- a read, after which this is known
pub reading-mounts : (stage after : MountStage) (answer : Result (Unit {0}) RecoverError) (phase : MountPhase) (result : Result Ahead RecoverError) (begun d : DiskState) (new : Option DiskState) → new ≡ Some d → IsReading stage begun d → rest_on d after ≡ rest_on d stage → ReadsOn (λ p. read_at d p) stage after answer → Closes after answer phase result → MountsTo begun (Reading stage) phase d new
reading-mounts stage after answer phase result begun d new told is rest reads closes = record {
  next = d;
  told = told;
  known = known-read after answer phase result begun d closes (still_reading stage after begun d answer is rest reads);
  crashes = EachMoment-none (EachCrashLeaves (Reading stage) begun) d (λ left crash. reading_leaves stage begun d left is crash);
  clear = λ clear. EachMoment-none IsClear d (reading_clear stage begun d is clear);
}

-- a step of a mount at its end
pub ready-mounts : (ready : ReadyView) (begun d : DiskState) (new : Option DiskState) → new ≡ Some d → IsMounted ready.view begun d → MountsTo begun (Ready ready) (Ready ready) d new
ready-mounts ready begun d new told is = record {
  next = d;
  told = told;
  known = is;
  crashes = EachMoment-none (EachCrashLeaves (Ready ready) begun) d (λ left crash. leaves-recovered begun d left ready.view.head is.recovered crash);
  clear = λ clear. EachMoment-none IsClear d (clear-recovered begun d ready.view.head is.is clear is.recovered);
}

-- what is known of a stage is known of a like one
like_homes : (h k : Homes) (begun d : DiskState) → AreLikeHomes h k → IsReading (ReadHome h) begun d → IsReading (ReadHome k) begun d
like_homes h k begun d like is = record {
  is = is.is;
  recovered = is.recovered;
  rest = is.rest
      ∙ ap (λ (x : Head). rest_of_homes (reads_of d) x h.place h.slots.items (x.nodes - length h.nodes) h.nodes) (sym like.head_is)
      ∙ ap (λ (p : ℕ). rest_of_homes (reads_of d) k.head p h.slots.items (k.head.nodes - length h.nodes) h.nodes) (sym like.place_is)
      ∙ ap (λ (l : List ℕ). rest_of_homes (reads_of d) k.head k.place l (k.head.nodes - length h.nodes) h.nodes) (sym like.slots_are)
      ∙ ap (λ (l : List Node). rest_of_homes (reads_of d) k.head k.place k.slots.items (k.head.nodes - length l) l) (sym like.nodes_are);
}

pub like-stage : (stage after : MountStage) (begun d : DiskState) → IsStageLike stage after → IsReading stage begun d → IsReading after begun d
like-stage (ReadHome h) (ReadHome k) begun d like is = like_homes h k begun d like is
like-stage (ReadHome h) (ReadMap m) begun d like is = absurd like
like-stage (ReadHome h) (Finish w) begun d like is = absurd like
like-stage (ReadHome h) (Refused r) begun d like is = absurd like
like-stage (ReadMap m) after begun d like is = subst (λ (s : MountStage). IsReading s begun d) (sym like) is
like-stage (Finish w) after begun d like is = subst (λ (s : MountStage). IsReading s begun d) (sym like) is
like-stage (Refused r) after begun d like is = subst (λ (s : MountStage). IsReading s begun d) (sym like) is

-- a read that failed leaves all
pub stage-mounts : (stage after : MountStage) (begun d : DiskState) (new : Option DiskState) → new ≡ Some d → IsStageLike stage after → IsReading stage begun d → MountsTo begun (Reading stage) (Reading after) d new
stage-mounts stage after begun d new told like is = record {
  next = d;
  told = told;
  known = like-stage stage after begun d like is;
  crashes = EachMoment-none (EachCrashLeaves (Reading stage) begun) d (λ left crash. reading_leaves stage begun d left is crash);
  clear = λ clear. EachMoment-none IsClear d (reading_clear stage begun d is clear);
}
