-- What crashes leave of a store while it is mounted: the same metadata.
use Rattle.std.proofs.Common.{◌≡◌, ℕ, ◌≤◌, List, [], ◌∷◌, length, get_or, true, None, Result, Ok, Err, refl, sym, ap, subst, ◌∙◌, arith}
use Rattle.std.specs.List.{All}
use Rattle.std.proofs.lemmas.List.Elements.{All-cons, All-nil, All-weaker}
use Rattle.vb_disk.specs.declared.cell.Cell.{Cell}
use Rattle.vb_disk.specs.Cells.{read_of, synced_cell}
use Rattle.vb_disk.specs.Crashes.{MayCrashTo}
use Rattle.vb_disk.specs.States.{DiskState, read_at}
use Rattle.vb_head.specs.declared.head.Head.{Head}
use Rattle.vb_journal.specs.declared.recover_error.RecoverError.{RecoverError}
use Rattle.vb_journal.specs.declared.recover_stage.RecoverStage.{RecoverStage}
use Rattle.vb_journal.specs.declared.recover_stage.RecoverStage.TheVariants.{Ask, Settle, ReadFirst, ReadSecond, Mend, SettleMend, ReadImage, Replay, Ready, Refused}
use Rattle.vb_journal.specs.Commits.{epoch_of, head_of, images_of}
use Rattle.vb_journal.specs.Interruptions.{IsSteadyAt, is_synced}
use Rattle.vb_journal.specs.Outcomes.{reads_of, recovery_on}
use Rattle.vb_journal.specs.Plans.{opened_head}
use Rattle.vb_journal.specs.Recoveries.{Recovered, choice_of, journal_of, journal_place, node_images, recovered_by, recovered_from, recovery_of, settled_head}
use Rattle.vb_journal.specs.Recovering.{IsRecovering}
use Rattle.vb_journal.proofs.Interrupted.{steady}
use Rattle.vb_nodes.specs.Holdings.{index_from}
use Rattle.vb_store.specs.declared.map_page.MapPage.{MapPage}
use Rattle.vb_journal.specs.Notes.{head_place}
use Rattle.vb_store.specs.Metadata.{Mapped, Metadata, after_claim, after_page, and_then, block_of, index_or_refusal, journal_fault, known_below, mapped_from, maps_in, maps_left, metadata_from, metadata_of, no_claims, nodes_left, unless}
use Rattle.vb_store.specs.RecoveredStores.{metadata_on}
use Rattle.vb_store.specs.Sameness.{IsSameStore}
use Rattle.vb_store.specs.Views.{data_start, limits_of}
use Rattle.vb_store.proofs.Chains.{and_then-ok, unless-ok}
use Rattle.vb_store.proofs.ClaimsMade.{after_claim-named, after_page-first}
use Rattle.vb_store.proofs.EmptyStores.{cell_stands}
use Rattle.vb_store.proofs.SameStores.{journal_refusal-none, maps_left-nodes, metadata-same, settled-nodes}

-- ---- what metadata rest on

-- the head that counts, its journal, and what is known below it
pub record HasMetadata (size : ℕ) (reads : ℕ → List ℕ) (m : Metadata) : Type 0 where
  pub head : Head
  pub counts : choice_of size reads ≡ Ok head
  pub sound : journal_fault reads head ≡ None
  pub known : Mapped
  pub below : known_below reads head (head_place reads) (block_of reads head) ≡ Ok known
  pub made : metadata_from head known ≡ m

pub has_metadata : (size : ℕ) (reads : ℕ → List ℕ) (m : Metadata) → metadata_of size reads ≡ Ok m → HasMetadata size reads m
unfolding metadata_of
has_metadata size reads m is =
    let one = and_then-ok (choice_of size reads) (λ head. unless (journal_fault reads head) (and_then (known_below reads head (head_place reads) (block_of reads head)) (λ known. Ok (metadata_from head known)))) m is in
    let two = unless-ok (journal_fault reads one.value) (and_then (known_below reads one.value (head_place reads) (block_of reads one.value)) (λ known. Ok (metadata_from one.value known))) m one.then in
    let three = and_then-ok (known_below reads one.value (head_place reads) (block_of reads one.value)) (λ known. Ok (metadata_from one.value known)) m two.then in
    record { head = one.value; counts = one.is; sound = two.none; known = three.value; below = three.is; made = cc three.then }

-- map pages that were read lie in the data places
maps-inside : (reads : ℕ → List ℕ) (places : ℕ → ℕ) (maps : List MapPage) (known end : Mapped) (first : ℕ) → known.claims.first ≡ first → maps_left reads places maps known ≡ Ok end → All (λ m. first ≤ m.reference.place) maps
maps-inside reads places [] known end first is read = All-nil (λ m. first ≤ m.reference.place)
maps-inside reads places (m ∷ ms) known end first is read =
    let one = and_then-ok (after_claim (places m.slot) m known) (λ claimed. and_then (after_page m (reads m.reference.place) claimed) (maps_left reads places ms)) end read in
    let two = and_then-ok (after_page m (reads m.reference.place) one.value) (maps_left reads places ms) end one.then in
    let named = after_claim-named (places m.slot) m known one.value one.is in
    All-cons (λ x. first ≤ x.reference.place) m ms (omega (arith, named.inside, is))
    (maps-inside reads places ms two.value end first (after_page-first m (reads m.reference.place) one.value two.value two.is ∙ named.first_is ∙ is) two.then)

pub maps-in_data : (size : ℕ) (reads : ℕ → List ℕ) (m : Metadata) (has : HasMetadata size reads m) → All (λ map. data_start has.head ≤ map.reference.place) (maps_in m.held)
maps-in_data size reads m has =
    let head : Head = has.head in
    let places : ℕ → ℕ = λ slot. (block_of reads head slot).place in
    let In : MapPage → Type 0 = λ map. data_start head ≤ map.reference.place in
    let one = and_then-ok (nodes_left head.nodes (block_of reads head) head.nodes []) (λ nodes. and_then (index_or_refusal (head_place reads) places (index_from (limits_of head) nodes)) (mapped_from reads head places)) has.known has.below in
    let two = and_then-ok (index_or_refusal (head_place reads) places (index_from (limits_of head) one.value)) (mapped_from reads head places) has.known one.then in
    let start : Mapped = record { slots = two.value.nodes; claims = no_claims head } in
    let all : All In (maps_in two.value.nodes) = maps-inside reads places (maps_in two.value.nodes) start has.known (data_start head) refl two.then in
    let same : maps_in has.known.slots ≡ maps_in two.value.nodes = maps_left-nodes reads places (maps_in two.value.nodes) start has.known two.then in
    subst (λ (x : Metadata). All In (maps_in x.held)) has.made (subst (λ (l : List MapPage). All In l) (sym same) all)

-- ---- what a crash leaves of the data places

-- a place that was only synced reads the same after a crash
pub crashed-read : (begun d new : DiskState) (place : ℕ) → d.cells place ≡ synced_cell (begun.cells place) → MayCrashTo d new → read_at new place ≡ read_at begun place
crashed-read begun d new place is crash =
    ap read_of (cell_stands (d.cells place) (new.cells place) (ap (λ (c : Cell). c.later) is) (crash.each place)) ∙ ap read_of is

-- the data places below a head were only synced
pub record DataStands (head : Head) (begun d : DiskState) : Type 0 where
  pub size : d.size ≡ begun.size
  pub each : (place : ℕ) → data_start head ≤ place → d.cells place ≡ synced_cell (begun.cells place)

-- such a disk has the same metadata after each crash that leaves it recovering to the same
pub metadata-crashed : (begun d new : DiskState) (m : Metadata) (has : HasMetadata begun.size (reads_of begun) m) → metadata_on begun ≡ Ok m → DataStands has.head begun d → recovery_on new ≡ recovery_on begun → MayCrashTo d new → metadata_on new ≡ Ok m
metadata-crashed begun d new m has is stands recovery crash =
    let size : new.size ≡ begun.size = crash.size ∙ stands.size in
    let same : IsSameStore begun.size m (reads_of begun) (reads_of new) = record {
      recovery = ap (λ (n : ℕ). recovery_of n (reads_of new)) (sym size) ∙ recovery;
      maps = All-weaker (λ map. data_start has.head ≤ map.reference.place) (λ map. reads_of new map.reference.place ≡ reads_of begun map.reference.place)
          (λ map inside. crashed-read begun d new map.reference.place (stands.each map.reference.place inside) crash) (maps_in m.held) (maps-in_data begun.size (reads_of begun) m has);
    } in
    ap (λ (n : ℕ). metadata_of n (reads_of new)) size ∙ metadata-same begun.size m (reads_of begun) (reads_of new) is same

-- ---- at each stage of the recovery

-- a place with one candidate stands when it is synced
pub settled_is : (cell : Cell) → cell.later ≡ [] → cell ≡ synced_cell cell
settled_is cell one =
    let first : cell.first ≡ (synced_cell cell).first = sym (ap (λ (l : List (List ℕ)). get_or (cell.first ∷ l) (length l) cell.first) one) in
    λ i. record { first = first i; later = one i; hurt = cell.hurt }

-- where there are metadata, the journal recovers
pub recovers : (begun : DiskState) (m : Metadata) (has : HasMetadata begun.size (reads_of begun) m) → recovery_on begun ≡ Ok (record { head = settled_head has.head; images = node_images (reads_of begun) has.head })
unfolding recovery_of
recovers begun m has =
    ap (recovered_by (reads_of begun)) has.counts
    ∙ ap (recovered_from (reads_of begun) has.head) (journal_refusal-none has.head.nodes (journal_place has.head) [] (journal_of (reads_of begun) has.head) has.sound)

pub one_head : (a b : Head) (r : Result Head RecoverError) → r ≡ Ok a → r ≡ Ok b → a ≡ b
one_head a b r first second = let same : Ok a ≡ Ok b = sym first ∙ second in cc same

-- no metadata are there where the journal is refused
pub refused_recovery : {A : Type 0} (begun : DiskState) (m : Metadata) (e : RecoverError) → recovery_on begun ≡ Err e → metadata_on begun ≡ Ok m → A
refused_recovery begun m e refused there =
    let has = has_metadata begun.size (reads_of begun) m there in
    let found : Recovered = record { head = settled_head has.head; images = node_images (reads_of begun) has.head } in
    let clash : Ok found ≡ Err e = sym (recovers begun m has) ∙ refused in
    absurd (cc clash)

-- from the first sync on the data places stand but for it
pub stands_synced : (stage : RecoverStage) (begun d : DiskState) (m : Metadata) (has : HasMetadata begun.size (reads_of begun) m) → metadata_on begun ≡ Ok m → is_synced stage ≡ true → IsRecovering stage begun d → DataStands has.head begun d
stands_synced Ask begun d m has there synced is = absurd (cc synced)
stands_synced (Settle size) begun d m has there synced is = absurd (cc synced)
stands_synced (ReadFirst size) begun d m has there synced is = record { size = is.0.size; each = λ p above. is.0.each p (omega arith) }
stands_synced (ReadSecond first) begun d m has there synced is = record { size = is.stands.size; each = λ p above. is.stands.each p (omega arith) }
stands_synced (Mend mending) begun d m has there synced is = record { size = is.stands.size; each = λ p above. is.stands.each p (omega (arith, above)) }
stands_synced (SettleMend mending) begun d m has there synced is = record { size = is.stands.size; each = λ p above. is.stands.each p (omega (arith, above)) }
stands_synced (ReadImage journal) begun d m has there synced is = record { size = is.heads.stands.size; each = λ p above. is.heads.stands.each p (omega (arith, above)) }
stands_synced (Replay replay) begun d m has there synced is =
    let same : has.head ≡ opened_head (head_of replay.commit) (epoch_of replay.commit) (images_of replay.commit) = one_head has.head (opened_head (head_of replay.commit) (epoch_of replay.commit) (images_of replay.commit)) (choice_of begun.size (reads_of begun)) has.counts is.counts in
    let nodes : has.head.nodes ≡ (head_of replay.commit).nodes = ap (λ (h : Head). h.nodes) same in
    record { size = is.whole.size; each = λ p above. is.whole.others_stand p (omega (arith, above, nodes)) }
stands_synced (Ready ready) begun d m has there synced is =
    let same : has.head ≡ is.chosen = one_head has.head is.chosen (choice_of begun.size (reads_of begun)) has.counts is.counts in
    let nodes : ready.head.nodes ≡ has.head.nodes = ap (λ (h : Head). h.nodes) (sym is.settles) ∙ settled-nodes is.chosen is.chosen.state ∙ ap (λ (h : Head). h.nodes) (sym same) in
    record { size = is.size; each = λ p above. is.others_stand p (omega (arith, above, nodes)) }
stands_synced (Refused refusal) begun d m has there synced is = refused_recovery begun m refusal.error is.recovery there

-- and before it where each place had one candidate
stands_at : (stage : RecoverStage) (begun d : DiskState) (m : Metadata) (has : HasMetadata begun.size (reads_of begun) m) → metadata_on begun ≡ Ok m → IsRecovering stage begun d → IsSteadyAt stage begun → DataStands has.head begun d
stands_at Ask begun d m has there is going = record { size = ap (λ (x : DiskState). x.size) is; each = λ p above. ap (λ (x : DiskState). x.cells p) is ∙ settled_is (begun.cells p) (going p) }
stands_at (Settle size) begun d m has there is going = record { size = ap (λ (x : DiskState). x.size) is.0; each = λ p above. ap (λ (x : DiskState). x.cells p) is.0 ∙ settled_is (begun.cells p) (going p) }
stands_at (ReadFirst size) begun d m has there is going = stands_synced (ReadFirst size) begun d m has there refl is
stands_at (ReadSecond first) begun d m has there is going = stands_synced (ReadSecond first) begun d m has there refl is
stands_at (Mend mending) begun d m has there is going = stands_synced (Mend mending) begun d m has there refl is
stands_at (SettleMend mending) begun d m has there is going = stands_synced (SettleMend mending) begun d m has there refl is
stands_at (ReadImage journal) begun d m has there is going = stands_synced (ReadImage journal) begun d m has there refl is
stands_at (Replay replay) begun d m has there is going = stands_synced (Replay replay) begun d m has there refl is
stands_at (Ready ready) begun d m has there is going = stands_synced (Ready ready) begun d m has there refl is
stands_at (Refused refusal) begun d m has there is going = stands_synced (Refused refusal) begun d m has there refl is

-- each crash at a stage leaves the metadata that there were when the recovery began
pub metadata-recovering : (stage : RecoverStage) (begun d new : DiskState) (m : Metadata) → IsRecovering stage begun d → IsSteadyAt stage begun → MayCrashTo d new → metadata_on begun ≡ Ok m → metadata_on new ≡ Ok m
metadata-recovering stage begun d new m is going crash there =
    let has = has_metadata begun.size (reads_of begun) m there in
    metadata-crashed begun d new m has there (stands_at stage begun d m has there is going) (steady stage begun d new is going crash) crash
