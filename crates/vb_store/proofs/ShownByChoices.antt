-- What a choice of a disk shows: where its heads are as they are and all else is whole the journal's laws say what is
-- recovered, and what is hurt besides is found.
use Rattle.std.proofs.Common.{◌≡◌, ◌≢◌, ℕ, ◌+◌, ◌<◌, ◌≤◌, Bool, true, false, cond, not, ◌||◌, nat_lt, List, [], ◌∷◌, ◌++◌, Option, Some, None, unwrap_or, Result, Ok, Err, refl, sym, ap, subst, ◌∙◌, ◌⊎◌, inl, inr, arith}
use Rattle.std.specs.List.{Contains}
use Rattle.std.proofs.lemmas.Bool.{cases_lt, lt-ltb}
use Rattle.std.proofs.lemmas.List.Elements.{All-head}
use Rattle.sha2.specs.Sha256.{sha256}
use Rattle.vb_block.specs.Pages.{IsSealed, seal_of, sealed_part}
use Rattle.vb_block.specs.declared.why.Why.TheVariants.{Slot}
use Rattle.vb_disk.specs.declared.cell.Cell.{Cell}
use Rattle.vb_disk.specs.Cells.{candidates, read_of}
use Rattle.vb_disk.specs.Misses.{IsMiss, is_sealed}
use Rattle.vb_disk.specs.States.{DiskState, read_at}
use Rattle.vb_head.specs.declared.head.Head.{Head}
use Rattle.vb_journal.specs.declared.recover_error.RecoverError.{RecoverError}
use Rattle.vb_journal.specs.declared.recover_error.RecoverError.TheVariants.{NotAStore, Damaged, Unfit, Rebuilding, DiskFault, Memory}
use Rattle.vb_journal.specs.Choices.{IsChoiceOf}
use Rattle.vb_journal.specs.Chosen.{IsRefusedAsHurt, RecoversButHurt}
use Rattle.vb_journal.specs.Images.{slot_of}
use Rattle.vb_journal.specs.Outcomes.{IsHurt, reads_of, recovery_on}
use Rattle.vb_journal.specs.Recoveries.{Recovered, choice_of, image_refusal, images_refusal, is_named, journal_of, journal_place, journal_refusal, or_refusal, recovery_of}
use Rattle.vb_journal.specs.Recovering.{newest_of}
use Rattle.vb_journal.specs.Shown.{pages_from}
use Rattle.vb_journal.proofs.SameRecoveries.{choice_of-same, recovery_of-chosen}
use Rattle.vb_journal.proofs.Settled.{read_of-alone}
use Rattle.vb_journal.proofs.Unharmed.{whole_found}
use Rattle.vb_store.specs.declared.map_page.MapPage.{MapPage}
use Rattle.vb_store.specs.Clear.{first_candidates, taken_as, taken_cell}
use Rattle.vb_store.specs.Metadata.{maps_in, metadata_of}
use Rattle.vb_store.specs.OneOf.{DifferWhereHurt, ShowsOrRefuses, TreeView, ViewOf}
use Rattle.vb_store.specs.Recovered.{entries_read, placed_in}
use Rattle.vb_store.specs.RecoveredStores.{metadata_on}
use Rattle.vb_store.specs.Sameness.{IsSameStore}
use Rattle.vb_store.specs.Views.{data_start}
use Rattle.vb_store.proofs.CrashesOfMounts.{has_metadata, maps-in_data}
use Rattle.vb_store.proofs.HurtReads.{metadata-hurt}
use Rattle.vb_store.proofs.OneOfThem.{all_both}
use Rattle.vb_store.proofs.RecoveryRefusals.{from_refused}
use Rattle.vb_store.proofs.SameStores.{metadata-same}
use Rattle.vb_store.proofs.SoundImages.{metadata-refused}

-- ---- one place

-- what reads of a place give that is taken as whole
pub read_whole : (whole : Bool) (cell : Cell) → whole ≡ true → cell.later ≡ [] → read_of (taken_cell whole cell) ≡ cell.first
read_whole true cell is alone = read_of-alone (taken_cell true cell) alone
read_whole false cell is alone = absurd (cc is)

pub whole_unhurt : (whole : Bool) (cell : Cell) → whole ≡ true → (taken_cell whole cell).hurt ≡ None
whole_unhurt true cell is = refl
whole_unhurt false cell is = absurd (cc is)

-- what is hurt though it may be taken as whole is hurt
hurt_taken : (whole : Bool) (cell : Cell) (bytes : List ℕ) → (taken_cell whole cell).hurt ≡ Some bytes → cell.hurt ≡ Some bytes
hurt_taken true cell bytes is = absurd (cc is)
hurt_taken false cell bytes is = is

-- a place reads as when it is taken as whole, or it is hurt
pub record ReadsHurt (whole : Bool) (cell : Cell) : Type 0 where
  pub bytes : List ℕ
  pub hurt : cell.hurt ≡ Some bytes
  pub unsealed : ¬ IsSealed (read_of cell)
  pub unlike : sha256 (read_of (taken_cell whole cell)) ≢ sha256 (read_of cell)

pub taken_or_hurt : (whole : Bool) (cell : Cell) → cell.later ≡ [] → ((bytes : List ℕ) → cell.hurt ≡ Some bytes → IsMiss cell bytes) → (read_of cell ≡ read_of (taken_cell whole cell)) ⊎ ReadsHurt whole cell
taken_or_hurt false cell alone misses = inl refl
taken_or_hurt true cell alone misses = by_hurt cell.hurt refl
  where
    by_hurt : (hurt : Option (List ℕ)) → cell.hurt ≡ hurt → (read_of cell ≡ read_of (taken_cell true cell)) ⊎ ReadsHurt true cell
    by_hurt None none = inl (ap (λ (o : Option (List ℕ)). unwrap_or o (newest_of cell)) none)
    by_hurt (Some bytes) hurt =
        let miss = misses bytes hurt in
        let read : read_of cell ≡ bytes = ap (λ (o : Option (List ℕ)). unwrap_or o (newest_of cell)) hurt in
        let first : read_of (taken_cell true cell) ≡ cell.first = read_of-alone (taken_cell true cell) alone in
        inr (record {
          bytes = bytes;
          hurt = hurt;
          unsealed = λ sealed. miss.unsealed (subst IsSealed read sealed);
          unlike = λ same. All-head (λ (candidate : List ℕ). sha256 candidate ≢ sha256 bytes) cell.first cell.later miss.unlike (ap sha256 (sym first) ∙ same ∙ ap sha256 read);
        })

-- what reads otherwise than when it is taken as whole is hurt
hurt_if_unlike : (whole : Bool) (cell : Cell) → (read_of cell ≡ read_of (taken_cell whole cell)) ⊎ ReadsHurt whole cell → sha256 (read_of (taken_cell whole cell)) ≢ sha256 (read_of cell) → (bytes : List ℕ) × (cell.hurt ≡ Some bytes)
hurt_if_unlike whole cell (inl same) unlike = absurd (unlike (ap sha256 (sym same)))
hurt_if_unlike whole cell (inr reads) unlike = (reads.bytes, reads.hurt)

-- ---- a choice with its heads as they are and all else whole

-- all places but those of the heads
abbrev pub below_heads : ℕ → Bool
below_heads place = nat_lt 1 place

abbrev pub whole_below : DiskState → DiskState
whole_below d = taken_as below_heads d

pub below_is : (place : ℕ) → 2 ≤ place → below_heads place ≡ true
below_is place past = lt-ltb 1 place (omega arith)

each_read : (new d : DiskState) → IsChoiceOf new d → (place : ℕ) → (read_at new place ≡ read_at (whole_below new) place) ⊎ ReadsHurt (below_heads place) (new.cells place)
each_read new d is place = taken_or_hurt (below_heads place) (new.cells place) (is.each place).alone (is.disk.hurt_are_misses place)

differ_below : (new d : DiskState) → IsChoiceOf new d → DifferWhereHurt (reads_of (whole_below new)) (reads_of new)
differ_below new d is = record {
  first = refl;
  second = refl;
  each = λ place. elim (each_read new d is place) [
    | inl same ↦ inl same
    | inr hurt ↦ inr (record { unsealed = hurt.unsealed; unlike = hurt.unlike })
  ];
}

-- ---- what is shown

-- where the heads are as they are and all else is whole the metadata are those of the view
metadata_below : (d new : DiskState) (view : TreeView) (head : Head) (images : ℕ → List ℕ) → ViewOf d view head images → IsChoiceOf new d → RecoversButHurt (whole_below new) head images → metadata_of d.size (reads_of (whole_below new)) ≡ Ok view.metadata
metadata_below d new view head images v is recovers =
    let w : DiskState = whole_below new in
    let wholly : recovery_on w ≡ Ok (record { head = head; images = pages_from images 0 head.nodes }) =
    whole_found w w head images (λ slot within. whole_unhurt (below_heads (2 + slot)) (new.cells (2 + slot)) (below_is (2 + slot) (omega arith))) recovers in
    let has = has_metadata d.size v.reads view.metadata v.metadata in
    let store : IsSameStore d.size view.metadata v.reads (reads_of w) = record {
      recovery = ap (λ (n : ℕ). recovery_of n (reads_of w)) (sym is.size) ∙ wholly ∙ sym v.recovery;
      maps = all_both (λ (map : MapPage). data_start has.head ≤ map.reference.place)
          (λ (map : MapPage). (page : List ℕ) → Contains (candidates (d.cells map.reference.place)) page → page ≡ v.reads map.reference.place)
          (λ (map : MapPage). reads_of w map.reference.place ≡ v.reads map.reference.place)
          (λ map inside alone.
          let place : ℕ = map.reference.place in
          read_whole (below_heads place) (new.cells place) (below_is place (omega (arith, inside))) (is.each place).alone ∙ alone (new.cells place).first (is.each place).picked)
          (maps_in view.metadata.held) (maps-in_data d.size v.reads view.metadata has) v.maps;
    } in
    metadata-same d.size view.metadata v.reads (reads_of w) v.metadata store

-- so it shows that view, or what is hurt besides is found
pub shows-below : (views : List TreeView) (made : Bool) (d new : DiskState) (view : TreeView) → Contains views view → IsChoiceOf new d → metadata_of d.size (reads_of (whole_below new)) ≡ Ok view.metadata → entries_read (first_candidates new) (placed_in view.metadata.held) ≡ Ok view.tree → ShowsOrRefuses views made new
shows-below views made d new view listed is metadata pages =
    let own : metadata_on new ≡ metadata_of d.size (reads_of new) = ap (λ (n : ℕ). metadata_of n (reads_of new)) is.size in
    elim (metadata-hurt d.size view.metadata (reads_of (whole_below new)) (reads_of new) metadata (differ_below new d is)) [
      | inl same ↦ inl (record { view = view; listed = listed; metadata = own ∙ same; pages = pages })
      | inr found ↦ inr (inl (record {
        place = found.place;
        kept = found.kept;
        found = found.found;
        is = own ∙ found.is;
        hurt = hurt_if_unlike (below_heads found.place) (new.cells found.place) (each_read new d is found.place) found.hurt.unlike;
      }))
    ]

pub shows-view : (views : List TreeView) (made : Bool) (d new : DiskState) (view : TreeView) (head : Head) (images : ℕ → List ℕ) → Contains views view → ViewOf d view head images → IsChoiceOf new d → RecoversButHurt (whole_below new) head images → ShowsOrRefuses views made new
shows-view views made d new view head images listed v is recovers =
    shows-below views made d new view listed is (metadata_below d new view head images v is recovers) (v.pages (first_candidates new) (λ place. (is.each place).picked))

-- ---- what is refused

-- an image is refused as damaged at its place or later, and never as no store
abbrev IsOfImages : ℕ → RecoverError → Type 0
IsOfImages place (NotAStore at) = ⊥
IsOfImages place (Damaged at kept found) = place ≤ at
IsOfImages place (Unfit at why) = Unit {0}
IsOfImages place Rebuilding = Unit {0}
IsOfImages place DiskFault = Unit {0}
IsOfImages place Memory = Unit {0}

images_later : (place : ℕ) (e : RecoverError) → IsOfImages (place + 1) e → IsOfImages place e
images_later place (NotAStore at) is = is
images_later place (Damaged at kept found) is = omega (arith, is)
images_later place (Unfit at why) is = tt
images_later place Rebuilding is = tt
images_later place DiskFault is = tt
images_later place Memory is = tt

by_tests : (sealed off : Bool) (place : ℕ) (kept found : List ℕ) (e : RecoverError) → cond (not sealed) (Some (Damaged place kept found)) (cond off (Some (Unfit place Slot)) None) ≡ Some e → IsOfImages place e
by_tests false off place kept found e is = let same : Damaged place kept found ≡ e = cc is in subst (IsOfImages place) same (omega arith)
by_tests true true place kept found e is = let same : Unfit place Slot ≡ e = cc is in subst (IsOfImages place) same tt
by_tests true false place kept found e is = absurd (cc is)

by_first : (P : RecoverError → Type 0) (o rest : Option RecoverError) (e : RecoverError) → ((f : RecoverError) → o ≡ Some f → P f) → ((f : RecoverError) → rest ≡ Some f → P f) → or_refusal o rest ≡ Some e → P e
by_first P None rest e first then is = then e is
by_first P (Some f) rest e first then is = first e is

of_images : (nodes place : ℕ) (before images : List (List ℕ)) (e : RecoverError) → images_refusal nodes place before images ≡ Some e → IsOfImages place e
of_images nodes place before [] e is = absurd (cc is)
of_images nodes place before (image ∷ images) e is =
    by_first (IsOfImages place) (image_refusal nodes place before image) (images_refusal nodes (place + 1) (before ++ image ∷ []) images) e
    (λ f. by_tests (is_sealed image) (not (nat_lt (slot_of image) nodes) || is_named before (slot_of image)) place (seal_of image) (sha256 (sealed_part image)) f)
    (λ f later. images_later place f (of_images nodes (place + 1) (before ++ image ∷ []) images f later)) is

-- a refusal that can't be one of an image is one of the heads
by_choice : (size : ℕ) (reads : ℕ → List ℕ) (e : RecoverError) (choice : Result Head RecoverError) → choice_of size reads ≡ choice → recovery_of size reads ≡ Err e → (¬ IsOfImages 2 e) → choice_of size reads ≡ Err e
by_choice size reads e (Err f) is refused other =
    let same : (let r : Result Recovered RecoverError = Err f in r ≡ Err e) = sym (recovery_of-chosen size reads (Err f) is) ∙ refused in
    let error : f ≡ e = cc same in
    is ∙ ap (λ (x : RecoverError). let r : Result Head RecoverError = Err x in r) error
by_choice size reads e (Ok head) is refused other =
    let said : journal_refusal reads head ≡ Some e = from_refused reads head (journal_refusal reads head) e (sym (recovery_of-chosen size reads (Ok head) is) ∙ refused) in
    absurd (other (earlier head.nodes e (of_images head.nodes (journal_place head) [] (journal_of reads head) e said)))
  where
    earlier : (nodes : ℕ) (f : RecoverError) → IsOfImages (2 + nodes) f → IsOfImages 2 f
    earlier nodes (NotAStore at) later = later
    earlier nodes (Damaged at kept found) later = omega (arith, later)
    earlier nodes (Unfit at why) later = tt
    earlier nodes Rebuilding later = tt
    earlier nodes DiskFault later = tt
    earlier nodes Memory later = tt

-- a refusal by the heads alone is one of the choice too
refused_too : (new : DiskState) (e : RecoverError) → recovery_on (whole_below new) ≡ Err e → (¬ IsOfImages 2 e) → metadata_on new ≡ Err e
refused_too new e refused other =
    let w : DiskState = whole_below new in
    let choice = by_choice w.size (reads_of w) e (choice_of w.size (reads_of w)) refl refused other in
    metadata-refused new.size (reads_of new) e (choice_of-same new.size (reads_of new) (reads_of w) refl refl ∙ choice)

-- what is hurt in it is hurt, and is a head
hurt_head : (new : DiskState) (place : ℕ) → IsHurt (whole_below new) place → IsHurt new place × (place < 2)
hurt_head new place hurt = (
  (hurt.0, hurt_taken (below_heads place) (new.cells place) hurt.0 hurt.1),
  elim (cases_lt place 2) [
    | inl low ↦ low
    | inr past ↦ absurd (let whole = whole_unhurt (below_heads place) (new.cells place) (below_is place past) in let is = hurt.1 in cc)
  ],
)

pub shows-refused : (views : List TreeView) (made : Bool) (new : DiskState) (nodes count : ℕ) → IsRefusedAsHurt nodes count (whole_below new) → ShowsOrRefuses views made new
shows-refused views made new nodes count (inl damaged) =
    let head = hurt_head new damaged.place damaged.hurt in
    inr (inl (record {
      place = damaged.place;
      kept = damaged.kept;
      found = damaged.found;
      is = refused_too new (Damaged damaged.place damaged.kept damaged.found) damaged.is (λ later. absurd (omega (arith, later, head.1)));
      hurt = head.0;
    }))
shows-refused views made new nodes count (inr blank) =
    inr (inr (inl (record {
      is = refused_too new (NotAStore 0) blank.is (λ never. never);
      first = (hurt_head new 0 blank.first).0;
      second = (hurt_head new 1 blank.second).0;
    })))
