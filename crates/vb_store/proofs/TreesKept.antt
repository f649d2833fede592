-- A disk that recovers as another one, with the same data, has the same tree.
use Rattle.std.proofs.Common.{◌≡◌, ℕ, ◌≤◌, List, Option, Some, None, Result, Ok, Err, refl, sym, ap, ◌∙◌}
use Rattle.std.specs.List.{All}
use Rattle.std.proofs.lemmas.List.Elements.{All-weaker}
use Rattle.vb_block.specs.declared.digest.Ref.{Ref}
use Rattle.vb_disk.specs.States.{DiskState, read_at}
use Rattle.vb_head.specs.declared.head.Head.{Head}
use Rattle.vb_index.specs.declared.held.Held.{Held}
use Rattle.vb_journal.specs.declared.recover_error.RecoverError.{RecoverError}
use Rattle.vb_journal.specs.Outcomes.{reads_of, recovery_on}
use Rattle.vb_journal.specs.Recoveries.{choice_of, recovery_of}
use Rattle.vb_tree.specs.declared.tree.TreeEntry.{TreeEntry}
use Rattle.vb_store.specs.declared.map_page.MapPage.{MapPage}
use Rattle.vb_store.specs.Clear.{RecoversTree}
use Rattle.vb_store.specs.Metadata.{Metadata, maps_in, metadata_of}
use Rattle.vb_store.specs.Recovered.{Recovers, recovered, recovered_from}
use Rattle.vb_store.specs.Sameness.{HasSamePages, IsSameStore}
use Rattle.vb_store.specs.Views.{data_start}
use Rattle.vb_store.specs.RecoveredStores.{metadata_on, recovered_on}
use Rattle.vb_store.proofs.CrashesOfMounts.{HasMetadata, has_metadata, maps-in_data}
use Rattle.vb_store.proofs.SameStores.{metadata-same}
use Rattle.vb_store.proofs.ReferencesInside.{NamesFrom, references-inside}
use Rattle.vb_store.proofs.SameTrees.{recovered-same}

-- the journal recovers to the same, and each data place reads the same
pub record HasSameData (old new : DiskState) : Type 0 where
  pub size : new.size ≡ old.size
  pub recovery : recovery_on new ≡ recovery_on old
  pub data_places : (head : Head) → choice_of old.size (reads_of old) ≡ Ok head → (place : ℕ) → data_start head ≤ place → read_at new place ≡ read_at old place

-- metadata that a tree was recovered from
pub record IsFrom (r : Result Metadata RecoverError) : Type 0 where
  pub metadata : Metadata
  pub is : r ≡ Ok metadata

metadata_by : (reads : ℕ → List ℕ) (r : Result Metadata RecoverError) (epoch : ℕ) (tree : List TreeEntry) → recovered_from reads r ≡ Recovers epoch tree → IsFrom r
metadata_by reads (Ok m) epoch tree is = record { metadata = m; is = refl }
metadata_by reads (Err error) epoch tree is = absurd (cc is)

pub metadata_of_tree : (size : ℕ) (reads : ℕ → List ℕ) (epoch : ℕ) (tree : List TreeEntry) → recovered size reads ≡ Recovers epoch tree → IsFrom (metadata_of size reads)
unfolding recovered
metadata_of_tree size reads epoch tree is = metadata_by reads (metadata_of size reads) epoch tree is

pub pages_kept : (start : ℕ) (old new : ℕ → List ℕ) → ((place : ℕ) → start ≤ place → new place ≡ old place) → (o : Option Held) → NamesFrom start o → HasSamePages old new o
pages_kept start old new same None from = tt
pages_kept start old new same (Some held) from = All-weaker (λ (r : Ref). start ≤ r.place) (λ (r : Ref). new r.place ≡ old r.place) (λ r inside. same r.place inside) held.refs from

-- the same recovery with the same data places has the same metadata and the same tree
pub store-kept : (size : ℕ) (old : ℕ → List ℕ) (new : DiskState) (m : Metadata) (has : HasMetadata size old m) → metadata_of size old ≡ Ok m → new.size ≡ size → recovery_on new ≡ recovery_of size old → ((place : ℕ) → data_start has.head ≤ place → read_at new place ≡ old place) → (metadata_on new ≡ Ok m) × (recovered_on new ≡ recovered size old)
store-kept size old new m has there same_size recovery at =
    let start : ℕ = data_start has.head in
    let store : IsSameStore size m old (reads_of new) = record {
      recovery = ap (λ (n : ℕ). recovery_of n (reads_of new)) (sym same_size) ∙ recovery;
      maps = All-weaker (λ (map : MapPage). start ≤ map.reference.place) (λ (map : MapPage). reads_of new map.reference.place ≡ old map.reference.place)
          (λ map inside. at map.reference.place inside) (maps_in m.held) (maps-in_data size old m has);
    } in
    let pages : All (HasSamePages old (reads_of new)) m.held =
    All-weaker (NamesFrom start) (HasSamePages old (reads_of new)) (pages_kept start old (reads_of new) at) m.held (references-inside size old m has) in (
      ap (λ (n : ℕ). metadata_of n (reads_of new)) same_size ∙ metadata-same size m old (reads_of new) there store,
      ap (λ (n : ℕ). recovered n (reads_of new)) same_size ∙ recovered-same size m old (reads_of new) there store pages,
    )

pub tree-kept : (old new : DiskState) → HasSameData old new → RecoversTree old → RecoversTree new
tree-kept old new same has =
    let from = metadata_of_tree old.size (reads_of old) has.epoch has.tree has.recovers in
    let meta = has_metadata old.size (reads_of old) from.metadata from.is in
    let kept = store-kept old.size (reads_of old) new from.metadata meta from.is same.size same.recovery (same.data_places meta.head meta.counts) in
    record { epoch = has.epoch; tree = has.tree; recovers = kept.1 ∙ has.recovers }
