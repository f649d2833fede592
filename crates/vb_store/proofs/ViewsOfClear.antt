-- What is recovered from a clear disk is one of the views that may be recovered from it.
use Rattle.std.proofs.Common.{◌≡◌, ◌≢◌, ℕ, ◌-◌, Bool, true, false, not, ◌||◌, List, [], ◌∷◌, ◌++◌, take, drop, Result, Ok, Err, refl, sym, ap, ◌∙◌, ◌⊎◌, inl, inr}
use Rattle.std.specs.Str.{bytes_eq}
use Rattle.std.proofs.lemmas.Slice.Eq.{bytes_eq-Decides}
use Rattle.sha2.specs.Sha256.{sha256}
use Rattle.vb_block.specs.declared.digest.Ref.{Ref}
use Rattle.vb_disk.specs.Crashes.{MayCrashTo}
use Rattle.vb_disk.specs.States.{DiskState, IsDiskState}
use Rattle.vb_disk.proofs.CrashedDisks.{IsDiskState-crashed}
use Rattle.vb_head.specs.Layout.{are_zeros}
use Rattle.vb_index.specs.Nodes.{kind_of}
use Rattle.vb_journal.specs.Outcomes.{reads_of}
use Rattle.vb_journal.specs.declared.recover_error.RecoverError.{RecoverError}
use Rattle.vb_journal.specs.declared.recover_error.RecoverError.TheVariants.{NotAStore, Damaged, Rebuilding}
use Rattle.vb_tree.specs.declared.tree.TreeEntry.{TreeEntry}
use Rattle.vb_store.specs.Clear.{IsClear, RecoversTree, first_candidates, taken_as}
use Rattle.vb_store.specs.Metadata.{Metadata, and_then}
use Rattle.vb_store.specs.OneOf.{RecoversAView, RecoversOneOf, ShowsOneOf, TreeView}
use Rattle.vb_store.specs.Recovered.{Placed, Recovers, bytes_read, entries_read, is_page_of, placed_in, recovered, recovered_at, recovered_from}
use Rattle.vb_store.specs.RecoveredStores.{metadata_on, recovered_on}
use Rattle.vb_store.proofs.Chains.{and_then-ok, refuse-ok}
use Rattle.vb_store.proofs.OneOfThem.{shows-left}
use Rattle.vb_store.proofs.ShownByChoices.{read_whole, taken_or_hurt}
use Rattle.vb_store.proofs.TakenDisks.{IsDiskState-taken}
use Rattle.vb_store.proofs.TreesKept.{metadata_of_tree}

-- reads of a place are the same or have other digests
abbrev SameOrUnlike : (ℕ → List ℕ) → (ℕ → List ℕ) → Type 0
SameOrUnlike a b = (place : ℕ) → (b place ≡ a place) ⊎ (sha256 (a place) ≢ sha256 (b place))

page_digest : (digest zeros : Bool) → not (not (not digest || not zeros)) ≡ false → digest ≡ true
page_digest true zeros is = refl
page_digest false zeros is = absurd (cc is)

-- a page that is the one that a reference names has its digest
named_digest : (left : ℕ) (r : Ref) (page : List ℕ) → not (is_page_of left r page) ≡ false → r.digest ≡ sha256 page
named_digest left r page is =
    (bytes_eq-Decides r.digest (sha256 page)).0 (page_digest (bytes_eq r.digest (sha256 page)) (are_zeros (drop left page)) is)

-- two pages that a reference names are one
same_page : (a b : ℕ → List ℕ) (left : ℕ) (r : Ref) → SameOrUnlike a b → not (is_page_of left r (a r.place)) ≡ false → not (is_page_of left r (b r.place)) ≡ false → b r.place ≡ a r.place
same_page a b left r reads first second = elim (reads r.place) [
  | inl same ↦ same
  | inr unlike ↦ absurd (unlike (sym (named_digest left r (a r.place) first) ∙ named_digest left r (b r.place) second))
]

same_bytes : (a b : ℕ → List ℕ) (left : ℕ) (refs : List Ref) (x y : List ℕ) → SameOrUnlike a b → bytes_read a left refs ≡ Ok x → bytes_read b left refs ≡ Ok y → y ≡ x
same_bytes a b left [] x y reads first second = cc (sym second ∙ first)
same_bytes a b left (r ∷ rs) x y reads first second =
    let one = refuse-ok (not (is_page_of left r (a r.place))) r.place (and_then (bytes_read a (left - 4096) rs) (λ more. Ok (take left (a r.place) ++ more))) x first in
    let two = refuse-ok (not (is_page_of left r (b r.place))) r.place (and_then (bytes_read b (left - 4096) rs) (λ more. Ok (take left (b r.place) ++ more))) y second in
    let one_rest = and_then-ok (bytes_read a (left - 4096) rs) (λ more. Ok (take left (a r.place) ++ more)) x one.then in
    let two_rest = and_then-ok (bytes_read b (left - 4096) rs) (λ more. Ok (take left (b r.place) ++ more)) y two.then in
    let page : b r.place ≡ a r.place = same_page a b left r reads one.test_is two.test_is in
    let rest : two_rest.value ≡ one_rest.value = same_bytes a b (left - 4096) rs one_rest.value two_rest.value reads one_rest.is two_rest.is in
    let x_is : take left (a r.place) ++ one_rest.value ≡ x = cc one_rest.then in
    let y_is : take left (b r.place) ++ two_rest.value ≡ y = cc two_rest.then in
    sym y_is ∙ ap (λ (p : List ℕ). take left p ++ two_rest.value) page ∙ ap (λ (l : List ℕ). take left (a r.place) ++ l) rest ∙ x_is

-- the entry of a placed node with these bytes
entry_of : Placed → List ℕ → TreeEntry
entry_of p bytes = record { path = p.path; kind = kind_of p.held.node; bytes = bytes }

-- so is a tree that is read twice
same_entries : (a b : ℕ → List ℕ) (ps : List Placed) (x y : List TreeEntry) → SameOrUnlike a b → entries_read a ps ≡ Ok x → entries_read b ps ≡ Ok y → y ≡ x
unfolding entry_of
same_entries a b [] x y reads first second = cc (sym second ∙ first)
same_entries a b (p ∷ ps) x y reads first second =
    let ends : List ℕ → List TreeEntry → Result (List TreeEntry) ℕ = λ bytes more. Ok (entry_of p bytes ∷ more) in
    let one = and_then-ok (bytes_read a p.held.node.length p.held.refs) (λ bytes. and_then (entries_read a ps) (ends bytes)) x first in
    let two = and_then-ok (bytes_read b p.held.node.length p.held.refs) (λ bytes. and_then (entries_read b ps) (ends bytes)) y second in
    let one_rest = and_then-ok (entries_read a ps) (ends one.value) x one.then in
    let two_rest = and_then-ok (entries_read b ps) (ends two.value) y two.then in
    let bytes : two.value ≡ one.value = same_bytes a b p.held.node.length p.held.refs one.value two.value reads one.is two.is in
    let rest : two_rest.value ≡ one_rest.value = same_entries a b ps one_rest.value two_rest.value reads one_rest.is two_rest.is in
    let x_is : entry_of p one.value ∷ one_rest.value ≡ x = cc one_rest.then in
    let y_is : entry_of p two.value ∷ two_rest.value ≡ y = cc two_rest.then in
    sym y_is ∙ ap (λ (l : List ℕ). entry_of p l ∷ two_rest.value) bytes ∙ ap (λ (l : List TreeEntry). entry_of p one.value ∷ l) rest ∙ x_is

-- ---- disks

-- reads of a choice of a disk and its candidates are the same or have other digests
reads_or_unlike : (new : DiskState) → IsDiskState new → ((place : ℕ) → (new.cells place).later ≡ []) → SameOrUnlike (first_candidates new) (reads_of new)
reads_or_unlike new disk alone place = elim (taken_or_hurt true (new.cells place) (alone place) (disk.hurt_are_misses place)) [
  | inl same ↦ inl (same ∙ read_whole true (new.cells place) refl (alone place))
  | inr hurt ↦ inr (λ same. hurt.unlike (ap sha256 (read_whole true (new.cells place) refl (alone place)) ∙ same))
]

-- the tree that reads give
record HasTree (epoch : ℕ) (answer : Result (List TreeEntry) ℕ) (at : ℕ) (tree : List TreeEntry) : Type 0 where
  is : answer ≡ Ok tree
  at_is : at ≡ epoch

has_tree : (at : ℕ) (answer : Result (List TreeEntry) ℕ) (epoch : ℕ) (tree : List TreeEntry) → recovered_at at answer ≡ Recovers epoch tree → HasTree epoch answer at tree
has_tree at (Ok entries) epoch tree is = record { is = (let same : entries ≡ tree = cc is in ap (λ (l : List TreeEntry). let r : Result (List TreeEntry) ℕ = Ok l in r) same); at_is = cc is }
has_tree at (Err place) epoch tree is = absurd (cc is)

-- metadata that a tree was recovered from aren't refused
unrefused : {A : Type 0} (r : Result Metadata RecoverError) (m : Metadata) (e : RecoverError) → r ≡ Ok m → r ≡ Err e → A
unrefused r m e is refused = let clash : (let s : Result Metadata RecoverError = Ok m in s ≡ Err e) = sym is ∙ refused in absurd (cc clash)

view_recovered : (views : List TreeView) (new : DiskState) → IsDiskState new → ((place : ℕ) → (new.cells place).later ≡ []) → RecoversTree new → ShowsOneOf views new → RecoversAView views new
unfolding recovered
view_recovered views new disk alone tree shows =
    let view : TreeView = shows.view in
    let answer : Result (List TreeEntry) ℕ = entries_read (reads_of new) (placed_in view.metadata.held) in
    let by : recovered_on new ≡ recovered_at view.metadata.head.epoch answer = ap (recovered_from (reads_of new)) shows.metadata in
    let has = has_tree view.metadata.head.epoch answer tree.epoch tree.tree (sym by ∙ tree.recovers) in
    let same : tree.tree ≡ view.tree = same_entries (first_candidates new) (reads_of new) (placed_in view.metadata.held) view.tree tree.tree (reads_or_unlike new disk alone) shows.pages has.is in
    record {
      view = view;
      listed = shows.listed;
      recovers = by ∙ ap (recovered_at view.metadata.head.epoch) has.is ∙ ap (λ (l : List TreeEntry). Recovers view.metadata.head.epoch l) same;
    }

pub RecoversAView-clear : (views : List TreeView) (made : Bool) (whole : ℕ → Bool) (d new : DiskState) → IsDiskState d → IsClear d → RecoversOneOf views made d → MayCrashTo (taken_as whole d) new → RecoversAView views new
RecoversAView-clear views made whole d new disk clear has crash =
    let tree : RecoversTree new = clear whole new crash in
    let from = metadata_of_tree new.size (reads_of new) tree.epoch tree.tree tree.recovers in
    let left : IsDiskState new = IsDiskState-crashed (taken_as whole d) new (IsDiskState-taken whole d disk) crash in
    elim (shows-left views made whole d new disk crash has) [
      | inl shows ↦ view_recovered views new left (λ place. (crash.each place).alone) tree shows
      | inr refused ↦ elim refused [
        | inl damaged ↦ unrefused (metadata_on new) from.metadata (Damaged damaged.place damaged.kept damaged.found) from.is damaged.is
        | inr other ↦ elim other [
          | inl blank ↦ unrefused (metadata_on new) from.metadata (NotAStore 0) from.is blank.is
          | inr anew ↦ unrefused (metadata_on new) from.metadata Rebuilding from.is anew.is
        ]
      ]
    ]
