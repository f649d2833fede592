-- What may be recovered from a disk, and its views, after damage, a crash or a sync.
use Rattle.std.proofs.Common.{◌≡◌, ℕ, ◌+◌, ◌*◌, ◌<◌, ◌≤◌, Bool, true, false, cond, eqb, nat_lt, List, [], ◌∷◌, Ok, refl, sym, ap, subst, ◌∙◌, ◌⊎◌, inl, inr, arith}
use Rattle.std.specs.List.{All, Contains}
use Rattle.std.proofs.lemmas.Bool.{cases_lt, le-ltb, lt-ltb}
use Rattle.std.proofs.lemmas.List.Elements.{All-cons, All-head, All-nil, All-tail, All-weaker}
use Rattle.vb_disk.specs.declared.cell.Cell.{Cell}
use Rattle.vb_disk.specs.Cells.{candidates, synced_cell}
use Rattle.vb_disk.specs.Crashes.{MayCrashTo, damaged}
use Rattle.vb_disk.specs.States.{DiskState, IsDiskState, synced, written}
use Rattle.vb_head.specs.declared.head.Head.{Head}
use Rattle.vb_journal.specs.Data.{StandOrSynced}
use Rattle.vb_journal.specs.Choices.{HasNoMoreChoices, IsCellOf, IsChoiceOf}
use Rattle.vb_journal.specs.Recoveries.{recovery_of}
use Rattle.vb_journal.proofs.ChoicesOf.{IsChoiceOf-crash, hurt-candidates, newest_picked, one_left}
use Rattle.vb_journal.proofs.TriedCells.{written-elsewhere}
use Rattle.vb_store.specs.declared.map_page.MapPage.{MapPage}
use Rattle.vb_store.specs.Clear.{taken_as, taken_cell}
use Rattle.vb_store.specs.Metadata.{Metadata, maps_in, metadata_of}
use Rattle.vb_store.specs.OneOf.{AreAmong, HasNoMoreFrom, RecoversOneOf, ShowsOrRefuses, TreeView, ViewOf}
use Rattle.vb_store.specs.Recovered.{entries_read, placed_in}
use Rattle.vb_store.specs.Sameness.{HasSamePages}
use Rattle.vb_store.specs.Views.{data_start}
use Rattle.vb_store.proofs.CrashesOfClear.{candidates-taken}
use Rattle.vb_store.proofs.CrashesOfMounts.{has_metadata, maps-in_data}
use Rattle.vb_store.proofs.ReferencesInside.{NamesFrom, references-inside}
use Rattle.vb_store.proofs.SameStores.{settled-nodes}
use Rattle.vb_store.proofs.SameTrees.{entries_of_held}
use Rattle.vb_store.proofs.TreesKept.{pages_kept}
use Rattle.vb_store.proofs.TakenDisks.{IsDiskState-taken}

-- ---- what may be recovered

-- of fewer choices the same
pub RecoversOneOf-fewer : (views : List TreeView) (made : Bool) (less more : DiskState) → HasNoMoreChoices less more → RecoversOneOf views made more → RecoversOneOf views made less
RecoversOneOf-fewer views made less more fewer has new is = has new (fewer new is)

shows_more : (views more : List TreeView) (made : Bool) (new : DiskState) → AreAmong views more → ShowsOrRefuses views made new → ShowsOrRefuses more made new
shows_more views more made new among (inl shows) = inl (record { view = shows.view; listed = among shows.view shows.listed; metadata = shows.metadata; pages = shows.pages })
shows_more views more made new among (inr refused) = inr refused

pub RecoversOneOf-more : (views more : List TreeView) (made : Bool) (d : DiskState) → AreAmong views more → RecoversOneOf views made d → RecoversOneOf more made d
RecoversOneOf-more views more made d among has new is = shows_more views more made new among (has new is)

allowed_more : (views : List TreeView) (made : Bool) (new : DiskState) → ShowsOrRefuses views false new → ShowsOrRefuses views made new
allowed_more views made new (inl shows) = inl shows
allowed_more views made new (inr (inl damaged)) = inr (inl damaged)
allowed_more views made new (inr (inr (inl blank))) = inr (inr (inl blank))
allowed_more views made new (inr (inr (inr anew))) = absurd (cc anew.allows)

pub RecoversOneOf-allowed : (views : List TreeView) (made : Bool) (d : DiskState) → RecoversOneOf views false d → RecoversOneOf views made d
RecoversOneOf-allowed views made d has new is = allowed_more views made new (has new is)

-- ---- hurt places that come back

-- a choice of a place that is taken as whole is one of that place
IsChoiceOf-of_taken : (whole : ℕ → Bool) (new d : DiskState) → IsChoiceOf new (taken_as whole d) → IsChoiceOf new d
IsChoiceOf-of_taken whole new d is = record {
  disk = is.disk;
  size = is.size;
  each = λ place. record {
    picked = subst (λ (l : List (List ℕ)). Contains l (new.cells place).first) (candidates-taken (whole place) (d.cells place)) (is.each place).picked;
    alone = (is.each place).alone;
  };
}

pub shows-left : (views : List TreeView) (made : Bool) (whole : ℕ → Bool) (d new : DiskState) → IsDiskState d → MayCrashTo (taken_as whole d) new → RecoversOneOf views made d → ShowsOrRefuses views made new
shows-left views made whole d new disk crash has =
    has new (IsChoiceOf-of_taken whole new d (IsChoiceOf-crash (taken_as whole d) new (IsDiskState-taken whole d disk) crash))

cell_taken : (whole : Bool) (new old : Cell) → IsCellOf new old → IsCellOf (taken_cell whole new) old
cell_taken true new old is = record { picked = is.picked; alone = is.alone }
cell_taken false new old is = is

-- a choice some of whose places are taken as whole is a choice
pub IsChoiceOf-taken : (whole : ℕ → Bool) (new d : DiskState) → IsChoiceOf new d → IsChoiceOf (taken_as whole new) d
IsChoiceOf-taken whole new d is = record {
  disk = IsDiskState-taken whole new is.disk;
  size = is.size;
  each = λ place. cell_taken (whole place) (new.cells place) (d.cells place) (is.each place);
}

-- ---- views

-- the places of a view's pages are those of data
placed_inside : (size : ℕ) (view : TreeView) (reads : ℕ → List ℕ) → metadata_of size reads ≡ Ok view.metadata → All (λ map. data_start view.metadata.head ≤ map.reference.place) (maps_in view.metadata.held) × All (NamesFrom (data_start view.metadata.head)) view.metadata.held
placed_inside size view reads is =
    let has = has_metadata size reads view.metadata is in
    let same : has.head.nodes ≡ view.metadata.head.nodes = sym (settled-nodes has.head has.head.state) ∙ ap (λ (m : Metadata). m.head.nodes) has.made in
    let start : data_start has.head ≡ data_start view.metadata.head = ap (λ (n : ℕ). 2 + 2 * n) same in
    let Maps : ℕ → Type 0 = λ from. All (λ map. from ≤ map.reference.place) (maps_in view.metadata.held) in
    let Held : ℕ → Type 0 = λ from. All (NamesFrom from) view.metadata.held in
    (subst Maps start (maps-in_data size reads view.metadata has), subst Held start (references-inside size reads view.metadata has))

pub all_both : {X : Type 0} (P Q R : X → Type 0) → ((x : X) → P x → Q x → R x) → (xs : List X) → All P xs → All Q xs → All R xs
all_both P Q R goes [] ps qs = All-nil R
all_both P Q R goes (x ∷ xs) ps qs =
    All-cons R x xs (goes x (All-head P x xs ps) (All-head Q x xs qs)) (all_both P Q R goes xs (All-tail P x xs ps) (All-tail Q x xs qs))

-- what is picked below a place, and what is picked from it on
mixed : ℕ → (ℕ → List ℕ) → (ℕ → List ℕ) → ℕ → List ℕ
mixed from low high place = cond (nat_lt place from) (low place) (high place)

mixed_high : (from place : ℕ) (low high : ℕ → List ℕ) → from ≤ place → high place ≡ mixed from low high place
unfolding mixed
mixed_high from place low high past = ap (λ (t : Bool). cond t (low place) (high place)) (sym (le-ltb place from past))

mixed_picked : (from place : ℕ) (less more : DiskState) (picked : ℕ → List ℕ) → HasNoMoreFrom from less more → ((q : ℕ) → Contains (candidates (less.cells q)) (picked q)) → Contains (candidates (more.cells place)) (mixed from (λ q. (more.cells q).first) picked place)
unfolding mixed
mixed_picked from place less more picked fewer each =
    let P : Bool → Type 0 = λ t. Contains (candidates (more.cells place)) (cond t (more.cells place).first (picked place)) in
    elim (cases_lt place from) [
      | inl below ↦ subst P (sym (lt-ltb place from below)) (0, omega arith, refl)
      | inr past ↦ subst P (sym (le-ltb place from past)) (fewer.each place (picked place) past (each place))
    ]

-- the pages of a view lie in its data places, so what is picked below them doesn't matter
pages_beside : (d new : DiskState) (view : TreeView) (head : Head) (images : ℕ → List ℕ) → HasNoMoreFrom (data_start view.metadata.head) new d → ViewOf d view head images → (picked : ℕ → List ℕ) → ((place : ℕ) → Contains (candidates (new.cells place)) (picked place)) → entries_read picked (placed_in view.metadata.held) ≡ Ok view.tree
pages_beside d new view head images fewer is picked each =
    let start : ℕ = data_start view.metadata.head in
    let own : ℕ → List ℕ = mixed start (λ q. (d.cells q).first) picked in
    let inside = placed_inside d.size view is.reads is.metadata in
    entries_of_held own picked view.metadata.held
    (All-weaker (NamesFrom start) (HasSamePages own picked) (pages_kept start own picked (λ place past. mixed_high start place (λ q. (d.cells q).first) picked past)) view.metadata.held inside.1)
    ∙ is.pages own (λ place. mixed_picked start place new d picked fewer each)

pub ViewOf-fewer : (view : TreeView) (head : Head) (images : ℕ → List ℕ) (old new : DiskState) → HasNoMoreFrom (data_start view.metadata.head) new old → ViewOf old view head images → ViewOf new view head images
ViewOf-fewer view head images old new fewer is = record {
  reads = is.reads;
  metadata = ap (λ (n : ℕ). metadata_of n is.reads) fewer.size ∙ is.metadata;
  recovery = ap (λ (n : ℕ). recovery_of n is.reads) fewer.size ∙ is.recovery;
  maps = all_both (λ (map : MapPage). data_start view.metadata.head ≤ map.reference.place)
      (λ (map : MapPage). (page : List ℕ) → Contains (candidates (old.cells map.reference.place)) page → page ≡ is.reads map.reference.place)
      (λ (map : MapPage). (page : List ℕ) → Contains (candidates (new.cells map.reference.place)) page → page ≡ is.reads map.reference.place)
      (λ map inside alone page has. alone page (fewer.each map.reference.place page inside has)) (maps_in view.metadata.held)
      (placed_inside old.size view is.reads is.metadata).0 is.maps;
  pages = λ picked each. pages_beside old new view head images fewer is picked each;
}

pub candidates-damaged : (from : ℕ) (d : DiskState) (place : ℕ) (page : List ℕ) → HasNoMoreFrom from (damaged d place page) d
candidates-damaged from d place page = record { size = refl; each = λ q other past has. subst (λ (l : List (List ℕ)). Contains l other) (hurt-candidates (eqb q place) (d.cells q) page) has }

pub candidates-crashed : (from : ℕ) (old new : DiskState) → MayCrashTo old new → HasNoMoreFrom from new old
candidates-crashed from old new crash = record { size = crash.size; each = λ place page past. one_left (old.cells place) (new.cells place) (crash.each place).picked (crash.each place).alone page }

pub candidates-synced : (from : ℕ) (d : DiskState) → HasNoMoreFrom from (synced d) d
candidates-synced from d = record { size = refl; each = λ place page past. one_left (d.cells place) (synced_cell (d.cells place)) (newest_picked (d.cells place)) refl page }

pub candidates-written : (from : ℕ) (d : DiskState) (place : ℕ) (page : List ℕ) → place < from → HasNoMoreFrom from (written d place page) d
candidates-written from d place page below = record {
  size = refl;
  each = λ q other past has. subst (λ (c : Cell). Contains (candidates c) other) (written-elsewhere d place q page (λ same. omega (arith, same, past, below))) has;
}

stood_or_synced : (old new : Cell) → (new ≡ old) ⊎ (new ≡ synced_cell old) → (page : List ℕ) → Contains (candidates new) page → Contains (candidates old) page
stood_or_synced old new (inl same) page has = subst (λ (c : Cell). Contains (candidates c) page) same has
stood_or_synced old new (inr same) page has =
    one_left old (synced_cell old) (newest_picked old) refl page (subst (λ (c : Cell). Contains (candidates c) page) same has)

pub candidates-stood : (from : ℕ) (old new : DiskState) → new.size ≡ old.size → StandOrSynced from old new → HasNoMoreFrom from new old
candidates-stood from old new size stands = record { size = size; each = λ place page past. stood_or_synced (old.cells place) (new.cells place) (stands place past) page }
