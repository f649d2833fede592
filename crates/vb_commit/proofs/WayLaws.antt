-- Laws of commits on their way: whole runs, and what leaves a disk known.
use Rattle.std.proofs.Common.{inl, inr, ◌≡◌, ◌≢◌, ℕ, ◌≤◌, true, false, Bool, cond, ◌==◌, List, [], ◌∷◌, All, length, get_or, refl, sym, ap, subst, ◌∙◌}
use Rattle.std.proofs.lemmas.List.{append-nil}
use Rattle.std.proofs.lemmas.List.Elements.{All-cons, All-nil, All-weaker}
use Rattle.vb_disk.specs.declared.cell.Cell.{Cell}
use Rattle.vb_disk.specs.Cells.{candidates, hurt_cell, synced_cell}
use Rattle.vb_disk.specs.Crashes.{damaged}
use Rattle.vb_disk.specs.States.{DiskState, written}
use Rattle.vb_head.specs.declared.head.Head.{Head}
use Rattle.vb_journal.specs.declared.commit_stage.Stage.{Stage}
use Rattle.vb_journal.specs.declared.commit_stage.Stage.TheVariants.{Journal, Opening, Homes, Closing, Rested}
use Rattle.vb_journal.specs.Plans.{CanFinish, closed_head}
use Rattle.vb_journal.specs.Progress.{HasSameCandidates, IsAtRest, new_images, new_journal}
use Rattle.vb_journal.proofs.Keeping.{HasSameCandidates-damaged, HasSameCandidates-written, IsAtRest-same, IsCommitting-same}
use Rattle.vb_journal.proofs.TriedCells.{written-elsewhere}
use Rattle.vb_plan.specs.declared.plan_page.PlanPage.{PlanPage}
use Rattle.vb_plan.specs.declared.plan_page.PlanPage.TheVariants.{Data, Map}
use Rattle.vb_plan.specs.Laws.{place_of}
use Rattle.vb_steps.specs.Runs.{Event, IsRun}
use Rattle.vb_steps.proofs.RunsKept.{run-keeps}
use Rattle.vb_commit.specs.Known.{AreWritten, IsCommittingFor, IsEvery, IsLast, IsNoFirst, JournalStands, OthersStand, StandsFor, StoreStands, newest}
use Rattle.vb_commit.specs.Ways.{IsGivenFrom, IsWay, WayState, bytes_in, first_data, next_of, source_call, source_page}
use Rattle.vb_commit.proofs.PageCells.{all-both, all-placed, newest-every}
use Rattle.vb_commit.proofs.WayClauses.{IsWay-next}
use Rattle.vb_commit.proofs.WaysKept.{way, way-lost, way-made}

-- ---- runs

-- the view's own page is the one that is due
given-from : (source : ℕ → ℕ → List ℕ) (pages : List PlanPage) → IsGivenFrom source pages (source_page source pages)
given-from source [] = tt
given-from source (Data slot number r ∷ pages) = refl
given-from source (Map place image ∷ pages) = tt

-- each run leaves its disk known
pub run-known : (source : ℕ → ℕ → List ℕ) (homes journal : ℕ → List ℕ) (plan : List PlanPage) (s last : WayState) (d end : DiskState) (events : List Event) → IsWay s → IsCommittingFor source homes journal plan s d
    → IsRun (source_call source) (λ t got. next_of t) s d events last end → IsWay last × IsCommittingFor source homes journal plan last end
run-known source homes journal plan s last d end events is known run =
    run-keeps (source_call source) (λ t got. next_of t) (λ t m. IsWay t × IsCommittingFor source homes journal plan t m)
    (λ t m both. (IsWay-next t both.0, way-made source homes journal plan t (source_page source t.pages) m both.0 (given-from source t.pages) both.1))
    (λ t m left may both. (both.0, way-lost source homes journal plan t (source_page source t.pages) m left both.0 may both.1))
    s d events last end run (is, known)

-- ---- what leaves a disk known

-- a page is the last candidate, or each, by the candidates alone
last-by : (source : ℕ → ℕ → List ℕ) (old new : DiskState) (p : PlanPage) → candidates (new.cells (place_of p)) ≡ candidates (old.cells (place_of p)) → IsLast source old p → IsLast source new p
last-by source old new p same is =
    let a : Cell = new.cells (place_of p) in
    let b : Cell = old.cells (place_of p) in
    let front : (new.cells (place_of p)).first ≡ (old.cells (place_of p)).first = cc same in
    let rest : (new.cells (place_of p)).later ≡ (old.cells (place_of p)).later = cc same in
    ap (λ (x : List ℕ). get_or (x ∷ (new.cells (place_of p)).later) (length (new.cells (place_of p)).later) x) front
    ∙ ap (λ (xs : List (List ℕ)). get_or ((old.cells (place_of p)).first ∷ xs) (length xs) (old.cells (place_of p)).first) rest ∙ is

every-by : (source : ℕ → ℕ → List ℕ) (old new : DiskState) (p : PlanPage) → candidates (new.cells (place_of p)) ≡ candidates (old.cells (place_of p)) → IsEvery source old p → IsEvery source new p
every-by source old new p same is = subst (λ (cs : List (List ℕ)). All (λ page. page ≡ bytes_in source p) cs) (sym same) is

-- the candidates of these pages' places stand
abbrev pub PagesStand : List PlanPage → DiskState → DiskState → Type 0
PagesStand pages old new = All (λ p. candidates (new.cells (place_of p)) ≡ candidates (old.cells (place_of p))) pages

all-last-by : (source : ℕ → ℕ → List ℕ) (old new : DiskState) (pages : List PlanPage) → PagesStand pages old new → All (IsLast source old) pages → All (IsLast source new) pages
all-last-by source old new pages same is =
    all-both (λ (p : PlanPage). candidates (new.cells (place_of p)) ≡ candidates (old.cells (place_of p))) (IsLast source old) (IsLast source new) (λ p e l. last-by source old new p e l) pages same is

all-every-by : (source : ℕ → ℕ → List ℕ) (old new : DiskState) (pages : List PlanPage) → PagesStand pages old new → All (IsEvery source old) pages → All (IsEvery source new) pages
all-every-by source old new pages same is =
    all-both (λ (p : PlanPage). candidates (new.cells (place_of p)) ≡ candidates (old.cells (place_of p))) (IsEvery source old) (IsEvery source new) (λ p e l. every-by source old new p e l) pages same is

written-by : (source : ℕ → ℕ → List ℕ) (pages : List PlanPage) (stage : Stage) (old new : DiskState) → PagesStand pages old new → AreWritten source pages stage old → AreWritten source pages stage new
written-by source pages (Journal next) old new same is = all-last-by source old new pages same is
written-by source pages (Opening turn) old new same is = all-every-by source old new pages same is
written-by source pages (Homes next) old new same is = all-every-by source old new pages same is
written-by source pages (Closing turn) old new same is = all-every-by source old new pages same is
written-by source pages Rested old new same is = all-every-by source old new pages same is

journal-by : (head : Head) (epoch : ℕ) (images : List (List ℕ)) (homes journal : ℕ → List ℕ) (stage : Stage) (old new : DiskState) → CanFinish head epoch images → HasSameCandidates (first_data head) old new → JournalStands head epoch images homes journal stage old → JournalStands head epoch images homes journal stage new
journal-by head epoch images homes journal (Journal next) old new can same is = IsCommitting-same head epoch images homes journal (Journal next) old new can same is
journal-by head epoch images homes journal (Opening turn) old new can same is = IsCommitting-same head epoch images homes journal (Opening turn) old new can same is
journal-by head epoch images homes journal (Homes next) old new can same is = IsCommitting-same head epoch images homes journal (Homes next) old new can same is
journal-by head epoch images homes journal (Closing turn) old new can same is = IsCommitting-same head epoch images homes journal (Closing turn) old new can same is
journal-by head epoch images homes journal Rested old new can same is = IsAtRest-same (closed_head head epoch) (new_images images homes) (new_journal images journal) old new same is

store-by : (homes journal : ℕ → List ℕ) (head : Head) (epoch : ℕ) (images : List (List ℕ)) (pages : List PlanPage) (stage : Stage) (old new : DiskState) → CanFinish head epoch images → HasSameCandidates (first_data head) old new → StoreStands homes journal pages (way head epoch images pages stage) old → StoreStands homes journal pages (way head epoch images pages stage) new
store-by homes journal head epoch images [] stage old new can same is = journal-by head epoch images homes journal stage old new can same is
store-by homes journal head epoch images (p ∷ rest) stage old new can same is = IsAtRest-same head homes journal old new same is

pub known-by : (source : ℕ → ℕ → List ℕ) (homes journal : ℕ → List ℕ) (plan : List PlanPage) (s : WayState) (old new : DiskState) → IsWay s → StandsFor s.head plan old new → IsCommittingFor source homes journal plan s old → IsCommittingFor source homes journal plan s new
known-by source homes journal plan s old new is stands k = record {
  placed = k.placed;
  of_plan = k.of_plan;
  places = k.places;
  once = k.once;
  store = store-by homes journal s.head s.epoch s.images s.pages s.stage old new is.can.finish stands.store k.store;
  pages = written-by source k.placed s.stage old new (all-placed (λ (p : PlanPage). candidates (new.cells (place_of p)) ≡ candidates (old.cells (place_of p))) plan k.placed s.pages k.of_plan stands.pages) k.pages;
}

hurt-stands : (b : Bool) (cell : Cell) (page : List ℕ) → candidates (cond b (hurt_cell cell page) cell) ≡ candidates cell
hurt-stands true cell page = refl
hurt-stands false cell page = refl

pub damage-stands : (head : Head) (plan : List PlanPage) (d : DiskState) (place : ℕ) (page : List ℕ) → StandsFor head plan d (damaged d place page)
damage-stands head plan d place page = record {
  store = HasSameCandidates-damaged (first_data head) d place page;
  pages = λ i p within. hurt-stands (place_of (get_or plan i p) == place) (d.cells (place_of (get_or plan i p))) page;
}

pub data-stands : (head : Head) (plan : List PlanPage) (d : DiskState) (place : ℕ) (page : List ℕ) → first_data head ≤ place → All (λ p. place_of p ≢ place) plan → StandsFor head plan d (written d place page)
data-stands head plan d place page past apart = record {
  store = HasSameCandidates-written (first_data head) d place page past;
  pages = All-weaker (λ (p : PlanPage). place_of p ≢ place) (λ (p : PlanPage). candidates ((written d place page).cells (place_of p)) ≡ candidates (d.cells (place_of p)))
      (λ p other. ap (λ (c : Cell). candidates c) (written-elsewhere d place (place_of p) page other)) plan apart;
}

-- ---- at its end

rested-parts : (source : ℕ → ℕ → List ℕ) (homes journal : ℕ → List ℕ) (plan : List PlanPage) (head : Head) (epoch : ℕ) (images : List (List ℕ)) (pages : List PlanPage) (stage : Stage) (d : DiskState) → pages ≡ [] → stage ≡ Rested → IsCommittingFor source homes journal plan (way head epoch images pages stage) d
    → IsAtRest (closed_head head epoch) (new_images images homes) (new_journal images journal) d × All (IsEvery source d) plan
rested-parts source homes journal plan head epoch images pages stage d none rested k =
    let Q : List PlanPage → Stage → Type 0 = λ ps s. IsCommittingFor source homes journal plan (way head epoch images ps s) d in
    let first : Q [] stage = subst (λ (ps : List PlanPage). IsCommittingFor source homes journal plan (way head epoch images ps stage) d) none k in
    let r : Q [] Rested = subst (λ (s : Stage). IsCommittingFor source homes journal plan (way head epoch images [] s) d) rested first in
    (r.store, subst (λ (ps : List PlanPage). All (IsEvery source d) ps) (sym (append-nil r.placed) ∙ r.of_plan) r.pages)

pub rested-known : (source : ℕ → ℕ → List ℕ) (homes journal : ℕ → List ℕ) (plan : List PlanPage) (s : WayState) (d : DiskState) → s.pages ≡ [] → s.stage ≡ Rested → IsCommittingFor source homes journal plan s d
    → IsAtRest (closed_head s.head s.epoch) (new_images s.images homes) (new_journal s.images journal) d × All (IsEvery source d) plan
rested-known source homes journal plan s d none rested k = rested-parts source homes journal plan s.head s.epoch s.images s.pages s.stage d none rested k

-- ---- other pages

all-newest : (cell : Cell) (page : List ℕ) → All (λ c. c ≡ page) (candidates cell) → All (λ c. c ≡ page) (candidates (synced_cell cell))
all-newest cell page every = All-cons (λ (c : List ℕ). c ≡ page) (newest cell) [] (newest-every (λ (c : List ℕ). c ≡ page) cell every) (All-nil (λ (c : List ℕ). c ≡ page))

-- a place that stands or was synced holds one page alone where it did
pub only-stays : (from : ℕ) (pages : List PlanPage) (d next : DiskState) (place : ℕ) (page : List ℕ) → OthersStand from pages d next → from ≤ place → IsNoFirst pages place → All (λ c. c ≡ page) (candidates (d.cells place)) → All (λ c. c ≡ page) (candidates (next.cells place))
only-stays from pages d next place page stand past other every = elim (stand place past other) [
  | inl same ↦ subst (λ (cell : Cell). All (λ c. c ≡ page) (candidates cell)) (sym same) every
  | inr synced ↦ subst (λ (cell : Cell). All (λ c. c ≡ page) (candidates cell)) (sym synced) (all-newest (d.cells place) page every)
]
