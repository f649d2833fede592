-- What is known of a disk while a commit is on its way. It speaks of candidates alone, so that hurt places are left open.
use Rattle.std.specs.Prelude.{◌≡◌, ◌≢◌, ◌⊎◌, ℕ, ◌≤◌, ◌==◌, List, [], ◌∷◌, ◌++◌, length, map, count_by, Option, Some}
use Rattle.std.specs.List.{All}
use Rattle.vb_disk.specs.declared.cell.Cell.{Cell}
use Rattle.vb_disk.specs.Cells.{candidate_at, candidates, synced_cell}
use Rattle.vb_disk.specs.Moments.{EachMoment}
use Rattle.vb_disk.specs.States.{DiskState}
use Rattle.vb_head.specs.declared.head.Head.{Head}
use Rattle.vb_journal.specs.declared.commit_stage.Stage.{Stage}
use Rattle.vb_journal.specs.declared.commit_stage.Stage.TheVariants.{Journal, Opening, Homes, Closing, Rested}
use Rattle.vb_journal.specs.Plans.{closed_head}
use Rattle.vb_journal.specs.Progress.{HasSameCandidates, IsAtRest, IsCommitting, new_images, new_journal}
use Rattle.vb_plan.specs.declared.plan_page.PlanPage.{PlanPage}
use Rattle.vb_index.specs.declared.held.Held.{Held}
use Rattle.vb_inode.specs.Layout.{node_page}
use Rattle.vb_plan.specs.Laws.{place_of}
use Rattle.vb_plan.specs.Plans.{node_at, node_in}
use Rattle.vb_commit.specs.Ways.{IsDataPage, WayState, bytes_in, first_data}

-- ---- the planned pages

-- the newest candidate of a place: what it reads as where it isn't hurt
abbrev pub newest : Cell → List ℕ
newest cell = candidate_at cell (length cell.later)

-- the page is the last candidate of its place
abbrev pub IsLast : (ℕ → ℕ → List ℕ) → DiskState → PlanPage → Type 0
IsLast source d p = newest (d.cells (place_of p)) ≡ bytes_in source p

-- every candidate of its place is the page
abbrev pub IsEvery : (ℕ → ℕ → List ℕ) → DiskState → PlanPage → Type 0
IsEvery source d p = All (λ page. page ≡ bytes_in source p) (candidates (d.cells (place_of p)))

-- the pages are the last candidates up to the journal's first sync, and the only ones from then on
abbrev pub AreWritten : (ℕ → ℕ → List ℕ) → List PlanPage → Stage → DiskState → Type 0
AreWritten source pages (Journal next) d = All (IsLast source d) pages
AreWritten source pages (Opening turn) d = All (IsEvery source d) pages
AreWritten source pages (Homes next) d = All (IsEvery source d) pages
AreWritten source pages (Closing turn) d = All (IsEvery source d) pages
AreWritten source pages Rested d = All (IsEvery source d) pages

-- ---- the heads, the homes and the journal

-- a store in the midst of the journal's commit, and at its end one at rest with the closed head and the new images
abbrev pub JournalStands : Head → ℕ → List (List ℕ) → (ℕ → List ℕ) → (ℕ → List ℕ) → Stage → DiskState → Type 0
JournalStands head epoch images homes journal (Journal next) d = IsCommitting head epoch images homes journal (Journal next) d
JournalStands head epoch images homes journal (Opening turn) d = IsCommitting head epoch images homes journal (Opening turn) d
JournalStands head epoch images homes journal (Homes next) d = IsCommitting head epoch images homes journal (Homes next) d
JournalStands head epoch images homes journal (Closing turn) d = IsCommitting head epoch images homes journal (Closing turn) d
JournalStands head epoch images homes journal Rested d = IsAtRest (closed_head head epoch) (new_images images homes) (new_journal images journal) d

-- while pages are left it is at rest, as before the commit
abbrev pub StoreStands : (ℕ → List ℕ) → (ℕ → List ℕ) → List PlanPage → WayState → DiskState → Type 0
StoreStands homes journal [] s d = JournalStands s.head s.epoch s.images homes journal s.stage d
StoreStands homes journal (p ∷ pages) s d = IsAtRest s.head homes journal d

-- ---- both together

-- the places of planned pages
abbrev pub places_of : List PlanPage → List ℕ
places_of pages = map place_of pages

-- a disk over which a commit by this plan is on its way: the pages that were placed are those of the plan that aren't
-- left, and each has a place of data of its own. The data pages of the next view are these by slot and number, and
-- before the commit the homes held these pages, and so did the journal.
pub record IsCommittingFor (source : ℕ → ℕ → List ℕ) (homes journal : ℕ → List ℕ) (plan : List PlanPage) (s : WayState) (d : DiskState) : Type 0 where
  pub placed : List PlanPage
  pub of_plan : placed ++ s.pages ≡ plan
  pub places : All (IsDataPage s.head) plan
  pub once : (place : ℕ) → count_by (λ p. p == place) (places_of plan) ≤ 1
  pub store : StoreStands homes journal s.pages s d
  pub pages : AreWritten source placed s.stage d

-- the candidates of the heads, the homes and the journal stand, and of the places of the plan
pub record StandsFor (head : Head) (plan : List PlanPage) (old new : DiskState) : Type 0 where
  pub store : HasSameCandidates (first_data head) old new
  pub pages : All (λ p. candidates (new.cells (place_of p)) ≡ candidates (old.cells (place_of p))) plan

-- ---- the blocks of nodes

-- the block of the node of a slot; that of a free slot is the block of a free node there
abbrev pub node_block : List (Option Held) → ℕ → List ℕ
node_block nodes slot = node_page (node_in slot (node_at nodes slot))

-- ---- a step

-- the place isn't that of the first of these pages
abbrev pub IsNoFirst : List PlanPage → ℕ → Type 0
IsNoFirst [] place = Unit {0}
IsNoFirst (p ∷ pages) place = place ≢ place_of p

-- each place from this one on stands or was synced, but for that of the first of these pages
abbrev pub OthersStand : ℕ → List PlanPage → DiskState → DiskState → Type 0
OthersStand from pages old new = (place : ℕ) → from ≤ place → IsNoFirst pages place
    → (new.cells place ≡ old.cells place) ⊎ (new.cells place ≡ synced_cell (old.cells place))

-- what a step leaves of a disk that is known: one that is known on the way after it, and so is each moment within it,
-- before it or after it
pub record GoesTo (source : ℕ → ℕ → List ℕ) (homes journal : ℕ → List ℕ) (plan : List PlanPage) (before after : WayState) (d : DiskState) (new : Option DiskState) : Type 0 where
  pub next : DiskState
  pub told : new ≡ Some next
  pub known : IsCommittingFor source homes journal plan after next
  pub moments : EachMoment (λ m. IsCommittingFor source homes journal plan before m ⊎ IsCommittingFor source homes journal plan after m) d next
