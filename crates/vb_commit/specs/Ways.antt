-- A commit on its way: which pages are left to be written, how far the journal has come, and which call is due.
use Rattle.std.specs.Prelude.{◌≡◌, ℕ, ◌+◌, ◌*◌, ◌<◌, ◌≤◌, List, [], ◌∷◌, ◌++◌, length, map, Option, Some, None, unwrap_or}
use Rattle.std.specs.List.{All}
use Rattle.sha2.specs.Sha256.{sha256}
use Rattle.vb_commit.specs.declared.due_page.DuePage.{DuePage}
use Rattle.vb_disk.specs.States.{DiskCall, Write}
use Rattle.vb_head.specs.declared.head.Head.{Head}
use Rattle.vb_journal.specs.declared.commit_stage.CommitStep.{CommitStep}
use Rattle.vb_journal.specs.declared.commit_stage.CommitStep.TheVariants.{Wrote}
use Rattle.vb_journal.specs.declared.commit_stage.Stage.{Stage}
use Rattle.vb_journal.specs.declared.commit_stage.Stage.TheVariants.{Journal}
use Rattle.vb_journal.specs.Plans as journal
use Rattle.vb_journal.specs.Plans.{CanGoOn, calls_from, next_stage}
use Rattle.vb_plan.specs.declared.plan_page.PlanPage.{PlanPage}
use Rattle.vb_plan.specs.declared.plan_page.PlanPage.TheVariants.{Data, Map}
use Rattle.vb_plan.specs.Laws.{place_of}
use Rattle.vb_steps.specs.Calls.{Call, Change}

-- a commit on its way: the head from before it, its epoch and images, the pages that are left to be written, in
-- order, and the stage of the journal's commit, which begins once none is left
pub record WayState : Type 0 where
  pub head : Head
  pub epoch : ℕ
  pub images : List (List ℕ)
  pub pages : List PlanPage
  pub stage : Stage

-- it begins with the pages of the plan
abbrev pub begun_way : Head → ℕ → List (List ℕ) → List PlanPage → WayState
begun_way head epoch images pages = record { head = head; epoch = epoch; images = images; pages = pages; stage = Journal 0 }

-- ---- which call is due

-- the first of some pages
abbrev pub first_of : List PlanPage → Option PlanPage
first_of [] = None
first_of (p ∷ pages) = Some p

-- the data page that the next step writes, where one is due
abbrev pub due_in : List PlanPage → Option DuePage
due_in [] = None
due_in (Data slot number r ∷ pages) = Some (record { slot = slot; page = number })
due_in (Map place image ∷ pages) = None

-- a page is given exactly where a data page is due, and it has the digest that the plan has
abbrev pub IsGiven : List PlanPage → Option (List ℕ) → Type 0
IsGiven [] given = given ≡ None
IsGiven (Data slot number r ∷ pages) None = ⊥
IsGiven (Data slot number r ∷ pages) (Some bytes) = sha256 bytes ≡ r.digest
IsGiven (Map place image ∷ pages) given = given ≡ None

-- the bytes that a planned page is written with, where these are given for a data page
abbrev pub given_bytes : PlanPage → Option (List ℕ) → List ℕ
given_bytes (Data slot number r) given = unwrap_or given []
given_bytes (Map place image) given = image

-- the write of the first of these pages, and else this call
abbrev pub first_call : List PlanPage → Option (List ℕ) → Call → Call
first_call [] given then = then
first_call (p ∷ pages) given then = Change (Write (place_of p) (given_bytes p given))

-- the call that the next step makes
abbrev pub call_at : WayState → Option (List ℕ) → Call
call_at s given = first_call s.pages given (journal.call_at s.head s.epoch s.images s.stage)

-- ---- how it goes on

-- the pages that are left after the first of these
abbrev pub after_first : List PlanPage → List PlanPage
after_first [] = []
after_first (p ∷ pages) = pages

-- the stage of the journal's commit after the call: it goes on where no page is left
abbrev pub stage_after : List PlanPage → ℕ → Stage → Stage
stage_after [] count stage = next_stage count stage
stage_after (p ∷ pages) count stage = stage

-- the commit after the call
abbrev pub next_of : WayState → WayState
next_of s = record s { pages = after_first s.pages; stage = stage_after s.pages (length s.images) s.stage }

-- Wrote while pages are left, and then this answer
abbrev pub answer_in : List PlanPage → CommitStep → CommitStep
answer_in [] then = then
answer_in (p ∷ pages) then = Wrote

-- what the next step answers
abbrev pub answer_of : WayState → CommitStep
answer_of s = answer_in s.pages (journal.answer_at (length s.images) s.stage)

-- how many calls are left
abbrev pub steps_left : WayState → ℕ
steps_left s = length s.pages + length (calls_from s.head s.epoch s.images s.stage)

-- ---- the list of calls, where the data pages of a view are these by slot and number

-- the bytes of a planned page
abbrev pub bytes_in : (ℕ → ℕ → List ℕ) → PlanPage → List ℕ
bytes_in source (Data slot number r) = source slot number
bytes_in source (Map place image) = image

-- its write to its place
abbrev pub write_of : (ℕ → ℕ → List ℕ) → PlanPage → DiskCall
write_of source p = Write (place_of p) (bytes_in source p)

-- the calls that are left: the pages in order, and then the journal's
abbrev pub calls_left : (ℕ → ℕ → List ℕ) → WayState → List DiskCall
calls_left source s = map (write_of source) s.pages ++ calls_from s.head s.epoch s.images s.stage

-- the page that is given is the view's, where a data page is due
abbrev pub IsGivenFrom : (ℕ → ℕ → List ℕ) → List PlanPage → Option (List ℕ) → Type 0
IsGivenFrom source [] given = Unit {0}
IsGivenFrom source (Data slot number r ∷ pages) given = given ≡ Some (source slot number)
IsGivenFrom source (Map place image ∷ pages) given = Unit {0}

-- the page of the view that the next step takes
abbrev pub source_page : (ℕ → ℕ → List ℕ) → List PlanPage → Option (List ℕ)
source_page source [] = None
source_page source (Data slot number r ∷ pages) = Some (source slot number)
source_page source (Map place image ∷ pages) = None

-- the call that it makes with it
abbrev pub source_call : (ℕ → ℕ → List ℕ) → WayState → Call
source_call source s = call_at s (source_page source s.pages)

-- ---- what is true of each commit on its way

-- the first place of data in a store with this head: the heads, the homes and the journal lie below it
abbrev pub first_data : Head → ℕ
first_data head = 2 + 2 * head.nodes

-- a page is planned at a place of data
pub record IsDataPage (head : Head) (p : PlanPage) : Type 0 where
  pub above : first_data head ≤ place_of p
  pub below : place_of p < head.blocks

-- while pages are left the journal's commit hasn't begun
abbrev pub Waits : List PlanPage → Stage → Type 0
Waits [] stage = Unit {0}
Waits (p ∷ pages) stage = stage ≡ Journal 0

-- the journal's commit can go on from its stage; each page that is left goes to a place of data, and the journal waits
-- for them
pub record IsWay (s : WayState) : Type 0 where
  pub can : CanGoOn s.head s.epoch s.images s.stage
  pub places : All (IsDataPage s.head) s.pages
  pub waits : Waits s.pages s.stage
