-- What contracts see of a commit.
use Rattle.std.specs.Prelude.{◌≡◌, ℕ, List, [], ◌∷◌, Option, Some, None}
use Rattle.vb_commit.specs.declared.committing.Committing.TheInside.{Inside}
use Rattle.vb_commit.specs.declared.pages_left.PagesLeft.{PagesLeft}
use Rattle.vb_commit.specs.Ways.{IsWay, WayState, begun_way}
use Rattle.vb_head.specs.declared.head.Head.{Head}
use Rattle.vb_journal.specs.declared.commit.Commit.{Commit}
use Rattle.vb_journal.specs.declared.commit_stage.Stage.{Stage}
use Rattle.vb_journal.specs.declared.commit_stage.Stage.TheVariants.{Journal}
use Rattle.vb_journal.specs.Commits.{epoch_of, head_of, images_of, stage_of}
use Rattle.vb_plan.specs.declared.plan_page.PlanPage.{PlanPage}

-- the page that is due, and those after it
abbrev pub all_left : PagesLeft → List PlanPage
all_left left = left.due ∷ left.plan.pages

-- a commit whose pages are yet to be written: the images are still in the plan
abbrev pub left_way : Head → ℕ → PagesLeft → WayState
left_way head epoch left = begun_way head epoch left.plan.images (all_left left)

-- one whose pages were all written: the journal's commit goes on
abbrev pub placed_way : Commit → WayState
placed_way c = record { head = head_of c; epoch = epoch_of c; images = images_of c; pages = []; stage = stage_of c }

-- the images of a commit with these pages left, if any are
abbrev pub images_in : Option PagesLeft → Commit → List (List ℕ)
images_in None c = images_of c
images_in (Some left) c = left.plan.images

-- the pages
abbrev pub pages_in : Option PagesLeft → List PlanPage
pages_in None = []
pages_in (Some left) = all_left left

-- the stage of the journal's commit
abbrev pub stage_in : Option PagesLeft → Commit → Stage
stage_in None c = stage_of c
stage_in (Some left) c = Journal 0

-- what contracts see of a commit with these pages left, if any are
abbrev pub way_of : Option PagesLeft → Commit → WayState
way_of pages c = record { head = head_of c; epoch = epoch_of c; images = images_in pages c; pages = pages_in pages; stage = stage_in pages c }

-- what contracts see of a commit
abbrev pub shown : Inside → WayState
shown a = way_of a.pages a.commit

-- what is true of each commit on its way is true of it, and its head and epoch are those of the journal's commit
pub record IsAtOne (a : Inside) : Type 0 where
  pub way : IsWay (shown a)
  pub head : head_of a.commit ≡ a.head
  pub epoch : epoch_of a.commit ≡ a.epoch
