-- What the cloud shows of a history, and the opening that a history makes.
use Rattle.std.specs.Prelude.{◌≡◌, ◌⊎◌, ℕ, ◌==◌, if◌then◌else◌, List, [], Option, None}
use Rattle.vb_tree.specs.declared.tree.TreeEntry.{TreeEntry}
use Rattle.vb_hist.specs.declared.entry.Entry.{Entry}
use Rattle.vb_hist.specs.declared.entry.Stage.TheVariants.{Rested}
use Rattle.vb_hist.specs.Histories.{surviving, up_to_epoch}
use Rattle.vb_hist.specs.declared.marks.Marks.{Marks}
use Rattle.vb_hist.specs.Legal.{Opening, marks_of, folder_of, folder_at, waiting_view}

-- what of a surviving list the cloud shows at an epoch: nothing where that is the opening's, and else all up to its freeze
abbrev pub published_front : Opening → List Entry → ℕ → List Entry
published_front o line epoch = if epoch == o.published then [] else up_to_epoch o.start epoch line

-- what of a history the cloud shows
abbrev pub published_history : Opening → List Entry → List Entry
published_history o history = published_front o (surviving o.start history) (marks_of o history).published

-- the tree that the cloud shows after a history: the opening's where its epoch is still shown, and else the folder at the
-- published epoch
abbrev pub published_tree_of : Opening → List Entry → List TreeEntry
published_tree_of o history =
    if (marks_of o history).published == o.published then o.published_tree else folder_at o history (marks_of o history).published

-- the opening that a history makes: its limits in force, folder, last epoch, published epoch and published tree,
-- with the devices' counts of faults at that moment
abbrev pub opening_of : Opening → List Entry → ℕ → ℕ → Opening
opening_of o history disk_faults link_faults = record {
  limits = (marks_of o history).limits;
  base = folder_of o history;
  start = (marks_of o history).last;
  published = (marks_of o history).published;
  published_tree = published_tree_of o history;
  disk_faults = disk_faults;
  link_faults = link_faults;
}

-- a folder may be opened after a history: no commit is on, the last epoch's view stands where it waits to be published,
-- and the folder is the one at the last epoch
pub record MakesOpening (o : Opening) (history : List Entry) : Type 0 where
  pub rested : (marks_of o history).stage ≡ Rested
  pub waits : (marks_of o history).standing ≡ waiting_view (marks_of o history).last (marks_of o history).published
  pub tree : folder_of o history ≡ folder_at o history (marks_of o history).last

-- the marks after a history that goes on another one, beside the marks of that history alone: they are the same, but that
-- the doubt from before may stand where the history alone has none
pub record GoesOnWith (before : Option ℕ) (alone whole : Marks) : Type 0 where
  pub last : whole.last ≡ alone.last
  pub standing : whole.standing ≡ alone.standing
  pub stage : whole.stage ≡ alone.stage
  pub doubt : (whole.doubt ≡ alone.doubt) ⊎ ((alone.doubt ≡ None) × (whole.doubt ≡ before))
  pub published : whole.published ≡ alone.published
  pub limits_are : whole.limits ≡ alone.limits
