-- The promise of a folder, over every list of events. It speaks of what survives of a history (`folder_of`, `folder_at`).
use Rattle.std.specs.Prelude.{◌≡◌, ◌⊎◌, ℕ, ◌≤◌, true, Some}
use mathlib.Core.List.{IsPrefix}
use Rattle.vb_hist.specs.Histories.{surviving}
use Rattle.vb_hist.specs.Legal.{Opening, IsLegal, marks_of, folder_of, folder_at}
use Rattle.vb_hist.specs.Openings.{published_front}
use Rattle.vb_cloud.specs.Machine.{CloudState}
use Rattle.vb_event.specs.Core.{Core, FolderView, is_busy}
use Rattle.vb_event.specs.Sound.{TellsMarks, IsPublishedFreeze, published_tree_at}

-- what a folder that was opened so tells of its history
pub record TellsHistory (o : Opening) (core : Core) : Type 0 where
  -- the history is legal, entry by entry
  pub legal : IsLegal o core.history
  -- the live tree is the folder after what survives of the history
  pub live_tree : core.active ≡ folder_of o core.history
  -- while a view stands or a commit is on, the frozen tree is the folder after what survives up to the last freeze
  pub frozen_tree : is_busy core ≡ true → core.frozen ≡ Some (folder_at o core.history core.epoch)
  -- the folder tells the marks of the history
  pub marks : TellsMarks core (marks_of o core.history)

-- what a cloud shows: the epoch that the folder tells, or the one in doubt; that is the opening's or one whose freeze
-- survives; and the tree is the opening's, or else the folder after what survives up to that freeze
pub record ShowsFreeze (o : Opening) (core : Core) (k : CloudState) : Type 0 where
  pub told : (k.epoch ≡ core.published) ⊎ (core.unsure ≡ Some k.epoch)
  pub frozen : IsPublishedFreeze o (surviving o.start core.history) k.epoch
  pub tree : k.tree ≡ published_tree_at o core.history k.epoch

-- what is published goes on from what was published before: the epoch doesn't fall, and the front of what survives that is
-- published goes on from the one before
pub record GoesOnFrom (o : Opening) (before after : Core) (was is : ℕ) : Type 0 where
  pub later : was ≤ is
  pub extends : IsPrefix (published_front o (surviving o.start before.history) was) (published_front o (surviving o.start after.history) is)

-- what holds at two moments of a folder that was opened so, the one before the other
pub record KeepsPromise (o : Opening) (before after : FolderView) : Type 0 where
  pub tells : TellsHistory o after.core
  pub shown : (k : CloudState) → after.cloud ≡ Some k → ShowsFreeze o after.core k
  -- the history only grows, at its end
  pub grows : IsPrefix before.core.history after.core.history
  -- what the folder tells to be published goes on, and so does what the cloud shows
  pub published : GoesOnFrom o before.core after.core before.core.published after.core.published
  pub seen : (was k : CloudState) → before.cloud ≡ Some was → after.cloud ≡ Some k → GoesOnFrom o before.core after.core was.epoch k.epoch
