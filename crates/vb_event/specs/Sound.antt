-- Sound folders: what ties a folder to its history, to its cloud, and to an opening.
use Rattle.std.specs.Prelude.{◌≡◌, ◌≢◌, ◌⊎◌, ℕ, ◌+◌, ◌<◌, ◌≤◌, ◌==◌, if◌then◌else◌, List, [], Option, Some, None, IfSome, slice_get}
use Rattle.vb_tree.specs.declared.tree.TreeEntry.{TreeEntry}
use Rattle.vb_hist.specs.declared.entry.Entry.{Entry}
use Rattle.vb_hist.specs.declared.entry.Stage.TheVariants.{Rested, Written}
use Rattle.vb_hist.specs.declared.marks.Marks.{Marks}
use Rattle.vb_hist.specs.Histories.{HasNoCut, IsFrozenAt}
use Rattle.vb_hist.specs.Legal.{Opening, IsLegal, marks_of, folder_of, folder_at, waiting_view}
use Rattle.vb_cloud.specs.Machine.{CloudState}
use Rattle.vb_msg.specs.declared.message.Msg.{Msg}
use Rattle.vb_publish.specs.Clouds.{HasTaken, MayUpload}
use Rattle.vb_publish.specs.Plans.{counts_of_tree, plan_length, upload_plan}
use Rattle.vb_event.specs.Core.{Core, FolderView, Given, BringToRest, is_busy}
use Rattle.vb_event.specs.Answers.{due_view}
use Rattle.vb_event.specs.Steps.{frozen_while}

-- what the folder tells are these marks; where it has a doubt that is theirs, and theirs may stand where it has none any more
pub record TellsMarks (core : Core) (marks : Marks) : Type 0 where
  pub last : core.epoch ≡ marks.last
  pub standing : core.standing ≡ marks.standing
  pub stage : core.stage ≡ marks.stage
  pub published : core.published ≡ marks.published
  pub limits : core.limits ≡ marks.limits
  pub doubt : IfSome core.unsure (λ epoch. marks.doubt ≡ Some epoch)

-- messages are being sent: a view stands, its epoch is the last and it is committed, and nothing is in doubt
pub record IsSending (core : Core) : Type 0 where
  pub stands : core.standing ≡ Some core.epoch
  pub committed : core.stage ≢ Written
  pub sure : core.unsure ≡ None

-- how the numbers of a folder hang together: what stands and what is in doubt is above what is published, a view that stands is
-- the last one, the answers that are left bring the commit to its rest, and messages count as sent only while they are
pub record IsCoherent (core : Core) : Type 0 where
  pub view_is_last : IfSome core.standing (λ epoch. (epoch ≡ core.epoch) × (core.published < epoch))
  pub published_is_past : core.published ≤ core.epoch
  pub doubt_is_newer : IfSome core.unsure (λ epoch. (core.published < epoch) × (epoch ≤ core.epoch))
  pub left : BringToRest core.stage core.left
  pub sent : 0 < core.sent → IsSending core

-- the frozen tree: the folder at the last freeze while a view stands or a commit is on, and none else
abbrev pub frozen_tree_at : Opening → Core → Option (List TreeEntry)
frozen_tree_at o core = if is_busy core then Some (folder_at o core.history core.epoch) else None

-- the part that knows no device: the history is legal and nothing was cut, and the folder is what it says
pub record HasSoundHistory (o : Opening) (core : Core) : Type 0 where
  pub legal : IsLegal o core.history
  pub whole : HasNoCut core.history
  pub active : core.active ≡ folder_of o core.history
  pub frozen : core.frozen ≡ frozen_tree_at o core
  pub marks : TellsMarks core (marks_of o core.history)
  -- a view that is being written is one of this history
  pub written : core.stage ≡ Written → o.start < core.epoch
  pub order : IsCoherent core

-- ---- the disk's part

-- the epochs of the views that a disk may recover: the last one, and until it is committed the one before
abbrev pub MayRecover : Core → ℕ → Type 0
MayRecover core epoch = (epoch ≡ core.epoch) ⊎ ((epoch + 1 ≡ core.epoch) × (core.stage ≡ Written))

-- a disk may recover this tree, of the view of this epoch
pub record Recovers (o : Opening) (core : Core) (epoch : ℕ) (tree : List TreeEntry) : Type 0 where
  pub may : MayRecover core epoch
  pub is_folder : tree ≡ folder_at o core.history epoch

-- ---- the cloud's part

-- the tree that belongs to a published epoch: the opening's where that is the opening's own, and else the folder at the epoch
abbrev pub published_tree_at : Opening → List Entry → ℕ → List TreeEntry
published_tree_at o history epoch = if epoch == o.published then o.published_tree else folder_at o history epoch

-- a published epoch is the opening's, or a later one whose freeze survives
abbrev pub IsPublishedFreeze : Opening → List Entry → ℕ → Type 0
IsPublishedFreeze o line epoch = (epoch ≡ o.published) ⊎ ((o.published < epoch) × IsFrozenAt o.start epoch line)

-- a cloud shows the published epoch or the one in doubt, with the tree that belongs to it, and the messages that count as sent
-- make its draft
pub record HasSoundCloud (o : Opening) (core : Core) (k : CloudState) : Type 0 where
  pub epoch : (k.epoch ≡ core.published) ⊎ (core.unsure ≡ Some k.epoch)
  pub tree : k.tree ≡ published_tree_at o core.history k.epoch
  pub draft : (tree : List TreeEntry) → core.frozen ≡ Some tree → HasTaken core.sent core.epoch tree k

-- a folder is sound for an opening: its history is, its cloud where that is told, and the counts of faults are none below the
-- opening's
pub record IsSound (o : Opening) (folder : FolderView) : Type 0 where
  pub history : HasSoundHistory o folder.core
  pub cloud : (k : CloudState) → folder.cloud ≡ Some k → HasSoundCloud o folder.core k
  pub disk_faults : o.disk_faults ≤ folder.disk_faults
  pub link_faults : o.link_faults ≤ folder.link_faults

-- a folder that was opened so, with this sequence: no commit is on, and the last view stands where it waits to be published
abbrev pub core_at_start : Opening → ℕ → Core
core_at_start o sequence = record {
  limits = o.limits;
  history = [];
  epoch = o.start;
  sequence = sequence;
  published = o.published;
  standing = waiting_view o.start o.published;
  stage = Rested;
  active = o.base;
  frozen = frozen_while (waiting_view o.start o.published) Rested (Some o.base);
  left = [];
  unsure = None;
  sent = 0;
}

-- an opening with other counts of faults
abbrev pub with_counts : Opening → ℕ → ℕ → Opening
with_counts o disk link = record o { disk_faults = disk; link_faults = link }

-- ---- the message that is due

-- this message is due to a cloud: nothing is in doubt, a view is due that this cloud may take, and the message is the one in
-- its plan at the number that count as sent
pub record IsDueMessage (given : Given) (core : Core) (k : CloudState) (tree : List TreeEntry) (m : Msg) : Type 0 where
  pub sure : core.unsure ≡ None
  pub view : due_view core.standing core.stage ≡ Some core.epoch
  pub frozen : core.frozen ≡ Some tree
  pub messages : given.messages ≡ plan_length (counts_of_tree tree)
  pub may : MayUpload k core.epoch tree
  pub there : slice_get (upload_plan core.epoch tree k.tree) core.sent ≡ Some m
