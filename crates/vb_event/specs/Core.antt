-- The folder as contracts see it.
use Rattle.std.specs.Prelude.{ℕ, ◌+◌, ◌*◌, ◌≤◌, Bool, true, false, not, ◌||◌, is_some, List, [], ◌∷◌, Option}
use Rattle.vb_tree.specs.declared.tree.Limits.{Limits}
use Rattle.vb_tree.specs.declared.tree.TreeEntry.{TreeEntry}
use Rattle.vb_hist.specs.declared.entry.Entry.{Entry}
use Rattle.vb_hist.specs.declared.entry.Stage.{Stage}
use Rattle.vb_hist.specs.declared.entry.Stage.TheVariants.{Rested, Written, Committed}
use Rattle.vb_cloud.specs.Machine.{CloudState}
use Rattle.vb_journal.specs.declared.commit_stage.CommitStep.{CommitStep}
use Rattle.vb_journal.specs.declared.commit_stage.CommitStep.TheVariants as commits

-- the folder beside its devices: its limits, its history, the last epoch, the sequence of the last head (0 until there is
-- one), the epoch that was last published, the epoch of the view that stands, how far its commit is, the live tree, the
-- frozen tree where there is one, what the steps of the commit that is on still answer, the epoch whose publication is in
-- doubt, and how many messages of the view that stands count as sent
pub record Core : Type 0 where
  pub limits : Limits
  pub history : List Entry
  pub epoch : ℕ
  pub sequence : ℕ
  pub published : ℕ
  pub standing : Option ℕ
  pub stage : Stage
  pub active : List TreeEntry
  pub frozen : Option (List TreeEntry)
  pub left : List CommitStep
  pub unsure : Option ℕ
  pub sent : ℕ

-- a folder, how many entries its history takes without memory, what its cloud is told to be, and how often its disk and its
-- link failed
pub record FolderView : Type 0 where
  pub core : Core
  pub spare : ℕ
  pub cloud : Option CloudState
  pub disk_faults : ℕ
  pub link_faults : ℕ

-- what comes from the devices at an event: what the steps of a commit will answer that a freeze begins, and how many messages
-- make the cloud show the view that stands
pub record Given : Type 0 where
  pub commit : List CommitStep
  pub messages : ℕ

-- the greatest epoch, 2^63 - 1
abbrev pub greatest_epoch : ℕ
greatest_epoch = 9223372036854775807

-- the sequence from which on no commit begins, 2^63
abbrev pub sequences_end : ℕ
sequences_end = 9223372036854775808

-- the epoch below which a folder that keeps pace is never spent, 2^62 - 1
abbrev pub epochs_end : ℕ
epochs_end = 4611686018427387903

-- whether no commit is on
abbrev pub is_rested : Stage → Bool
is_rested Rested = true
is_rested Written = false
is_rested Committed = false

-- whether a view stands or a commit is on
abbrev pub is_busy : Core → Bool
is_busy core = is_some core.standing || not (is_rested core.stage)

-- how many sequences the commit that is on still takes
abbrev pub sequences_left : Stage → ℕ
sequences_left Rested = 0
sequences_left Written = 2
sequences_left Committed = 2

-- the folder took at most two sequences for its format, and two for each of its epochs, those of the commit that is on among them
abbrev pub KeepsPace : Core → Type 0
KeepsPace core = core.sequence + sequences_left core.stage ≤ 2 * core.epoch + 2

-- these answers bring a commit from a stage to its rest: it is committed once, and then rests once, with the last of them
abbrev pub BringToRest : Stage → List CommitStep → Type 0
BringToRest Rested [] = Unit {0}
BringToRest Written (commits.Wrote ∷ left) = BringToRest Written left
BringToRest Written (commits.Synced ∷ left) = BringToRest Written left
BringToRest Written (commits.Committed ∷ left) = BringToRest Committed left
BringToRest Committed (commits.Wrote ∷ left) = BringToRest Committed left
BringToRest Committed (commits.Synced ∷ left) = BringToRest Committed left
BringToRest Committed (commits.Rested ∷ left) = BringToRest Rested left
BringToRest stage left = ⊥

-- what a device may give: answers that bring a commit to its rest, and at least one message
pub record IsGiven (given : Given) : Type 0 where
  pub commit : BringToRest Written given.commit
  pub messages : 1 ≤ given.messages
