-- A commit, as contracts see it.
use Rattle.std.specs.Prelude.{◌≡◌, ℕ, List, length}
use Rattle.vb_disk.specs.States.{DiskCall}
use Rattle.vb_head.specs.declared.head.Head.{Head}
use Rattle.vb_journal.specs.declared.commit.Commit.{Commit}
use Rattle.vb_journal.specs.declared.commit_stage.Stage.{Stage}
use Rattle.vb_journal.specs.Plans.{call_at, calls_from, next_stage}
use Rattle.vb_steps.specs.Calls.{Call}

-- the images of a commit
abbrev pub images_of : Commit → List (List ℕ)
images_of c = c.images

-- the head before it
abbrev pub head_of : Commit → Head
head_of c = c.head

-- its epoch
abbrev pub epoch_of : Commit → ℕ
epoch_of c = c.epoch

-- the calls that are left
abbrev pub calls_left : Commit → List DiskCall
calls_left c = calls_from c.head c.epoch c.images c.stage

-- how far it has come
abbrev pub stage_of : Commit → Stage
stage_of c = c.stage

-- the call that its next step makes
abbrev pub commit_call : Commit → Call
commit_call c = call_at c.head c.epoch c.images c.stage

-- how many places it relies on
abbrev pub places_of : Commit → ℕ
places_of c = c.head.blocks

-- the same commit, at the stage after its call
pub record GoesToNext (old new : Commit) : Type 0 where
  pub head_is : new.head ≡ old.head
  pub epoch_is : new.epoch ≡ old.epoch
  pub images_are : new.images ≡ old.images
  pub stage_is : new.stage ≡ next_stage (length old.images) old.stage
