-- What each call of a folder gives, as one relation of the folder before it and after it, which callers cite.
use Rattle.std.specs.Prelude.{◌≡◌, ℕ, Bool, true, false, not, if◌then◌else◌, is_none, List, [], Option, Some, None, Result, Ok, IfOk, OnOk, OnErr, IsErrOf}
use Rattle.vb_active.specs.Performs.{Performs}
use Rattle.vb_cause.specs.Causes.{HasCause, UsesFailures}
use Rattle.vb_disk.specs.declared.disk_error.DiskError.{DiskError}
use Rattle.vb_disk.specs.declared.disk_error.DiskError.TheVariants.{Failed, Memory}
use Rattle.vb_disk.specs.States.{DiskState}
use Rattle.vb_disk.specs.Within.{CrashesWithin}
use Rattle.vb_frozen.specs.Sources.{next_of}
use Rattle.vb_index.specs.Contents.{HasTree}
use Rattle.vb_index.specs.Indexes.{IndexState}
use Rattle.vb_journal.specs.declared.commit_stage.CommitStep.{CommitStep}
use Rattle.vb_journal.specs.declared.commit_stage.CommitStep.TheVariants.{Rested as RestedNow}
use Rattle.vb_journal.specs.Plans.{closed_head}
use Rattle.vb_pages.specs.declared.page_error.PageError.{PageError}
use Rattle.vb_plan.specs.Laws.{slots_next}
use Rattle.vb_plan.specs.Plans.{plan_of}
use Rattle.vb_plan.specs.Seen.{basis_of}
use Rattle.vb_steps.specs.Disks.{DiskView}
use Rattle.vb_steps.specs.Steps.{CallsOnce}
use Rattle.vb_store.specs.Clear.{first_candidates}
use Rattle.vb_store.specs.Views.{ViewState, limits_of}
use Rattle.vb_tree.specs.declared.operation.Op.{Op}
use Rattle.vb_tree.specs.declared.reply.Reply.{Reply}
use Rattle.vb_tree.specs.declared.tree.TreeEntry.{TreeEntry}
use Rattle.vb_tree.specs.Operations.{reply_of, tree_after}
use Rattle.vb_views.specs.AtRest.{IsAtRestFor}
use Rattle.vb_views.specs.Reads.{pages_by}
use Rattle.vb_local.specs.Answers.{GivesFirst, answers_left}
use Rattle.vb_local.specs.AtRest.{HasNewRefs, SettlesPages}
use Rattle.vb_local.specs.Phases.{IsBegun, IsFrozenOf}
use Rattle.vb_local.specs.Shown.{LocalTrees, ShowsNext, ShowsOn, trees_after}
use Rattle.vb_local.specs.States.{LocalState, Rests, Waits, epoch_in, frozen_in, is_on, IsResting}
use Rattle.vb_local.specs.Ties.{FrozenState}

-- ---- the start

-- the trees of a folder that begins with this one
abbrev pub one_tree : List TreeEntry → LocalTrees
one_tree tree = record { active = tree; frozen = tree; committed = tree }

-- the epoch of the committed view where it stands
abbrev pub standing_of : Bool → ViewState → Option ℕ
standing_of stands v = if stands then Some v.head.epoch else None

-- a folder that begins on a view: its live view is that of the committed nodes, no page is in memory, no commit is on, and
-- the frozen view is that of the live one where it stands; and a disk that is at rest for the view shows it with the view's
-- tree
pub record Starts (v : ViewState) (stands : Bool) (s : LocalState) : Type 0 where
  pub live : s.live ≡ record { index = v.index; pages = [] }
  pub view : s.view ≡ v
  pub resting : IsResting s.phase
  pub standing : s.standing ≡ standing_of stands v
  pub frozen : IsBegun stands s.live (frozen_in s.phase)
  pub shows : (d : DiskState) (tree : List TreeEntry) → IsAtRestFor v.head v.index d
      → HasTree v.index.nodes (pages_by (first_candidates d) v.index.nodes) tree → ShowsOn d s (one_tree tree)

-- ---- operations

-- the reply is the plain tree's, and the disk shows the folder with the tree that the plain one would have
pub record PlaysOn (d : DiskState) (old new : LocalState) (op : Op) (t : LocalTrees) (answer : Reply) : Type 0 where
  pub said : answer ≡ reply_of old.live.index.limits t.active op
  pub shows : ShowsOn d new (record t { active = tree_after old.live.index.limits t.active op })

-- an operation changes the live view alone; over a disk that shows the folder it answers and leaves what the plain tree
-- would, and an error leaves an equal folder
pub record Calls (old new : LocalState) (op : Op) (told : Option DiskState) (result : Result Reply PageError) : Type 0 where
  pub performs : Performs told old.live new.live op result
  pub others : new ≡ record old { live = new.live }
  pub plays : (d : DiskState) (t : LocalTrees) → told ≡ Some d → ShowsOn d old t → IfOk result (PlaysOn d old new op t)
  pub kept : OnErr result (new ≡ old)

-- ---- freezes

-- the live view is frozen at an epoch: the frozen one has its entries in path order, its pages in memory and its tree, and
-- the live and the committed view stay
pub record Freezes (old : LocalState) (epoch : ℕ) (new : LocalState) : Type 0 where
  pub frozen : FrozenState
  pub waits : new ≡ record old { phase = Waits frozen epoch; standing = Some epoch }
  pub of : IsFrozenOf old.live frozen
  pub shows : (d : DiskState) (t : LocalTrees) → ShowsOn d old t → ShowsOn d new (record t { frozen = t.active })

-- no view stands any more; a commit that is on goes on
pub record Drops (old new : LocalState) : Type 0 where
  pub live : new.live ≡ old.live
  pub view : new.view ≡ old.view
  pub none : new.standing ≡ None
  pub epoch : epoch_in new.phase ≡ epoch_in old.phase
  pub answers : answers_left new ≡ answers_left old
  pub shows : (d : DiskState) (t : LocalTrees) → ShowsOn d old t → ShowsOn d new t

-- ---- steps of a commit

-- the views in memory stay, but for a next view that is begun and the places that it takes
pub record KeepsViews (old new : LocalState) : Type 0 where
  pub live : new.live ≡ old.live
  pub head : new.view.head ≡ old.view.head
  pub index : new.view.index ≡ old.view.index
  pub frozen : frozen_in new.phase ≡ frozen_in old.phase
  pub epoch : epoch_in new.phase ≡ epoch_in old.phase

-- the next view is the committed one, at the epoch of the commit; what stands is settled, and the live view is too
pub record SettlesViews (old new : LocalState) : Type 0 where
  pub frozen : FrozenState
  pub settled : FrozenState
  pub was : frozen_in old.phase ≡ Some frozen
  pub rests : new.phase ≡ Rests (if is_none old.standing then None else Some settled)
  pub index : old.view.next ≡ Some new.view.index
  pub head : (epoch : ℕ) → epoch_in old.phase ≡ Some epoch → new.view.head ≡ closed_head old.view.head epoch
  pub pages : SettlesPages old.live frozen new.live settled
  pub order : HasNewRefs frozen.order settled.order

-- a step gives the first of the answers that are left, by one call of the disk; an error leaves all of them. For want of
-- memory no write was made.
pub record StepsOn (old new : LocalState) (before after : DiskView) (result : Result CommitStep DiskError) : Type 0 where
  pub answer : GivesFirst (answers_left old) (answers_left new) result
  pub standing : new.standing ≡ old.standing
  pub keeps : (result ≡ Ok RestedNow → ⊥) → KeepsViews old new
  pub settles : result ≡ Ok RestedNow → SettlesViews old new
  pub called : CallsOnce Memory (is_on old.phase) before.calls after.calls result
  pub seen : after.seen ≡ before.seen
  pub cause : HasCause Failed before.faults after.faults result
  pub left : UsesFailures Failed before.left after.left result
  pub memory : IsErrOf result Memory → after.told ≡ before.told
  pub untold : before.told ≡ None → after.told ≡ None
  pub within : CrashesWithin before.told after.told
  -- a disk that shows the folder shows it afterwards
  pub shown : (d : DiskState) (t : LocalTrees) → before.told ≡ Some d → ShowsOn d old t
      → ShowsNext old new t (trees_after result t) d after.told
