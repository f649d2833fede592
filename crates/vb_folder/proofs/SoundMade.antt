-- A sound folder is sound after each event.
use Rattle.std.proofs.Common.{◌≡◌, ◌≢◌, ◌⊎◌, ℕ, ◌+◌, Bool, true, false, cond, not, ◌||◌, List, [], ◌∷◌, Option, Some, None, is_some, refl, sym, subst, ap, ◌∙◌, arith, inl, inr}
use Rattle.vb_disk.specs.States.{DiskState}
use Rattle.vb_event.specs.Answers.{MayAnswer, commit_answer, is_spent}
use Rattle.vb_event.specs.Core.{BringToRest, Core, Given, IsGiven, is_busy, is_rested}
use Rattle.vb_event.specs.Sound.{HasSoundHistory, MayRecover, Recovers}
use Rattle.vb_event.specs.Steps.{core_after}
use Rattle.vb_event.specs.declared.answer.FaultKind.TheVariants.{Link}
use Rattle.vb_event.specs.declared.answer.FolderAnswer.{FolderAnswer}
use Rattle.vb_event.specs.declared.answer.FolderAnswer.TheVariants as answers
use Rattle.vb_event.specs.declared.event.FolderEvent.{FolderEvent}
use Rattle.vb_event.specs.declared.event.FolderEvent.TheVariants as events
use Rattle.vb_hist.specs.Legal.{Opening, folder_at}
use Rattle.vb_hist.specs.declared.entry.Stage.{Stage}
use Rattle.vb_hist.specs.declared.entry.Stage.TheVariants as stages
use Rattle.vb_journal.specs.declared.commit_stage.CommitStep.{CommitStep}
use Rattle.vb_journal.specs.declared.commit_stage.CommitStep.TheVariants.{Wrote, Synced, Committed, Rested, Idle}
use Rattle.vb_local.specs.Shown.{LocalTrees}
use Rattle.vb_publish.specs.declared.step.UploadStep.TheVariants as uploads
use Rattle.vb_tree.specs.declared.operation.Op.{Op}
use Rattle.vb_tree.specs.declared.tree.TreeEntry.{TreeEntry}
use Rattle.vb_folder.specs.Events.{trees_after, Makes, ShowsAfter}
use Rattle.vb_folder.specs.Ledgers.{IsKept, LedgerState, core_of}
use Rattle.vb_folder.specs.Sound.{IsSoundOn}
use Rattle.vb_folder.proofs.Stepped.{while-on}

-- ---- the laws of events

-- each event keeps the history sound
abbrev pub KeepsHistories : Type 0
KeepsHistories = (o : Opening) (core : Core) (given : Given) (event : FolderEvent) (answer : FolderAnswer) → IsGiven given → MayAnswer given core event answer → HasSoundHistory o core → HasSoundHistory o (core_after given core event answer)

-- what may be recovered stays what it is
abbrev pub KeepsTrees : Type 0
KeepsTrees = (o : Opening) (core : Core) (given : Given) (event : FolderEvent) (answer : FolderAnswer) (epoch : ℕ) (tree : List TreeEntry) → IsGiven given → MayAnswer given core event answer → HasSoundHistory o core → Recovers o core epoch tree → MayRecover (core_after given core event answer) epoch → Recovers o (core_after given core event answer) epoch tree

-- ---- the committed epoch

-- how much it is below the last one
abbrev pub behind : Stage → ℕ
behind stage = cond (is_rested stage) 0 1

-- it may be recovered until the next one is committed
may-recover : (core : Core) (epoch : ℕ) → core.stage ≢ stages.Committed → epoch + behind core.stage ≡ core.epoch → MayRecover core epoch
may-recover core epoch other at = (elim core.stage as (λ st. (st ≢ stages.Committed) → epoch + behind st ≡ core.epoch → core.stage ≡ st → MayRecover core epoch) [
  | stages.Rested ↦ λ other at is. inl (let e : epoch + 0 ≡ core.epoch = at in omega arith)
  | stages.Written ↦ λ other at is. inr (at, is)
  | stages.Committed ↦ λ other at is. absurd (other refl)
]) other at refl

-- ---- an event that leaves the committed view

-- the trees and the committed epoch are as before, and the next view isn't committed
pub record LeavesCommitted (core after : Core) (old new : LocalTrees) : Type 0 where
  pub trees : new.committed ≡ old.committed
  pub was : core.stage ≢ stages.Committed
  pub epochs : (epoch : ℕ) → epoch + behind core.stage ≡ core.epoch → epoch + behind after.stage ≡ after.epoch

-- or the commit rests
pub record BringsToRest (core after : Core) (old new : LocalTrees) : Type 0 where
  pub trees : new.committed ≡ old.frozen
  pub stage : core.stage ≡ stages.Committed
  pub rests : after.stage ≡ stages.Rested
  pub epoch : after.epoch ≡ core.epoch

abbrev Leaves : Core → Core → LocalTrees → LocalTrees → Type 0
Leaves core after old new = after.stage ≢ stages.Committed → LeavesCommitted core after old new ⊎ BringsToRest core after old new

-- nothing of it was changed
same : (core after : Core) (old new : LocalTrees) → new.committed ≡ old.committed → after.stage ≡ core.stage → after.epoch ≡ core.epoch → Leaves core after old new
same core after old new trees stage epoch other = inl (record {
  trees = trees;
  was = λ is. other (stage ∙ is);
  epochs = λ e at. ap (λ (st : Stage). e + behind st) stage ∙ at ∙ sym epoch;
})

called : (given : Given) (core : Core) (t : LocalTrees) (writer : ℕ) (op : Op) (answer : FolderAnswer) → Leaves core (core_after given core (events.Call writer op) answer) t (trees_after (events.Call writer op) answer t)
called given core t writer op (answers.Called reply) = same core _ t _ refl refl refl
called given core t writer op other = same core _ t _ refl refl refl

-- a freeze comes at rest, at the last epoch plus one
frozen-next : (busy spent : Bool) (last epoch sequence : ℕ) → cond busy (answers.Busy last) (cond spent (answers.Spent last sequence) (answers.Frozen (last + 1))) ≡ answers.Frozen epoch → (busy ≡ false) × (epoch ≡ last + 1)
frozen-next true spent last epoch sequence is = absurd (cc is)
frozen-next false true last epoch sequence is = absurd (cc is)
frozen-next false false last epoch sequence is = (refl, (let e : answers.Frozen (last + 1) ≡ answers.Frozen epoch = is in cc e))

idle-stage : (o : Option ℕ) (stage : Stage) → (is_some o || not (is_rested stage)) ≡ false → stage ≡ stages.Rested
idle-stage None stages.Rested off = refl
idle-stage None stages.Written off = absurd (cc off)
idle-stage None stages.Committed off = absurd (cc off)
idle-stage (Some e) stage off = absurd (cc off)

frozen : (given : Given) (core : Core) (t : LocalTrees) (by : ℕ) (answer : FolderAnswer) → MayAnswer given core (events.Freeze by) answer → Leaves core (core_after given core (events.Freeze by) answer) t (trees_after (events.Freeze by) answer t)
frozen given core t by (answers.Frozen epoch) (inl due) other =
    let next = frozen-next (is_busy core) (is_spent core) core.epoch epoch core.sequence (sym due) in
    let rested = idle-stage core.standing core.stage next.0 in
    inl (record {
      trees = refl;
      was = λ is. (let e : stages.Rested ≡ stages.Committed = sym rested ∙ is in cc e);
      epochs = λ e at. (let was : e + 0 ≡ core.epoch = ap (λ (st : Stage). e + behind st) (sym rested) ∙ at in let is = next.1 in omega arith);
    })
frozen given core t by (answers.Frozen epoch) (inr fault) other = (let e = fault.1 in absurd (cc e))
frozen given core t by answer may other = same core _ t _ refl refl refl other

-- the last answer comes once it is committed
rest-stage : (stage : Stage) (left : List CommitStep) → BringToRest stage left → commit_answer left ≡ Rested → stage ≡ stages.Committed
rest-stage stages.Rested [] rests is = absurd (cc is)
rest-stage stages.Written (Wrote ∷ left) rests is = absurd (cc is)
rest-stage stages.Written (Synced ∷ left) rests is = absurd (cc is)
rest-stage stages.Written (Committed ∷ left) rests is = absurd (cc is)
rest-stage stages.Committed left rests is = refl
rest-stage stage left rests is = absurd rests

due-step : (given : Given) (core : Core) (step : CommitStep) → MayAnswer given core events.CommitStep (answers.CommitStepped step) → commit_answer core.left ≡ step
due-step given core step (inl due) = (let e : answers.CommitStepped step ≡ answers.CommitStepped (commit_answer core.left) = due in cc e)
due-step given core step (inr fault) = (let e = fault.1 in absurd (cc e))

stepped : (given : Given) (core : Core) (t : LocalTrees) (answer : FolderAnswer) → BringToRest core.stage core.left → MayAnswer given core events.CommitStep answer → Leaves core (core_after given core events.CommitStep answer) t (trees_after events.CommitStep answer t)
stepped given core t (answers.CommitStepped Committed) rests may other = absurd (other refl)
stepped given core t (answers.CommitStepped Rested) rests may other = inr (record { trees = refl; stage = rest-stage core.stage core.left rests (due-step given core Rested may); rests = refl; epoch = refl })
stepped given core t (answers.CommitStepped Wrote) rests may other = same core _ t _ refl refl refl other
stepped given core t (answers.CommitStepped Synced) rests may other = same core _ t _ refl refl refl other
stepped given core t (answers.CommitStepped Idle) rests may other = same core _ t _ refl refl refl other
stepped given core t answer rests may other = same core _ t _ refl refl refl other

uploaded : (given : Given) (core : Core) (t : LocalTrees) (answer : FolderAnswer) → Leaves core (core_after given core events.UploadStep answer) t t
uploaded given core t (answers.UploadStepped uploads.Sent) = same core _ t _ refl refl refl
uploaded given core t (answers.UploadStepped (uploads.Published epoch)) = same core _ t _ refl refl refl
uploaded given core t (answers.UploadStepped uploads.Asked) = same core _ t _ refl refl refl
uploaded given core t (answers.Fault Link) = same core _ t _ refl refl refl
uploaded given core t other = same core _ t _ refl refl refl

dropped : (given : Given) (core : Core) (t : LocalTrees) (answer : FolderAnswer) → Leaves core (core_after given core events.DropView answer) t t
dropped given core t (answers.Dropped epoch) = same core _ t _ refl refl refl
dropped given core t other = same core _ t _ refl refl refl

leaves : (given : Given) (core : Core) (t : LocalTrees) (event : FolderEvent) (answer : FolderAnswer) → BringToRest core.stage core.left → MayAnswer given core event answer → Leaves core (core_after given core event answer) t (trees_after event answer t)
leaves given core t (events.Call writer op) answer rests may = called given core t writer op answer
leaves given core t (events.Freeze by) answer rests may = frozen given core t by answer may
leaves given core t events.CommitStep answer rests may = stepped given core t answer rests may
leaves given core t events.UploadStep answer rests may = uploaded given core t answer
leaves given core t events.DropView answer rests may = dropped given core t answer
leaves given core t (events.End writer) answer rests may = same core _ t _ refl refl refl

-- ---- a sound folder

or-true : (o : Option ℕ) → (is_some o || true) ≡ true
or-true None = refl
or-true (Some e) = refl

some-tree : (a b : List TreeEntry) → Some a ≡ Some b → a ≡ b
some-tree a b same = cc same

-- the frozen tree of a commit that is on is the folder at the last epoch
pub last-frozen : (o : Opening) (s : LedgerState) (t : LocalTrees) → HasSoundHistory o (core_of s t) → is_rested s.stage ≡ false → Recovers o (core_of s t) s.epoch t.frozen
last-frozen o s t sound going = record {
  may = inl refl;
  is_folder =
      let there : (core_of s t).frozen ≡ Some t.frozen = while-on s.local.standing s.stage (Some t.frozen) going in
      let busy : is_busy (core_of s t) ≡ true = ap (λ (b : Bool). is_some s.local.standing || not b) going ∙ or-true s.local.standing in
      let tree : (core_of s t).frozen ≡ Some (folder_at o s.history.entries s.epoch) = sound.frozen ∙ ap (λ (b : Bool). cond b (Some (folder_at o s.history.entries s.epoch)) None) busy in
      some-tree t.frozen (folder_at o s.history.entries s.epoch) (sym there ∙ tree);
}

pub still-sound : KeepsHistories → KeepsTrees → (o : Opening) (event : FolderEvent) (answer : FolderAnswer) (old new : LedgerState) (before after : Option DiskState) (d : DiskState) → IsKept old → IsKept new → Makes event answer old new before after → before ≡ Some d → IsSoundOn o old d → (next : DiskState) × (after ≡ Some next) × IsSoundOn o new next
still-sound histories kept_trees o event answer old new before after d was is makes told sound = (
  shown.next,
  shown.told,
  record {
    trees = trees;
    shows = shown.shows;
    history = subst (HasSoundHistory o) (sym shown.core) history;
    committed = λ other. subst (λ (c : Core). Recovers o c new.local.view.head.epoch trees.committed) (sym shown.core) (committed (λ at. other (stage ∙ at)));
  },
) where
  core : Core
  core = core_of old sound.trees

  shown : ShowsAfter makes.given event answer old new sound.trees after
  shown = makes.shown d sound.trees told sound.shows

  trees : LocalTrees
  trees = trees_after event answer sound.trees

  later : Core
  later = core_after makes.given core event answer

  history : HasSoundHistory o later
  history = histories o core makes.given event answer makes.is_given shown.may sound.history

  stage : new.stage ≡ later.stage
  stage = ap (λ (c : Core). c.stage) shown.core

  epoch : new.epoch ≡ later.epoch
  epoch = ap (λ (c : Core). c.epoch) shown.core

  head : new.local.view.head.epoch + behind later.stage ≡ later.epoch
  head = ap (λ (st : Stage). new.local.view.head.epoch + behind st) (sym stage) ∙ is.committed ∙ epoch

  same_epoch : (e : ℕ) → e + behind later.stage ≡ later.epoch → new.local.view.head.epoch ≡ e
  same_epoch e at = (let h = head in omega arith)

  stays : (e : ℕ) (tree : List TreeEntry) → later.stage ≢ stages.Committed → Recovers o core e tree → e + behind later.stage ≡ later.epoch → Recovers o later new.local.view.head.epoch tree
  stays e tree other recovers at = subst (λ (n : ℕ). Recovers o later n tree) (sym (same_epoch e at))
      (kept_trees o core makes.given event answer e tree makes.is_given shown.may sound.history recovers (may-recover later e other at))

  committed : later.stage ≢ stages.Committed → Recovers o later new.local.view.head.epoch trees.committed
  committed other = elim (leaves makes.given core sound.trees event answer sound.history.order.left shown.may other) [
    | inl left ↦ subst (λ (tree : List TreeEntry). Recovers o later new.local.view.head.epoch tree) (sym left.trees)
        (stays old.local.view.head.epoch sound.trees.committed other (sound.committed left.was) (left.epochs old.local.view.head.epoch was.committed))
    | inr rests ↦ subst (λ (tree : List TreeEntry). Recovers o later new.local.view.head.epoch tree) (sym rests.trees)
        (stays core.epoch sound.trees.frozen other (last-frozen o old sound.trees sound.history (ap is_rested rests.stage)) (ap (λ (st : Stage). core.epoch + behind st) rests.rests ∙ (let e : core.epoch + 0 ≡ core.epoch = omega arith in e) ∙ sym rests.epoch))
  ]
