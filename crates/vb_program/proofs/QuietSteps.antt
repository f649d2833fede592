-- What events make of a quiet folder, and of one whose view is on its way.
use Rattle.std.proofs.Common.{◌≡◌, ◌≢◌, ◌⊎◌, inl, inr, ⊎_elim, ℕ, ◌+◌, ◌<◌, ◌==◌, Bool, true, false, cond, if◌then◌else◌, not, ◌||◌, List, [], ◌∷◌, ◌++◌, length, Option, Some, None, is_some, refl, sym, ap, subst, ◌∙◌, append_assoc, arith}
use Rattle.std.proofs.lemmas.Bool.Decides.{nat_tests}
use Rattle.std.proofs.lemmas.Grind.{fold-append}
use Rattle.std.proofs.lemmas.List.{append-nil}
use mathlib.Core.List.{IsPrefix}
use Rattle.vb_cloud.specs.Machine.{CloudState}
use Rattle.vb_core.specs.Folders.{ledger_in}
use Rattle.vb_event.specs.Answers.{commit_answer, due_view, freeze_answer, is_last_due, is_spent, message_answer, MayStep}
use Rattle.vb_event.specs.Core.{Core, Given, BringToRest, epochs_end, is_busy, is_rested}
use Rattle.vb_event.specs.Steps.{core_after, rest_of, tree_in, LeavesPublished, ShowsView}
use Rattle.vb_event.specs.declared.answer.FolderAnswer.{FolderAnswer}
use Rattle.vb_event.specs.declared.answer.FolderAnswer.TheVariants as answers
use Rattle.vb_event.specs.declared.event.FolderEvent.TheVariants as events
use Rattle.vb_hist.specs.declared.entry.Entry.{Entry}
use Rattle.vb_hist.specs.declared.entry.Entry.TheVariants.{Call, Freeze, Commit, Rest, Publish, End}
use Rattle.vb_hist.specs.declared.entry.Stage.{Stage}
use Rattle.vb_hist.specs.declared.entry.Stage.TheVariants as stages
use Rattle.vb_folder.specs.Events.{trees_after}
use Rattle.vb_hist.specs.Histories.{tree_after_entry, folder_after}
use Rattle.vb_hist.specs.Legal.{standing_without}
use Rattle.vb_hist.specs.Quiet.{epoch_after, last_epoch_of, unfrozen_after, is_unfrozen, after_quiet_freeze, published_freeze}
use Rattle.vb_journal.specs.declared.commit_stage.CommitStep.{CommitStep}
use Rattle.vb_journal.specs.declared.commit_stage.CommitStep.TheVariants as commits
use Rattle.vb_local.specs.Answers.{answers_left}
use Rattle.vb_local.specs.Shown.{LocalTrees}
use Rattle.vb_publish.specs.declared.step.UploadStep.{UploadStep}
use Rattle.vb_publish.specs.declared.step.UploadStep.TheVariants as uploads
use Rattle.vb_tree.specs.declared.operation.Op.{Op}
use Rattle.vb_tree.specs.declared.reply.Reply.{Reply}
use Rattle.vb_tree.specs.declared.tree.Limits.{Limits}
use Rattle.vb_tree.specs.declared.tree.TreeEntry.{TreeEntry}
use Rattle.vb_tree.specs.Operations.{reply_of, is_done, effect_of, tree_after_reply}
use Rattle.vb_program.specs.Playing.{cloud_in, core_in, history_in, last_epoch_in, limits_in, way_entries, IsQuiet, IsUnderWay, Makes, MemoryFolder}
use Rattle.vb_event.proofs.Pace.{unspent}
use Rattle.vb_program.proofs.Limits.{limits-after}

-- ---- an operation

-- a call that wasn't answered Done leaves the tree, and what the cloud shows is still the live tree
shown-call : (tree shown : List TreeEntry) (op : Op) (done before : Bool) → (before ≡ false → shown ≡ tree) → cond done true before ≡ false → shown ≡ cond done (effect_of tree op) tree
shown-call tree shown op true before h e = cc
shown-call tree shown op false before h e = h e

-- what a line makes of a quiet folder
pub record Plays (folder now : MemoryFolder) (history : List Entry) : Type 0 where
  pub quiet : IsQuiet now
  pub played : history_in now ≡ history
  pub limits : limits_in now ≡ limits_in folder

-- an event leaves the limits
same-limits : (folder now : MemoryFolder) (t : LocalTrees) (answer : FolderAnswer) (writer : ℕ) (op : Op) → Makes folder t (events.Call writer op) answer now → limits_in now ≡ limits_in folder
same-limits folder now t answer writer op m = ap (λ (k : Core). k.limits) m.core ∙ limits-after m.given (core_in folder t) (events.Call writer op) answer

-- after a call the folder is as quiet as before
quiet-reply : (folder now : MemoryFolder) (writer : ℕ) (op : Op) (reply : Reply) (q : IsQuiet folder) → Makes folder q.trees (events.Call writer op) (answers.Called reply) now → Plays folder now (history_in folder ++ Call writer op reply ∷ [])
quiet-reply folder now writer op reply q m =
    let h = history_in folder in
    let entry = Call writer op reply in
    let history : history_in now ≡ h ++ entry ∷ [] = ap (λ (k : Core). k.history) m.core in
    let active : tree_after_reply q.trees.active op reply ≡ folder_after [] (history_in now) =
    ap (λ tree. tree_after_reply tree op reply) q.active ∙ sym (ap (folder_after []) history ∙ fold-append tree_after_entry [] h (entry ∷ [])) in
    let epoch : last_epoch_in now ≡ last_epoch_in folder = ap (λ (k : Core). k.epoch) m.core in
    record {
      quiet = record {
        trees = record q.trees { active = tree_after_reply q.trees.active op reply };
        rehearsed = m.rehearsed;
        none_stands = ap (λ (k : Core). k.standing) m.core ∙ q.none_stands;
        rested = ap (λ (k : Core). k.stage) m.core ∙ q.rested;
        sure = ap (λ (k : Core). k.unsure) m.core ∙ q.sure;
        last = epoch ∙ q.last ∙ sym (ap last_epoch_of history ∙ fold-append epoch_after 0 h (entry ∷ []));
        published = ap (λ (k : Core). k.published) m.core ∙ q.published ∙ sym epoch;
        active = active;
        shown_epoch = ap (λ (k : CloudState). k.epoch) m.becomes ∙ q.shown_epoch ∙ sym epoch;
        shown = λ unfrozen.
            ap (λ (k : CloudState). k.tree) m.becomes
            ∙ shown-call q.trees.active (cloud_in folder).tree op (is_done reply) (is_unfrozen h) q.shown
            (sym (ap is_unfrozen history ∙ fold-append unfrozen_after false h (entry ∷ [])) ∙ unfrozen);
      };
      played = history;
      limits = same-limits folder now q.trees (answers.Called reply) writer op m;
    }

pub quiet-call : (folder now : MemoryFolder) (writer : ℕ) (op : Op) (answer : FolderAnswer) (q : IsQuiet folder) → Makes folder q.trees (events.Call writer op) answer now
    → Plays folder now (history_in folder ++ Call writer op (reply_of (limits_in folder) (folder_after [] (history_in folder)) op) ∷ [])
quiet-call folder now writer op answer q m =
    let due = m.due ∙ ap (λ tree. answers.Called (reply_of (limits_in folder) tree op)) q.active in
    quiet-reply folder now writer op (reply_of (limits_in folder) (folder_after [] (history_in folder)) op) q (subst (λ a. Makes folder q.trees (events.Call writer op) a now) due m)

-- a call takes no epoch
pub quiet-epoch : (folder now : MemoryFolder) (writer : ℕ) (op : Op) (answer : FolderAnswer) (q : IsQuiet folder) → Makes folder q.trees (events.Call writer op) answer now → last_epoch_in now ≡ last_epoch_in folder
quiet-epoch folder now writer op answer q m =
    let due : answer ≡ answers.Called (reply_of (limits_in folder) q.trees.active op) = m.due in
    ap (λ (k : Core). k.epoch) (subst (λ a. Makes folder q.trees (events.Call writer op) a now) due m).core

-- ---- the end of a writer

pub quiet-end : (folder now : MemoryFolder) (writer : ℕ) (q : IsQuiet folder) → Makes folder q.trees (events.End writer) answers.Ended now → Plays folder now (history_in folder ++ End writer ∷ [])
quiet-end folder now writer q m =
    let h = history_in folder in
    let history : history_in now ≡ h ++ End writer ∷ [] = ap (λ (k : Core). k.history) m.core in
    let epoch : last_epoch_in now ≡ last_epoch_in folder = ap (λ (k : Core). k.epoch) m.core in
    record {
      quiet = record {
        trees = q.trees;
        rehearsed = m.rehearsed;
        none_stands = ap (λ (k : Core). k.standing) m.core ∙ q.none_stands;
        rested = ap (λ (k : Core). k.stage) m.core ∙ q.rested;
        sure = ap (λ (k : Core). k.unsure) m.core ∙ q.sure;
        last = epoch ∙ q.last ∙ sym (ap last_epoch_of history ∙ fold-append epoch_after 0 h (End writer ∷ []));
        published = ap (λ (k : Core). k.published) m.core ∙ q.published ∙ sym epoch;
        active = q.active ∙ sym (ap (folder_after []) history ∙ fold-append tree_after_entry [] h (End writer ∷ []));
        shown_epoch = ap (λ (k : CloudState). k.epoch) m.becomes ∙ q.shown_epoch ∙ sym epoch;
        shown = λ unfrozen. ap (λ (k : CloudState). k.tree) m.becomes
            ∙ q.shown (sym (ap is_unfrozen history ∙ fold-append unfrozen_after false h (End writer ∷ [])) ∙ unfrozen);
      };
      played = history;
      limits = ap (λ (k : Core). k.limits) m.core;
    }

-- ---- a freeze

-- a quiet folder is frozen
freeze-due : (core : Core) → core.standing ≡ None → core.stage ≡ stages.Rested → is_spent core ≡ false → freeze_answer core ≡ answers.Frozen (core.epoch + 1)
freeze-due core none rested unspent =
    let busy : is_busy core ≡ false = ap (λ (s : Option ℕ). is_some s || not (is_rested core.stage)) none ∙ ap (λ s. not (is_rested s)) rested in
    ap (λ b. if b then answers.Busy core.epoch else (if is_spent core then answers.Spent core.epoch core.sequence else answers.Frozen (core.epoch + 1))) busy
    ∙ ap (λ b. if b then answers.Spent core.epoch core.sequence else answers.Frozen (core.epoch + 1)) unspent

-- the folder behind its freeze
pub record Begins (folder : MemoryFolder) (by : ℕ) (now : MemoryFolder) : Type 0 where
  pub way : IsUnderWay (history_in folder) by now
  pub at : (ledger_in now).stage ≡ stages.Written
  pub epoch : last_epoch_in now ≡ last_epoch_in folder + 1
  pub limits : limits_in now ≡ limits_in folder

frozen-begins : (folder now : MemoryFolder) (by : ℕ) (q : IsQuiet folder) → Makes folder q.trees (events.Freeze by) (answers.Frozen (last_epoch_in folder + 1)) now → Begins folder by now
frozen-begins folder now by q m =
    let epoch : last_epoch_in now ≡ last_epoch_in folder + 1 = ap (λ (k : Core). k.epoch) m.core in
    let stage : (ledger_in now).stage ≡ stages.Written = ap (λ (k : Core). k.stage) m.core in
    record {
      way = record {
        trees = record q.trees { frozen = q.trees.active };
        rehearsed = m.rehearsed;
        stands = ap (λ (k : Core). k.standing) m.core ∙ ap (λ (n : ℕ). Some n) (sym epoch);
        sure = ap (λ (k : Core). k.unsure) m.core ∙ q.sure;
        last = epoch ∙ ap (λ n. n + 1) q.last;
        active = q.active;
        frozen = refl;
        entries = ap (λ (k : Core). k.history) m.core ∙ ap (λ n. history_in folder ++ Freeze by n ∷ []) (sym epoch) ∙ ap (λ st. history_in folder ++ way_entries by (last_epoch_in now) st) (sym stage);
      };
      at = stage;
      epoch = epoch;
      limits = ap (λ (k : Core). k.limits) m.core;
    }

pub freeze-begins : (folder now : MemoryFolder) (by : ℕ) (answer : FolderAnswer) (q : IsQuiet folder) → last_epoch_in folder < epochs_end → Makes folder q.trees (events.Freeze by) answer now → Begins folder by now
freeze-begins folder now by answer q early m =
    let core = core_in folder q.trees in
    let due = m.due ∙ freeze-due core q.none_stands q.rested (unspent core q.rehearsed.pace early) in
    frozen-begins folder now by q (subst (λ a. Makes folder q.trees (events.Freeze by) a now) due m)

-- ---- a commit on its way

-- the stage behind an answer
abbrev pub stage_behind : Stage → CommitStep → Stage
stage_behind stage commits.Wrote = stage
stage_behind stage commits.Synced = stage
stage_behind stage commits.Committed = stages.Committed
stage_behind stage commits.Rested = stages.Rested
stage_behind stage commits.Idle = stage

-- what is pushed behind what the history has of a commit so far
abbrev pub pushed_behind : ℕ → CommitStep → List Entry
pushed_behind epoch commits.Wrote = []
pushed_behind epoch commits.Synced = []
pushed_behind epoch commits.Committed = Commit epoch ∷ []
pushed_behind epoch commits.Rested = Rest epoch ∷ []
pushed_behind epoch commits.Idle = []

-- what a due answer says of a commit on its way
pub record IsOnWay (stage : Stage) (left : List CommitStep) (step : CommitStep) : Type 0 where
  pub entries : (by epoch : ℕ) → way_entries by epoch stage ++ pushed_behind epoch step ≡ way_entries by epoch (stage_behind stage step)
  pub fewer : length (rest_of left) < length left
  pub rests : stage_behind stage step ≡ stages.Rested → step ≡ commits.Rested

on-way : (stage : Stage) (left : List CommitStep) → BringToRest stage left → stage ≢ stages.Rested → IsOnWay stage left (commit_answer left)
on-way stages.Rested [] brings on = absurd (on refl)
on-way stages.Written (commits.Wrote ∷ left) brings on = record { entries = λ by epoch. refl; fewer = omega arith; rests = λ e. absurd (cc e) }
on-way stages.Written (commits.Synced ∷ left) brings on = record { entries = λ by epoch. refl; fewer = omega arith; rests = λ e. absurd (cc e) }
on-way stages.Written (commits.Committed ∷ left) brings on = record { entries = λ by epoch. refl; fewer = omega arith; rests = λ e. absurd (cc e) }
on-way stages.Committed (commits.Wrote ∷ left) brings on = record { entries = λ by epoch. refl; fewer = omega arith; rests = λ e. absurd (cc e) }
on-way stages.Committed (commits.Synced ∷ left) brings on = record { entries = λ by epoch. refl; fewer = omega arith; rests = λ e. absurd (cc e) }
on-way stages.Committed (commits.Rested ∷ left) brings on = record { entries = λ by epoch. refl; fewer = omega arith; rests = λ e. refl }
on-way stage left brings on = absurd brings

-- what a commit step that was answered so leaves of a folder and its trees
record CommitsTo (given : Given) (core : Core) (t : LocalTrees) (step : CommitStep) : Type 0 where
  standing : (core_after given core events.CommitStep (answers.CommitStepped step)).standing ≡ core.standing
  unsure : (core_after given core events.CommitStep (answers.CommitStepped step)).unsure ≡ core.unsure
  epoch : (core_after given core events.CommitStep (answers.CommitStepped step)).epoch ≡ core.epoch
  stage : (core_after given core events.CommitStep (answers.CommitStepped step)).stage ≡ stage_behind core.stage step
  left : (core_after given core events.CommitStep (answers.CommitStepped step)).left ≡ rest_of core.left
  history : (core_after given core events.CommitStep (answers.CommitStepped step)).history ≡ core.history ++ pushed_behind core.epoch step
  active : (trees_after events.CommitStep (answers.CommitStepped step) t).active ≡ t.active
  frozen : (trees_after events.CommitStep (answers.CommitStepped step) t).frozen ≡ t.frozen

commits-to : (given : Given) (core : Core) (t : LocalTrees) (step : CommitStep) → CommitsTo given core t step
commits-to given core t commits.Wrote = record { standing = refl; unsure = refl; epoch = refl; stage = refl; left = refl; history = refl; active = refl; frozen = refl }
commits-to given core t commits.Synced = record { standing = refl; unsure = refl; epoch = refl; stage = refl; left = refl; history = refl; active = refl; frozen = refl }
commits-to given core t commits.Committed = record { standing = refl; unsure = refl; epoch = refl; stage = refl; left = refl; history = refl; active = refl; frozen = refl }
commits-to given core t commits.Rested = record { standing = refl; unsure = refl; epoch = refl; stage = refl; left = refl; history = refl; active = refl; frozen = refl }
commits-to given core t commits.Idle = record { standing = refl; unsure = refl; epoch = refl; stage = refl; left = refl; history = refl; active = refl; frozen = refl }

-- what a step on the way leaves
pub record GoesOn (history : List Entry) (by : ℕ) (folder now : MemoryFolder) (step : CommitStep) : Type 0 where
  pub way : IsUnderWay history by now
  pub rested : step ≡ commits.Rested → (ledger_in now).stage ≡ stages.Rested
  pub on : (step ≡ commits.Rested → ⊥) → (ledger_in now).stage ≢ stages.Rested
  pub fewer : length (answers_left (ledger_in now).local) < length (answers_left (ledger_in folder).local)
  pub epoch : last_epoch_in now ≡ last_epoch_in folder
  pub limits : limits_in now ≡ limits_in folder

pub way-goes_on : (history : List Entry) (by : ℕ) (folder now : MemoryFolder) (step : CommitStep) (w : IsUnderWay history by folder) → (ledger_in folder).stage ≢ stages.Rested
    → Makes folder w.trees events.CommitStep (answers.CommitStepped step) now → GoesOn history by folder now step
way-goes_on history by folder now step w going m =
    let core = core_in folder w.trees in
    let to = commits-to m.given core w.trees step in
    let due : commit_answer core.left ≡ step = sym (cc m.due) in
    let on = subst (IsOnWay core.stage core.left) due (on-way core.stage core.left w.rehearsed.sound.history.order.left going) in
    let epoch : last_epoch_in now ≡ last_epoch_in folder = ap (λ (k : Core). k.epoch) m.core ∙ to.epoch in
    let stage : (ledger_in now).stage ≡ stage_behind core.stage step = ap (λ (k : Core). k.stage) m.core ∙ to.stage in
    record {
      way = record {
        trees = trees_after events.CommitStep (answers.CommitStepped step) w.trees;
        rehearsed = m.rehearsed;
        stands = ap (λ (k : Core). k.standing) m.core ∙ to.standing ∙ w.stands ∙ ap (λ (n : ℕ). Some n) (sym epoch);
        sure = ap (λ (k : Core). k.unsure) m.core ∙ to.unsure ∙ w.sure;
        last = epoch ∙ w.last;
        active = to.active ∙ w.active;
        frozen = to.frozen ∙ w.frozen ∙ sym to.active;
        entries =
            ap (λ (k : Core). k.history) m.core ∙ to.history ∙ ap (λ h. h ++ pushed_behind core.epoch step) w.entries
            ∙ append_assoc history (way_entries by core.epoch core.stage) (pushed_behind core.epoch step)
            ∙ ap (λ es. history ++ es) (on.entries by core.epoch)
            ∙ ap (λ n. history ++ way_entries by n (stage_behind core.stage step)) (sym epoch)
            ∙ ap (λ st. history ++ way_entries by (last_epoch_in now) st) (sym stage);
      };
      rested = λ is. stage ∙ ap (stage_behind core.stage) is;
      on = λ other is. other (on.rests (sym stage ∙ is));
      fewer = (let left = ap (λ (k : Core). length k.left) m.core ∙ ap (λ (l : List CommitStep). length l) to.left in let less = on.fewer in omega (arith, left, less));
      epoch = epoch;
      limits = ap (λ (k : Core). k.limits) m.core ∙ limits-after m.given core events.CommitStep (answers.CommitStepped step);
    }

-- ---- an upload on its way

same-equal : (n : ℕ) → (n == n) ≡ true
same-equal n = grind (arith, nat_tests)

-- a message that isn't the last
pub record Sends (history : List Entry) (by : ℕ) (folder now : MemoryFolder) : Type 0 where
  pub way : IsUnderWay history by now
  pub at : (ledger_in now).stage ≡ stages.Rested
  pub epoch : last_epoch_in now ≡ last_epoch_in folder
  pub limits : limits_in now ≡ limits_in folder

pub way-sends : (history : List Entry) (by : ℕ) (folder now : MemoryFolder) (w : IsUnderWay history by folder) → (ledger_in folder).stage ≡ stages.Rested
    → Makes folder w.trees events.UploadStep (answers.UploadStepped uploads.Sent) now → Sends history by folder now
way-sends history by folder now w rested m =
    let epoch : last_epoch_in now ≡ last_epoch_in folder = ap (λ (k : Core). k.epoch) m.core in
    let stage : (ledger_in now).stage ≡ (ledger_in folder).stage = ap (λ (k : Core). k.stage) m.core in
    record {
      way = record {
        trees = w.trees;
        rehearsed = m.rehearsed;
        stands = ap (λ (k : Core). k.standing) m.core ∙ w.stands ∙ ap (λ (n : ℕ). Some n) (sym epoch);
        sure = ap (λ (k : Core). k.unsure) m.core ∙ w.sure;
        last = epoch ∙ w.last;
        active = w.active;
        frozen = w.frozen;
        entries =
            ap (λ (k : Core). k.history) m.core ∙ append-nil (history_in folder) ∙ w.entries
            ∙ ap (λ n. history ++ way_entries by n (ledger_in folder).stage) (sym epoch)
            ∙ ap (λ st. history ++ way_entries by (last_epoch_in now) st) (sym stage);
      };
      at = stage ∙ rested;
      epoch = epoch;
      limits = ap (λ (k : Core). k.limits) m.core;
    }

-- what is answered of a view at rest: a message, or its publication
abbrev pub MaySend : ℕ → UploadStep → Type 0
MaySend epoch step = (step ≡ uploads.Sent) ⊎ (step ≡ uploads.Published epoch)

due-sends : (last : Bool) (epoch : ℕ) (standing : Option ℕ) (stage : Stage) (step : UploadStep) → standing ≡ Some epoch → stage ≡ stages.Rested → step ≡ message_answer last (due_view standing stage) → MaySend epoch step
due-sends last epoch standing stage step stands rested due =
    let view : due_view standing stage ≡ Some epoch = ap (due_view standing) rested ∙ stands in
    by last (due ∙ ap (message_answer last) view)
  where
    by : (b : Bool) → step ≡ message_answer b (Some epoch) → MaySend epoch step
    by true e = inr e
    by false e = inl e

sure-sends : (given : Given) (core : Core) (unsure : Option ℕ) (step due : UploadStep) (epoch : ℕ) → unsure ≡ None → core.standing ≡ Some epoch → core.stage ≡ stages.Rested
    → answers.UploadStepped step ≡ answers.UploadStepped due → MayStep given core unsure due → MaySend epoch step
sure-sends given core None step due epoch sure stands rested is may =
    let same : step ≡ due = cc is in
    due-sends (is_last_due given core) epoch core.standing core.stage step stands rested (same ∙ may)
sure-sends given core (Some doubt) step due epoch sure stands rested is may = absurd (cc sure)

pub way-answers : (history : List Entry) (by : ℕ) (folder now : MemoryFolder) (step : UploadStep) (w : IsUnderWay history by folder) → (ledger_in folder).stage ≡ stages.Rested
    → Makes folder w.trees events.UploadStep (answers.UploadStepped step) now → MaySend (last_epoch_in folder) step
way-answers history by folder now step w rested m =
    sure-sends m.given (core_in folder w.trees) (ledger_in folder).unsure step m.due.0 (last_epoch_in folder) w.sure w.stands rested m.due.1 m.due.2

-- ---- the publication

-- what a cloud shows behind the publication of a view that nothing was in doubt of
shows-view : (given : Given) (core : Core) (unsure : Option ℕ) (epoch : ℕ) (before after : CloudState) → unsure ≡ None
    → LeavesPublished unsure core.frozen epoch before after → ShowsView epoch core.frozen after
shows-view given core None epoch before after sure shows = shows
shows-view given core (Some doubt) epoch before after sure shows = absurd (cc sure)

-- what a whole freeze leaves
pub record IsFrozenWhole (history : List Entry) (by : ℕ) (folder now : MemoryFolder) : Type 0 where
  pub quiet : IsQuiet now
  pub played : history_in now ≡ after_quiet_freeze by history
  pub epoch : last_epoch_in now ≡ last_epoch_in folder
  pub limits : limits_in now ≡ limits_in folder

published : (history : List Entry) (by : ℕ) (folder now : MemoryFolder) (w : IsUnderWay history by folder) → (ledger_in folder).stage ≡ stages.Rested
    → Makes folder w.trees events.UploadStep (answers.UploadStepped (uploads.Published (last_epoch_in folder))) now → IsFrozenWhole history by folder now
published history by folder now w rested m =
    let core = core_in folder w.trees in
    let e = last_epoch_in folder in
    let entries = published_freeze by e in
    let epoch : last_epoch_in now ≡ e = ap (λ (k : Core). k.epoch) m.core in
    let whole : history_in now ≡ history ++ entries =
    ap (λ (k : Core). k.history) m.core ∙ ap (λ h. h ++ Publish e ∷ []) (w.entries ∙ ap (λ st. history ++ way_entries by e st) rested)
    ∙ append_assoc history (way_entries by e stages.Rested) (Publish e ∷ []) in
    let shows = shows-view m.given core (ledger_in folder).unsure e (cloud_in folder) (cloud_in now) w.sure m.becomes in
    let frozen : core.frozen ≡ Some w.trees.active =
    ap (λ (s : Option ℕ). if is_some s || not (is_rested core.stage) then Some w.trees.frozen else None) w.stands ∙ ap (λ tree. Some tree) w.frozen in
    record {
      quiet = record {
        trees = w.trees;
        rehearsed = m.rehearsed;
        none_stands = ap (λ (k : Core). k.standing) m.core ∙ ap (λ (s : Option ℕ). standing_without s e) w.stands ∙ ap (λ b. if b then None else Some e) (same-equal e);
        rested = ap (λ (k : Core). k.stage) m.core ∙ rested;
        sure = ap (λ (k : Core). k.unsure) m.core;
        last = epoch ∙ sym (ap last_epoch_of whole ∙ fold-append epoch_after 0 history entries);
        published = ap (λ (k : Core). k.published) m.core ∙ sym epoch;
        active = w.active ∙ sym (ap (folder_after []) whole ∙ fold-append tree_after_entry [] history entries);
        shown_epoch = shows.0 ∙ sym epoch;
        shown = λ unfrozen. shows.1 ∙ ap tree_in frozen;
      };
      played = whole ∙ ap (λ n. history ++ published_freeze by n) w.last;
      epoch = epoch;
      limits = ap (λ (k : Core). k.limits) m.core;
    }

pub way-publishes : (history : List Entry) (by epoch : ℕ) (folder now : MemoryFolder) (w : IsUnderWay history by folder) → (ledger_in folder).stage ≡ stages.Rested
    → Makes folder w.trees events.UploadStep (answers.UploadStepped (uploads.Published epoch)) now → IsFrozenWhole history by folder now
way-publishes history by epoch folder now w rested m =
    let answer = way-answers history by folder now (uploads.Published epoch) w rested m in
    let same : uploads.Published epoch ≡ uploads.Published (last_epoch_in folder) = ⊎_elim (λ sent. absurd (cc sent)) (λ is. is) answer in
    published history by folder now w rested (subst (λ a. Makes folder w.trees events.UploadStep (answers.UploadStepped a) now) same m)

-- ---- the histories on the way

-- what follows what the history has of a freeze so far
way-rest : (by epoch : ℕ) (stage : Stage) → IsPrefix (way_entries by epoch stage) (published_freeze by epoch)
way-rest by epoch stages.Written = (Commit epoch ∷ Rest epoch ∷ Publish epoch ∷ [], refl)
way-rest by epoch stages.Committed = (Rest epoch ∷ Publish epoch ∷ [], refl)
way-rest by epoch stages.Rested = (Publish epoch ∷ [], refl)

pub way-front : (history : List Entry) (by : ℕ) (folder now : MemoryFolder) → IsUnderWay history by folder → history_in now ≡ history_in folder → IsPrefix (history_in now) (after_quiet_freeze by history)
way-front history by folder now w same =
    let e = last_epoch_in folder in
    let rest = way-rest by e (ledger_in folder).stage in
    subst (λ h. IsPrefix h (after_quiet_freeze by history)) (sym (same ∙ w.entries))
    (rest.0, append_assoc history (way_entries by e (ledger_in folder).stage) rest.0 ∙ ap (λ es. history ++ es) rest.1 ∙ ap (λ n. history ++ published_freeze by n) w.last)
