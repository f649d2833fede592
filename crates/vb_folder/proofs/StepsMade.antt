-- Each answer of a commit step is an event of the folder.
use Rattle.std.proofs.Common.{◌≡◌, ◌+◌, true, false, Result, List, [], ◌∷◌, ◌++◌, Option, Some, Ok, Err, refl, sym, subst, ap, ◌∙◌, arith, inl, inr}
use Rattle.std.specs.List.{Contains}
use Rattle.vb_disk.specs.States.{DiskState}
use Rattle.vb_disk.specs.declared.disk_error.DiskError.{DiskError}
use Rattle.vb_disk.specs.declared.disk_error.DiskError.TheVariants as disks
use Rattle.vb_event.specs.Answers.{commit_answer, faults_of_commit}
use Rattle.vb_event.specs.Core.{BringToRest, Core, is_rested}
use Rattle.vb_event.specs.Steps.{core_after, frozen_while, pushed_by_commit, rest_of}
use Rattle.vb_event.specs.declared.answer.FaultKind.TheVariants.{Memory}
use Rattle.vb_event.specs.declared.answer.FolderAnswer.TheVariants as answers
use Rattle.vb_event.specs.declared.event.FolderEvent.TheVariants as events
use Rattle.vb_hist.specs.Histories.{Recorded}
use Rattle.vb_hist.specs.declared.entry.Entry.{Entry}
use Rattle.vb_hist.specs.declared.entry.Stage.{Stage}
use Rattle.vb_hist.specs.declared.entry.Stage.TheVariants as stages
use Rattle.vb_journal.specs.declared.commit_stage.CommitStep.{CommitStep}
use Rattle.vb_journal.specs.declared.commit_stage.CommitStep.TheVariants.{Wrote, Synced, Committed, Rested, Idle}
use Rattle.vb_local.specs.Answers.{answers_left}
use Rattle.vb_local.specs.Events.{KeepsViews, SettlesViews, StepsOn}
use Rattle.vb_local.specs.Phases.{AreTied}
use Rattle.vb_local.specs.Shown.{LocalTrees, ShowsOn, trees_after as local_trees}
use Rattle.vb_local.specs.States.{LocalState}
use Rattle.vb_steps.specs.Disks.{DiskView}
use Rattle.vb_store.specs.Views.{limits_of}
use Rattle.vb_tree.specs.declared.tree.TreeEntry.{TreeEntry}
use Rattle.vb_folder.specs.Events.{disk_fault, stage_after, trees_after, Makes}
use Rattle.vb_folder.specs.Ledgers.{IsKept, LedgerState, core_of}
use Rattle.vb_folder.proofs.Given.{some_given, some-is-given, still-makes, unnoted}
use Rattle.vb_folder.proofs.PlanAnswers.{gives-all, gives-due, gives-left, gives-rest}
use Rattle.vb_folder.proofs.Stepped.{going-epoch, rested-core, rested-kept, step-core, stepped, views-kept, while-on, StandsOnSettled}

-- ---- a step that keeps the views

-- the core of a folder with another stage, other answers that are left, and another history
abbrev noted_core : Core → Stage → Option (List TreeEntry) → List CommitStep → List Entry → Core
noted_core core stage frozen left entries = record core { stage = stage; frozen = frozen; left = left; history = entries }

kept-core : (s : LedgerState) (local : LocalState) (history : Recorded) (stage : Stage) (t : LocalTrees) (entries : List Entry) → KeepsViews s.local local → local.standing ≡ s.local.standing → frozen_while s.local.standing stage (Some t.frozen) ≡ frozen_while s.local.standing s.stage (Some t.frozen) → answers_left local ≡ rest_of (answers_left s.local) → history.entries ≡ entries → core_of (stepped s local history stage) t ≡ record (core_of s t) { stage = stage; left = rest_of (answers_left s.local); history = entries }
kept-core s local history stage t entries keeps standing frozen left noted =
    step-core s local history stage t keeps standing
    ∙ ap (λ (o : Option (List TreeEntry)). noted_core (core_of s t) stage o (answers_left local) history.entries) frozen
    ∙ ap (λ (l : List CommitStep). noted_core (core_of s t) stage (core_of s t).frozen l history.entries) left
    ∙ ap (λ (es : List Entry). noted_core (core_of s t) stage (core_of s t).frozen (rest_of (answers_left s.local)) es) noted

-- ---- each answer

ok-step : (step : CommitStep) → (◌≡◌ {A = Result CommitStep DiskError} (Ok step) (Ok Rested)) → step ≡ Rested
ok-step step same = cc same

-- the trees afterwards
same-trees : (step : CommitStep) (t : LocalTrees) → local_trees (Ok step) t ≡ trees_after events.CommitStep (answers.CommitStepped step) t
same-trees Wrote t = refl
same-trees Synced t = refl
same-trees Committed t = refl
same-trees Rested t = refl
same-trees Idle t = refl

-- the core where neither the stage nor the frozen tree changes
plain-core : (step : CommitStep) (s : LedgerState) (local : LocalState) (history : Recorded) (before after : DiskView) (t : LocalTrees) (entries : List Entry) → (step ≡ Rested → ⊥) → StepsOn s.local local before after (Ok step) → history.entries ≡ entries → core_of (stepped s local history s.stage) t ≡ record (core_of s t) { stage = s.stage; left = rest_of (answers_left s.local); history = entries }
plain-core step s local history before after t entries other steps noted =
    kept-core s local history s.stage t entries (steps.keeps (λ e. other (ok-step step e))) steps.standing refl (gives-rest (answers_left s.local) (answers_left local) step steps.answer) noted

core-stepped : (step : CommitStep) (s : LedgerState) (local : LocalState) (history : Recorded) (before after : DiskView) (t : LocalTrees) → StandsOnSettled → AreTied s.local → AreTied local → IsKept s → is_rested s.stage ≡ false → StepsOn s.local local before after (Ok step) → history.entries ≡ s.history.entries ++ pushed_by_commit s.epoch (answers.CommitStepped step) → core_of (stepped s local history (stage_after s.stage step)) (trees_after events.CommitStep (answers.CommitStepped step) t) ≡ core_after some_given (core_of s t) events.CommitStep (answers.CommitStepped step)
core-stepped Wrote s local history before after t law was is kept going steps noted = plain-core Wrote s local history before after t (s.history.entries ++ []) (λ e. cc e) steps noted
core-stepped Synced s local history before after t law was is kept going steps noted = plain-core Synced s local history before after t (s.history.entries ++ []) (λ e. cc e) steps noted
core-stepped Idle s local history before after t law was is kept going steps noted = plain-core Idle s local history before after t (s.history.entries ++ []) (λ e. cc e) steps noted
core-stepped Committed s local history before after t law was is kept going steps noted =
    kept-core s local history stages.Committed t _ (steps.keeps (λ e. cc e)) steps.standing
    (while-on s.local.standing stages.Committed (Some t.frozen) refl ∙ sym (while-on s.local.standing s.stage (Some t.frozen) going))
    (gives-rest (answers_left s.local) (answers_left local) Committed steps.answer) noted
core-stepped Rested s local history before after t law was is kept going steps noted =
    rested-core s local history t law kept going settles steps.standing limits
    ∙ ap (λ (l : List CommitStep). rested_at l history.entries) (gives-rest (answers_left s.local) (answers_left local) Rested steps.answer)
    ∙ ap (λ (es : List Entry). rested_at (rest_of (answers_left s.local)) es) noted where
      settles : SettlesViews s.local local
      settles = steps.settles refl

      limits : local.live.index.limits ≡ s.local.live.index.limits
      limits =
          let head = settles.head s.epoch (going-epoch s kept going) in
          is.live.limits ∙ is.view.can.limits ∙ ap limits_of head ∙ sym was.view.can.limits ∙ sym was.live.limits

      rested_at : List CommitStep → List Entry → Core
      rested_at left entries = record (core_of s t) { stage = stages.Rested; sequence = s.local.view.head.sequence + 2; left = left; history = entries; frozen = frozen_while s.local.standing stages.Rested (core_of s t).frozen }

pub step-makes : (step : CommitStep) (s : LedgerState) (local : LocalState) (history : Recorded) (before after : DiskView) → StandsOnSettled → AreTied s.local → AreTied local → IsKept s → is_rested s.stage ≡ false → StepsOn s.local local before after (Ok step) → history.entries ≡ s.history.entries ++ pushed_by_commit s.epoch (answers.CommitStepped step) → Makes events.CommitStep (answers.CommitStepped step) s (stepped s local history (stage_after s.stage step)) before.told after.told
step-makes step s local history before after law was is kept going steps noted = record {
  given = some_given;
  is_given = some-is-given;
  pushed = λ t. noted;
  shown = λ d t told shows.
      let next = steps.shown d t told shows in
      record {
        next = next.next;
        told = next.is_told;
        shows = subst (λ (u : LocalTrees). ShowsOn next.next local u) (same-trees step t) next.shows;
        may = inl (ap answers.CommitStepped (gives-due (answers_left s.local) (answers_left local) step steps.answer));
        core = core-stepped step s local history before after t law was is kept going steps noted;
      };
}

pub step-kept : (step : CommitStep) (s : LedgerState) (local : LocalState) (history : Recorded) (before after : DiskView) → StandsOnSettled → IsKept s → is_rested s.stage ≡ false → StepsOn s.local local before after (Ok step) → IsKept (stepped s local history (stage_after s.stage step))
step-kept Wrote s local history before after law kept going steps = views-kept s local history s.stage kept (steps.keeps (λ e. cc e)) steps.standing (gives-left s.stage (answers_left s.local) (answers_left local) Wrote steps.answer kept.left) refl (λ other. other)
step-kept Synced s local history before after law kept going steps = views-kept s local history s.stage kept (steps.keeps (λ e. cc e)) steps.standing (gives-left s.stage (answers_left s.local) (answers_left local) Synced steps.answer kept.left) refl (λ other. other)
step-kept Idle s local history before after law kept going steps = views-kept s local history s.stage kept (steps.keeps (λ e. cc e)) steps.standing (gives-left s.stage (answers_left s.local) (answers_left local) Idle steps.answer kept.left) refl (λ other. other)
step-kept Committed s local history before after law kept going steps = views-kept s local history stages.Committed kept (steps.keeps (λ e. cc e)) steps.standing (gives-left s.stage (answers_left s.local) (answers_left local) Committed steps.answer kept.left) (sym going) (λ other e. cc e)
step-kept Rested s local history before after law kept going steps = rested-kept s local history law kept going (steps.settles refl) steps.standing (gives-left s.stage (answers_left s.local) (answers_left local) Rested steps.answer kept.left)

-- ---- an error

-- where the commit isn't at rest answers are left
some-left : (stage : Stage) (left : List CommitStep) (error : DiskError) → is_rested stage ≡ false → BringToRest stage left → Contains (faults_of_commit left) (disk_fault error)
some-left stages.Rested left error going rests = absurd (cc going)
some-left stages.Written [] error going rests = absurd rests
some-left stages.Committed [] error going rests = absurd rests
some-left stage (step ∷ left) disks.Failed going rests = (0, omega arith, refl)
some-left stage (step ∷ left) disks.Memory going rests = (1, omega arith, refl)

pub error-makes : (error : DiskError) (s : LedgerState) (local : LocalState) (history : Recorded) (before after : DiskView) → IsKept s → is_rested s.stage ≡ false → StepsOn s.local local before after (Err error) → history.entries ≡ s.history.entries → Makes events.CommitStep (answers.Fault (disk_fault error)) s (stepped s local history s.stage) before.told after.told
error-makes error s local history before after kept going steps noted = record {
  given = some_given;
  is_given = some-is-given;
  pushed = λ t. unnoted s history noted;
  shown = λ d t told shows. record {
    next = (steps.shown d t told shows).next;
    told = (steps.shown d t told shows).is_told;
    shows = (steps.shown d t told shows).shows;
    may = inr (disk_fault error, refl, some-left s.stage (answers_left s.local) error going kept.left);
    core = step-core s local history s.stage t (steps.keeps (λ e. cc e)) steps.standing
        ∙ ap (λ (l : List CommitStep). noted_core (core_of s t) s.stage (core_of s t).frozen l history.entries) (gives-all (answers_left s.local) (answers_left local) error steps.answer)
        ∙ ap (λ (es : List Entry). noted_core (core_of s t) s.stage (core_of s t).frozen (answers_left s.local) es) (unnoted s history noted);
  };
}

pub error-kept : (error : DiskError) (s : LedgerState) (local : LocalState) (history : Recorded) (before after : DiskView) → IsKept s → StepsOn s.local local before after (Err error) → IsKept (stepped s local history s.stage)
error-kept error s local history before after kept steps =
    views-kept s local history s.stage kept (steps.keeps (λ e. cc e)) steps.standing (subst (BringToRest s.stage) (sym (gives-all (answers_left s.local) (answers_left local) error steps.answer)) kept.left) refl (λ other. other)

-- no memory was found before the step
pub unmade-makes : (s : LedgerState) (history : Recorded) (told : Option DiskState) → IsKept s → is_rested s.stage ≡ false → history.entries ≡ s.history.entries → Makes events.CommitStep (answers.Fault Memory) s (record s { history = history }) told told
unmade-makes s history told kept going noted =
    still-makes events.CommitStep (answers.Fault Memory) s history [] told (record { trees = λ t. refl; pushed = λ t. refl; core = λ t. refl })
    (λ t. inr (Memory, refl, some-left s.stage (answers_left s.local) disks.Memory going kept.left)) (unnoted s history noted)

-- ---- nothing is on

none-left : (stage : Stage) (left : List CommitStep) → is_rested stage ≡ true → BringToRest stage left → left ≡ []
none-left stages.Rested [] rested rests = refl
none-left stages.Rested (step ∷ left) rested rests = absurd rests
none-left stages.Written left rested rests = absurd (cc rested)
none-left stages.Committed left rested rests = absurd (cc rested)

pub idle-left : (s : LedgerState) → IsKept s → is_rested s.stage ≡ true → answers_left s.local ≡ []
idle-left s kept rested = none-left s.stage (answers_left s.local) rested kept.left

pub idle-makes : (s : LedgerState) (told : Option DiskState) → IsKept s → is_rested s.stage ≡ true → Makes events.CommitStep (answers.CommitStepped Idle) s s told told
idle-makes s told kept rested =
    still-makes events.CommitStep (answers.CommitStepped Idle) s s.history [] told
    (record { trees = λ t. refl; pushed = λ t. refl; core = λ t. ap (λ (l : List CommitStep). record (core_of s t) { left = l; history = s.history.entries ++ [] }) (ap rest_of none ∙ sym none) })
    (λ t. inl (sym (ap (λ (l : List CommitStep). answers.CommitStepped (commit_answer l)) none))) (unnoted s s.history refl) where
      none : answers_left s.local ≡ []
      none = idle-left s kept rested
