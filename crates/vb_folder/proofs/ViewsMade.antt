-- What may be recovered of a sound folder is what its history says.
use Rattle.std.proofs.Common.{◌≡◌, ◌≢◌, ℕ, zero, suc, true, false, not, List, [], ◌∷◌, ◌++◌, Option, Some, None, IfSome, length, refl, sym, subst, ap, ◌∙◌}
use Rattle.std.specs.Prelude.{◌-◌, replicate}
use Rattle.std.specs.List.{All}
use Rattle.std.proofs.lemmas.List.Elements.{All-cons, All-nil}
use Rattle.vb_commit.specs.Ways.{WayState}
use Rattle.vb_disk.specs.States.{DiskState}
use Rattle.vb_during.specs.During.{committed_view, next_view, views_at}
use Rattle.vb_event.specs.Core.{BringToRest, is_rested}
use Rattle.vb_hist.specs.Legal.{Opening}
use Rattle.vb_hist.specs.declared.entry.Stage.{Stage}
use Rattle.vb_hist.specs.declared.entry.Stage.TheVariants as stages
use Rattle.vb_index.specs.Indexes.{IndexState}
use Rattle.vb_journal.specs.declared.commit_stage.CommitStep.{CommitStep}
use Rattle.vb_journal.specs.declared.commit_stage.CommitStep.TheVariants.{Wrote}
use Rattle.vb_journal.specs.declared.commit_stage.Stage.{Stage as JournalStage}
use Rattle.vb_journal.specs.declared.commit_stage.Stage.TheVariants.{Journal, Opening as OpeningHeads, Homes, Closing, Rested}
use Rattle.vb_journal.specs.declared.commit_stage.Turn.{Turn}
use Rattle.vb_journal.specs.declared.commit_stage.Turn.TheVariants.{First, FirstSync, Second, SecondSync}
use Rattle.vb_local.specs.Answers.{answers_from, answers_in, answers_left, answers_of_way}
use Rattle.vb_local.specs.Phases.{plan_over}
use Rattle.vb_local.specs.Shown.{commit_of, views_during, views_in, views_of, LocalTrees}
use Rattle.vb_local.specs.States.{PhaseState, Rests, Waits, Writes, epoch_in, is_on}
use Rattle.vb_local.specs.Ties.{FrozenState}
use Rattle.vb_store.specs.OneOf.{TreeView}
use Rattle.vb_views.specs.Reads.{tree_view}
use Rattle.vb_folder.specs.Ledgers.{IsKept, LedgerState}
use Rattle.vb_folder.specs.Sound.{IsSoundOn, IsView}
use Rattle.vb_folder.proofs.SoundMade.{last-frozen}

-- ---- what is left tells how far a commit is

past-wrote : (n : ℕ) (left : List CommitStep) → BringToRest stages.Committed (replicate n Wrote ++ left) → BringToRest stages.Committed left
past-wrote zero left rests = rests
past-wrote (suc n) left rests = past-wrote n left rests

-- while the journal is written or the heads are opened it isn't committed
opens-later : (count : ℕ) (stage : JournalStage) (turn : Turn) → stage ≡ OpeningHeads turn → BringToRest stages.Committed (answers_from count stage) → ⊥
opens-later count (Journal next) turn is rests = cc is
opens-later count (OpeningHeads First) turn is rests = rests
opens-later count (OpeningHeads FirstSync) turn is rests = rests
opens-later count (OpeningHeads Second) turn is rests = rests
opens-later count (OpeningHeads SecondSync) turn is rests = rests
opens-later count (Homes next) turn is rests = cc is
opens-later count (Closing t) turn is rests = cc is
opens-later count Rested turn is rests = cc is

writes-later : (count next : ℕ) → BringToRest stages.Committed (answers_from count (Journal next)) → ⊥
writes-later count next rests = past-wrote (count - next) _ rests

-- ---- the views at each stage

views-early : (o : Opening) (s : LedgerState) (t : LocalTrees) (frozen : FrozenState) (next : IndexState) (way : WayState) → (s.stage ≢ stages.Committed → IsView o s t s.local.view.head.epoch t.committed) → IsView o s t way.epoch t.frozen → BringToRest s.stage (answers_of_way way) → (stage : JournalStage) → way.stage ≡ stage → All (λ (view : TreeView). IsView o s t view.metadata.head.epoch view.tree) (views_at (commit_of s.local.view next [] frozen (λ slot page. []) way.epoch t) stage)
views-early o s t frozen next way committed later rests (Journal n) at =
    All-cons (λ (view : TreeView). IsView o s t view.metadata.head.epoch view.tree) (committed_view (commit_of s.local.view next [] frozen (λ slot page. []) way.epoch t)) [] (committed (λ is. writes-later (length way.images) n
    (subst (λ (stage : JournalStage). BringToRest stages.Committed (answers_from (length way.images) stage)) at
    (past-wrote (length way.pages) (answers_from (length way.images) way.stage) (subst (λ (stage : Stage). BringToRest stage (answers_of_way way)) is rests)))))
    (All-nil (λ (view : TreeView). IsView o s t view.metadata.head.epoch view.tree))
views-early o s t frozen next way committed later rests (OpeningHeads turn) at =
    All-cons (λ (view : TreeView). IsView o s t view.metadata.head.epoch view.tree) (committed_view (commit_of s.local.view next [] frozen (λ slot page. []) way.epoch t)) (next_view (commit_of s.local.view next [] frozen (λ slot page. []) way.epoch t) ∷ []) (committed (λ is. opens-later (length way.images) way.stage turn at
    (past-wrote (length way.pages) (answers_from (length way.images) way.stage) (subst (λ (stage : Stage). BringToRest stage (answers_of_way way)) is rests))))
    (All-cons (λ (view : TreeView). IsView o s t view.metadata.head.epoch view.tree) (next_view (commit_of s.local.view next [] frozen (λ slot page. []) way.epoch t)) [] later (All-nil (λ (view : TreeView). IsView o s t view.metadata.head.epoch view.tree)))
views-early o s t frozen next way committed later rests (Homes n) at = All-cons (λ (view : TreeView). IsView o s t view.metadata.head.epoch view.tree) (next_view (commit_of s.local.view next [] frozen (λ slot page. []) way.epoch t)) [] later (All-nil (λ (view : TreeView). IsView o s t view.metadata.head.epoch view.tree))
views-early o s t frozen next way committed later rests (Closing turn) at = All-cons (λ (view : TreeView). IsView o s t view.metadata.head.epoch view.tree) (next_view (commit_of s.local.view next [] frozen (λ slot page. []) way.epoch t)) [] later (All-nil (λ (view : TreeView). IsView o s t view.metadata.head.epoch view.tree))
views-early o s t frozen next way committed later rests Rested at = All-cons (λ (view : TreeView). IsView o s t view.metadata.head.epoch view.tree) (next_view (commit_of s.local.view next [] frozen (λ slot page. []) way.epoch t)) [] later (All-nil (λ (view : TreeView). IsView o s t view.metadata.head.epoch view.tree))

views-during : (o : Opening) (s : LedgerState) (t : LocalTrees) (frozen : FrozenState) (way : WayState) → (s.stage ≢ stages.Committed → IsView o s t s.local.view.head.epoch t.committed) → IsView o s t way.epoch t.frozen → BringToRest s.stage (answers_of_way way) → (next : Option IndexState) → All (λ (view : TreeView). IsView o s t view.metadata.head.epoch view.tree) (views_during s.local.view next frozen way t)
views-during o s t frozen way committed later rests None = All-nil (λ (view : TreeView). IsView o s t view.metadata.head.epoch view.tree)
views-during o s t frozen way committed later rests (Some next) = views-early o s t frozen next way committed later rests way.stage refl

-- ---- in each phase

rests-committed : (phase : PhaseState) (stage : Stage) → is_on phase ≡ not (is_rested stage) → is_on phase ≡ false → stage ≢ stages.Committed
rests-committed phase stage on off is = (let e : false ≡ true = sym off ∙ on ∙ ap (λ (st : Stage). not (is_rested st)) is in cc e)

on-going : (phase : PhaseState) (stage : Stage) → is_on phase ≡ not (is_rested stage) → is_on phase ≡ true → is_rested stage ≡ false
on-going phase stages.Rested on is = (let e : true ≡ false = sym is ∙ on in absurd (cc e))
on-going phase stages.Written on is = refl
on-going phase stages.Committed on is = refl

phase-views : (o : Opening) (s : LedgerState) (t : LocalTrees) → IsKept s → (s.stage ≢ stages.Committed → IsView o s t s.local.view.head.epoch t.committed) → (is_rested s.stage ≡ false → IsView o s t s.epoch t.frozen) → (phase : PhaseState) → s.local.phase ≡ phase → All (λ (view : TreeView). IsView o s t view.metadata.head.epoch view.tree) (views_in s.local.view phase t)
phase-views o s t kept committed last (Rests frozen) at =
    All-cons (λ (view : TreeView). IsView o s t view.metadata.head.epoch view.tree) (tree_view s.local.view.head s.local.view.index t.committed) [] (committed (rests-committed s.local.phase s.stage kept.on (ap is_on at)))
    (All-nil (λ (view : TreeView). IsView o s t view.metadata.head.epoch view.tree))
phase-views o s t kept committed last (Waits frozen epoch) at =
    All-cons (λ (view : TreeView). IsView o s t view.metadata.head.epoch view.tree) (tree_view s.local.view.head s.local.view.index t.committed) [] (committed (λ is. writes-later (length (plan_over s.local.view frozen).images) 0
    (past-wrote (length (plan_over s.local.view frozen).pages) _ (subst (λ (p : PhaseState). BringToRest stages.Committed (answers_in s.local.view p)) at (subst (λ (stage : Stage). BringToRest stage (answers_left s.local)) is kept.left)))))
    (All-nil (λ (view : TreeView). IsView o s t view.metadata.head.epoch view.tree))
phase-views o s t kept committed last (Writes frozen way) at =
    views-during o s t frozen way committed
    (subst (λ (e : ℕ). IsView o s t e t.frozen) (sym (subst (λ (p : PhaseState). IfSome (epoch_in p) (λ e. e ≡ s.epoch)) at kept.frozen)) (last (on-going s.local.phase s.stage kept.on (ap is_on at))))
    (subst (λ (p : PhaseState). BringToRest s.stage (answers_in s.local.view p)) at kept.left) s.local.view.next

pub sound-views : (o : Opening) (s : LedgerState) (d : DiskState) → IsKept s → (sound : IsSoundOn o s d) → All (λ (view : TreeView). IsView o s sound.trees view.metadata.head.epoch view.tree) (views_of s.local sound.trees)
sound-views o s d kept sound = phase-views o s sound.trees kept sound.committed (last-frozen o s sound.trees sound.history) s.local.phase refl
