-- The trees of the views that a disk may recover.
use Rattle.std.proofs.Common.{◌≡◌, ℕ, ◌+◌, ◌⊎◌, inl, inr, Bool, true, false, if◌then◌else◌, List, [], ◌∷◌, ◌++◌, Option, Some, refl, ap, sym, ◌∙◌, subst, arith}
use Rattle.vb_tree.specs.declared.tree.Limits.{Limits}
use Rattle.vb_tree.specs.declared.tree.TreeEntry.{TreeEntry}
use Rattle.vb_tree.specs.declared.operation.Op.{Op}
use Rattle.vb_hist.specs.declared.entry.Entry.TheVariants.{Cut}
use Rattle.vb_hist.specs.declared.entry.Stage.TheVariants.{Written}
use Rattle.vb_hist.specs.declared.marks.Marks.{Marks}
use Rattle.vb_hist.specs.Histories.{IsFrozenAt}
use Rattle.vb_hist.specs.Legal.{Opening, IsLegal, folder_at, folder_of, marks_of}
use Rattle.vb_hist.proofs.Growth.{legal-push}
use Rattle.vb_hist.proofs.Followed.{folder-cut}
use Rattle.vb_publish.specs.declared.step.UploadStep.TheVariants as uploads
use Rattle.vb_event.specs.declared.event.FolderEvent.{FolderEvent}
use Rattle.vb_event.specs.declared.event.FolderEvent.TheVariants as events
use Rattle.vb_event.specs.declared.answer.FolderAnswer.{FolderAnswer}
use Rattle.vb_event.specs.declared.answer.FolderAnswer.TheVariants as answers
use Rattle.vb_journal.specs.declared.commit_stage.CommitStep.TheVariants as commits
use Rattle.vb_event.specs.declared.answer.FaultKind.TheVariants.{Link}
use Rattle.vb_event.specs.Core.{Core, Given, IsGiven, is_busy}
use Rattle.vb_event.specs.Answers.{MayAnswer, is_spent}
use Rattle.vb_event.specs.Steps.{after_call, after_commit_step, after_drop, after_upload_step, core_after, doubt_of, pushed_by}
use Rattle.vb_event.specs.Sound.{HasSoundHistory, MayRecover, Recovers}
use Rattle.vb_event.proofs.Noted.{all-survives, folder_at-grows, frozen-at, last-frozen}
use Rattle.vb_event.proofs.Transitions.{sound-event}

-- what may be recovered is frozen
recover-frozen : (o : Opening) (core : Core) (epoch : ℕ) → HasSoundHistory o core → MayRecover core epoch → IsFrozenAt o.start epoch core.history
recover-frozen o core epoch s (inl is) = subst (λ e. IsFrozenAt o.start e core.history) (sym is) (last-frozen o core s)
recover-frozen o core epoch s (inr before) = (let past = s.written before.1 in frozen-at o core epoch s (omega (arith, before.0)) (omega (arith, before.0)))

-- a tree stays that may still be recovered
pub tree-stays : (o : Opening) (core : Core) (given : Given) (event : FolderEvent) (answer : FolderAnswer) (epoch : ℕ) (tree : List TreeEntry) → IsGiven given → MayAnswer given core event answer → HasSoundHistory o core
    → Recovers o core epoch tree → MayRecover (core_after given core event answer) epoch → Recovers o (core_after given core event answer) epoch tree
tree-stays o core given event answer epoch tree is may s had still = record {
  may = still;
  is_folder = had.is_folder ∙ sym (folder_at-grows o core.history (pushed_by given core event answer) epoch s.whole (sound-event o core given event answer is may s).whole (recover-frozen o core epoch s had.may));
}

-- ---- no event but a freeze brings another view

-- the last epoch is as before, and what is written was
record Stands (core next : Core) : Type 0 where
  last : next.epoch ≡ core.epoch
  written : next.stage ≡ Written → core.stage ≡ Written

stands-call : (core : Core) (op : Op) (answer : FolderAnswer) → Stands core (after_call core op answer)
stands-call core op (answers.Called reply) = record { last = refl; written = λ w. w }
stands-call core op other = record { last = refl; written = λ w. w }

stands-commit : (core : Core) (answer : FolderAnswer) → Stands core (after_commit_step core answer)
stands-commit core (answers.CommitStepped commits.Committed) = record { last = refl; written = λ w. cc }
stands-commit core (answers.CommitStepped commits.Rested) = record { last = refl; written = λ w. cc }
stands-commit core (answers.CommitStepped other) = record { last = refl; written = λ w. w }
stands-commit core other = record { last = refl; written = λ w. w }

stands-upload : (doubt : Option ℕ) (core : Core) (answer : FolderAnswer) → Stands core (after_upload_step doubt core answer)
stands-upload doubt core (answers.UploadStepped uploads.Sent) = record { last = refl; written = λ w. w }
stands-upload doubt core (answers.UploadStepped (uploads.Published epoch)) = record { last = refl; written = λ w. w }
stands-upload doubt core (answers.UploadStepped uploads.Asked) = record { last = refl; written = λ w. w }
stands-upload doubt core (answers.Fault Link) = record { last = refl; written = λ w. w }
stands-upload doubt core other = record { last = refl; written = λ w. w }

stands-drop : (core : Core) (answer : FolderAnswer) → Stands core (after_drop core answer)
stands-drop core (answers.Dropped epoch) = record { last = refl; written = λ w. w }
stands-drop core other = record { last = refl; written = λ w. w }

recover-stands : (core next : Core) (epoch : ℕ) → Stands core next → MayRecover next epoch → MayRecover core epoch
recover-stands core next epoch stands (inl is) = inl (is ∙ stands.last)
recover-stands core next epoch stands (inr before) = inr (before.0 ∙ stands.last, stands.written before.1)

-- ---- a freeze

-- a freeze that froze is at the last epoch plus one
frozen-next : (core : Core) (busy spent : Bool) (epoch : ℕ) → answers.Frozen epoch ≡ (if busy then answers.Busy core.epoch else (if spent then answers.Spent core.epoch core.sequence else answers.Frozen (core.epoch + 1))) → epoch ≡ core.epoch + 1
frozen-next core true spent epoch h = cc
frozen-next core false true epoch h = cc
frozen-next core false false epoch h = cc (h)

pub freeze-next : (given : Given) (core : Core) (by epoch : ℕ) → MayAnswer given core (events.Freeze by) (answers.Frozen epoch) → epoch ≡ core.epoch + 1
freeze-next given core by epoch (inl due) = frozen-next core (is_busy core) (is_spent core) epoch due
freeze-next given core by epoch (inr fault) = absurd (differ fault.1)
  where
    differ : answers.Frozen epoch ≡ answers.Fault fault.0 → ⊥
    differ h = cc

-- what may be recovered behind a freeze
recover-frozen_at : (o : Opening) (core : Core) (given : Given) (by : ℕ) (answer : FolderAnswer) (epoch : ℕ) → ((frozen : ℕ) → answer ≡ answers.Frozen frozen → frozen ≡ core.epoch + 1)
    → HasSoundHistory o (core_after given core (events.Freeze by) answer) → MayRecover (core_after given core (events.Freeze by) answer) epoch
    → MayRecover core epoch ⊎ ((epoch ≡ (core_after given core (events.Freeze by) answer).epoch)
    × ((core_after given core (events.Freeze by) answer).frozen ≡ Some (folder_at o (core_after given core (events.Freeze by) answer).history epoch)))
recover-frozen_at o core given by (answers.Frozen frozen) epoch next n (inl is) = inr (is, n.frozen ∙ ap (λ e. Some (folder_at o (core_after given core (events.Freeze by) (answers.Frozen frozen)).history e)) (sym is))
recover-frozen_at o core given by (answers.Frozen frozen) epoch next n (inr before) = (let at = next frozen refl in inl (inl (omega (arith, before.0))))
recover-frozen_at o core given by other epoch next n may = inl may

-- ---- each event

-- what may be recovered afterwards could be before, or it is the last view, whose tree is the frozen one
pub recover-was : (o : Opening) (core : Core) (given : Given) (event : FolderEvent) (answer : FolderAnswer) (epoch : ℕ) → IsGiven given → MayAnswer given core event answer → HasSoundHistory o core → MayRecover (core_after given core event answer) epoch
    → MayRecover core epoch ⊎ ((epoch ≡ (core_after given core event answer).epoch) × ((core_after given core event answer).frozen ≡ Some (folder_at o (core_after given core event answer).history epoch)))
recover-was o core given (events.Call writer op) answer epoch is may s after = inl (recover-stands core (after_call core op answer) epoch (stands-call core op answer) after)
recover-was o core given (events.Freeze by) answer epoch is may s after =
    recover-frozen_at o core given by answer epoch (λ frozen at. freeze-next given core by frozen (subst (MayAnswer given core (events.Freeze by)) at may)) (sound-event o core given (events.Freeze by) answer is may s) after
recover-was o core given events.CommitStep answer epoch is may s after = inl (recover-stands core (after_commit_step core answer) epoch (stands-commit core answer) after)
recover-was o core given events.UploadStep answer epoch is may s after =
    inl (recover-stands core (after_upload_step (doubt_of given core core.unsure) core answer) epoch (stands-upload (doubt_of given core core.unsure) core answer) after)
recover-was o core given events.DropView answer epoch is may s after = inl (recover-stands core (after_drop core answer) epoch (stands-drop core answer) after)
recover-was o core given (events.End writer) answer epoch is may s after = inl after

-- ---- a crash

-- a history may be cut back to what may be recovered
pub cut-legal : (o : Opening) (core : Core) (epoch : ℕ) (limits : Limits) → HasSoundHistory o core → MayRecover core epoch → IsLegal o (core.history ++ Cut epoch limits ∷ [])
cut-legal o core epoch limits s may =
    legal-push o [] core.history (Cut epoch limits) s.legal (follows may) (subst (IsFrozenAt o.start epoch) (sym (all-survives o core s)) (recover-frozen o core epoch s may))
  where
    m : Marks
    m = marks_of o core.history

    follows : MayRecover core epoch → (epoch ≡ m.last) ⊎ (((epoch + 1 ≡ m.last) × (m.stage ≡ Written)) ⊎ ((epoch ≡ m.published) ⊎ (m.doubt ≡ Some epoch)))
    follows (inl is) = inl (is ∙ s.marks.last)
    follows (inr before) = inr (inl (before.0 ∙ s.marks.last, sym s.marks.stage ∙ before.1))

-- and then the folder is the tree that was recovered
pub cut-tree : (o : Opening) (core : Core) (epoch : ℕ) (tree : List TreeEntry) (limits : Limits) → HasSoundHistory o core → Recovers o core epoch tree → folder_of o (core.history ++ Cut epoch limits ∷ []) ≡ tree
cut-tree o core epoch tree limits s had =
    folder-cut o core.history epoch limits s.legal (subst (IsFrozenAt o.start epoch) (sym (all-survives o core s)) (recover-frozen o core epoch s had.may)) ∙ sym had.is_folder
