-- Each event keeps the history of a folder sound, whatever answer of those that may come has come.
use Rattle.std.proofs.Common.{◌≡◌, ◌≢◌, ℕ, ◌+◌, ◌<◌, ◌≤◌, ◌⊎◌, inl, inr, Bool, true, false, not, ◌||◌, ◌==◌, is_some, if◌then◌else◌, IfSome, List, [], ◌∷◌, ◌++◌, Option, Some, None, refl, ap, sym, ◌∙◌, subst, subst₂, arith}
use Rattle.std.specs.Prelude.{IsSome}
use Rattle.std.specs.List.{list_any}
use Rattle.std.proofs.lemmas.Bool.Decides.{eqb_tells}
use Rattle.vb_tree.specs.declared.tree.TreeEntry.{TreeEntry}
use Rattle.vb_tree.specs.declared.operation.Op.{Op}
use Rattle.vb_tree.specs.Operations.{reply_of, tree_after_reply}
use Rattle.vb_hist.specs.declared.entry.Entry.{Entry}
use Rattle.vb_hist.specs.declared.entry.Entry.TheVariants.{Call, Freeze, FreezeBusy, Commit, Rest, Publish, Doubt, Dropped, End}
use Rattle.vb_hist.specs.declared.entry.Stage.{Stage}
use Rattle.vb_hist.specs.declared.entry.Stage.TheVariants.{Rested, Written, Committed}
use Rattle.vb_hist.specs.declared.marks.Marks.{Marks}
use Rattle.vb_hist.specs.Histories.{folder_after, is_freeze_of, up_to_epoch}
use Rattle.vb_hist.specs.Legal.{Opening, folder_at, marks_of, standing_without}
use Rattle.vb_hist.proofs.Order.{frozen-within}
use Rattle.vb_hist.proofs.Survivors.{surviving-whole}
use Rattle.vb_hist.proofs.Fronts.{up_to_epoch-freeze}
use Rattle.vb_publish.specs.declared.step.UploadStep.{UploadStep}
use Rattle.vb_publish.specs.declared.step.UploadStep.TheVariants as uploads
use Rattle.vb_event.specs.declared.event.FolderEvent.{FolderEvent}
use Rattle.vb_event.specs.declared.event.FolderEvent.TheVariants as events
use Rattle.vb_event.specs.declared.answer.FolderAnswer.{FolderAnswer}
use Rattle.vb_event.specs.declared.answer.FolderAnswer.TheVariants as answers
use Rattle.vb_journal.specs.declared.commit_stage.CommitStep.{CommitStep}
use Rattle.vb_journal.specs.declared.commit_stage.CommitStep.TheVariants as commits
use Rattle.vb_event.specs.declared.answer.FaultKind.{FaultKind}
use Rattle.vb_event.specs.declared.answer.FaultKind.TheVariants.{Damaged, Disk, Link, Memory}
use Rattle.vb_event.specs.Core.{Core, Given, BringToRest, IsGiven, is_busy, is_rested}
use Rattle.vb_event.specs.Answers.{MayAnswer, MayStep, IsDue, commit_answer, drop_answer, due_view, freeze_answer, is_last_due, is_spent, message_answer}
use Rattle.vb_event.specs.Steps.{core_after, after_upload_step, doubt_of, epoch_or, frozen_while, last_view, pushed_by_upload, rest_of}
use Rattle.vb_event.specs.Sound.{HasSoundHistory, IsCoherent, TellsMarks}
use Rattle.vb_event.proofs.Noted.{all-survives, from-start, line-ordered, longer, noted, quiet-sound, still-same, still-sound, with_history}

-- ---- what stays coherent

-- another history, live tree and frozen tree
same-order : (core : Core) (history : List Entry) (active : List TreeEntry) (frozen : Option (List TreeEntry)) → IsCoherent core → IsCoherent (record core { history = history; active = active; frozen = frozen })
same-order core history active frozen r = record {
  view_is_last = r.view_is_last;
  published_is_past = r.published_is_past;
  doubt_is_newer = r.doubt_is_newer;
  left = r.left;
  sent = λ some. (let i = r.sent some in record { stands = i.stands; committed = i.committed; sure = i.sure });
}

-- a later stage, at which nothing is written, with what is left from there
staged-order : (core : Core) (history : List Entry) (stage : Stage) (sequence : ℕ) (left : List CommitStep) (frozen : Option (List TreeEntry)) → stage ≢ Written → BringToRest stage left → IsCoherent core
    → IsCoherent (record core { history = history; stage = stage; sequence = sequence; left = left; frozen = frozen })
staged-order core history stage sequence left frozen on brings r = record {
  view_is_last = r.view_is_last;
  published_is_past = r.published_is_past;
  doubt_is_newer = r.doubt_is_newer;
  left = brings;
  sent = λ some. (let i = r.sent some in record { stands = i.stands; committed = on; sure = i.sure });
}

-- fewer answers are left
left-order : (core : Core) (left : List CommitStep) → BringToRest core.stage left → IsCoherent core → IsCoherent (record core { left = left; unsure = core.unsure; sent = core.sent })
left-order core left brings r = record {
  view_is_last = r.view_is_last;
  published_is_past = r.published_is_past;
  doubt_is_newer = r.doubt_is_newer;
  left = brings;
  sent = λ some. (let i = r.sent some in record { stands = i.stands; committed = i.committed; sure = i.sure });
}

-- nothing counts as sent, and this is in doubt
unsent-order : (core : Core) (unsure : Option ℕ) → IfSome unsure (λ epoch. (core.published < epoch) × (epoch ≤ core.epoch)) → IsCoherent core → IsCoherent (record core { left = core.left; unsure = unsure; sent = 0 })
unsent-order core unsure newer r = record {
  view_is_last = r.view_is_last;
  published_is_past = r.published_is_past;
  doubt_is_newer = newer;
  left = r.left;
  sent = λ some. absurd (omega arith);
}

-- ---- a writer's operation and its end

pub sound-call : (o : Opening) (core : Core) (given : Given) (writer : ℕ) (op : Op) → HasSoundHistory o core
    → HasSoundHistory o (core_after given core (events.Call writer op) (answers.Called (reply_of core.limits core.active op)))
sound-call o core given writer op s =
    let t = s.marks in
    let reply = reply_of core.limits core.active op in
    let active = tree_after_reply core.active op reply in
    still-sound o core (record core { active = active }) (Call writer op reply) s refl (ap (λ l. reply_of l core.active op) t.limits) refl
    (record { last = t.last; standing = t.standing; stage = t.stage; published = t.published; limits = t.limits; doubt = t.doubt })
    refl s.frozen s.written (same-order core (longer core (Call writer op reply)) active core.frozen s.order)

pub sound-end : (o : Opening) (core : Core) (given : Given) (writer : ℕ) → HasSoundHistory o core → HasSoundHistory o (core_after given core (events.End writer) answers.Ended)
sound-end o core given writer s =
    let t = s.marks in
    still-sound o core core (End writer) s refl tt refl
    (record { last = t.last; standing = t.standing; stage = t.stage; published = t.published; limits = t.limits; doubt = t.doubt })
    refl s.frozen s.written (same-order core (longer core (End writer)) core.active core.frozen s.order)

-- ---- a freeze

-- why a folder is busy: a view stands or the stage isn't at rest
busy-because : (standing : Option ℕ) (stage : Stage) → (is_some standing || not (is_rested stage)) ≡ true → IsSome standing ⊎ (stage ≢ Rested)
busy-because (Some epoch) stage h = inl refl
busy-because None Rested h = cc
busy-because None Written h = inr (λ is. cc)
busy-because None Committed h = inr (λ is. cc)

-- the marks that a busy folder tells are busy
busy-marks : (core : Core) (m : Marks) → TellsMarks core m → is_busy core ≡ true → IsSome m.standing ⊎ (m.stage ≢ Rested)
busy-marks core m t busy =
    subst (λ v. IsSome v ⊎ (m.stage ≢ Rested)) t.standing
    (subst (λ g. IsSome core.standing ⊎ (g ≢ Rested)) t.stage (busy-because core.standing core.stage busy))

sound-busy : (o : Opening) (core : Core) (given : Given) (by : ℕ) → is_busy core ≡ true → HasSoundHistory o core → HasSoundHistory o (core_after given core (events.Freeze by) (answers.Busy core.epoch))
sound-busy o core given by busy s =
    let t = s.marks in
    still-sound o core core (FreezeBusy by core.epoch) s refl (busy-marks core (marks_of o core.history) t busy, t.last) refl
    (record { last = t.last; standing = t.standing; stage = t.stage; published = t.published; limits = t.limits; doubt = t.doubt })
    refl s.frozen s.written (same-order core (longer core (FreezeBusy by core.epoch)) core.active core.frozen s.order)

-- where a folder isn't busy, no view stands and the stage is at rest
idle : (standing : Option ℕ) (stage : Stage) → (is_some standing || not (is_rested stage)) ≡ false → (standing ≡ None) × (stage ≡ Rested)
idle (Some epoch) stage h = cc
idle None Rested h = (refl, refl)
idle None Written h = cc
idle None Committed h = cc

-- the next epoch has no freeze yet
none-frozen : (o : Opening) (core : Core) → HasSoundHistory o core → list_any (is_freeze_of (core.epoch + 1)) core.history ≡ false
none-frozen o core s = at (list_any (is_freeze_of (core.epoch + 1)) core.history) refl
  where
    at : (b : Bool) → list_any (is_freeze_of (core.epoch + 1)) core.history ≡ b → list_any (is_freeze_of (core.epoch + 1)) core.history ≡ false
    at false is = is
    at true is =
        let ordered = line-ordered o core s in
        let all = all-survives o core s in
        let told = ordered.last in
        let last = s.marks.last in
        let within = frozen-within o.start (core.epoch + 1) _ ordered.order (subst (λ l. list_any (is_freeze_of (core.epoch + 1)) l ≡ true) (sym all) is) in
        absurd (omega (arith, within.1))

sound-frozen : (o : Opening) (core : Core) (given : Given) (by : ℕ) → IsGiven given → is_busy core ≡ false → HasSoundHistory o core → HasSoundHistory o (core_after given core (events.Freeze by) (answers.Frozen (core.epoch + 1)))
sound-frozen o core given by is free s =
    let t = s.marks in
    let at_rest = idle core.standing core.stage free in
    let entry = Freeze by (core.epoch + 1) in
    let n = noted o core entry s refl (sym t.standing ∙ at_rest.0, sym t.stage ∙ at_rest.1, ap (λ e. e + 1) t.last) in
    let low = from-start o core s in
    let past = s.order.published_is_past in
    let from : o.start < core.epoch + 1 = omega arith in
    let none = none-frozen o core s in
    let all = surviving-whole o.start (longer core entry) n.whole in
    let tree : core.active ≡ folder_at o (longer core entry) (core.epoch + 1) =
    sym n.folder ∙ ap (folder_after o.base) (all ∙ (sym (up_to_epoch-freeze o.start (core.epoch + 1) by core.history from none) ∙ ap (up_to_epoch o.start (core.epoch + 1)) (sym all))) in record {
      legal = n.legal;
      whole = n.whole;
      active = sym n.folder;
      frozen = ap (λ t. Some t) tree;
      marks = subst (TellsMarks (core_after given core (events.Freeze by) (answers.Frozen (core.epoch + 1)))) (sym n.marks)
          (record { last = refl; standing = refl; stage = refl; published = t.published; limits = t.limits; doubt = t.doubt });
      written = λ w. from;
      order = record {
        view_is_last = (refl, omega arith);
        published_is_past = omega arith;
        doubt_is_newer = later core.unsure s.order.doubt_is_newer;
        left = is.commit;
        sent = λ some. absurd (omega arith);
      };
    }
  where
    later : (unsure : Option ℕ) → IfSome unsure (λ epoch. (core.published < epoch) × (epoch ≤ core.epoch)) → IfSome unsure (λ epoch. (core.published < epoch) × (epoch ≤ core.epoch + 1))
    later None h = tt
    later (Some epoch) h = (h.0, omega (arith, h.1))

sound-freeze_at : (o : Opening) (core : Core) (given : Given) (by : ℕ) (busy spent : Bool) → IsGiven given → is_busy core ≡ busy → HasSoundHistory o core
    → HasSoundHistory o (core_after given core (events.Freeze by) (if busy then answers.Busy core.epoch else (if spent then answers.Spent core.epoch core.sequence else answers.Frozen (core.epoch + 1))))
sound-freeze_at o core given by true spent is busy s = sound-busy o core given by busy s
sound-freeze_at o core given by false true is busy s = still-same o core s
sound-freeze_at o core given by false false is busy s = sound-frozen o core given by is busy s

pub sound-freeze : (o : Opening) (core : Core) (given : Given) (by : ℕ) → IsGiven given → HasSoundHistory o core → HasSoundHistory o (core_after given core (events.Freeze by) (freeze_answer core))
sound-freeze o core given by is s = sound-freeze_at o core given by (is_busy core) (is_spent core) is refl s

-- ---- a commit step

-- the frozen tree while the stage is this one
frozen-staged : (o : Opening) (core : Core) (stage : Stage) → core.stage ≡ stage → HasSoundHistory o core → core.frozen ≡ (if is_some core.standing || not (is_rested stage) then Some (folder_at o core.history core.epoch) else None)
frozen-staged o core stage is s = s.frozen ∙ ap (λ g. if is_some core.standing || not (is_rested g) then Some (folder_at o core.history core.epoch) else None) is

-- the frozen tree at a commit's rest
frozen-rested : (standing : Option ℕ) (frozen : Option (List TreeEntry)) (tree : List TreeEntry) → frozen ≡ (if is_some standing || not (is_rested Committed) then Some tree else None)
    → frozen_while standing Rested frozen ≡ (if is_some standing || not (is_rested Rested) then Some tree else None)
frozen-rested None frozen tree h = refl
frozen-rested (Some epoch) frozen tree h = h

-- a step that writes or syncs, or that finds nothing left
sound-left : (o : Opening) (core : Core) (stage : Stage) (left : List CommitStep) → core.stage ≡ stage → rest_of core.left ≡ left → BringToRest stage left → HasSoundHistory o core
    → HasSoundHistory o (record core { history = core.history ++ []; left = rest_of core.left; unsure = core.unsure; sent = core.sent })
sound-left o core stage left is on brings s =
    quiet-sound o core (rest_of core.left) core.unsure core.sent s s.marks.doubt (left-order core (rest_of core.left) (subst₂ BringToRest (sym is) (sym on) brings) s.order)

sound-commit_at : (o : Opening) (core : Core) (given : Given) (stage : Stage) (left : List CommitStep) → core.stage ≡ stage → core.left ≡ left → BringToRest stage left → HasSoundHistory o core
    → HasSoundHistory o (core_after given core events.CommitStep (answers.CommitStepped (commit_answer left)))
sound-commit_at o core given Rested [] is on brings s = sound-left o core Rested [] is (ap rest_of on) tt s
sound-commit_at o core given Written (commits.Wrote ∷ left) is on brings s = sound-left o core Written left is (ap rest_of on) brings s
sound-commit_at o core given Written (commits.Synced ∷ left) is on brings s = sound-left o core Written left is (ap rest_of on) brings s
sound-commit_at o core given Committed (commits.Wrote ∷ left) is on brings s = sound-left o core Committed left is (ap rest_of on) brings s
sound-commit_at o core given Committed (commits.Synced ∷ left) is on brings s = sound-left o core Committed left is (ap rest_of on) brings s
sound-commit_at o core given Written (commits.Committed ∷ left) is on brings s =
    let t = s.marks in
    let brings_on = subst (BringToRest Committed) (sym (ap rest_of on)) brings in
    still-sound o core (record core { stage = Committed; left = rest_of core.left }) (Commit core.epoch) s refl (sym t.stage ∙ is, t.last) refl
    (record { last = t.last; standing = t.standing; stage = refl; published = t.published; limits = t.limits; doubt = t.doubt })
    refl (frozen-staged o core Written is s) (λ w. cc)
    (staged-order core (longer core (Commit core.epoch)) Committed core.sequence (rest_of core.left) core.frozen (λ w. cc) brings_on s.order)
sound-commit_at o core given Committed (commits.Rested ∷ left) is on brings s =
    let t = s.marks in
    let brings_on = subst (BringToRest Rested) (sym (ap rest_of on)) brings in
    let frozen = frozen_while core.standing Rested core.frozen in
    still-sound o core (record core { stage = Rested; left = rest_of core.left; sequence = core.sequence + 2; frozen = frozen }) (Rest core.epoch) s refl (sym t.stage ∙ is, t.last) refl
    (record { last = t.last; standing = t.standing; stage = refl; published = t.published; limits = t.limits; doubt = t.doubt })
    refl (frozen-rested core.standing core.frozen (folder_at o core.history core.epoch) (frozen-staged o core Committed is s)) (λ w. cc)
    (staged-order core (longer core (Rest core.epoch)) Rested (core.sequence + 2) (rest_of core.left) frozen (λ w. cc) brings_on s.order)
sound-commit_at o core given stage left is on brings s = absurd brings

pub sound-commit_step : (o : Opening) (core : Core) (given : Given) → HasSoundHistory o core → HasSoundHistory o (core_after given core events.CommitStep (answers.CommitStepped (commit_answer core.left)))
sound-commit_step o core given s = sound-commit_at o core given core.stage core.left refl refl s.order.left s

-- ---- a publication

-- what is kept of the frozen tree where a view that stood may go
kept-frozen : (standing next : Option ℕ) (stage : Stage) (frozen : Option (List TreeEntry)) (tree : List TreeEntry) → (is_some next ≡ true → is_some standing ≡ true)
    → frozen ≡ (if is_some standing || not (is_rested stage) then Some tree else None)
    → frozen_while next stage frozen ≡ (if is_some next || not (is_rested stage) then Some tree else None)
kept-frozen standing None Rested frozen tree less h = refl
kept-frozen None None Written frozen tree less h = h
kept-frozen None None Committed frozen tree less h = h
kept-frozen (Some view) None Written frozen tree less h = h
kept-frozen (Some view) None Committed frozen tree less h = h
kept-frozen (Some view) (Some epoch) stage frozen tree less h = h
kept-frozen None (Some epoch) stage frozen tree less h = absurd (let there : is_some (none_of epoch) ≡ true = less refl in cc) where
  none_of : ℕ → Option ℕ
  none_of n = None

-- a view that stands after a publication stood before
without-some : (standing : Option ℕ) (epoch : ℕ) → is_some (standing_without standing epoch) ≡ true → is_some standing ≡ true
without-some None epoch h = h
without-some (Some view) epoch h = refl

-- and it is the last one, above what is published
left-standing : (standing : Option ℕ) (last published epoch : ℕ) → IfSome standing (λ e. (e ≡ last) × (published < e)) → epoch ≤ last → IfSome (standing_without standing epoch) (λ e. (e ≡ last) × (epoch < e))
left-standing None last published epoch h below = tt
left-standing (Some view) last published epoch h below = at (eqb_tells view epoch)
  where
    at : ((view == epoch) ≡ true) × (view ≡ epoch) ⊎ ((view == epoch) ≡ false) × (view ≢ epoch) → IfSome (if view == epoch then None else Some view) (λ e. (e ≡ last) × (epoch < e))
    at (inl is) = rw (is.0) tt
    at (inr differs) = rw (differs.0) (h.0, omega (arith, h.0, differs.1))

-- an epoch is published that may be
sound-published : (o : Opening) (core : Core) (given : Given) (epoch : ℕ) → ((core.standing ≡ Some epoch) × (core.stage ≢ Written)) ⊎ (core.unsure ≡ Some epoch) → HasSoundHistory o core
    → HasSoundHistory o (core_after given core events.UploadStep (answers.UploadStepped (uploads.Published epoch)))
sound-published o core given epoch from s =
    let t = s.marks in
    let bounds = above from in
    let standing = standing_without core.standing epoch in
    let frozen = frozen_while standing core.stage core.frozen in
    let may : (marks_of o core.history).published < epoch = subst (λ p. p < epoch) t.published bounds.0 in
    still-sound o core (record core { published = epoch; standing = standing; frozen = frozen; unsure = None; sent = 0 }) (Publish epoch) s refl (may, allowed from) refl
    (record { last = t.last; standing = ap (λ v. standing_without v epoch) t.standing; stage = t.stage; published = refl; limits = t.limits; doubt = tt })
    refl (kept-frozen core.standing standing core.stage core.frozen (folder_at o core.history core.epoch) (without-some core.standing epoch) s.frozen) s.written
    (record {
      view_is_last = left-standing core.standing core.epoch core.published epoch s.order.view_is_last bounds.1;
      published_is_past = bounds.1;
      doubt_is_newer = tt;
      left = s.order.left;
      sent = λ some. absurd (omega arith);
    })
  where
    above : ((core.standing ≡ Some epoch) × (core.stage ≢ Written)) ⊎ (core.unsure ≡ Some epoch) → (core.published < epoch) × (epoch ≤ core.epoch)
    above (inl is) =
        let view = subst (λ v. IfSome v (λ e. (e ≡ core.epoch) × (core.published < e))) is.0 s.order.view_is_last in
        (view.1, omega (arith, view.0))
    above (inr is) = subst (λ u. IfSome u (λ e. (core.published < e) × (e ≤ core.epoch))) is s.order.doubt_is_newer

    allowed : ((core.standing ≡ Some epoch) × (core.stage ≢ Written)) ⊎ (core.unsure ≡ Some epoch)
        → (((marks_of o core.history).standing ≡ Some epoch) × ((marks_of o core.history).stage ≢ Written)) ⊎ ((marks_of o core.history).doubt ≡ Some epoch)
    allowed (inl is) = inl (sym s.marks.standing ∙ is.0, λ w. is.1 (s.marks.stage ∙ w))
    allowed (inr is) = inr (subst (λ u. IfSome u (λ e. (marks_of o core.history).doubt ≡ Some e)) is s.marks.doubt)

-- ---- a message

-- one message more counts as sent
sound-sent : (o : Opening) (core : Core) (given : Given) (epoch : ℕ) → core.unsure ≡ None → core.standing ≡ Some epoch → core.stage ≢ Written → HasSoundHistory o core → HasSoundHistory o (core_after given core events.UploadStep (answers.UploadStepped uploads.Sent))
sound-sent o core given epoch sure is on s =
    let r = s.order in
    let view = subst (λ v. IfSome v (λ e. (e ≡ core.epoch) × (core.published < e))) is r.view_is_last in
    quiet-sound o core core.left core.unsure (core.sent + 1) s s.marks.doubt
    (record {
      view_is_last = r.view_is_last;
      published_is_past = r.published_is_past;
      doubt_is_newer = r.doubt_is_newer;
      left = r.left;
      sent = λ some. record { stands = is ∙ ap (λ e. Some e) view.0; committed = on; sure = sure };
    })

sound-message : (o : Opening) (core : Core) (given : Given) (last : Bool) (standing : Option ℕ) (stage : Stage) → core.standing ≡ standing → core.stage ≡ stage → core.unsure ≡ None → HasSoundHistory o core
    → HasSoundHistory o (core_after given core events.UploadStep (answers.UploadStepped (message_answer last (due_view standing stage))))
sound-message o core given last standing Written is on sure s = still-same o core s
sound-message o core given last None Committed is on sure s = still-same o core s
sound-message o core given last None Rested is on sure s = still-same o core s
sound-message o core given true (Some epoch) Committed is on sure s = sound-published o core given epoch (inl (is, λ w. cc (on, w))) s
sound-message o core given true (Some epoch) Rested is on sure s = sound-published o core given epoch (inl (is, λ w. cc (on, w))) s
sound-message o core given false (Some epoch) Committed is on sure s = sound-sent o core given epoch sure is (λ w. cc (on, w)) s
sound-message o core given false (Some epoch) Rested is on sure s = sound-sent o core given epoch sure is (λ w. cc (on, w)) s

-- the cloud was asked, and shows another epoch
sound-asked : (o : Opening) (core : Core) (given : Given) → HasSoundHistory o core → HasSoundHistory o (core_after given core events.UploadStep (answers.UploadStepped uploads.Asked))
sound-asked o core given s =
    let r = s.order in
    quiet-sound o core core.left None core.sent s tt
    (record {
      view_is_last = r.view_is_last;
      published_is_past = r.published_is_past;
      doubt_is_newer = tt;
      left = r.left;
      sent = λ some. (let i = r.sent some in record { stands = i.stands; committed = i.committed; sure = refl });
    })

sound-step : (o : Opening) (core : Core) (given : Given) (unsure : Option ℕ) (step : UploadStep) → core.unsure ≡ unsure → MayStep given core unsure step → HasSoundHistory o core
    → HasSoundHistory o (core_after given core events.UploadStep (answers.UploadStepped step))
sound-step o core given None step is may s =
    subst (λ x. HasSoundHistory o (core_after given core events.UploadStep (answers.UploadStepped x))) (sym may)
    (sound-message o core given (is_last_due given core) core.standing core.stage refl refl is s)
sound-step o core given (Some doubt) step is (inl may) s =
    subst (λ x. HasSoundHistory o (core_after given core events.UploadStep (answers.UploadStepped x))) (sym may) (sound-published o core given doubt (inr is) s)
sound-step o core given (Some doubt) step is (inr may) s =
    subst (λ x. HasSoundHistory o (core_after given core events.UploadStep (answers.UploadStepped x))) (sym may) (sound-asked o core given s)

-- ---- a link that fails

-- a view that is due stands and is committed
view-tells : {U : Type 0} → U → (last : Bool) (standing : Option ℕ) (stage : Stage) → IfSome (last_view last (due_view standing stage)) (λ epoch. U × (standing ≡ Some epoch) × (stage ≢ Written))
view-tells u false standing stage = tt
view-tells u true standing Written = tt
view-tells u true None Committed = tt
view-tells u true None Rested = tt
view-tells u true (Some epoch) Committed = (u, refl, λ w. cc)
view-tells u true (Some epoch) Rested = (u, refl, λ w. cc)

-- a new doubt is of a view that stands and is committed, where nothing was in doubt
pub doubt-tells : (given : Given) (core : Core) (unsure : Option ℕ) → core.unsure ≡ unsure → IfSome (doubt_of given core unsure) (λ epoch. (core.unsure ≡ None) × (core.standing ≡ Some epoch) × (core.stage ≢ Written))
doubt-tells given core (Some doubt) is = tt
doubt-tells given core None is = view-tells is (is_last_due given core) core.standing core.stage

pub or-none : (unsure : Option ℕ) → epoch_or unsure None ≡ unsure
or-none None = refl
or-none (Some epoch) = refl

sound-link : (o : Opening) (core : Core) (doubt : Option ℕ) → IfSome doubt (λ epoch. (core.unsure ≡ None) × (core.standing ≡ Some epoch) × (core.stage ≢ Written)) → HasSoundHistory o core
    → HasSoundHistory o (with_history (after_upload_step doubt core (answers.Fault Link)) (core.history ++ pushed_by_upload doubt (answers.Fault Link)))
sound-link o core None tells s =
    let same = sym (or-none core.unsure) in
    quiet-sound o core core.left (epoch_or core.unsure None) 0 s (subst (λ u. IfSome u (λ e. (marks_of o core.history).doubt ≡ Some e)) same s.marks.doubt)
    (unsent-order core (epoch_or core.unsure None) (subst (λ u. IfSome u (λ e. (core.published < e) × (e ≤ core.epoch))) same s.order.doubt_is_newer) s.order)
sound-link o core (Some epoch) tells s =
    let t = s.marks in
    let r = s.order in
    let now : epoch_or core.unsure (Some epoch) ≡ Some epoch = ap (λ u. epoch_or u (Some epoch)) tells.0 in
    let view = subst (λ v. IfSome v (λ e. (e ≡ core.epoch) × (core.published < e))) tells.1 r.view_is_last in
    still-sound o core (record core { unsure = epoch_or core.unsure (Some epoch); sent = 0 }) (Doubt epoch) s refl (sym t.standing ∙ tells.1, λ w. tells.2 (t.stage ∙ w)) refl
    (record {
      last = t.last;
      standing = t.standing;
      stage = t.stage;
      published = t.published;
      limits = t.limits;
      doubt = subst (λ u. IfSome u (λ e. Some epoch ≡ Some e)) (sym now) refl;
    })
    refl s.frozen s.written
    (record {
      view_is_last = r.view_is_last;
      published_is_past = r.published_is_past;
      doubt_is_newer = subst (λ u. IfSome u (λ e. (core.published < e) × (e ≤ core.epoch))) (sym now) (view.1, omega (arith, view.0));
      left = r.left;
      sent = λ some. absurd (omega arith);
    })

-- ---- a view that is dropped

sound-drop_at : (o : Opening) (core : Core) (given : Given) (standing : Option ℕ) → core.standing ≡ standing → HasSoundHistory o core → HasSoundHistory o (core_after given core events.DropView (drop_answer standing))
sound-drop_at o core given None is s = still-same o core s
sound-drop_at o core given (Some epoch) is s =
    let t = s.marks in
    let r = s.order in
    let frozen = frozen_while None core.stage core.frozen in
    still-sound o core (record core { standing = None; frozen = frozen; sent = 0 }) (Dropped epoch) s refl (sym t.standing ∙ is) refl
    (record { last = t.last; standing = refl; stage = t.stage; published = t.published; limits = t.limits; doubt = t.doubt })
    refl (kept-frozen core.standing None core.stage core.frozen (folder_at o core.history core.epoch) (λ none. cc) s.frozen) s.written
    (record {
      view_is_last = tt;
      published_is_past = r.published_is_past;
      doubt_is_newer = r.doubt_is_newer;
      left = r.left;
      sent = λ some. absurd (omega arith);
    })

-- ---- each event, with each answer that may come

sound-due : (o : Opening) (core : Core) (given : Given) (event : FolderEvent) (answer : FolderAnswer) → IsGiven given → IsDue given core event answer → HasSoundHistory o core → HasSoundHistory o (core_after given core event answer)
sound-due o core given (events.Call writer op) answer is due s = subst (λ a. HasSoundHistory o (core_after given core (events.Call writer op) a)) (sym due) (sound-call o core given writer op s)
sound-due o core given (events.Freeze by) answer is due s = subst (λ a. HasSoundHistory o (core_after given core (events.Freeze by) a)) (sym due) (sound-freeze o core given by is s)
sound-due o core given events.CommitStep answer is due s = subst (λ a. HasSoundHistory o (core_after given core events.CommitStep a)) (sym due) (sound-commit_step o core given s)
sound-due o core given events.UploadStep answer is due s =
    subst (λ a. HasSoundHistory o (core_after given core events.UploadStep a)) (sym due.1) (sound-step o core given core.unsure due.0 refl due.2 s)
sound-due o core given events.DropView answer is due s = subst (λ a. HasSoundHistory o (core_after given core events.DropView a)) (sym due) (sound-drop_at o core given core.standing refl s)
sound-due o core given (events.End writer) answer is due s = subst (λ a. HasSoundHistory o (core_after given core (events.End writer) a)) (sym due) (sound-end o core given writer s)

sound-fault : (o : Opening) (core : Core) (given : Given) (event : FolderEvent) (kind : FaultKind) → HasSoundHistory o core → HasSoundHistory o (core_after given core event (answers.Fault kind))
sound-fault o core given (events.Call writer op) kind s = still-same o core s
sound-fault o core given (events.Freeze by) kind s = still-same o core s
sound-fault o core given events.CommitStep kind s = still-same o core s
sound-fault o core given events.UploadStep Damaged s = still-same o core s
sound-fault o core given events.UploadStep Disk s = still-same o core s
sound-fault o core given events.UploadStep Memory s = still-same o core s
sound-fault o core given events.UploadStep Link s = sound-link o core (doubt_of given core core.unsure) (doubt-tells given core core.unsure refl) s
sound-fault o core given events.DropView kind s = still-same o core s
sound-fault o core given (events.End writer) kind s = still-same o core s

pub sound-event : (o : Opening) (core : Core) (given : Given) (event : FolderEvent) (answer : FolderAnswer) → IsGiven given → MayAnswer given core event answer → HasSoundHistory o core → HasSoundHistory o (core_after given core event answer)
sound-event o core given event answer is (inl due) s = sound-due o core given event answer is due s
sound-event o core given event answer is (inr fault) s = subst (λ a. HasSoundHistory o (core_after given core event a)) (sym fault.1) (sound-fault o core given event fault.0 s)
