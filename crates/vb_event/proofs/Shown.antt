-- Each event keeps the cloud of a folder sound, and what is published only goes on.
use Rattle.std.proofs.Common.{◌≡◌, ◌≢◌, ℕ, ◌+◌, ◌<◌, ◌≤◌, ◌⊎◌, inl, inr, Bool, true, false, not, ◌||◌, ◌==◌, is_some, if◌then◌else◌, IfSome, List, [], ◌++◌, Option, Some, None, refl, ap, sym, ◌∙◌, subst, arith}
use Rattle.std.proofs.lemmas.Bool.Decides.{eqb_tells, nat_tests}
use Rattle.vb_tree.specs.declared.tree.TreeEntry.{TreeEntry}
use Rattle.vb_tree.specs.Operations.{reply_of}
use Rattle.vb_hist.specs.declared.entry.Entry.{Entry}
use Rattle.vb_hist.specs.declared.entry.Stage.{Stage}
use Rattle.vb_hist.specs.declared.entry.Stage.TheVariants.{Rested, Written, Committed}
use Rattle.vb_hist.specs.Histories.{HasNoCut, IsFrozenAt}
use Rattle.vb_hist.specs.Legal.{Opening, folder_at, marks_of}
use Rattle.vb_hist.proofs.Extended.{extends-later}
use Rattle.vb_hist.proofs.Marked.{IsPast}
use Rattle.vb_cloud.specs.Machine.{CloudState}
use Rattle.vb_publish.specs.Clouds.{HasTaken}
use Rattle.vb_publish.specs.declared.step.UploadStep.{UploadStep}
use Rattle.vb_publish.specs.declared.step.UploadStep.TheVariants as uploads
use Rattle.vb_event.specs.declared.event.FolderEvent.{FolderEvent}
use Rattle.vb_event.specs.declared.event.FolderEvent.TheVariants as events
use Rattle.vb_event.specs.declared.answer.FolderAnswer.{FolderAnswer}
use Rattle.vb_event.specs.declared.answer.FolderAnswer.TheVariants as answers
use Rattle.vb_journal.specs.declared.commit_stage.CommitStep.{CommitStep}
use Rattle.vb_journal.specs.declared.commit_stage.CommitStep.TheVariants as commits
use Rattle.vb_event.specs.declared.answer.FaultKind.{FaultKind}
use Rattle.vb_event.specs.declared.answer.FaultKind.TheVariants.{Damaged, Disk, Link, Memory}
use Rattle.vb_event.specs.Core.{Core, Given, IsGiven, is_busy, is_rested}
use Rattle.vb_event.specs.Answers.{MayAnswer, MayStep, IsDue, due_view, drop_answer, is_last_due, is_spent, message_answer, commit_answer}
use Rattle.vb_event.specs.Steps.{LeavesDoubt, LeavesPublished, MayBecome, ShowsAs, ShowsView, after_upload_step, core_after, doubt_of, epoch_or, frozen_while, pushed_by_upload, tree_in}
use Rattle.vb_event.specs.Sound.{HasSoundHistory, HasSoundCloud, IsPublishedFreeze, published_tree_at}
use Rattle.vb_event.proofs.Noted.{doubt-frozen, folder_at-grows, frozen-at, last-frozen, line-ordered, with_history}
use Rattle.vb_event.proofs.Transitions.{doubt-tells, or-none, sound-event}

-- ---- published epochs

-- the published epoch is none below the opening's
opening-low : (o : Opening) (core : Core) → HasSoundHistory o core → o.published ≤ core.published
opening-low o core s =
    let rises : o.published ≤ (marks_of o core.history).published = (extends-later o [] core.history s.legal).epoch in
    let told = s.marks.published in
    omega arith

-- the published epoch is the opening's or a later one that is frozen
pub published-freeze : (o : Opening) (core : Core) → HasSoundHistory o core → IsPublishedFreeze o core.history core.published
published-freeze o core s = at (line-ordered o core s).sound.published (eqb_tells core.published o.published)
  where
    low : o.published ≤ core.published
    low = opening-low o core s

    at : ((marks_of o core.history).published ≡ o.published) ⊎ IsPast o.start (marks_of o core.history) (marks_of o core.history).published → ((core.published == o.published) ≡ true) × (core.published ≡ o.published) ⊎ ((core.published == o.published) ≡ false) × (core.published ≢ o.published)
        → IsPublishedFreeze o core.history core.published
    at (inl is) tells = inl (s.marks.published ∙ is)
    at (inr past) (inl is) = inl is.1
    at (inr past) (inr differs) = (let told = s.marks.published in let last = s.marks.last in
        inr (omega (arith, low, differs.1), frozen-at o core core.published s (omega (arith, past.0)) s.order.published_is_past))

-- and so is one in doubt
pub doubt-freeze : (o : Opening) (core : Core) (epoch : ℕ) → HasSoundHistory o core → core.unsure ≡ Some epoch → IsPublishedFreeze o core.history epoch
doubt-freeze o core epoch s is =
    let newer = subst (λ u. IfSome u (λ e. (core.published < e) × (e ≤ core.epoch))) is s.order.doubt_is_newer in
    let low = opening-low o core s in
    inr (omega (arith, newer.0), doubt-frozen o core epoch s is)

-- what a sound cloud shows is such an epoch
pub shown-freeze : (o : Opening) (core : Core) (k : CloudState) → HasSoundHistory o core → HasSoundCloud o core k → IsPublishedFreeze o core.history k.epoch
shown-freeze o core k s c = at c.epoch
  where
    at : (k.epoch ≡ core.published) ⊎ (core.unsure ≡ Some k.epoch) → IsPublishedFreeze o core.history k.epoch
    at (inl is) = subst (IsPublishedFreeze o core.history) (sym is) (published-freeze o core s)
    at (inr is) = doubt-freeze o core k.epoch s is

-- the tree of such an epoch stays while a history grows
pub tree-stays : (o : Opening) (core next : Core) (later : List Entry) (epoch : ℕ) → HasSoundHistory o core → HasSoundHistory o next → next.history ≡ core.history ++ later → IsPublishedFreeze o core.history epoch
    → published_tree_at o next.history epoch ≡ published_tree_at o core.history epoch
tree-stays o core next later epoch s n grown (inl is) =
    subst (λ e. published_tree_at o next.history e ≡ published_tree_at o core.history e) (sym is) (rw (same o.published) refl) where
      same : (m : ℕ) → (m == m) ≡ true
      same m = grind (arith)
tree-stays o core next later epoch s n grown (inr h) =
    ap (λ t. if epoch == o.published then o.published_tree else t)
    (ap (λ l. folder_at o l epoch) grown ∙ folder_at-grows o core.history later epoch s.whole (subst HasNoCut grown n.whole) h.1)

-- ---- the cloud after an event

-- a cloud that shows what it showed, where what is published and in doubt is as before
cloud-as : (o : Opening) (core next : Core) (later : List Entry) (before after : CloudState) → HasSoundHistory o core → HasSoundHistory o next → next.history ≡ core.history ++ later
    → ShowsAs before after → (after.epoch ≡ next.published) ⊎ (next.unsure ≡ Some after.epoch) → ((tree : List TreeEntry) → next.frozen ≡ Some tree → HasTaken next.sent next.epoch tree after)
    → HasSoundCloud o core before → HasSoundCloud o next after
cloud-as o core next later before after s n grown shows told draft c = record {
  epoch = told;
  tree = shows.1 ∙ (c.tree ∙ (ap (published_tree_at o core.history) (sym shows.0) ∙ sym (tree-stays o core next later after.epoch s n grown (subst (IsPublishedFreeze o core.history) (sym shows.0) (shown-freeze o core before s c)))));
  draft = draft;
}

-- the kept frozen tree was the frozen tree
kept-was : (standing : Option ℕ) (stage : Stage) (frozen : Option (List TreeEntry)) (tree : List TreeEntry) → frozen_while standing stage frozen ≡ Some tree → frozen ≡ Some tree
kept-was standing stage frozen tree h = at (is_some standing || not (is_rested stage)) h
  where
    none : Option (List TreeEntry)
    none = None

    at : (b : Bool) → (if b then frozen else none) ≡ Some tree → frozen ≡ Some tree
    at true h = h
    at false h = absurd (let e : none ≡ Some tree = h in cc)

-- the published tree of the frozen view's epoch is the frozen tree
frozen-published : (o : Opening) (core : Core) (epoch : ℕ) → HasSoundHistory o core → core.standing ≡ Some epoch → (tree_in core.frozen ≡ published_tree_at o core.history epoch) × (core.published < epoch)
frozen-published o core epoch s is =
    let view = subst (λ v. IfSome v (λ e. (e ≡ core.epoch) × (core.published < e))) is s.order.view_is_last in
    let low = opening-low o core s in
    let above : o.published < epoch = omega (arith, view.1) in
    let other : (epoch == o.published) ≡ false = grind (arith, nat_tests) in
    let frozen : core.frozen ≡ Some (folder_at o core.history core.epoch) = s.frozen ∙ ap (λ v. if is_some v || not (is_rested core.stage) then Some (folder_at o core.history core.epoch) else None) is in
    (ap tree_in frozen ∙ (ap (folder_at o core.history) (sym view.0) ∙ ap (λ b. if b then o.published_tree else folder_at o core.history epoch) (sym other)), view.1)

-- a cloud that shows the frozen tree
cloud-shows : (o : Opening) (core next : Core) (later : List Entry) (epoch : ℕ) (after : CloudState) → HasSoundHistory o core → HasSoundHistory o next → next.history ≡ core.history ++ later → core.standing ≡ Some epoch
    → (after.epoch ≡ epoch) × (after.tree ≡ tree_in core.frozen) → (after.epoch ≡ next.published) ⊎ (next.unsure ≡ Some after.epoch) → next.sent ≡ 0 → HasSoundCloud o next after
cloud-shows o core next later epoch after s n grown is shows told none =
    let view = subst (λ v. IfSome v (λ e. (e ≡ core.epoch) × (core.published < e))) is s.order.view_is_last in
    let published = frozen-published o core epoch s is in
    let low = opening-low o core s in
    let above : o.published < epoch = omega (arith, view.1) in
    let freeze : IsPublishedFreeze o core.history epoch = inr (above, subst (λ e. IsFrozenAt o.start e core.history) (sym view.0) (last-frozen o core s)) in record {
      epoch = told;
      tree = shows.1 ∙ (published.0 ∙ (sym (tree-stays o core next later epoch s n grown freeze) ∙ ap (published_tree_at o next.history) (sym shows.0)));
      draft = λ tree frozen. inl none;
    }

as-it-was : (before after : CloudState) → after ≡ before → ShowsAs before after
as-it-was before after is = (ap (λ k. k.epoch) is, ap (λ k. k.tree) is)

-- the cloud is as it was, and so are what is published and in doubt
cloud-left : (o : Opening) (core next : Core) (later : List Entry) (before after : CloudState) → HasSoundHistory o core → HasSoundHistory o next → next.history ≡ core.history ++ later
    → after ≡ before → next.published ≡ core.published → next.unsure ≡ core.unsure → ((tree : List TreeEntry) → next.frozen ≡ Some tree → HasTaken next.sent next.epoch tree before)
    → HasSoundCloud o core before → HasSoundCloud o next after
cloud-left o core next later before after s n grown is published unsure draft c =
    cloud-as o core next later before after s n grown (as-it-was before after is) (told c.epoch) (λ tree frozen. subst (HasTaken next.sent next.epoch tree) (sym is) (draft tree frozen)) c
  where
    told : (before.epoch ≡ core.published) ⊎ (core.unsure ≡ Some before.epoch) → (after.epoch ≡ next.published) ⊎ (next.unsure ≡ Some after.epoch)
    told (inl h) = inl (ap (λ k. k.epoch) is ∙ (h ∙ sym published))
    told (inr h) = inr (unsure ∙ (h ∙ ap (λ (k : CloudState). Some k.epoch) (sym is)))

-- nothing was sent
unsent : (core : Core) (before : CloudState) → core.sent ≡ 0 → (tree : List TreeEntry) → core.frozen ≡ Some tree → HasTaken core.sent core.epoch tree before
unsent core before none tree frozen = inl none

-- ---- a freeze

cloud-freeze : (o : Opening) (core : Core) (given : Given) (by : ℕ) (before after : CloudState) (busy spent : Bool) → HasSoundHistory o core
    → HasSoundHistory o (core_after given core (events.Freeze by) (if busy then answers.Busy core.epoch else (if spent then answers.Spent core.epoch core.sequence else answers.Frozen (core.epoch + 1))))
    → after ≡ before → HasSoundCloud o core before
    → HasSoundCloud o (core_after given core (events.Freeze by) (if busy then answers.Busy core.epoch else (if spent then answers.Spent core.epoch core.sequence else answers.Frozen (core.epoch + 1)))) after
cloud-freeze o core given by before after true spent s n is c = cloud-left o core _ _ before after s n refl is refl refl c.draft c
cloud-freeze o core given by before after false true s n is c = cloud-left o core _ _ before after s n refl is refl refl c.draft c
cloud-freeze o core given by before after false false s n is c = cloud-left o core _ _ before after s n refl is refl refl (λ tree frozen. inl refl) c

-- ---- a commit step

cloud-commit : (o : Opening) (core : Core) (given : Given) (before after : CloudState) (step : CommitStep) → HasSoundHistory o core
    → HasSoundHistory o (core_after given core events.CommitStep (answers.CommitStepped step)) → after ≡ before → HasSoundCloud o core before
    → HasSoundCloud o (core_after given core events.CommitStep (answers.CommitStepped step)) after
cloud-commit o core given before after commits.Wrote s n is c = cloud-left o core _ _ before after s n refl is refl refl c.draft c
cloud-commit o core given before after commits.Synced s n is c = cloud-left o core _ _ before after s n refl is refl refl c.draft c
cloud-commit o core given before after commits.Committed s n is c = cloud-left o core _ _ before after s n refl is refl refl c.draft c
cloud-commit o core given before after commits.Rested s n is c =
    cloud-left o core _ _ before after s n refl is refl refl (λ tree frozen. c.draft tree (kept-was core.standing Rested core.frozen tree frozen)) c
cloud-commit o core given before after commits.Idle s n is c = cloud-left o core _ _ before after s n refl is refl refl c.draft c

-- ---- a drop

cloud-drop : (o : Opening) (core : Core) (given : Given) (before after : CloudState) (standing : Option ℕ) → HasSoundHistory o core
    → HasSoundHistory o (core_after given core events.DropView (drop_answer standing)) → after ≡ before → HasSoundCloud o core before
    → HasSoundCloud o (core_after given core events.DropView (drop_answer standing)) after
cloud-drop o core given before after None s n is c = cloud-left o core _ _ before after s n refl is refl refl c.draft c
cloud-drop o core given before after (Some epoch) s n is c = cloud-left o core _ _ before after s n refl is refl refl (λ tree frozen. inl refl) c

-- ---- an upload step

-- a message that was sent, and isn't the last
cloud-sent : (o : Opening) (core : Core) (given : Given) (before after : CloudState) → HasSoundHistory o core
    → HasSoundHistory o (core_after given core events.UploadStep (answers.UploadStepped uploads.Sent)) → ShowsAs before after → HasTaken (core.sent + 1) core.epoch (tree_in core.frozen) after
    → HasSoundCloud o core before → HasSoundCloud o (core_after given core events.UploadStep (answers.UploadStepped uploads.Sent)) after
cloud-sent o core given before after s n shows taken c =
    cloud-as o core _ _ before after s n refl shows (told c.epoch) (λ tree frozen. subst (λ t. HasTaken (core.sent + 1) core.epoch t after) (ap tree_in frozen) taken) c
  where
    told : (before.epoch ≡ core.published) ⊎ (core.unsure ≡ Some before.epoch) → (after.epoch ≡ core.published) ⊎ (core.unsure ≡ Some after.epoch)
    told (inl h) = inl (shows.0 ∙ h)
    told (inr h) = inr (h ∙ ap (λ e. Some e) (sym shows.0))

-- a publication where nothing is in doubt
fresh-shows : (o : Opening) (core : Core) (epoch : ℕ) (before after : CloudState) → core.unsure ≡ None → LeavesPublished core.unsure core.frozen epoch before after → ShowsView epoch core.frozen after
fresh-shows o core epoch before after sure may = subst (λ u. LeavesPublished u core.frozen epoch before after) sure may

-- and where an epoch is
asked-shows : (core : Core) (epoch : ℕ) (before after : CloudState) (doubt : ℕ) → core.unsure ≡ Some doubt → LeavesPublished core.unsure core.frozen epoch before after → (after ≡ before) × (before.epoch ≡ epoch)
asked-shows core epoch before after doubt sure may = subst (λ u. LeavesPublished u core.frozen epoch before after) sure may

cloud-message : (o : Opening) (core : Core) (given : Given) (before after : CloudState) (last : Bool) (standing : Option ℕ) (stage : Stage) → core.unsure ≡ None → core.standing ≡ standing → HasSoundHistory o core
    → HasSoundHistory o (core_after given core events.UploadStep (answers.UploadStepped (message_answer last (due_view standing stage))))
    → MayBecome given core events.UploadStep (answers.UploadStepped (message_answer last (due_view standing stage))) before after → HasSoundCloud o core before
    → HasSoundCloud o (core_after given core events.UploadStep (answers.UploadStepped (message_answer last (due_view standing stage)))) after
cloud-message o core given before after last standing Written sure is s n may c = cloud-left o core _ _ before after s n refl may refl refl c.draft c
cloud-message o core given before after last None Committed sure is s n may c = cloud-left o core _ _ before after s n refl may refl refl c.draft c
cloud-message o core given before after last None Rested sure is s n may c = cloud-left o core _ _ before after s n refl may refl refl c.draft c
cloud-message o core given before after false (Some epoch) Committed sure is s n may c = cloud-sent o core given before after s n may.0 may.1 c
cloud-message o core given before after false (Some epoch) Rested sure is s n may c = cloud-sent o core given before after s n may.0 may.1 c
cloud-message o core given before after true (Some epoch) Committed sure is s n may c = (let shows = fresh-shows o core epoch before after sure may in cloud-shows o core _ _ epoch after s n refl is shows (inl shows.0) refl)
cloud-message o core given before after true (Some epoch) Rested sure is s n may c = (let shows = fresh-shows o core epoch before after sure may in cloud-shows o core _ _ epoch after s n refl is shows (inl shows.0) refl)

-- the cloud was asked
cloud-asked : (o : Opening) (core : Core) (given : Given) (before after : CloudState) (doubt : ℕ) (step : UploadStep) → core.unsure ≡ Some doubt → (step ≡ uploads.Published doubt) ⊎ (step ≡ uploads.Asked) → HasSoundHistory o core
    → HasSoundHistory o (core_after given core events.UploadStep (answers.UploadStepped step))
    → MayBecome given core events.UploadStep (answers.UploadStepped step) before after → HasSoundCloud o core before
    → HasSoundCloud o (core_after given core events.UploadStep (answers.UploadStepped step)) after
cloud-asked o core given before after doubt step sure may s n becomes c = at step may n becomes
  where
    at : (step : UploadStep) → (step ≡ uploads.Published doubt) ⊎ (step ≡ uploads.Asked) → HasSoundHistory o (core_after given core events.UploadStep (answers.UploadStepped step))
        → MayBecome given core events.UploadStep (answers.UploadStepped step) before after → HasSoundCloud o (core_after given core events.UploadStep (answers.UploadStepped step)) after
    at (uploads.Published epoch) may n becomes =
        let asked = asked-shows core epoch before after doubt sure becomes in
        cloud-as o core _ _ before after s n refl (as-it-was before after asked.0) (inl (ap (λ k. k.epoch) asked.0 ∙ asked.1)) (λ tree frozen. inl refl) c
    at uploads.Asked may n becomes =
        cloud-as o core _ _ before after s n refl (as-it-was before after becomes.0) (told c.epoch) (λ tree frozen. subst (HasTaken core.sent core.epoch tree) (sym becomes.0) (c.draft tree frozen)) c where
          none_of : ℕ → Option ℕ
          none_of e = None

          told : (before.epoch ≡ core.published) ⊎ (core.unsure ≡ Some before.epoch) → (after.epoch ≡ core.published) ⊎ (none_of 0 ≡ Some after.epoch)
          told (inl h) = inl (ap (λ k. k.epoch) becomes.0 ∙ h)
          told (inr h) = absurd (becomes.1 h)
    at uploads.Sent (inl h) n becomes = cc
    at uploads.Sent (inr h) n becomes = cc
    at uploads.Kept (inl h) n becomes = cc
    at uploads.Kept (inr h) n becomes = cc
    at uploads.Nothing (inl h) n becomes = cc
    at uploads.Nothing (inr h) n becomes = cc

-- a link that failed
cloud-link : (o : Opening) (core : Core) (given : Given) (before after : CloudState) (doubt : Option ℕ) → IfSome doubt (λ epoch. (core.unsure ≡ None) × (core.standing ≡ Some epoch) × (core.stage ≢ Written)) → HasSoundHistory o core
    → HasSoundHistory o (with_history (after_upload_step doubt core (answers.Fault Link)) (core.history ++ pushed_by_upload doubt (answers.Fault Link)))
    → LeavesDoubt doubt core.frozen before after → HasSoundCloud o core before
    → HasSoundCloud o (with_history (after_upload_step doubt core (answers.Fault Link)) (core.history ++ pushed_by_upload doubt (answers.Fault Link))) after
cloud-link o core given before after None tells s n shows c = cloud-as o core _ _ before after s n refl shows (told c.epoch) (λ tree frozen. inl refl) c
  where
    told : (before.epoch ≡ core.published) ⊎ (core.unsure ≡ Some before.epoch) → (after.epoch ≡ core.published) ⊎ (epoch_or core.unsure None ≡ Some after.epoch)
    told (inl h) = inl (shows.0 ∙ h)
    told (inr h) = inr (or-none core.unsure ∙ (h ∙ ap (λ e. Some e) (sym shows.0)))
cloud-link o core given before after (Some epoch) tells s n (inl shows) c = cloud-as o core _ _ before after s n refl shows (told c.epoch) (λ tree frozen. inl refl) c
  where
    some_of : ℕ → Option ℕ
    some_of e = Some e

    told : (before.epoch ≡ core.published) ⊎ (core.unsure ≡ Some before.epoch) → (after.epoch ≡ core.published) ⊎ (epoch_or core.unsure (Some epoch) ≡ Some after.epoch)
    told (inl h) = inl (shows.0 ∙ h)
    told (inr h) = absurd (let e : some_of before.epoch ≡ None = sym h ∙ tells.0 in cc)
cloud-link o core given before after (Some epoch) tells s n (inr shows) c =
    cloud-shows o core _ _ epoch after s n refl tells.1 shows (inr (ap (λ u. epoch_or u (Some epoch)) tells.0 ∙ ap (λ e. Some e) (sym shows.0))) refl

-- ---- each event

cloud-step : (o : Opening) (core : Core) (given : Given) (unsure : Option ℕ) (step : UploadStep) (before after : CloudState) → core.unsure ≡ unsure → MayStep given core unsure step → HasSoundHistory o core
    → HasSoundHistory o (core_after given core events.UploadStep (answers.UploadStepped step)) → MayBecome given core events.UploadStep (answers.UploadStepped step) before after → HasSoundCloud o core before
    → HasSoundCloud o (core_after given core events.UploadStep (answers.UploadStepped step)) after
cloud-step o core given (Some doubt) step before after is may s n becomes c = cloud-asked o core given before after doubt step is may s n becomes c
cloud-step o core given None step before after is may s n becomes c =
    let answer = message_answer (is_last_due given core) (due_view core.standing core.stage) in
    subst (λ x. HasSoundCloud o (core_after given core events.UploadStep (answers.UploadStepped x)) after) (sym may)
    (cloud-message o core given before after (is_last_due given core) core.standing core.stage is refl s
    (subst (λ x. HasSoundHistory o (core_after given core events.UploadStep (answers.UploadStepped x))) may n)
    (subst (λ x. MayBecome given core events.UploadStep (answers.UploadStepped x) before after) may becomes) c)

cloud-due : (o : Opening) (core : Core) (given : Given) (event : FolderEvent) (answer : FolderAnswer) (before after : CloudState) → IsDue given core event answer → HasSoundHistory o core → HasSoundHistory o (core_after given core event answer)
    → MayBecome given core event answer before after → HasSoundCloud o core before → HasSoundCloud o (core_after given core event answer) after
cloud-due o core given (events.Call writer op) answer before after due s n becomes c = at answer due n
  where
    at : (a : FolderAnswer) → a ≡ answers.Called (reply_of core.limits core.active op) → HasSoundHistory o (core_after given core (events.Call writer op) a) → HasSoundCloud o (core_after given core (events.Call writer op) a) after
    at a is n = subst (λ x. HasSoundCloud o (core_after given core (events.Call writer op) x) after) (sym is)
        (cloud-left o core _ _ before after s (subst (λ x. HasSoundHistory o (core_after given core (events.Call writer op) x)) is n) refl becomes refl refl c.draft c)
cloud-due o core given (events.Freeze by) answer before after due s n becomes c =
    subst (λ x. HasSoundCloud o (core_after given core (events.Freeze by) x) after) (sym due)
    (cloud-freeze o core given by before after (is_busy core) (is_spent core) s (subst (λ x. HasSoundHistory o (core_after given core (events.Freeze by) x)) due n) becomes c)
cloud-due o core given events.CommitStep answer before after due s n becomes c =
    subst (λ x. HasSoundCloud o (core_after given core events.CommitStep x) after) (sym due)
    (cloud-commit o core given before after (commit_answer core.left) s (subst (λ x. HasSoundHistory o (core_after given core events.CommitStep x)) due n) becomes c)
cloud-due o core given events.UploadStep answer before after due s n becomes c =
    subst (λ x. HasSoundCloud o (core_after given core events.UploadStep x) after) (sym due.1)
    (cloud-step o core given core.unsure due.0 before after refl due.2 s (subst (λ x. HasSoundHistory o (core_after given core events.UploadStep x)) due.1 n)
    (subst (λ x. MayBecome given core events.UploadStep x before after) due.1 becomes) c)
cloud-due o core given events.DropView answer before after due s n becomes c =
    subst (λ x. HasSoundCloud o (core_after given core events.DropView x) after) (sym due)
    (cloud-drop o core given before after core.standing s (subst (λ x. HasSoundHistory o (core_after given core events.DropView x)) due n) becomes c)
cloud-due o core given (events.End writer) answer before after due s n becomes c =
    subst (λ x. HasSoundCloud o (core_after given core (events.End writer) x) after) (sym due)
    (cloud-left o core _ _ before after s (subst (λ x. HasSoundHistory o (core_after given core (events.End writer) x)) due n) refl becomes refl refl c.draft c)

cloud-fault : (o : Opening) (core : Core) (given : Given) (event : FolderEvent) (kind : FaultKind) (before after : CloudState) → HasSoundHistory o core → HasSoundHistory o (core_after given core event (answers.Fault kind))
    → MayBecome given core event (answers.Fault kind) before after → HasSoundCloud o core before → HasSoundCloud o (core_after given core event (answers.Fault kind)) after
cloud-fault o core given (events.Call writer op) kind before after s n becomes c = cloud-left o core _ _ before after s n refl becomes refl refl c.draft c
cloud-fault o core given (events.Freeze by) kind before after s n becomes c = cloud-left o core _ _ before after s n refl becomes refl refl c.draft c
cloud-fault o core given events.CommitStep kind before after s n becomes c = cloud-left o core _ _ before after s n refl becomes refl refl c.draft c
cloud-fault o core given events.UploadStep Damaged before after s n becomes c = cloud-left o core _ _ before after s n refl becomes refl refl c.draft c
cloud-fault o core given events.UploadStep Disk before after s n becomes c = cloud-left o core _ _ before after s n refl becomes refl refl c.draft c
cloud-fault o core given events.UploadStep Memory before after s n becomes c = cloud-left o core _ _ before after s n refl becomes refl refl c.draft c
cloud-fault o core given events.UploadStep Link before after s n becomes c =
    cloud-link o core given before after (doubt_of given core core.unsure) (doubt-tells given core core.unsure refl) s n becomes c
cloud-fault o core given events.DropView kind before after s n becomes c = cloud-left o core _ _ before after s n refl becomes refl refl c.draft c
cloud-fault o core given (events.End writer) kind before after s n becomes c = cloud-left o core _ _ before after s n refl becomes refl refl c.draft c

pub cloud-event : (o : Opening) (core : Core) (given : Given) (event : FolderEvent) (answer : FolderAnswer) (before after : CloudState) → IsGiven given → MayAnswer given core event answer → MayBecome given core event answer before after
    → HasSoundHistory o core → HasSoundCloud o core before → HasSoundCloud o (core_after given core event answer) after
cloud-event o core given event answer before after is (inl due) becomes s c =
    cloud-due o core given event answer before after due s (sound-event o core given event answer is (inl due) s) becomes c
cloud-event o core given event answer before after is (inr fault) becomes s c =
    subst (λ a. HasSoundCloud o (core_after given core event a) after) (sym fault.1)
    (cloud-fault o core given event fault.0 before after s (subst (λ a. HasSoundHistory o (core_after given core event a)) fault.1 (sound-event o core given event answer is (inr fault) s))
    (subst (λ a. MayBecome given core event a before after) fault.1 becomes) c)
