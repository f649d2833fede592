-- What a step of a folder gives, in each phase.
use Rattle.std.proofs.Common.{◌≡◌, ℕ, zero, suc, ◌-◌, ◌≤◌, Bool, true, false, cond, List, [], ◌∷◌, ◌++◌, length, replicate, All, Option, Some, None, IsSome, is_none, refl, sym, ap, subst, ◌∙◌, ◌⊎◌, inl, inr, arith}
use Rattle.std.specs.Prelude.{Result, Ok, Err, IsErrOf, IfOk, OnOk, OnErr}
use Rattle.std.proofs.lemmas.Bool.{false≢true}
use Rattle.vb_cause.specs.Causes.{HasCause, UsesFailures}
use Rattle.vb_disk.specs.declared.disk_error.DiskError.{DiskError}
use Rattle.vb_disk.specs.declared.disk_error.DiskError.TheVariants.{Failed, Memory}
use Rattle.vb_disk.specs.Moments.{EachMoment}
use Rattle.vb_disk.specs.States.{DiskState, IsDiskState}
use Rattle.vb_disk.specs.Within.{CrashesWithin}
use Rattle.vb_disk.proofs.Ways.{EachMoment-none, EachMoment-weaker}
use Rattle.vb_head.specs.declared.head.Head.{Head}
use Rattle.vb_tree.specs.declared.tree.Limits.{Limits}
use Rattle.vb_tree.specs.declared.tree.TreeEntry.{TreeEntry}
use Rattle.vb_index.specs.declared.held.Held.{Held}
use Rattle.vb_index.specs.Contents.{HasTree}
use Rattle.vb_index.specs.Indexes.{IndexState}
use Rattle.vb_journal.specs.declared.commit_stage.CommitStep.{CommitStep}
use Rattle.vb_journal.specs.declared.commit_stage.CommitStep.TheVariants.{Wrote, Synced, Committed, Idle, Rested as RestedNow}
use Rattle.vb_journal.specs.declared.commit_stage.Stage.{Stage}
use Rattle.vb_journal.specs.declared.commit_stage.Stage.TheVariants.{Journal, Closing, Rested}
use Rattle.vb_journal.specs.declared.commit_stage.Turn.TheVariants.{SecondSync}
use Rattle.vb_journal.specs.Plans.{closed_head, is_rested}
use Rattle.vb_active.specs.Views.{ActiveState}
use Rattle.vb_commit.specs.Steps.{WaySteps}
use Rattle.vb_commit.specs.Ways.{answer_of, call_at, next_of, WayState}
use Rattle.vb_frozen.specs.Views.{HasFrozenTree}
use Rattle.vb_plan.specs.declared.plan_page.PlanPage.{PlanPage}
use Rattle.vb_steps.specs.Calls.{is_due}
use Rattle.vb_steps.specs.Disks.{DiskView}
use Rattle.vb_steps.specs.Steps.{CallsOnce}
use Rattle.vb_steps.proofs.StepsMade.{none-within}
use Rattle.vb_store.specs.Clear.{first_candidates}
use Rattle.vb_store.specs.OneOf.{RecoversOneOf, TreeView}
use Rattle.vb_store.specs.Views.{CanView, ViewState, limits_of}
use Rattle.vb_during.specs.During.{ViewCommit, head_after, views_at}
use Rattle.vb_during.proofs.NextHeld.{rested-view}
use Rattle.vb_views.specs.AtRest.{IsAtRestFor, IsViewOf}
use Rattle.vb_views.specs.Reads.{pages_by, tree_view}
use Rattle.vb_local.specs.Answers.{GivesFirst, answers_from, answers_left, answers_of_plan, answers_of_way, writes_then}
use Rattle.vb_local.specs.AtRest.{CanRest, CanSettle, HasKept, RestsOver}
use Rattle.vb_local.specs.Events.{KeepsViews, SettlesViews, StepsOn}
use Rattle.vb_local.specs.Phases.{AreTied, IsAtRestOver, IsPlanned, IsTiedAtRest, IsTiedDuring, StandsIn, next_index, plan_over}
use Rattle.vb_local.specs.Shown.{LocalTrees, RecoversViewsOf, RestsFor, ShowsAtRest, ShowsDuring, ShowsNext, ShowsOn, StandsOn, commit_of, trees_after, views_during, views_of}
use Rattle.vb_local.specs.States.{epoch_in, frozen_in, is_on, LocalState, PhaseState, Rests, Waits, Writes}
use Rattle.vb_local.specs.Ties.{given_of, FrozenRelies, FrozenState, IsFrozenUnder, IsKeptIn, IsLiveOver, LiveFollows, LiveRelies}
use Rattle.vb_local.proofs.FewEntries.{new-refs-few}
use Rattle.vb_local.proofs.FoldersShown.{shown-recovers}
use Rattle.vb_local.proofs.Given.{pages-left}
use Rattle.vb_local.proofs.PlansShown.{plan-shows}
use Rattle.vb_local.proofs.WayAnswers.{HasEnded, way-answers, way-due, way-ended, way-goes, way-rests}
use Rattle.vb_local.proofs.WaysShown.{ended-kept, step-leads-on, views-are, LeadsOn}

-- ---- folders of parts

abbrev pub resting : ActiveState → ViewState → Option FrozenState → Option ℕ → LocalState
resting live v frozen standing = record { live = live; view = v; phase = Rests frozen; standing = standing }

abbrev pub waiting : ActiveState → ViewState → FrozenState → ℕ → Option ℕ → LocalState
waiting live v frozen epoch standing = record { live = live; view = v; phase = Waits frozen epoch; standing = standing }

abbrev pub writing : ActiveState → ViewState → FrozenState → WayState → Option ℕ → LocalState
writing live v frozen way standing = record { live = live; view = v; phase = Writes frozen way; standing = standing }

-- ---- a step without a call

no-cause : {T : Type 0} (n : ℕ) (result : Result T DiskError) → (IsErrOf result Failed → ⊥) → HasCause Failed n n result
no-cause n result never = record { kept = omega arith; failed = λ e. absurd (never e) }

no-failures : {T : Type 0} (left : Option ℕ) (result : Result T DiskError) → (IsErrOf result Failed → ⊥) → UsesFailures Failed left left result
no-failures left result never = record { told = λ some. some; kept = λ some. omega arith; used = λ some e. absurd (never e) }

stays-shown : (s : LocalState) (t : LocalTrees) (d : DiskState) (told : Option DiskState) → told ≡ Some d → ShowsOn d s t → ShowsNext s s t t d told
stays-shown s t d told is shows = record {
  next = d;
  is_told = is;
  shows = shows;
  moments = EachMoment-none (λ m. RecoversViewsOf s t m ⊎ RecoversViewsOf s t m) d (inl (shown-recovers d s t false shows));
}

keeps-all : (s : LocalState) → KeepsViews s s
keeps-all s = record { live = refl; head = refl; index = refl; frozen = refl; epoch = refl }

-- at rest nothing is done
pub rest-steps : (live : ActiveState) (v : ViewState) (frozen : Option FrozenState) (standing : Option ℕ) (disk : DiskView) → ((d : DiskState) → disk.told ≡ Some d → IsDiskState d) → StepsOn (record { live = live; view = v; phase = Rests frozen; standing = standing }) (record { live = live; view = v; phase = Rests frozen; standing = standing }) disk disk (Ok Idle)
rest-steps live v frozen standing disk valid = record {
  answer = (refl, refl);
  standing = refl;
  keeps = λ other. keeps-all (resting live v frozen standing);
  settles = λ is. absurd (cc is);
  called = record { none = λ due. refl; once = λ due. absurd (false≢true due); at_most = λ error. absurd (cc error) };
  seen = refl;
  cause = no-cause disk.faults (Ok Idle) (λ e. cc e);
  left = no-failures disk.left (Ok Idle) (λ e. cc e);
  memory = λ error. refl;
  untold = λ none. none;
  within = none-within disk.told valid;
  shown = λ d t told shows. stays-shown (resting live v frozen standing) t d disk.told told shows;
}

-- some answer is left
abbrev IsSomeLeft : List CommitStep → Type 0
IsSomeLeft [] = ⊥
IsSomeLeft (answer ∷ answers) = Unit {0}

writes-left : (n : ℕ) (then : List CommitStep) → IsSomeLeft (writes_then n then)
writes-left zero then = tt
writes-left (suc n) then = tt

plan-left : (pages images : ℕ) → IsSomeLeft (replicate pages Wrote ++ answers_from images (Journal 0))
plan-left zero images = writes-left (images - 0) _
plan-left (suc pages) images = tt

-- for want of memory no plan was made
first-stays : (answers : List CommitStep) (error : DiskError) → IsSomeLeft answers → GivesFirst answers answers (Err error)
first-stays [] error some = absurd some
first-stays (answer ∷ answers) error some = refl

pub short-steps : (live : ActiveState) (v new : ViewState) (frozen : FrozenState) (epoch : ℕ) (standing : Option ℕ) (disk : DiskView) → new ≡ v → ((d : DiskState) → disk.told ≡ Some d → IsDiskState d) → StepsOn (record { live = live; view = v; phase = Waits frozen epoch; standing = standing }) (record { live = live; view = new; phase = Waits frozen epoch; standing = standing }) disk disk (Err Memory)
short-steps live v new frozen epoch standing disk same valid = subst (λ (w : ViewState). StepsOn (waiting live v frozen epoch standing) (waiting live w frozen epoch standing) disk disk (Err Memory)) (sym same) (record {
  answer = first-stays (answers_left (waiting live v frozen epoch standing)) Memory (plan-left (length (plan_over v frozen).pages) (length (plan_over v frozen).images));
  standing = refl;
  keeps = λ other. keeps-all (waiting live v frozen epoch standing);
  settles = λ is. absurd (cc is);
  called = record { none = λ due. refl; once = λ due other. absurd (other refl); at_most = λ error. inl refl };
  seen = refl;
  cause = no-cause disk.faults (Err Memory) (λ e. absurd (cc e));
  left = no-failures disk.left (Err Memory) (λ e. absurd (cc e));
  memory = λ error. refl;
  untold = λ none. none;
  within = none-within disk.told valid;
  shown = λ d t told shows. stays-shown (waiting live v frozen epoch standing) t d disk.told told shows;
})

-- ---- a step of a commit that is on its way

went-on : {result : Result CommitStep DiskError} (way new : WayState) (before after : DiskView) → (given : Option (List ℕ)) → WaySteps way given new before after result → OnOk result (new ≡ next_of way)
went-on {result = Ok step} way new before after given steps = steps.steps.went.goes
went-on {result = Err error} way new before after given steps = tt

-- it gives the first of the answers that are left
gives-first : (way new : WayState) (given : Option (List ℕ)) (before after : DiskView) (result : Result CommitStep DiskError) → is_rested way.stage ≡ false → WaySteps way given new before after result → GivesFirst (answers_of_way way) (answers_of_way new) result
gives-first way new given before after (Ok step) going steps =
    subst (λ (xs : List CommitStep). GivesFirst xs (answers_of_way new) (Ok step)) (sym (way-answers way going)) (steps.answer, ap answers_of_way steps.steps.went.goes)
gives-first way new given before after (Err error) going steps =
    subst (λ (xs : List CommitStep). GivesFirst xs (answers_of_way new) (Err error)) (sym (way-answers way going)) (ap answers_of_way steps.steps.stays ∙ way-answers way going)

-- one call was made
called-once : (way new : WayState) (given : Option (List ℕ)) (before after : DiskView) (result : Result CommitStep DiskError) → is_rested way.stage ≡ false → WaySteps way given new before after result → CallsOnce Memory true before.calls after.calls result
called-once way new given before after result going steps = subst (λ (b : Bool). CallsOnce Memory b before.calls after.calls result) (way-due way given going) steps.called

trees-stay : (result : Result CommitStep DiskError) (t : LocalTrees) → (result ≡ Ok RestedNow → ⊥) → trees_after result t ≡ t
trees-stay (Ok Wrote) t other = refl
trees-stay (Ok Synced) t other = refl
trees-stay (Ok Committed) t other = refl
trees-stay (Ok RestedNow) t other = absurd (other refl)
trees-stay (Ok Idle) t other = refl
trees-stay (Err error) t other = refl

pub going-steps : (live : ActiveState) (v : ViewState) (frozen : FrozenState) (way new : WayState) (standing : Option ℕ) (before after : DiskView) (result : Result CommitStep DiskError) → AreTied (record { live = live; view = v; phase = Writes frozen way; standing = standing }) → WaySteps way (given_of way.pages frozen) new before after result → (result ≡ Ok RestedNow → ⊥) → StepsOn (record { live = live; view = v; phase = Writes frozen way; standing = standing }) (record { live = live; view = v; phase = Writes frozen new; standing = standing }) before after result
going-steps live v frozen way new standing before after result tied steps other = record {
  answer = gives-first way new (given_of way.pages frozen) before after result tied.phase.going steps;
  standing = refl;
  keeps = λ o. record { live = refl; head = refl; index = refl; frozen = refl; epoch = ap Some steps.epoch };
  settles = λ is. absurd (other is);
  called = called-once way new (given_of way.pages frozen) before after result tied.phase.going steps;
  seen = steps.seen;
  cause = steps.cause;
  left = steps.left;
  memory = steps.steps.memory;
  untold = steps.steps.untold;
  within = steps.within;
  shown = λ d t told shows.
      subst (λ (u : LocalTrees). ShowsNext (writing live v frozen way standing) (writing live v frozen new standing) t u d after.told) (sym (trees-stay result t other))
      (on d t (step-leads-on v live frozen way new t before after result d steps tied.phase.frozen_is.kept tied.phase.follows told shows.phase shows.live));
} where
  on : (d : DiskState) (t : LocalTrees) → LeadsOn v live frozen way new t d after.told → ShowsNext (writing live v frozen way standing) (writing live v frozen new standing) t t d after.told
  on d t leads = record {
    next = leads.next;
    is_told = leads.is_told;
    shows = record { live = leads.live_has; phase = leads.shows };
    moments = leads.moments;
  }

-- the commit on its way afterwards
going-new : (way new : WayState) (given : Option (List ℕ)) (before after : DiskView) (result : Result CommitStep DiskError) → is_rested way.stage ≡ false → WaySteps way given new before after result → (result ≡ Ok RestedNow → ⊥) → is_rested new.stage ≡ false
going-new way new given before after (Ok step) going steps other =
    ap (λ (w : WayState). is_rested w.stage) steps.steps.went.goes ∙ way-goes way going (λ is. other (ap Ok (steps.answer ∙ is)))
going-new way new given before after (Err error) going steps other = ap (λ (w : WayState). is_rested w.stage) steps.steps.stays ∙ going

kept-new : (frozen : FrozenState) (way new : WayState) (given : Option (List ℕ)) (before after : DiskView) (result : Result CommitStep DiskError) → WaySteps way given new before after result → All (IsKeptIn frozen.pages) way.pages → All (IsKeptIn frozen.pages) new.pages
kept-new frozen way new given before after (Ok step) steps kept =
    subst (All (IsKeptIn frozen.pages)) (sym (ap (λ (w : WayState). w.pages) steps.steps.went.goes)) (pages-left frozen way.pages kept)
kept-new frozen way new given before after (Err error) steps kept = subst (All (IsKeptIn frozen.pages)) (sym (ap (λ (w : WayState). w.pages) steps.steps.stays)) kept

pub going-tied : (live : ActiveState) (v : ViewState) (frozen : FrozenState) (way new : WayState) (standing : Option ℕ) (before after : DiskView) (result : Result CommitStep DiskError) → AreTied (record { live = live; view = v; phase = Writes frozen way; standing = standing }) → WaySteps way (given_of way.pages frozen) new before after result → (result ≡ Ok RestedNow → ⊥) → AreTied (record { live = live; view = v; phase = Writes frozen new; standing = standing })
going-tied live v frozen way new standing before after result tied steps other = record {
  view = tied.view;
  live = tied.live;
  limits = tied.limits;
  phase = record {
    next = tied.phase.next;
    begun = tied.phase.begun;
    frozen_is = record {
      entries = tied.phase.frozen_is.entries;
      relies = tied.phase.frozen_is.relies;
      digests = tied.phase.frozen_is.digests;
      kept = kept-new frozen way new (given_of way.pages frozen) before after result steps tied.phase.frozen_is.kept;
      few = tied.phase.frozen_is.few;
    };
    follows = tied.phase.follows;
    is = steps.new_is;
    head = steps.head ∙ tied.phase.head;
    going = going-new way new (given_of way.pages frozen) before after result tied.phase.going steps other;
  };
  stands = tt;
}

-- ---- the last step

-- the live and the frozen view rely on the next nodes
pub can-rest : (live : ActiveState) (v : ViewState) (frozen : FrozenState) (way : WayState) (standing : Option ℕ) → AreTied (record { live = live; view = v; phase = Writes frozen way; standing = standing }) → CanRest live v frozen
can-rest live v frozen way standing tied = record {
  next = tied.phase.next;
  begun = tied.phase.begun;
  settle = record {
    relies = λ slot page r out. tied.phase.frozen_is.relies slot page r (tied.phase.follows slot page r out);
    frozen_relies = tied.phase.frozen_is.relies;
    digests = tied.phase.frozen_is.digests;
    entries = tied.phase.frozen_is.entries;
  };
}

-- the answer is the last one
last-answer : (way new : WayState) (given : Option (List ℕ)) (before after : DiskView) (result : Result CommitStep DiskError) → result ≡ Ok RestedNow → WaySteps way given new before after result → (answer_of way ≡ RestedNow) × (new ≡ next_of way)
last-answer way new given before after (Ok step) is steps = let rests : step ≡ RestedNow = cc is in (sym steps.answer ∙ rests, steps.steps.went.goes)
last-answer way new given before after (Err error) is steps = absurd (cc is)

-- nothing is left then
pub ended-now : (way new : WayState) (given : Option (List ℕ)) (before after : DiskView) (result : Result CommitStep DiskError) → result ≡ Ok RestedNow → WaySteps way given new before after result → HasEnded new
ended-now way new given before after result is steps =
    let last = last-answer way new given before after result is steps in
    subst HasEnded (sym last.1) (way-ended way last.0)

ended-answers : (way : WayState) → HasEnded way → answers_of_way way ≡ []
ended-answers way ends =
    ap (λ (ps : List PlanPage). replicate (length ps) Wrote ++ answers_from (length way.images) way.stage) ends.none
    ∙ ap (λ (st : Stage). answers_from (length way.images) st) ends.rested

-- the next nodes are those of the committed view then
same-next : (a b : IndexState) (o : Option IndexState) → o ≡ Some a → o ≡ Some b → a ≡ b
same-next a b o is was = let e : Some a ≡ Some b = sym is ∙ was in cc e

rested-live : (live : ActiveState) (v : ViewState) (frozen : FrozenState) (way : WayState) (head : Head) (epoch : ℕ) (standing : Option ℕ) (after : ActiveState) (next : ViewState) (phase : PhaseState) → AreTied (writing live v frozen way standing) → head ≡ closed_head v.head epoch → RestsOver live v frozen head standing after next phase → IsLiveOver next.index after
rested-live live v frozen way head epoch standing after next phase tied heads rests = record {
  limits = rests.settles.live.limits ∙ tied.live.limits ∙ tied.view.can.limits ∙ sym (rests.view.can.limits ∙ ap limits_of (rests.head_is ∙ heads));
  relies = rests.settles.live.relies (subst (λ (i : IndexState). LiveRelies i.nodes live) (same-next tied.phase.next next.index v.next tied.phase.begun rests.index)
      (λ slot page r out. tied.phase.frozen_is.relies slot page r (tied.phase.follows slot page r out)));
}

rested-frozen : (live : ActiveState) (v : ViewState) (frozen : FrozenState) (way : WayState) (head : Head) (standing : Option ℕ) (after : ActiveState) (next : ViewState) (phase : PhaseState) → AreTied (writing live v frozen way standing) → (rests : RestsOver live v frozen head standing after next phase) → (o : Option ℕ) → IsAtRestOver next.index (cond (is_none o) None (Some rests.settled))
rested-frozen live v frozen way head standing after next phase tied rests None = tt
rested-frozen live v frozen way head standing after next phase tied rests (Some epoch) = record {
  none = rests.settles.pages.none;
  relies = rests.settles.kept.relies (subst (λ (i : IndexState). FrozenRelies i.nodes frozen) (same-next tied.phase.next next.index v.next tied.phase.begun rests.index) tied.phase.frozen_is.relies);
  few = new-refs-few frozen rests.settled rests.settles.kept.order tied.phase.frozen_is.few;
}

rested-stands : (settled : FrozenState) (standing : Option ℕ) → StandsIn (Rests (cond (is_none standing) None (Some settled))) standing
rested-stands settled None = refl
rested-stands settled (Some epoch) = refl

pub rested-tied : (live : ActiveState) (v : ViewState) (frozen : FrozenState) (way : WayState) (head : Head) (epoch : ℕ) (standing : Option ℕ) (after : ActiveState) (next : ViewState) (phase : PhaseState) → AreTied (record { live = live; view = v; phase = Writes frozen way; standing = standing }) → head ≡ closed_head v.head epoch → RestsOver live v frozen head standing after next phase → AreTied (record { live = after; view = next; phase = phase; standing = standing })
rested-tied live v frozen way head epoch standing after next phase tied heads rests = subst (λ (p : PhaseState). AreTied (record { live = after; view = next; phase = p; standing = standing })) (sym rests.rests) (record {
  view = rests.view;
  live = rested-live live v frozen way head epoch standing after next phase tied heads rests;
  limits = rests.settles.live.within tied.limits;
  phase = record {
    none_begun = rests.none_begun;
    frozen_is = rested-frozen live v frozen way head standing after next phase tied rests standing;
  };
  stands = rested-stands rests.settled standing;
})

-- the head that the commit wrote last
pub last-head : (v : ViewState) (way new : WayState) (head : Head) (given : Option (List ℕ)) (before after : DiskView) (result : Result CommitStep DiskError) → WaySteps way given new before after result → way.head ≡ v.head → head ≡ closed_head new.head new.epoch → head ≡ closed_head v.head way.epoch
last-head v way new head given before after result steps same is =
    is ∙ ap (λ (h : Head). closed_head h new.epoch) (steps.head ∙ same) ∙ ap (closed_head v.head) steps.epoch

-- the disk is at rest for the view that was the next one
rested-for : (v : ViewState) (frozen : FrozenState) (new : WayState) (t : LocalTrees) (d : DiskState) (next : ViewState) → HasEnded new → (shows : ShowsDuring v frozen new t d) → next.head ≡ closed_head v.head new.epoch → next.index ≡ shows.next → IsViewOf next.head next.index → RestsFor next t.frozen d
rested-for v frozen new t d next ends shows heads same is = record { view = is; rests = at-head both.0; has = at-index both.1 } where
  c : ViewCommit
  c = commit_of v shows.next shows.free frozen shows.source new.epoch t

  both : IsAtRestFor (head_after c) c.new d × HasTree c.new.nodes (pages_by (first_candidates d) c.new.nodes) c.after
  both = rested-view c new d ends.none ends.rested shows.is

  at-head : IsAtRestFor (closed_head v.head new.epoch) shows.next d → IsAtRestFor next.head next.index d
  at-head rests = subst (λ (h : Head). IsAtRestFor h next.index d) (sym heads) (subst (λ (i : IndexState). IsAtRestFor (closed_head v.head new.epoch) i d) (sym same) rests)

  at-index : HasTree shows.next.nodes (pages_by (first_candidates d) shows.next.nodes) t.frozen → HasTree next.index.nodes (pages_by (first_candidates d) next.index.nodes) t.frozen
  at-index has = subst (λ (i : IndexState). HasTree i.nodes (pages_by (first_candidates d) i.nodes) t.frozen) (sym same) has

settled-stands : (settled : FrozenState) (standing : Option ℕ) (tree : List TreeEntry) (d : DiskState) → HasFrozenTree settled.order settled.pages d tree → StandsOn (cond (is_none standing) None (Some settled)) tree d
settled-stands settled None tree d has = tt
settled-stands settled (Some epoch) tree d has = has

-- the views that may be recovered are that one
rested-views : (v : ViewState) (next : IndexState) (frozen : FrozenState) (new : WayState) (t : LocalTrees) (after : ViewState) → HasEnded new → v.next ≡ Some next → after.head ≡ closed_head v.head new.epoch → after.index ≡ next → views_during v v.next frozen new t ≡ tree_view after.head after.index t.frozen ∷ []
rested-views v next frozen new t after ends begun heads same =
    views-are v next [] frozen (λ slot page. []) new t begun
    ∙ ap (views_at (commit_of v next [] frozen (λ slot page. []) new.epoch t)) ends.rested
    ∙ ap (λ (h : Head). tree_view h next t.frozen ∷ []) (sym heads)
    ∙ ap (λ (i : IndexState). tree_view after.head i t.frozen ∷ []) (sym same)

rested-shown : (live : ActiveState) (v : ViewState) (frozen : FrozenState) (way new : WayState) (head : Head) (standing : Option ℕ) (after : ActiveState) (next : ViewState) (t : LocalTrees) (d : DiskState) (told : Option DiskState) (phase : PhaseState) → HasEnded new → head ≡ closed_head v.head new.epoch → (rests : RestsOver live v frozen head standing after next phase) → LeadsOn v live frozen way new t d told
    → ShowsNext (writing live v frozen way standing) (resting after next (cond (is_none standing) None (Some rests.settled)) standing) t (record t { committed = t.frozen }) d told
rested-shown live v frozen way new head standing after next t d told phase ends heads rests leads = record {
  next = leads.next;
  is_told = leads.is_told;
  shows = record {
    live = rests.settles.live.tree leads.next t.active kept leads.live_has;
    phase = record {
      rests = rested-for v frozen new t leads.next next ends leads.shows next_head same (record { can = rests.view.can; slots = rests.view.slots; table = rests.table; rooted = rests.rooted });
      stands = settled-stands rests.settled standing t.frozen leads.next (rests.settles.kept.tree leads.next t.frozen kept leads.shows.tree);
      same = refl;
    };
  };
  moments = EachMoment-weaker (λ m. RecoversOneOf (views_during v v.next frozen way t) false m ⊎ RecoversOneOf (views_during v v.next frozen new t) false m) (λ m. RecoversOneOf (views_during v v.next frozen way t) false m ⊎ RecoversOneOf (tree_view next.head next.index t.frozen ∷ []) false m) d leads.next weaker leads.moments;
} where
  next_head : next.head ≡ closed_head v.head new.epoch
  next_head = rests.head_is ∙ heads

  same : next.index ≡ leads.shows.next
  same = same-next next.index leads.shows.next v.next rests.index leads.shows.begun

  kept : HasKept leads.next next.index.nodes frozen
  kept = subst (λ (i : IndexState). HasKept leads.next i.nodes frozen) (sym same) (ended-kept v frozen new t leads.next ends.none ends.rested leads.shows)

  weaker : (m : DiskState) → RecoversOneOf (views_during v v.next frozen way t) false m ⊎ RecoversOneOf (views_during v v.next frozen new t) false m → RecoversOneOf (views_during v v.next frozen way t) false m ⊎ RecoversOneOf (tree_view next.head next.index t.frozen ∷ []) false m
  weaker m (inl first) = inl first
  weaker m (inr last) = inr (subst (λ (views : List TreeView). RecoversOneOf views false m) (rested-views v leads.shows.next frozen new t next ends leads.shows.begun next_head same) last)

-- the step after which the commit rests
pub rested-steps : (live : ActiveState) (v : ViewState) (frozen : FrozenState) (way new : WayState) (head : Head) (standing : Option ℕ) (after : ActiveState) (next : ViewState) (phase : PhaseState) (before then : DiskView) (result : Result CommitStep DiskError) → AreTied (record { live = live; view = v; phase = Writes frozen way; standing = standing }) → WaySteps way (given_of way.pages frozen) new before then result → result ≡ Ok RestedNow → head ≡ closed_head new.head new.epoch → RestsOver live v frozen head standing after next phase → StepsOn (record { live = live; view = v; phase = Writes frozen way; standing = standing }) (record { live = after; view = next; phase = phase; standing = standing }) before then result
rested-steps live v frozen way new head standing after next phase before then result tied steps is heads rests = subst (λ (p : PhaseState). StepsOn (writing live v frozen way standing) (record { live = after; view = next; phase = p; standing = standing }) before then result) (sym rests.rests) (record {
  answer = subst (λ (left : List CommitStep). GivesFirst (answers_of_way way) left result) (ended-answers new ends) (gives-first way new given before then result tied.phase.going steps);
  standing = refl;
  keeps = λ other. absurd (other is);
  settles = λ e. record {
    frozen = frozen;
    settled = rests.settled;
    was = refl;
    rests = refl;
    index = rests.index;
    head = λ epoch at. rests.head_is ∙ last ∙ (let same : way.epoch ≡ epoch = cc at in ap (closed_head v.head) same);
    pages = rests.settles.pages;
    order = rests.settles.kept.order;
  };
  called = called-once way new given before then result tied.phase.going steps;
  seen = steps.seen;
  cause = steps.cause;
  left = steps.left;
  memory = steps.steps.memory;
  untold = steps.steps.untold;
  within = steps.within;
  shown = λ d t told shows.
      subst (λ (r : Result CommitStep DiskError). ShowsNext (writing live v frozen way standing) (resting after next (cond (is_none standing) None (Some rests.settled)) standing) t (trees_after r t) d then.told) (sym is)
      (rested-shown live v frozen way new head standing after next t d then.told phase ends (last ∙ ap (closed_head v.head) (sym steps.epoch)) rests
      (step-leads-on v live frozen way new t before then result d steps tied.phase.frozen_is.kept tied.phase.follows told shows.phase shows.live));
}) where
  given : Option (List ℕ)
  given = given_of way.pages frozen

  ends : HasEnded new
  ends = ended-now way new given before then result is steps

  last : head ≡ closed_head v.head way.epoch
  last = last-head v way new head given before then result steps tied.phase.head heads

-- ---- the first step after a freeze

-- the answers of the plan are those of the commit that begins
planned-answers : (v new : ViewState) (frozen : FrozenState) (epoch : ℕ) (way : WayState) → IsPlanned v frozen epoch new way → answers_of_way way ≡ answers_of_plan (plan_over v frozen)
planned-answers v new frozen epoch way planned = ap answers_of_way planned.way_is

-- the views that may be recovered are those from before it
planned-views : (v new : ViewState) (frozen : FrozenState) (epoch : ℕ) (way : WayState) (t : LocalTrees) → IsPlanned v frozen epoch new way → views_during new new.next frozen way t ≡ tree_view v.head v.index t.committed ∷ []
planned-views v new frozen epoch way t planned =
    ap (λ (w : ViewState). views_during w w.next frozen way t) planned.begun
    ∙ ap (views_at (commit_of v (next_index v frozen) [] frozen (λ slot page. []) way.epoch t)) (ap (λ (w : WayState). w.stage) planned.way_is)

-- no commit rests by its first step
first-rests : (way : WayState) (left : List CommitStep) (result : Result CommitStep DiskError) → way.stage ≡ Journal 0 → GivesFirst (answers_of_way way) left result → result ≡ Ok RestedNow → ⊥
first-rests way left result early gives is =
    let going : is_rested way.stage ≡ false = ap is_rested early in
    let now : GivesFirst (answer_of way ∷ answers_of_way (next_of way)) left (Ok RestedNow) = subst (λ (xs : List CommitStep). GivesFirst xs left (Ok RestedNow)) (way-answers way going) (subst (GivesFirst (answers_of_way way) left) is gives) in
    let ends = way-rests way (sym now.0) in
    let no : Journal 0 ≡ Closing SecondSync = sym early ∙ ends.last in
    cc no

-- a commit whose plan was made in the step goes on as one that was planned before
pub planned-steps : (live : ActiveState) (v new : ViewState) (frozen : FrozenState) (epoch : ℕ) (standing : Option ℕ) (way : WayState) (s : LocalState) (before after : DiskView) (result : Result CommitStep DiskError) → AreTied (record { live = live; view = v; phase = Waits frozen epoch; standing = standing }) → IsPlanned v frozen epoch new way → StepsOn (record { live = live; view = new; phase = Writes frozen way; standing = standing }) s before after result → StepsOn (record { live = live; view = v; phase = Waits frozen epoch; standing = standing }) s before after result
planned-steps live v new frozen epoch standing way s before after result tied planned steps = record {
  answer = subst (λ (xs : List CommitStep). GivesFirst xs (answers_left s) result) (planned-answers v new frozen epoch way planned) steps.answer;
  standing = steps.standing;
  keeps = λ other. keeping (steps.keeps other);
  settles = λ is. absurd (first-rests way (answers_left s) result early steps.answer is);
  called = steps.called;
  seen = steps.seen;
  cause = steps.cause;
  left = steps.left;
  memory = steps.memory;
  untold = steps.untold;
  within = steps.within;
  shown = λ d t told shows. showing d t (steps.shown d t told (record { live = shows.live; phase = plan-shows live v new frozen epoch standing way t d tied planned shows.phase }));
} where
  early : way.stage ≡ Journal 0
  early = ap (λ (w : WayState). w.stage) planned.way_is

  keeping : KeepsViews (writing live new frozen way standing) s → KeepsViews (waiting live v frozen epoch standing) s
  keeping keeps = record {
    live = keeps.live;
    head = keeps.head ∙ ap (λ (w : ViewState). w.head) planned.begun;
    index = keeps.index ∙ ap (λ (w : ViewState). w.index) planned.begun;
    frozen = keeps.frozen;
    epoch = keeps.epoch ∙ ap (λ (w : WayState). Some w.epoch) planned.way_is;
  }

  showing : (d : DiskState) (t : LocalTrees) → ShowsNext (writing live new frozen way standing) s t (trees_after result t) d after.told → ShowsNext (waiting live v frozen epoch standing) s t (trees_after result t) d after.told
  showing d t next = record {
    next = next.next;
    is_told = next.is_told;
    shows = next.shows;
    moments = EachMoment-weaker (λ m. RecoversViewsOf (writing live new frozen way standing) t m ⊎ RecoversViewsOf s (trees_after result t) m) (λ m. RecoversViewsOf (waiting live v frozen epoch standing) t m ⊎ RecoversViewsOf s (trees_after result t) m) d next.next weaker next.moments;
  } where
    weaker : (m : DiskState) → RecoversViewsOf (writing live new frozen way standing) t m ⊎ RecoversViewsOf s (trees_after result t) m → RecoversViewsOf (waiting live v frozen epoch standing) t m ⊎ RecoversViewsOf s (trees_after result t) m
    weaker m (inl first) = inl (subst (λ (views : List TreeView). RecoversOneOf views false m) (planned-views v new frozen epoch way t planned) first)
    weaker m (inr last) = inr last
