-- Each history of the commit of a view leaves it on its way, and recovers one of both views.
use Rattle.std.proofs.Common.{◌≡◌, false, List, [], ◌∷◌, Option, Some, refl, sym, subst, ◌∙◌, inl, inr, arith}
use Rattle.std.proofs.lemmas.List.Elements.{All-contains, All-cons, All-nil}
use Rattle.std.specs.List.{Contains}
use Rattle.vb_commit.specs.Ways.{WayState}
use Rattle.vb_disk.specs.Crashes.{MayCrashTo}
use Rattle.vb_disk.specs.States.{DiskState, IsDiskState}
use Rattle.vb_journal.specs.declared.commit_stage.Stage.{Stage}
use Rattle.vb_journal.specs.declared.commit_stage.Stage.TheVariants.{Journal, Opening, Homes, Closing, Rested}
use Rattle.vb_journal.proofs.ChoicesOf.{IsChoiceOf-crash}
use Rattle.vb_store.specs.OneOf.{AreAmong, RecoversOneOf, ShowsOrRefuses, TreeView}
use Rattle.vb_store.proofs.OneOfThem.{RecoversOneOf-more}
use Rattle.vb_during.specs.During.{IsCommittingView, RecoversWhole, StaysWhole, ViewCommit, committed_view, next_view, views_at}
use Rattle.vb_during.specs.Histories.{EachCrashShows, Event, Harmed, IsHistory, IsStepOf, IsUnharmedBy, StepMade, Stepped, both_views}
use Rattle.vb_during.proofs.NextHeld.{commit-recovers-views}
use Rattle.vb_during.proofs.ViewsKept.{damage-leaves, step-leads}
use Rattle.vb_during.proofs.WholeCommits.{whole-recovers}
use Rattle.vb_during.proofs.WholeSteps.{step-whole}

same_disk : (a b : DiskState) → (let x : Option DiskState = Some a in x ≡ Some b) → a ≡ b
same_disk a b same = cc same

-- ---- on its way

step_known : (v : ViewCommit) (s : WayState) (d m : DiskState) (step : StepMade) → IsStepOf v.source s d step → step.after.told ≡ Some m → IsCommittingView v s d → IsCommittingView v step.next m
step_known v s d m step is told k =
    let leads = step-leads v step.given s step.next step.before step.after step.result d is.steps is.given is.told k in
    subst (IsCommittingView v step.next) (sym (same_disk m leads.next (sym told ∙ leads.told))) leads.known

pub history-known : (v : ViewCommit) (s last : WayState) (d end : DiskState) (events : List Event) → IsCommittingView v s d → IsHistory v.source s d events last end → IsCommittingView v last end
history-known v s last d end [] k is = subst (IsCommittingView v last) (sym is.1) (subst (λ (t : WayState). IsCommittingView v t d) (sym is.0) k)
history-known v s last d end (Stepped step ∷ events) k is =
    history-known v step.next last is.1.0 end events (step_known v s d is.1.0 step is.0 is.1.1 k) is.1.2
history-known v s last d end (Harmed place page ∷ events) k is = history-known v s last _ end events (damage-leaves v s d place page k) is

-- ---- what is recovered

one_among : (views : List TreeView) (x y : TreeView) → Contains views x → Contains (x ∷ []) y → Contains views y
one_among views x y listed among = All-contains (Contains views) (x ∷ []) y (All-cons (Contains views) x [] listed (All-nil (Contains views))) among

stage_among : (v : ViewCommit) (stage : Stage) → AreAmong (views_at v stage) (both_views v)
stage_among v (Journal next) view among = one_among (both_views v) (committed_view v) view (0, omega arith, refl) among
stage_among v (Opening turn) view among = among
stage_among v (Homes next) view among = one_among (both_views v) (next_view v) view (1, omega arith, refl) among
stage_among v (Closing turn) view among = one_among (both_views v) (next_view v) view (1, omega arith, refl) among
stage_among v Rested view among = one_among (both_views v) (next_view v) view (1, omega arith, refl) among

both-recovered : (v : ViewCommit) (s : WayState) (d : DiskState) → IsCommittingView v s d → RecoversOneOf (both_views v) false d
both-recovered v s d k = RecoversOneOf-more (views_at v s.stage) (both_views v) false d (stage_among v s.stage) (commit-recovers-views v s false d k)

pub history-recovers : (v : ViewCommit) (s last : WayState) (d end : DiskState) (events : List Event) → IsCommittingView v s d → IsHistory v.source s d events last end → RecoversOneOf (both_views v) false end
history-recovers v s last d end events k is = both-recovered v last end (history-known v s last d end events k is)

crash_shows : (v : ViewCommit) (s : WayState) (m new : DiskState) → IsCommittingView v s m → IsDiskState m → MayCrashTo m new → ShowsOrRefuses (both_views v) false new
crash_shows v s m new k disk crash = both-recovered v s m k new (IsChoiceOf-crash m new disk crash)

pub history-crashes : (v : ViewCommit) (s last : WayState) (d end next : DiskState) (events : List Event) (step : StepMade) → IsCommittingView v s d → IsHistory v.source s d events last end → IsStepOf v.source last end step → step.after.told ≡ Some next → EachCrashShows v end next
history-crashes v s last d end next events step k is one told =
    let known = history-known v s last d end events k is in
    let leads = step-leads v step.given last step.next step.before step.after step.result end one.steps one.given one.told known in
    subst (EachCrashShows v end) (sym (same_disk next leads.next (sym told ∙ leads.told))) (record {
      reached = leads.moments.reached;
      each = λ m begun moment new disk crash. elim (leads.moments.each m begun moment) [
        | inl before ↦ crash_shows v last m new before disk crash
        | inr after ↦ crash_shows v step.next m new after disk crash
      ];
    })

-- ---- with no damage

pub history-whole : (v : ViewCommit) (s last : WayState) (d end : DiskState) (events : List Event) → IsUnharmedBy events → IsCommittingView v s d → StaysWhole v s d → IsHistory v.source s d events last end → StaysWhole v last end
history-whole v s last d end [] none k w is = subst (StaysWhole v last) (sym is.1) (subst (λ (t : WayState). StaysWhole v t d) (sym is.0) w)
history-whole v s last d end (Stepped step ∷ events) none k w is =
    let m = is.1.0 in
    history-whole v step.next last m end events none (step_known v s d m step is.0 is.1.1 k)
    (step-whole v step.given s step.next step.before step.after step.result d m is.0.steps is.0.told is.1.1 k w) is.1.2
history-whole v s last d end (Harmed place page ∷ events) none k w is = absurd none

pub history-exact : (v : ViewCommit) (s last : WayState) (d end : DiskState) (events : List Event) → IsUnharmedBy events → IsCommittingView v s d → StaysWhole v s d → IsHistory v.source s d events last end → IsDiskState end → RecoversWhole v last.stage end
history-exact v s last d end events none k w is disk =
    whole-recovers v last end disk (history-known v s last d end events k is) (history-whole v s last d end events none k w is).view
