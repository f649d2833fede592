-- A commit on its way over a told disk: what a step leaves of it, and what may be recovered.
use Rattle.std.proofs.Common.{◌≡◌, ℕ, zero, suc, ◌+◌, Bool, true, false, List, [], ◌∷◌, ◌++◌, length, unwrap_or, All, Option, Some, None, refl, sym, ap, subst, ◌∙◌, ◌⊎◌, inl, inr, arith}
use Rattle.std.specs.Prelude.{Contains, Result}
use Rattle.std.specs.Option.{option_map}
use Rattle.std.proofs.lemmas.List.Elements.{All-contains, All-head, All-tail}
use Rattle.sha2.specs.Sha256.{sha256}
use Rattle.vb_block.specs.declared.digest.Ref.{Ref}
use Rattle.vb_disk.specs.declared.disk_error.DiskError.{DiskError}
use Rattle.vb_disk.specs.Cells.{candidates}
use Rattle.vb_disk.specs.Moments.{EachMoment}
use Rattle.vb_disk.specs.States.{DiskState}
use Rattle.vb_disk.proofs.Ways.{EachMoment-weaker}
use Rattle.vb_index.specs.Indexes.{IndexState}
use Rattle.vb_journal.specs.declared.commit_stage.CommitStep.{CommitStep}
use Rattle.vb_journal.specs.declared.commit_stage.Stage.{Stage}
use Rattle.vb_journal.specs.declared.commit_stage.Stage.TheVariants.{Journal, Opening, Homes, Closing, Rested}
use Rattle.vb_pages.specs.Tables.{kept_page}
use Rattle.vb_active.specs.Performs.{HasTreeOn}
use Rattle.vb_active.specs.Views.{ActiveState, ref_at}
use Rattle.vb_commit.specs.Known.{IsEvery}
use Rattle.vb_commit.specs.Steps.{WaySteps}
use Rattle.vb_commit.specs.Ways.{IsGivenFrom, WayState}
use Rattle.vb_commit.proofs.WayLaws.{rested-known}
use Rattle.vb_plan.specs.declared.plan_page.PlanPage.{PlanPage}
use Rattle.vb_plan.specs.declared.plan_page.PlanPage.TheVariants.{Data, Map}
use Rattle.vb_plan.specs.Plans.{data_page}
use Rattle.vb_steps.specs.Disks.{DiskView}
use Rattle.vb_store.specs.OneOf.{RecoversOneOf, TreeView}
use Rattle.vb_store.specs.Views.{ViewState}
use Rattle.vb_during.specs.During.{IsCommittingView, LeadsTo, ViewCommit, plan_for, views_at}
use Rattle.vb_during.proofs.NextHeld.{commit-recovers-views}
use Rattle.vb_during.proofs.ViewsKept.{step-leads}
use Rattle.vb_local.specs.AtRest.{HasKept}
use Rattle.vb_local.specs.Shown.{LocalTrees, ShowsDuring, WritesKept, commit_of, views_during}
use Rattle.vb_local.specs.Ties.{given_of, FrozenState, IsKeptIn, LiveFollows}
use Rattle.vb_local.proofs.TreesOn.{entries-same, frozen-stays, live-stays, out-same}

-- ---- the page that is due

some_of : (o : Option (List ℕ)) (digest : List ℕ) → option_map sha256 o ≡ Some digest → (bytes : List ℕ) × (o ≡ Some bytes)
some_of None digest e = absurd (cc e)
some_of (Some bytes) digest e = (bytes, refl)

-- the page that is given is the source's
given-from : (source : ℕ → ℕ → List ℕ) (frozen : FrozenState) → ((slot page : ℕ) (bytes : List ℕ) → kept_page frozen.pages slot page ≡ Some bytes → source slot page ≡ bytes) → (left : List PlanPage) → All (IsKeptIn frozen.pages) left → IsGivenFrom source left (given_of left frozen)
given-from source frozen fresh [] kept = tt
given-from source frozen fresh (Data slot page r ∷ left) kept =
    let one = some_of (kept_page frozen.pages slot page) r.digest (All-head (IsKeptIn frozen.pages) (Data slot page r) left kept) in
    one.1 ∙ ap Some (sym (fresh slot page one.0 one.1))
given-from source frozen fresh (Map place image ∷ left) kept = tt

-- ---- what may be recovered

views-same : (v : ViewState) (next : IndexState) (free : List ℕ) (frozen : FrozenState) (source : ℕ → ℕ → List ℕ) (epoch : ℕ) (t : LocalTrees) (stage : Stage) → views_at (commit_of v next [] frozen (λ slot page. []) epoch t) stage ≡ views_at (commit_of v next free frozen source epoch t) stage
views-same v next free frozen source epoch t (Journal n) = refl
views-same v next free frozen source epoch t (Opening turn) = refl
views-same v next free frozen source epoch t (Homes n) = refl
views-same v next free frozen source epoch t (Closing turn) = refl
views-same v next free frozen source epoch t Rested = refl

pub views-are : (v : ViewState) (next : IndexState) (free : List ℕ) (frozen : FrozenState) (source : ℕ → ℕ → List ℕ) (way : WayState) (t : LocalTrees) → v.next ≡ Some next → views_during v v.next frozen way t ≡ views_at (commit_of v next free frozen source way.epoch t) way.stage
views-are v next free frozen source way t begun = ap (λ (o : Option IndexState). views_during v o frozen way t) begun ∙ views-same v next free frozen source way.epoch t way.stage

pub during-recovers : (v : ViewState) (frozen : FrozenState) (way : WayState) (t : LocalTrees) (d : DiskState) (made : Bool) → ShowsDuring v frozen way t d → RecoversOneOf (views_during v v.next frozen way t) made d
during-recovers v frozen way t d made shows =
    subst (λ (views : List TreeView). RecoversOneOf views made d) (sym (views-are v shows.next shows.free frozen shows.source way t shows.begun))
    (commit-recovers-views (commit_of v shows.next shows.free frozen shows.source way.epoch t) way made d shows.is)

-- ---- a step

-- what a step leaves: the commit is on its way after it, and at each moment before it or after it
pub record LeadsOn (v : ViewState) (live : ActiveState) (frozen : FrozenState) (old new : WayState) (t : LocalTrees) (d : DiskState) (told : Option DiskState) : Type 0 where
  pub next : DiskState
  pub is_told : told ≡ Some next
  pub shows : ShowsDuring v frozen new t next
  pub live_has : HasTreeOn next live t.active
  pub moments : EachMoment (λ m. RecoversOneOf (views_during v v.next frozen old t) false m ⊎ RecoversOneOf (views_during v v.next frozen new t) false m) d next

pub step-leads-on : (v : ViewState) (live : ActiveState) (frozen : FrozenState) (old new : WayState) (t : LocalTrees) (before after : DiskView) (result : Result CommitStep DiskError) (d : DiskState) → WaySteps old (given_of old.pages frozen) new before after result → All (IsKeptIn frozen.pages) old.pages → LiveFollows frozen live → before.told ≡ Some d → ShowsDuring v frozen old t d → HasTreeOn d live t.active → LeadsOn v live frozen old new t d after.told
step-leads-on v live frozen old new t before after result d step kept follows told shows has = by (step-leads (at old.epoch) (given_of old.pages frozen) old new before after result d step (given-from shows.source frozen shows.kept.fresh old.pages kept) told shows.is) where
  at : ℕ → ViewCommit
  at epoch = commit_of v shows.next shows.free frozen shows.source epoch t

  by : LeadsTo (at old.epoch) old new d after.told → LeadsOn v live frozen old new t d after.told
  by leads = record {
    next = leads.next;
    is_told = leads.told;
    shows = record {
      tree = frozen-stays frozen.order frozen.pages d leads.next t.frozen (entries-same (at old.epoch) frozen.order frozen.pages d leads.next refl shows.is.kept leads.known.kept) shows.tree;
      next = shows.next;
      begun = shows.begun;
      free = shows.free;
      source = shows.source;
      is = subst (λ (n : ℕ). IsCommittingView (at n) new leads.next) (sym step.epoch) leads.known;
      kept = record { fresh = shows.kept.fresh; planned = shows.kept.planned };
    };
    live_has = live-stays frozen live d leads.next t.active follows (out-same (at old.epoch) frozen d leads.next refl shows.is.kept leads.known.kept) has;
    moments = EachMoment-weaker (λ m. IsCommittingView (at old.epoch) old m ⊎ IsCommittingView (at old.epoch) new m) (λ m. RecoversOneOf (views_during v v.next frozen old t) false m ⊎ RecoversOneOf (views_during v v.next frozen new t) false m) d leads.next weaker leads.moments;
  } where
    weaker : (m : DiskState) → IsCommittingView (at old.epoch) old m ⊎ IsCommittingView (at old.epoch) new m → RecoversOneOf (views_during v v.next frozen old t) false m ⊎ RecoversOneOf (views_during v v.next frozen new t) false m
    weaker m (inl known) = inl (
        subst (λ (views : List TreeView). RecoversOneOf views false m) (sym (views-are v shows.next shows.free frozen shows.source old t shows.begun))
        (commit-recovers-views (at old.epoch) old false m known))
    weaker m (inr known) = inr (
        subst (λ (views : List TreeView). RecoversOneOf views false m)
        (ap (λ (n : ℕ). views_at (at n) new.stage) (sym step.epoch) ∙ sym (views-are v shows.next shows.free frozen shows.source new t shows.begun))
        (commit-recovers-views (at old.epoch) new false m known))

-- ---- the end

-- the disk has each page that the frozen view keeps in memory at its reference in the next nodes
pub ended-kept : (v : ViewState) (frozen : FrozenState) (way : WayState) (t : LocalTrees) (d : DiskState) → way.pages ≡ [] → way.stage ≡ Rested → (shows : ShowsDuring v frozen way t d) → HasKept d shows.next.nodes frozen
ended-kept v frozen way t d none rested shows slot page bytes reference kept at =
    let c = commit_of v shows.next shows.free frozen shows.source way.epoch t in
    let every : All (IsEvery shows.source d) (plan_for c).pages = (rested-known shows.source shows.is.homes shows.is.journal (plan_for c).pages way d none rested shows.is.known).1 in
    let all : All (λ x. x ≡ shows.source slot page) (candidates (d.cells reference.place)) = All-contains (IsEvery shows.source d) (plan_for c).pages (data_page slot page reference) every (shows.kept.planned slot page bytes reference kept at) in
    all 0 [] (omega arith) ∙ shows.kept.fresh slot page bytes kept
