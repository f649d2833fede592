-- The next view is held once each of its pages is, and what is recovered then.
use Rattle.std.proofs.Common.{◌≡◌, ℕ, Bool, List, [], ◌∷◌, ◌++◌, refl, sym, subst, ◌∙◌, arith}
use Rattle.std.proofs.lemmas.List.{append-nil}
use Rattle.std.specs.List.{All, Contains}
use Rattle.vb_commit.specs.Known.{AreWritten, IsEvery, JournalStands, StoreStands}
use Rattle.vb_commit.specs.Ways.{Waits, WayState, bytes_in}
use Rattle.vb_commit.proofs.PageCells.{all-both}
use Rattle.vb_commit.proofs.WayLaws.{rested-known}
use Rattle.vb_commit.proofs.WaysKept.{way}
use Rattle.vb_disk.specs.States.{DiskState}
use Rattle.vb_head.specs.declared.head.Head.{Head}
use Rattle.vb_index.specs.Contents.{HasTree}
use Rattle.vb_journal.specs.declared.commit_stage.Stage.{Stage}
use Rattle.vb_journal.specs.declared.commit_stage.Stage.TheVariants.{Journal, Opening, Homes, Closing, Rested}
use Rattle.vb_journal.specs.Plans.{CanGoOn, closed_head}
use Rattle.vb_journal.specs.Progress.{IsAtRest, new_images, new_journal}
use Rattle.vb_plan.specs.declared.plan_page.PlanPage.{PlanPage}
use Rattle.vb_store.specs.Clear.{first_candidates}
use Rattle.vb_store.specs.OneOf.{HasAView, RecoversOneOf, TreeView}
use Rattle.vb_store.proofs.KnownViews.{RecoversOneOf-stage}
use Rattle.vb_views.specs.AtRest.{IsAtRestFor}
use Rattle.vb_views.specs.Commits.{HoldsPlanned, HoldsView, IsPageOf}
use Rattle.vb_views.specs.Reads.{pages_by}
use Rattle.vb_views.proofs.NextBlocks.{next-blocks}
use Rattle.vb_views.proofs.NextPages.{next-pages}
use Rattle.vb_views.proofs.RestingViews.{recovers-one}
use Rattle.vb_views.proofs.TreesPlaced.{tree-placed}
use Rattle.vb_views.proofs.ViewsInPlace.{view-in-place}
use Rattle.vb_during.specs.During.{IsCommittingView, IsWayOf, ViewCommit, basis_for, committed_view, head_after, next_view, plan_for, views_at}
use Rattle.vb_during.proofs.KeptPages.{every-held, page-given}

-- ---- the next view

-- what is said of a commit, of its own head, epoch and images
pub at-own : (Q : Head → ℕ → List (List ℕ) → Type 0) (v : ViewCommit) (s : WayState) → IsWayOf v s → Q s.head s.epoch s.images → Q v.head v.epoch (plan_for v).images
at-own Q v s of is =
    subst (λ (l : List (List ℕ)). Q v.head v.epoch l) of.images
    (subst (λ (n : ℕ). Q v.head n s.images) of.epoch
    (subst (λ (h : Head). Q h s.epoch s.images) of.head is))

pub next-holds : (v : ViewCommit) (s : WayState) (d : DiskState) (k : IsCommittingView v s d) → d.size ≡ v.head.blocks → All (IsEvery v.source d) (plan_for v).pages → HoldsView (head_after v) v.new (new_images (plan_for v).images k.homes) v.after d
next-holds v s d k size every =
    let planned : All (HoldsPlanned d) (plan_for v).pages = all-both (λ (p : PlanPage). IsPageOf p (bytes_in v.source p)) (IsEvery v.source d) (HoldsPlanned d) (every-held v.source d) (plan_for v).pages k.follows.given every in
    record {
      view = k.follows.view;
      id = k.holds.id;
      size = size;
      are = next-blocks (basis_for v) v.nodes v.new.nodes k.homes k.follows.can k.follows.seal k.follows.is k.follows.view.table k.holds.are;
      holds = next-pages (basis_for v) v.nodes (head_after v) v.new d k.holds.view.table k.holds.holds k.follows.can planned k.follows.is k.follows.view;
      has = tree-placed (head_after v) v.new v.source (first_candidates d) v.after k.follows.view
          (λ slot held n r there at. page-given v d slot held n r k.follows k.kept every there at) k.follows.has;
    }

-- ---- stores at rest

-- while pages are left it is at rest for the committed view
pub old-rests : (v : ViewCommit) (s : WayState) (d : DiskState) (k : IsCommittingView v s d) → IsAtRest v.head k.homes k.journal d → IsAtRestFor v.head v.old d
old-rests v s d k rests = record { homes = k.homes; journal = k.journal; rests = rests; blocks = k.holds.are; holds = k.holds.holds }

-- and at the end for the next one
pub next-rests : (v : ViewCommit) (s : WayState) (d : DiskState) (k : IsCommittingView v s d) → IsAtRest (head_after v) (new_images (plan_for v).images k.homes) (new_journal (plan_for v).images k.journal) d → All (IsEvery v.source d) (plan_for v).pages → IsAtRestFor (head_after v) v.new d
next-rests v s d k rests every =
    let holds = next-holds v s d k k.holds.size every in
    record { homes = new_images (plan_for v).images k.homes; journal = new_journal (plan_for v).images k.journal; rests = rests; blocks = holds.are; holds = holds.holds }

-- ---- after the last step

pub rested-view : (v : ViewCommit) (s : WayState) (d : DiskState) → s.pages ≡ [] → s.stage ≡ Rested → IsCommittingView v s d → IsAtRestFor (head_after v) v.new d × HasTree v.new.nodes (pages_by (first_candidates d) v.new.nodes) v.after
rested-view v s d none rested k =
    let both = rested-known v.source k.homes k.journal (plan_for v).pages s d none rested k.known in (
      next-rests v s d k (at-own (λ head epoch images. IsAtRest (closed_head head epoch) (new_images images k.homes) (new_journal images k.journal) d) v s k.of both.0) both.1,
      (next-holds v s d k k.holds.size both.1).has,
    )

-- ---- at each stage

has_view : (v : ViewCommit) (s : WayState) (d : DiskState) (views : List TreeView) (k : IsCommittingView v s d) → Contains views (committed_view v) → HasAView views d v.head k.homes
has_view v s d views k listed = record { view = committed_view v; listed = listed; is = view-in-place v.head v.old k.homes d v.tree k.holds }

has_next : (v : ViewCommit) (s : WayState) (d : DiskState) (views : List TreeView) (k : IsCommittingView v s d) → Contains views (next_view v) → All (IsEvery v.source d) (plan_for v).pages → HasAView views d (head_after v) (new_images (plan_for v).images k.homes)
has_next v s d views k listed every = record { view = next_view v; listed = listed; is = view-in-place (head_after v) v.new (new_images (plan_for v).images k.homes) d v.after (next-holds v s d k k.holds.size every) }

one : {X : Type 0} (x : X) → Contains (x ∷ []) x
one x = (0, omega arith, refl)

first_of_two : {X : Type 0} (x y : X) → Contains (x ∷ y ∷ []) x
first_of_two x y = (0, omega arith, refl)

second_of_two : {X : Type 0} (x y : X) → Contains (x ∷ y ∷ []) y
second_of_two x y = (1, omega arith, refl)

-- once all pages are placed, by the journal's stage
placed_all : (v : ViewCommit) (s : WayState) (made : Bool) (d : DiskState) (k : IsCommittingView v s d) (stage : Stage) → CanGoOn v.head v.epoch (plan_for v).images stage → JournalStands v.head v.epoch (plan_for v).images k.homes k.journal stage d → AreWritten v.source (plan_for v).pages stage d → RecoversOneOf (views_at v stage) made d
placed_all v s made d k (Journal next) can stands written =
    RecoversOneOf-stage (views_at v (Journal next)) made v.head v.epoch (plan_for v).images k.homes k.journal (Journal next) d can stands
    (has_view v s d (views_at v (Journal next)) k (one (committed_view v)))
placed_all v s made d k (Opening turn) can stands written =
    RecoversOneOf-stage (views_at v (Opening turn)) made v.head v.epoch (plan_for v).images k.homes k.journal (Opening turn) d can stands
    (has_view v s d (views_at v (Opening turn)) k (first_of_two (committed_view v) (next_view v)), has_next v s d (views_at v (Opening turn)) k (second_of_two (committed_view v) (next_view v)) written)
placed_all v s made d k (Homes next) can stands written =
    RecoversOneOf-stage (views_at v (Homes next)) made v.head v.epoch (plan_for v).images k.homes k.journal (Homes next) d can stands
    (has_next v s d (views_at v (Homes next)) k (one (next_view v)) written)
placed_all v s made d k (Closing turn) can stands written =
    RecoversOneOf-stage (views_at v (Closing turn)) made v.head v.epoch (plan_for v).images k.homes k.journal (Closing turn) d can stands
    (has_next v s d (views_at v (Closing turn)) k (one (next_view v)) written)
placed_all v s made d k Rested can stands written =
    recovers-one (views_at v Rested) made (head_after v) v.new d v.after k.follows.view (next-rests v s d k stands written)
    (next-holds v s d k k.holds.size written).has (one (next_view v))

-- while pages are left it is at rest
left_some : (v : ViewCommit) (s : WayState) (made : Bool) (d : DiskState) (k : IsCommittingView v s d) → IsAtRest v.head k.homes k.journal d → RecoversOneOf (committed_view v ∷ []) made d
left_some v s made d k rests =
    recovers-one (committed_view v ∷ []) made v.head v.old d v.tree k.holds.view (old-rests v s d k rests) k.holds.has (one (committed_view v))

by_pages : (v : ViewCommit) (s : WayState) (made : Bool) (d : DiskState) (k : IsCommittingView v s d) (pages : List PlanPage) (stage : Stage) → CanGoOn v.head v.epoch (plan_for v).images stage → Waits pages stage → k.known.placed ++ pages ≡ (plan_for v).pages → StoreStands k.homes k.journal pages (way v.head v.epoch (plan_for v).images pages stage) d → AreWritten v.source k.known.placed stage d → RecoversOneOf (views_at v stage) made d
by_pages v s made d k [] stage can waits all stands written =
    placed_all v s made d k stage can stands (subst (λ (ps : List PlanPage). AreWritten v.source ps stage d) (sym (append-nil k.known.placed) ∙ all) written)
by_pages v s made d k (p ∷ pages) stage can waits all stands written =
    subst (λ (x : Stage). RecoversOneOf (views_at v x) made d) (sym waits) (left_some v s made d k stands)

pub commit-recovers-views : (v : ViewCommit) (s : WayState) (made : Bool) (d : DiskState) → IsCommittingView v s d → RecoversOneOf (views_at v s.stage) made d
commit-recovers-views v s made d k =
    by_pages v s made d k s.pages s.stage
    (at-own (λ head epoch images. CanGoOn head epoch images s.stage) v s k.of k.of.way.can)
    k.of.way.waits k.known.of_plan
    (at-own (λ head epoch images. StoreStands k.homes k.journal s.pages (way head epoch images s.pages s.stage) d) v s k.of k.known.store)
    k.known.pages
