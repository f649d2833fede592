-- Each step of a commit on a disk on which no place is hurt, and each map page of the views that may be recovered is the
-- only candidate of its place, leaves it so.
use Rattle.std.proofs.Common.{◌≡◌, ◌⊎◌, ℕ, ◌+◌, ◌*◌, ◌≤◌, Bool, true, false, cond, ltb, List, [], ◌∷◌, length, Option, Some, Result, Ok, Err, refl, sym, ap, subst, ◌∙◌, inl, inr}
use Rattle.std.proofs.lemmas.List.Elements.{All-contains, All-contains_itself, All-weaker}
use Rattle.std.specs.List.{All, Contains}
use Rattle.vb_commit.specs.Known.{IsNoFirst, OthersStand}
use Rattle.vb_commit.specs.Steps.{WaySteps}
use Rattle.vb_commit.specs.Ways.{Waits, WayState, call_at, first_call, first_data, next_of, stage_after}
use Rattle.vb_disk.specs.declared.cell.Cell.{Cell}
use Rattle.vb_disk.specs.declared.disk_error.DiskError.{DiskError}
use Rattle.vb_disk.specs.Cells.{synced_cell}
use Rattle.vb_disk.specs.States.{DiskState, Sync, Write, after_call}
use Rattle.vb_head.specs.declared.head.Head.{Head}
use Rattle.vb_index.specs.Indexes.{IndexState}
use Rattle.vb_journal.specs.declared.commit_stage.CommitStep.{CommitStep}
use Rattle.vb_journal.specs.declared.commit_stage.Stage.{Stage}
use Rattle.vb_journal.specs.declared.commit_stage.Stage.TheVariants.{Journal, Opening, Homes, Closing, Rested}
use Rattle.vb_journal.specs.declared.commit_stage.Turn.TheVariants.{First, FirstSync, Second, SecondSync}
use Rattle.vb_journal.specs.Images.{image_at}
use Rattle.vb_journal.specs.Plans as journals
use Rattle.vb_journal.specs.Plans.{due_call, next_stage}
use Rattle.vb_journal.proofs.Unharmed.{whole_after}
use Rattle.vb_plan.specs.declared.plan_page.PlanPage.{PlanPage}
use Rattle.vb_plan.specs.Laws.{place_of}
use Rattle.vb_steps.specs.Calls.{Ask, Call, Change, MayFailTo, ReadPlace, Rest, after}
use Rattle.vb_steps.specs.Disks.{DiskView}
use Rattle.vb_store.specs.Views.{places_in}
use Rattle.vb_views.specs.AtRest.{IsViewOf}
use Rattle.vb_views.proofs.RestingViews.{of-refs}
use Rattle.vb_during.specs.During.{IsCommittingView, IsWayOf, ViewCommit, head_after, plan_for}
use Rattle.vb_during.specs.TornPages.{HasLoneMaps, HasLoneMapsAt, IsAllWhole, IsUntorn}
use Rattle.vb_during.proofs.NextHeld.{at-own}
use Rattle.vb_during.proofs.ViewsKept.{no_first}
use Rattle.vb_during.proofs.WholeSteps.{HasBoth, apart_left, both_of, of_view, same_told, tried}

-- ---- places that stand or were synced

stood : (old new : Cell) → (new ≡ old) ⊎ (new ≡ synced_cell old) → old.later ≡ [] → new.later ≡ []
stood old new (inl same) alone = ap (λ (c : Cell). c.later) same ∙ alone
stood old new (inr same) alone = ap (λ (c : Cell). c.later) same

lone_stays : (head : Head) (index : IndexState) (pages : List PlanPage) (d next : DiskState) → IsViewOf head index → OthersStand (2 + 2 * head.nodes) pages d next → ((place : ℕ) → Contains (places_in index.nodes) place → IsNoFirst pages place) → HasLoneMaps index.nodes d → HasLoneMaps index.nodes next
lone_stays head index pages d next is stand other lone slot held there =
    let Stood : ℕ → Type 0 = λ place. (next.cells place ≡ d.cells place) ⊎ (next.cells place ≡ synced_cell (d.cells place)) in
    let all : All Stood (places_in index.nodes) =
    All-weaker (Contains (places_in index.nodes)) Stood
    (λ place named. stand place (All-contains (λ p. 2 + 2 * head.nodes ≤ p) (places_in index.nodes) place is.can.above named) (other place named))
    (places_in index.nodes) (All-contains_itself (places_in index.nodes)) in
    let named = (of-refs Stood head index slot held is there all).maps in
    (λ k r within. stood (d.cells _) (next.cells _) (named k r within) (lone slot held there k r within))

-- at a stage behind the pages
stage_stays : (v : ViewCommit) (stage : Stage) (d next : DiskState) → HasBoth v → OthersStand (2 + 2 * v.head.nodes) [] d next → HasLoneMapsAt stage v.old.nodes v.new.nodes d → HasLoneMapsAt stage v.old.nodes v.new.nodes next
stage_stays v (Journal at) d next both stand lone = lone_stays v.head v.old [] d next both.old stand (λ place named. tt) lone
stage_stays v (Opening turn) d next both stand lone = (lone_stays v.head v.old [] d next both.old stand (λ place named. tt) lone.0, lone_stays (head_after v) v.new [] d next both.new stand (λ place named. tt) lone.1)
stage_stays v (Homes at) d next both stand lone = lone_stays (head_after v) v.new [] d next both.new stand (λ place named. tt) lone
stage_stays v (Closing turn) d next both stand lone = lone_stays (head_after v) v.new [] d next both.new stand (λ place named. tt) lone
stage_stays v Rested d next both stand lone = lone_stays (head_after v) v.new [] d next both.new stand (λ place named. tt) lone

-- ---- the next stage

journal_on : (v : ViewCommit) (d : DiskState) (b : Bool) (next place : ℕ) (page : List ℕ) → HasLoneMaps v.old.nodes (after_call d (cond b (Write place page) Sync)) → HasLoneMapsAt (cond b (Journal (next + 1)) (Opening First)) v.old.nodes v.new.nodes (after_call d (cond b (Write place page) Sync))
journal_on v d true next place page old = old
journal_on v d false next place page old = (old, λ slot held there k r within. refl)

homes_on : (v : ViewCommit) (e : DiskState) (b : Bool) (next : ℕ) → HasLoneMaps v.new.nodes e → HasLoneMapsAt (cond b (Homes (next + 1)) (Closing First)) v.old.nodes v.new.nodes e
homes_on v e true next new = new
homes_on v e false next new = new

due_on : (v : ViewCommit) (images : List (List ℕ)) (stage : Stage) (d : DiskState) → HasLoneMapsAt stage v.old.nodes v.new.nodes (after d (journals.call_at v.head v.epoch images stage)) → HasLoneMapsAt (next_stage (length images) stage) v.old.nodes v.new.nodes (after d (journals.call_at v.head v.epoch images stage))
due_on v images (Journal next) d are = journal_on v d (ltb next (length images)) next (2 + v.head.nodes + next) (image_at images next) are
due_on v images (Opening First) d are = are
due_on v images (Opening FirstSync) d are = are
due_on v images (Opening Second) d are = are
due_on v images (Opening SecondSync) d are = are.1
due_on v images (Homes next) d are = homes_on v (after_call d (due_call v.head v.epoch images (Homes next))) (ltb next (length images)) next are
due_on v images (Closing First) d are = are
due_on v images (Closing FirstSync) d are = are
due_on v images (Closing Second) d are = are
due_on v images (Closing SecondSync) d are = are
due_on v images Rested d are = are

-- the stage after a call that was made
goes_on : (v : ViewCommit) (pages : List PlanPage) (stage : Stage) (given : Option (List ℕ)) (d : DiskState) → HasLoneMapsAt stage v.old.nodes v.new.nodes (after d (first_call pages given (journals.call_at v.head v.epoch (plan_for v).images stage))) → HasLoneMapsAt (stage_after pages (length (plan_for v).images) stage) v.old.nodes v.new.nodes (after d (first_call pages given (journals.call_at v.head v.epoch (plan_for v).images stage)))
goes_on v [] stage given d are = due_on v (plan_for v).images stage d are
goes_on v (p ∷ rest) stage given d are = are

-- ---- each call

-- at each stage, while pages are left too
maps_stay : (v : ViewCommit) (pages : List PlanPage) (stage : Stage) (d next : DiskState) → HasBoth v → Waits pages stage → All (λ p. Contains (places_in v.old.nodes) (place_of p) → ⊥) pages → OthersStand (2 + 2 * v.head.nodes) pages d next → HasLoneMapsAt stage v.old.nodes v.new.nodes d → HasLoneMapsAt stage v.old.nodes v.new.nodes next
maps_stay v [] stage d next both waits apart stand lone = stage_stays v stage d next both stand lone
maps_stay v (p ∷ rest) stage d next both waits apart stand lone =
    subst (λ (x : Stage). HasLoneMapsAt x v.old.nodes v.new.nodes next) (sym waits)
    (lone_stays v.head v.old (p ∷ rest) d next both.old stand (λ place named. no_first (places_in v.old.nodes) (p ∷ rest) place apart named)
    (subst (λ (x : Stage). HasLoneMapsAt x v.old.nodes v.new.nodes d) waits lone))

whole_made : (d : DiskState) (call : Call) → IsAllWhole d → IsAllWhole (after d call)
whole_made d Rest whole place = whole place
whole_made d Ask whole place = whole place
whole_made d (ReadPlace at) whole place = whole place
whole_made d (Change call) whole place = whole_after d call place (whole place)

whole_lost : (d left : DiskState) (call : Call) → MayFailTo call d left → IsAllWhole d → IsAllWhole left
whole_lost d left Rest may whole = subst IsAllWhole (sym may) whole
whole_lost d left Ask may whole = subst IsAllWhole (sym may) whole
whole_lost d left (ReadPlace at) may whole = subst IsAllWhole (sym may) whole
whole_lost d left (Change call) may whole = elim (tried call d left may) [
  | inl same ↦ subst IsAllWhole (sym same) whole
  | inr made ↦ subst IsAllWhole (sym made) (λ place. whole_after d call place (whole place))
]

-- ---- a step

stays_lone : (v : ViewCommit) (s : WayState) (d next : DiskState) → IsCommittingView v s d → OthersStand (first_data s.head) s.pages d next → HasLoneMapsAt s.stage v.old.nodes v.new.nodes d → HasLoneMapsAt s.stage v.old.nodes v.new.nodes next
stays_lone v s d next k stand lone =
    maps_stay v s.pages s.stage d next (both_of v s d k) k.of.way.waits (apart_left v s d k)
    (subst (λ (h : Head). OthersStand (first_data h) s.pages d next) k.of.head stand) lone

made_lone : (v : ViewCommit) (s : WayState) (given : Option (List ℕ)) (d : DiskState) → IsWayOf v s → HasLoneMapsAt s.stage v.old.nodes v.new.nodes (after d (call_at s given)) → HasLoneMapsAt (next_of s).stage v.old.nodes v.new.nodes (after d (call_at s given))
made_lone v s given d of lone =
    of_view (λ head epoch images. HasLoneMapsAt (stage_after s.pages (length images) s.stage) v.old.nodes v.new.nodes (after d (first_call s.pages given (journals.call_at head epoch images s.stage)))) v s of
    (goes_on v s.pages s.stage given d
    (at-own (λ head epoch images. HasLoneMapsAt s.stage v.old.nodes v.new.nodes (after d (first_call s.pages given (journals.call_at head epoch images s.stage)))) v s of lone))

pub step-untorn : (v : ViewCommit) (given : Option (List ℕ)) (old new : WayState) (before after : DiskView) (result : Result CommitStep DiskError) (d next : DiskState) → WaySteps old given new before after result → before.told ≡ Some d → after.told ≡ Some next → IsCommittingView v old d → IsUntorn v old.stage d → IsUntorn v new.stage next
step-untorn v given old new before after (Ok step) d next steps from to k u =
    let went = steps.steps.went in
    let is : next ≡ _ = same_told next _ (sym to ∙ went.made d from) in
    let lone = stays_lone v old d next k (steps.others d next from to) u.maps in
    record {
      whole = subst IsAllWhole (sym is) (whole_made d (call_at old given) u.whole);
      maps = subst (λ (t : WayState). HasLoneMapsAt t.stage v.old.nodes v.new.nodes next) (sym went.goes)
          (subst (HasLoneMapsAt (next_of old).stage v.old.nodes v.new.nodes) (sym is) (made_lone v old given d k.of (subst (HasLoneMapsAt old.stage v.old.nodes v.new.nodes) is lone)));
    }
step-untorn v given old new before after (Err e) d next steps from to k u =
    let failed = steps.steps.failed d from in
    let is : next ≡ failed.next = same_told next failed.next (sym to ∙ failed.told) in
    record {
      whole = subst IsAllWhole (sym is) (whole_lost d failed.next (call_at old given) failed.left u.whole);
      maps = subst (λ (t : WayState). HasLoneMapsAt t.stage v.old.nodes v.new.nodes next) (sym steps.steps.stays) (stays_lone v old d next k (steps.others d next from to) u.maps);
    }
