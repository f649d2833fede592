-- What leaves the commit of a view on its way.
use Rattle.std.proofs.Common.{◌≡◌, ℕ, ◌≤◌, Bool, true, false, cond, eqb, List, [], ◌∷◌, length, Option, Some, Result, inl, inr, sym, ap, subst, ◌∙◌, arith}
use Rattle.std.proofs.lemmas.Bool.{ne_eqb}
use Rattle.std.proofs.lemmas.List.{get_or_default}
use Rattle.std.proofs.lemmas.List.Elements.{All-cons, All-contains, All-contains_itself, All-head, All-nil, All-weaker}
use Rattle.std.specs.List.{All, Contains}
use Rattle.vb_commit.specs.Known.{GoesTo, IsCommittingFor, IsNoFirst, OthersStand, StandsFor, StoreStands}
use Rattle.vb_commit.specs.Steps.{WaySteps}
use Rattle.vb_commit.specs.Ways.{IsGivenFrom, WayState, first_data}
use Rattle.vb_commit.proofs.WayLaws.{damage-stands, data-stands, known-by}
use Rattle.vb_commit.proofs.WaysKept.{way}
use Rattle.vb_disk.specs.declared.cell.Cell.{Cell}
use Rattle.vb_disk.specs.declared.disk_error.DiskError.{DiskError}
use Rattle.vb_disk.specs.Cells.{candidates, hurt_cell, synced_cell, written_cell}
use Rattle.vb_disk.specs.Crashes.{damaged}
use Rattle.vb_disk.specs.States.{DiskState, written}
use Rattle.vb_head.specs.declared.head.Head.{Head}
use Rattle.vb_index.specs.Contents.{HasTree}
use Rattle.vb_journal.specs.declared.commit_stage.CommitStep.{CommitStep}
use Rattle.vb_journal.specs.declared.commit_stage.Stage.{Stage}
use Rattle.vb_journal.specs.declared.commit_stage.Stage.TheVariants.{Journal, Opening, Homes, Closing, Rested}
use Rattle.vb_plan.specs.declared.plan_page.PlanPage.{PlanPage}
use Rattle.vb_plan.specs.Laws.{place_of}
use Rattle.vb_steps.specs.Disks.{DiskView}
use Rattle.vb_store.specs.Clear.{first_candidates}
use Rattle.vb_store.specs.Views.{data_start, places_in}
use Rattle.vb_views.specs.AtRest.{IsAtRestFor, IsViewOf}
use Rattle.vb_views.specs.Reads.{pages_by}
use Rattle.vb_views.proofs.PlacesInOrder.{all_rest}
use Rattle.vb_views.proofs.RestsKept.{HasNoMore, KeepsPlaces}
use Rattle.vb_views.proofs.ViewsHeld.{holds-kept}
use Rattle.vb_views.proofs.ViewsInPlace.{rest-holds}
use Rattle.vb_during.specs.During.{Follows, HoldsKept, IsCommittingView, IsWayOf, LeadsTo, ViewCommit, plan_for}
use Rattle.vb_during.proofs.KeptPages.{kept-place}

-- ---- places of the committed view

newest : (cell : Cell) → Contains (candidates cell) (synced_cell cell).first
newest cell = (length cell.later, omega arith, get_or_default (candidates cell) (length cell.later) (synced_cell cell).first cell.first (omega arith))

synced_fewer : (cell : Cell) → HasNoMore (synced_cell cell) cell
synced_fewer cell page among =
    All-contains (Contains (candidates cell)) (candidates (synced_cell cell)) page
    (All-cons (Contains (candidates cell)) (synced_cell cell).first [] (newest cell) (All-nil (Contains (candidates cell)))) among

-- a commit whose committed view keeps its places goes on with it
pub goes-on : (v : ViewCommit) (s after : WayState) (d next : DiskState) (k : IsCommittingView v s d) → IsWayOf v after → IsCommittingFor v.source k.homes k.journal (plan_for v).pages after next → next.size ≡ d.size → KeepsPlaces v.old d next → IsCommittingView v after next
goes-on v s after d next k of known size keeps = record {
  homes = k.homes;
  journal = k.journal;
  follows = k.follows;
  of = of;
  known = known;
  holds = holds-kept v.head v.old k.homes v.tree d next size keeps k.holds;
  kept = λ x n r listed at. All-weaker (Contains (candidates (next.cells r.place))) (λ page. page ≡ v.source x.node.slot n)
      (λ page among. All-contains (λ p. p ≡ v.source x.node.slot n) (candidates (d.cells r.place)) page (k.kept x n r listed at) (keeps r.place (kept-place v x n r k.holds.view k.follows listed at) page among))
      (candidates (next.cells r.place)) (All-contains_itself (candidates (next.cells r.place)));
}

-- ---- a step

stands_size : (homes journal : ℕ → List ℕ) (head : Head) (epoch : ℕ) (images : List (List ℕ)) (pages : List PlanPage) (stage : Stage) (d : DiskState) → StoreStands homes journal pages (way head epoch images pages stage) d → d.size ≡ head.blocks
stands_size homes journal head epoch images [] (Journal next) d is = is.size
stands_size homes journal head epoch images [] (Opening turn) d is = is.size
stands_size homes journal head epoch images [] (Homes next) d is = is.size
stands_size homes journal head epoch images [] (Closing turn) d is = is.size
stands_size homes journal head epoch images [] Rested d is = is.size
stands_size homes journal head epoch images (p ∷ pages) stage d is = is.size

known_size : (source : ℕ → ℕ → List ℕ) (homes journal : ℕ → List ℕ) (plan : List PlanPage) (s : WayState) (d : DiskState) → IsCommittingFor source homes journal plan s d → d.size ≡ s.head.blocks
known_size source homes journal plan s d k = stands_size homes journal s.head s.epoch s.images s.pages s.stage d k.store

pub no_first : (places : List ℕ) (pages : List PlanPage) (place : ℕ) → All (λ p. Contains places (place_of p) → ⊥) pages → Contains places place → IsNoFirst pages place
no_first places [] place apart named = tt
no_first places (p ∷ pages) place apart named = λ same. All-head (λ q. Contains places (place_of q) → ⊥) p pages apart (subst (Contains places) same named)

step_keeps : (v : ViewCommit) (s : WayState) (d next : DiskState) → IsCommittingView v s d → OthersStand (first_data s.head) s.pages d next → KeepsPlaces v.old d next
step_keeps v s d next k stand place named page among =
    let Apart : PlanPage → Type 0 = λ p. Contains (places_in v.old.nodes) (place_of p) → ⊥ in
    let left : All Apart s.pages = all_rest Apart k.known.placed s.pages (subst (All Apart) (sym k.known.of_plan) k.follows.apart) in
    let above : data_start v.head ≤ place = All-contains (λ p. data_start v.head ≤ p) (places_in v.old.nodes) place k.holds.view.can.above named in
    let past : first_data s.head ≤ place = subst (λ (h : Head). first_data h ≤ place) (sym k.of.head) above in
    elim (stand place past (no_first (places_in v.old.nodes) s.pages place left named)) [
      | inl same ↦ subst (λ (cell : Cell). Contains (candidates cell) page) same among
      | inr synced ↦ synced_fewer (d.cells place) page (subst (λ (cell : Cell). Contains (candidates cell) page) synced among)
    ]

pub step-leads : (v : ViewCommit) (given : Option (List ℕ)) (old new : WayState) (before after : DiskView) (result : Result CommitStep DiskError) (d : DiskState) → WaySteps old given new before after result → IsGivenFrom v.source old.pages given → before.told ≡ Some d → IsCommittingView v old d → LeadsTo v old new d after.told
step-leads v given old new before after result d step from told k = made (step.known v.source k.homes k.journal (plan_for v).pages d from told k.known) where
  of : IsWayOf v new
  of = record { way = step.new_is; head = step.head ∙ k.of.head; epoch = step.epoch ∙ k.of.epoch; images = step.images ∙ k.of.images }

  made : GoesTo v.source k.homes k.journal (plan_for v).pages old new d after.told → LeadsTo v old new d after.told
  made goes =
      let next = goes.next in
      let size : next.size ≡ d.size = known_size v.source k.homes k.journal (plan_for v).pages new next goes.known ∙ ap (λ (h : Head). h.blocks) step.head ∙ sym (known_size v.source k.homes k.journal (plan_for v).pages old d k.known) in
      let last : IsCommittingView v new next = goes-on v old new d next k of goes.known size (step_keeps v old d next k (step.others d next told goes.told)) in
      let moments = step.steps.moments d next told goes.told in
      record {
        next = next;
        told = goes.told;
        known = last;
        moments = record {
          reached = moments.reached;
          each = λ m disk moment. elim (moments.each m disk moment) [
            | inl same ↦ inl (subst (IsCommittingView v old) (sym same) k)
            | inr same ↦ inr (subst (IsCommittingView v new) (sym same) last)
          ];
        };
      }

-- ---- what else leaves it

stands-on : (v : ViewCommit) (s : WayState) (d new : DiskState) → IsCommittingView v s d → StandsFor v.head (plan_for v).pages d new → KeepsPlaces v.old d new → IsCommittingView v s new
stands-on v s d new k stands keeps =
    goes-on v s s d new k k.of
    (known-by v.source k.homes k.journal (plan_for v).pages s d new k.of.way (subst (λ (h : Head). StandsFor h (plan_for v).pages d new) (sym k.of.head) stands) k.known)
    stands.store.size keeps

damaged_cell : (cell : Cell) (bytes : List ℕ) (b : Bool) → HasNoMore (cond b (hurt_cell cell bytes) cell) cell
damaged_cell cell bytes true page among = among
damaged_cell cell bytes false page among = among

pub damage-leaves : (v : ViewCommit) (s : WayState) (d : DiskState) (place : ℕ) (page : List ℕ) → IsCommittingView v s d → IsCommittingView v s (damaged d place page)
damage-leaves v s d place page k =
    stands-on v s d (damaged d place page) k (damage-stands v.head (plan_for v).pages d place page) (λ p named. damaged_cell (d.cells p) page (eqb p place))

pub others-leave : (v : ViewCommit) (s : WayState) (d : DiskState) (place : ℕ) (page : List ℕ) → data_start v.head ≤ place → (Contains (places_in v.old.nodes) place → ⊥) → All (λ p. place_of p ≡ place → ⊥) (plan_for v).pages → IsCommittingView v s d → IsCommittingView v s (written d place page)
others-leave v s d place page past unnamed unplanned k =
    stands-on v s d (written d place page) k (data-stands v.head (plan_for v).pages d place page past unplanned)
    (λ p named found among.
    let apart : eqb p place ≡ false = ne_eqb p place (λ same. unnamed (subst (Contains (places_in v.old.nodes)) same named)) in
    subst (λ (b : Bool). Contains (candidates (cond b (written_cell (d.cells p) page) (d.cells p))) found → Contains (candidates (d.cells p)) found) (sym apart) (λ has. has) among)

-- ---- its start

pub start-known : (v : ViewCommit) (s : WayState) (d : DiskState) → IsViewOf v.head v.old → IsAtRestFor v.head v.old d → HasTree v.old.nodes (pages_by (first_candidates d) v.old.nodes) v.tree → Follows v → HoldsKept v d → IsWayOf v s
    → ((rests : IsAtRestFor v.head v.old d) → IsCommittingFor v.source rests.homes rests.journal (plan_for v).pages s d) → IsCommittingView v s d
start-known v s d is rests has follows kept of known = record {
  homes = rests.homes;
  journal = rests.journal;
  follows = follows;
  of = of;
  known = known rests;
  holds = rest-holds v.head v.old d v.tree is rests has;
  kept = kept;
}
