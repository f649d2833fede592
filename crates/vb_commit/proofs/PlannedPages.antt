-- The pages of a plan over a view go to places of data, each to one of its own.
use Rattle.std.proofs.Common.{◌≡◌, ℕ, ◌<◌, ◌≤◌, ◌==◌, List, All, count_by, length, get_or, map, sym, subst, arith}
use Rattle.std.proofs.lemmas.List.{get_or-map, length-map}
use Rattle.vb_inode.specs.declared.next_view.NextNode.{NextNode}
use Rattle.vb_plan.specs.Following.{CanFollow}
use Rattle.vb_plan.specs.Laws.{place_of}
use Rattle.vb_plan.specs.Plans.{all_pages, plan_of}
use Rattle.vb_plan.specs.declared.plan_page.PlanPage.{PlanPage}
use Rattle.vb_plan.proofs.FreeOnes.{first_are_free, first_name_once}
use Rattle.vb_plan.proofs.PlannedPlaces.{places_of_plan}
use Rattle.vb_space.specs.Spaces.{IsFree}
use Rattle.vb_store.specs.Views.{HasNoneBegun, IsView, ViewState}
use Rattle.vb_store.proofs.NextPlanned.{basis_at, can_plan}
use Rattle.vb_commit.specs.Known.{places_of}
use Rattle.vb_commit.specs.Ways.{IsDataPage}

place-at : (pages : List PlanPage) (k : ℕ) (d : PlanPage) → k < length pages → get_or (map place_of pages) k (place_of d) ≡ place_of (get_or pages k d)
place-at pages k d within = get_or-map place_of pages k d (place_of d) within

-- each page goes to a place of data
pub planned-places : (v : ViewState) (next : List NextNode) → IsView v → HasNoneBegun v → CanFollow v.index next → All (IsDataPage v.head) (plan_of (basis_at v) next).pages
planned-places v next is none can k d within =
    let pages = all_pages (basis_at v) 0 next in
    let count = length pages in
    let planned = places_of_plan (basis_at v) next (can_plan v next is none can).room in
    let each : All (IsFree v.space) (map place_of (all_pages (basis_at v) 0 next)) = subst (λ (ps : List ℕ). All (IsFree v.space) ps) (sym planned) (first_are_free v.space count) in
    let free : IsFree v.space (place_of (get_or pages k d)) = subst (λ (p : ℕ). IsFree v.space p) (place-at pages k d within) (each k (place_of d) (omega (arith, within, length-map pages place_of))) in
    record { above = omega (arith, free.within.0, is.first); below = omega (arith, free.within.1, is.end) }

-- each has one of its own
pub planned-once : (v : ViewState) (next : List NextNode) → IsView v → HasNoneBegun v → CanFollow v.index next → (place : ℕ) → count_by (λ p. p == place) (places_of (plan_of (basis_at v) next).pages) ≤ 1
planned-once v next is none can place =
    let planned = places_of_plan (basis_at v) next (can_plan v next is none can).room in
    subst (λ (ps : List ℕ). count_by (λ p. p == place) ps ≤ 1) (sym planned) (first_name_once v.space (length (all_pages (basis_at v) 0 next)) place)
