use Rattle.std.proofs.Common.{◌≡◌, ◌∙◌, length, sym, subst}
use Rattle.vb_plan.specs.Following.{CanFollow}
use Rattle.vb_plan.specs.Plans.{all_held, all_pages}
use Rattle.vb_store.specs.NextIndexes.{CanIndex}
use Rattle.vb_store.specs.Views.{HasNoneBegun, ViewState}
use Rattle.vb_store.proofs.NextPlanned.{basis_at, can_index, can_plan, index_begun, index_next, places_begun, planned_count, planned_held, room_begun, view_planned}
use Rattle.vb_store.proofs.view.View.plan_commit.Goals as goal

pub of-requires-clause-can : goal.of-requires-clause-can
of-requires-clause-can c =
    let v : ViewState = record { head = c.self.inside.head; index = c.self.inside.index; next = c.self.inside.next; space = c.self.inside.space } in
    let none : HasNoneBegun v = subst (λ (s : ViewState). HasNoneBegun s) (sym c.self.view_is) c.requires.none_begun in
    let can : CanFollow v.index c.args.next.now = subst (λ (s : ViewState). CanFollow s.index c.args.next.now) (sym c.self.view_is) c.requires.can in
    can_plan v c.args.next.now c.self.invariant none can

pub next_index-requires : goal.next_index-requires
next_index-requires c =
    let v : ViewState = record { head = c.self.inside.head; index = c.self.inside.index; next = c.self.inside.next; space = c.self.inside.space } in
    let next = c.args.next.now in
    let can : CanFollow v.index next = subst (λ (s : ViewState). CanFollow s.index next) (sym c.self.view_is) c.requires.can in
    let held : c.slice.result.now ≡ all_held (basis_at v) 0 next = planned_held c.in_ok-plan.plan c.slice.result.now c.take_nodes-held.result (basis_at v) next c.slice.ensures c.take_nodes-held.ensures.taken c.in_ok-plan.ensures in
    subst (CanIndex v.head) (sym held) (can_index v next c.self.invariant can)

pub use_places-requires-clause-room : goal.use_places-requires-clause-room
use_places-requires-clause-room c =
    let v : ViewState = record { head = c.self.inside.head; index = c.self.inside.index; next = c.self.inside.next; space = c.self.inside.space } in
    let next = c.args.next.now in
    let none : HasNoneBegun v = subst (λ (s : ViewState). HasNoneBegun s) (sym c.self.view_is) c.requires.none_begun in
    let can : CanFollow v.index next = subst (λ (s : ViewState). CanFollow s.index next) (sym c.self.view_is) c.requires.can in
    let left : c.pages_left.result ≡ length c.take_nodes-held.new.self.pages = c.pages_left.ensures in
    let count : c.pages_left.result ≡ length (all_pages (basis_at v) 0 next) = planned_count c.in_ok-plan.plan c.take_nodes-held.new.self c.pages_left.result (basis_at v) next left c.take_nodes-held.ensures.left c.in_ok-plan.ensures in
    room_begun v next c.pages_left.result (can_plan v next c.self.invariant none can) count

pub use_places-requires-clause-all : goal.use_places-requires-clause-all
use_places-requires-clause-all c =
    let v : ViewState = record { head = c.self.inside.head; index = c.self.inside.index; next = c.self.inside.next; space = c.self.inside.space } in
    let next = c.args.next.now in
    let none : HasNoneBegun v = subst (λ (s : ViewState). HasNoneBegun s) (sym c.self.view_is) c.requires.none_begun in
    let can : CanFollow v.index next = subst (λ (s : ViewState). CanFollow s.index next) (sym c.self.view_is) c.requires.can in
    let left : c.pages_left.result ≡ length c.take_nodes-held.new.self.pages = c.pages_left.ensures in
    let count : c.pages_left.result ≡ length (all_pages (basis_at v) 0 next) = planned_count c.in_ok-plan.plan c.take_nodes-held.new.self c.pages_left.result (basis_at v) next left c.take_nodes-held.ensures.left c.in_ok-plan.ensures in
    let held : c.slice.result.now ≡ all_held (basis_at v) 0 next = planned_held c.in_ok-plan.plan c.slice.result.now c.take_nodes-held.result (basis_at v) next c.slice.ensures c.take_nodes-held.ensures.taken c.in_ok-plan.ensures in
    let index : c.in_ok-index.index ≡ index_next v next = index_begun v next c.slice.result.now c.in_ok-index.index c.self.invariant held c.in_ok-index.ensures in
    places_begun v next c.in_ok-index.index c.pages_left.result c.deref.result.now c.self.invariant (can_plan v next c.self.invariant none can) index (c.deref.ensures.value ∙ c.in_ok-used.ensures) count

pub invariant_of-self : goal.invariant_of-self
invariant_of-self c =
    let v : ViewState = record { head = c.self.inside.head; index = c.self.inside.index; next = c.self.inside.next; space = c.self.inside.space } in
    let next = c.args.next.now in
    let none : HasNoneBegun v = subst (λ (s : ViewState). HasNoneBegun s) (sym c.self.view_is) c.requires.none_begun in
    let can : CanFollow v.index next = subst (λ (s : ViewState). CanFollow s.index next) (sym c.self.view_is) c.requires.can in
    let held : c.slice.result.now ≡ all_held (basis_at v) 0 next = planned_held c.in_ok-plan.plan c.slice.result.now c.take_nodes-held.result (basis_at v) next c.slice.ensures c.take_nodes-held.ensures.taken c.in_ok-plan.ensures in
    let index : c.in_ok-index.index ≡ index_next v next = index_begun v next c.slice.result.now c.in_ok-index.index c.self.invariant held c.in_ok-index.ensures in
    view_planned v next c.in_ok-index.index c.use_places.new.space c.deref.result.now c.self.invariant none can index (c.deref.ensures.value ∙ c.in_ok-used.ensures) c.use_places.ensures

pub returns-clause-view : goal.returns-clause-view
returns-clause-view c =
    let v : ViewState = record { head = c.self.inside.head; index = c.self.inside.index; next = c.self.inside.next; space = c.self.inside.space } in
    let next = c.args.next.now in
    let none : HasNoneBegun v = subst (λ (s : ViewState). HasNoneBegun s) (sym c.self.view_is) c.requires.none_begun in
    let can : CanFollow v.index next = subst (λ (s : ViewState). CanFollow s.index next) (sym c.self.view_is) c.requires.can in
    let held : c.slice.result.now ≡ all_held (basis_at v) 0 next = planned_held c.in_ok-plan.plan c.slice.result.now c.take_nodes-held.result (basis_at v) next c.slice.ensures c.take_nodes-held.ensures.taken c.in_ok-plan.ensures in
    let index : c.in_ok-index.index ≡ index_next v next = index_begun v next c.slice.result.now c.in_ok-index.index c.self.invariant held c.in_ok-index.ensures in
    view_planned v next c.in_ok-index.index c.use_places.new.space c.deref.result.now c.self.invariant none can index (c.deref.ensures.value ∙ c.in_ok-used.ensures) c.use_places.ensures
