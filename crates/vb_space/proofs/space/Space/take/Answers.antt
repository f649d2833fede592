use Rattle.std.proofs.Common.{◌≡◌, ◌<◌, ◌≤◌, ◌-◌, ◌+◌, ℕ, List, ◌∷◌, drop, take, length-set, arith, sym, ◌∙◌, ap}
use Rattle.vb_space.specs.declared.users.Users.TheVariants.{Next}
use Rattle.vb_space.specs.declared.space.Space.TheInside.{Inside}
use Rattle.vb_space.specs.Shown.{IsListed, shown}
use Rattle.vb_space.specs.Spaces.{DataPlaces, free_count, free_places}
use Rattle.vb_space.proofs.FreePlaces.{listed_count, listed_front, listed_head}
use Rattle.vb_space.proofs.Seen.{least_free, taken, taken_next, taken_committed}
use Rattle.vb_space.proofs.space.Space.take.Goals as goal

left : (a : Inside) (s : DataPlaces) → shown a ≡ s → IsListed a → 1 ≤ free_count s → a.from < a.to
left a s seen kept some = omega (arith, listed_count a kept ∙ ap free_count seen)

abbrev rest : Inside → List ℕ
rest a = drop (a.from + 1) (take a.to a.free.items)

pub index-place-requires : goal.index-place-requires
index-place-requires c =
    omega (arith, left c.self.inside c.args.self.now c.self.view_is c.self.invariant c.requires, c.self.invariant.to, c.self.inside.free.ok.0)

pub overflow_sub-place : goal.overflow_sub-place
overflow_sub-place c =
    let some = left c.self.inside c.args.self.now c.self.view_is c.self.invariant c.requires in
    let head = listed_head c.self.inside c.index-place.result.now c.self.invariant some c.index-place.ensures in
    head.lower

pub index_mut-requires : goal.index_mut-requires
index_mut-requires c =
    let some = left c.self.inside c.args.self.now c.self.view_is c.self.invariant c.requires in
    let head = listed_head c.self.inside c.index-place.result.now c.self.invariant some c.index-place.ensures in
    omega (arith, head.lower, head.upper, c.self.inside.users.ok.0)

pub invariant_of-self : goal.invariant_of-self
invariant_of-self c =
    let a = c.self.inside in
    let some = left a c.args.self.now c.self.view_is c.self.invariant c.requires in
    let head = listed_head a c.index-place.result.now c.self.invariant some c.index-place.ensures in
    record {
      places = omega (arith, c.self.invariant.places, length-set a.users.items (c.index-place.result.now - a.first) Next);
      room = omega (arith, c.self.invariant.room, length-set a.users.items (c.index-place.result.now - a.first) Next);
      to = c.self.invariant.to;
      from = omega (arith, some);
      listed = sym head.without;
    }

pub returns-clause-least : goal.returns-clause-least
returns-clause-least c =
    let a = c.self.inside in
    let some = left a c.args.self.now c.self.view_is c.self.invariant c.requires in
    least_free a.first a.users.items c.args.self.now c.index-place.result.now (rest a) c.self.view_is (listed_head a c.index-place.result.now c.self.invariant some c.index-place.ensures)

pub returns-clause-used : goal.returns-clause-used
returns-clause-used c =
    let a = c.self.inside in
    let some = left a c.args.self.now c.self.view_is c.self.invariant c.requires in
    taken a.first a.users.items c.args.self.now c.index-place.result.now (rest a) c.self.view_is (listed_head a c.index-place.result.now c.self.invariant some c.index-place.ensures)

pub returns-clause-grows : goal.returns-clause-grows
returns-clause-grows c =
    let a = c.self.inside in
    let some = left a c.args.self.now c.self.view_is c.self.invariant c.requires in
    taken_next a.first a.users.items c.args.self.now c.index-place.result.now (rest a) c.self.view_is (listed_head a c.index-place.result.now c.self.invariant some c.index-place.ensures)

pub returns-clause-stays : goal.returns-clause-stays
returns-clause-stays c =
    let a = c.self.inside in
    let some = left a c.args.self.now c.self.view_is c.self.invariant c.requires in
    taken_committed a.first a.users.items c.args.self.now c.index-place.result.now (rest a) c.self.view_is (listed_head a c.index-place.result.now c.self.invariant some c.index-place.ensures)

pub returns-clause-first : goal.returns-clause-first
returns-clause-first c =
    let a = c.self.inside in
    let some = left a c.args.self.now c.self.view_is c.self.invariant c.requires in
    let head = listed_head a c.index-place.result.now c.self.invariant some c.index-place.ensures in
    sym (ap free_places c.self.view_is) ∙ listed_front a c.index-place.result.now c.self.invariant some c.index-place.ensures ∙ ap (λ (r : List ℕ). c.index-place.result.now ∷ r) (sym head.without)
