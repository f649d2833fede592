use Rattle.std.proofs.Common.{◌≡◌, true, ◌-◌, length-set, arith, ap, sym, ◌∙◌, subst}
use Rattle.vb_space.specs.declared.users.Users.TheVariants.{Both}
use Rattle.vb_space.specs.Free.{has_committed}
use Rattle.vb_space.specs.Spaces.{DataPlaces, free_places, users_of}
use Rattle.vb_space.proofs.FreePlaces.{free_from-kept}
use Rattle.vb_space.proofs.space.Space.keep.Goals as goal

pub invariant_of-self : goal.invariant_of-self
invariant_of-self c =
    let a = c.self.inside in
    let k = c.args.place - a.first in
    let used = subst (λ (s : DataPlaces). has_committed (users_of s c.args.place) ≡ true) (sym c.self.view_is) c.requires.used in
    record {
      places = omega (arith, c.self.invariant.places, length-set a.users.items k Both);
      room = omega (arith, c.self.invariant.room, length-set a.users.items k Both);
      to = c.self.invariant.to;
      from = c.self.invariant.from;
      listed = c.self.invariant.listed ∙ sym (free_from-kept a.first a.users.items k used);
    }

pub returns-clause-same_free : goal.returns-clause-same_free
returns-clause-same_free c =
    let a = c.self.inside in
    let used = subst (λ (s : DataPlaces). has_committed (users_of s c.args.place) ≡ true) (sym c.self.view_is) c.requires.used in
    free_from-kept a.first a.users.items (c.args.place - a.first) used ∙ ap free_places c.self.view_is
