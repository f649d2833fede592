use Rattle.std.proofs.Common.{◌≡◌, ◌<◌, ◌+◌, ℕ, arith, ap, sym, subst, ◌∙◌}
use Rattle.std.specs.Prelude.{slice_index_or}
use Rattle.vb_space.specs.declared.space.Space.TheInside.{Inside}
use Rattle.vb_space.specs.Shown.{IsListed, shown}
use Rattle.vb_space.specs.Spaces.{DataPlaces, free_count, free_places}
use Rattle.vb_space.proofs.FreePlaces.{listed_at, listed_count}
use Rattle.vb_space.proofs.space.Space.peek.Goals as goal

left : (a : Inside) (s : DataPlaces) (ahead : ℕ) → shown a ≡ s → IsListed a → ahead < free_count s → a.from + ahead < a.to
left a s ahead seen kept within = omega (arith, listed_count a kept ∙ ap free_count seen, kept.from)

pub overflow_add-self-inside : goal.overflow_add-self-inside
overflow_add-self-inside c =
    omega (arith, left c.self.inside c.args.self.now c.args.ahead c.self.view_is c.self.invariant c.requires, c.self.invariant.to, c.self.inside.free.ok.0)

pub index-requires : goal.index-requires
index-requires c =
    omega (arith, left c.self.inside c.args.self.now c.args.ahead c.self.view_is c.self.invariant c.requires, c.self.invariant.to, c.self.inside.free.ok.0)

pub returns : goal.returns
returns c =
    let a = c.self.inside in
    let within = subst (λ (n : ℕ). c.args.ahead < n) (ap free_count (sym c.self.view_is)) c.requires in
    listed_at a c.args.ahead c.index.result.now c.self.invariant within c.index.ensures ∙ ap (λ (s : DataPlaces). slice_index_or (free_places s) c.args.ahead 0) c.self.view_is
