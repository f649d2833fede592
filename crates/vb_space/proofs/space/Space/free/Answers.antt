use Rattle.std.proofs.Common.{arith, ap, ◌∙◌}
use Rattle.vb_space.specs.Spaces.{free_count}
use Rattle.vb_space.proofs.Counts.{length-le-counts}
use Rattle.vb_space.proofs.FreePlaces.{listed_count}
use Rattle.vb_space.proofs.space.Space.free.Goals as goal

pub returns-clause-count : goal.returns-clause-count
returns-clause-count c = listed_count c.self.inside c.self.invariant ∙ ap free_count c.self.view_is

pub returns-clause-room : goal.returns-clause-room
returns-clause-room c =
    omega (arith, listed_count c.self.inside c.self.invariant ∙ ap free_count c.self.view_is, length-le-counts c.args.self.now.users)
