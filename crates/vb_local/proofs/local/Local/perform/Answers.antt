use Rattle.std.proofs.Common.{◌≤◌, sym, subst}
use Rattle.vb_local.specs.Events.{Calls}
use Rattle.vb_local.specs.States.{state_of, LocalState}
use Rattle.vb_local.proofs.LivePlaces.{live-below, performed-calls, performed-tied}
use Rattle.vb_local.proofs.local.Local.perform.Goals as goal

pub perform-requires-clause-below : goal.perform-requires-clause-below
perform-requires-clause-below g c =
    live-below (state_of c.self.inside.live c.self.inside.view c.self.inside.phase c.self.inside.standing) (g.D.Disk.seen c.args.disk.now) c.self.invariant
    (subst (λ (s : LocalState). s.view.head.blocks ≤ g.D.Disk.seen c.args.disk.now) (sym c.self.view_is) c.requires.blocks)

pub invariant_of-self : goal.invariant_of-self
invariant_of-self g c = performed-tied (state_of c.self.inside.live c.self.inside.view c.self.inside.phase c.self.inside.standing) c.perform.new.self (g.D.Disk.told c.args.disk.now) c.args.op.now c.perform.result c.self.invariant c.perform.ensures.performs c.perform.ensures.within

pub returns-clause-calls : goal.returns-clause-calls
returns-clause-calls g c =
    subst (λ (s : LocalState). Calls s (state_of c.perform.new.self c.self.inside.view c.self.inside.phase c.self.inside.standing) c.args.op.now (g.D.Disk.told c.args.disk.now) c.perform.result) c.self.view_is
    (performed-calls (state_of c.self.inside.live c.self.inside.view c.self.inside.phase c.self.inside.standing) c.perform.new.self (g.D.Disk.told c.args.disk.now) c.args.op.now c.perform.result c.self.invariant c.perform.ensures.performs)
