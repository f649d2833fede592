use Rattle.vb_active.proofs.Changed.{removed-performs}
use Rattle.vb_active.proofs.active.Active.remove.Goals as goal

pub returns-in-Ok-clause-performs : goal.returns-in-Ok-clause-performs
returns-in-Ok-clause-performs c = λ told.
    let old = c.self.inside in
    removed-performs told c.args.self.now old.index c.detach.new.self old.table c.cut.new.self c.args.kind c.args.path.now c.in-Ok.slot c.self.view_is c.in-Ok.ensures.nodes c.count.ensures.table (λ pages tree has. c.in-Ok.ensures.answer tree has.shape) (λ pages tree has. c.in-Ok.ensures.contents pages tree has) c.cut.ensures
