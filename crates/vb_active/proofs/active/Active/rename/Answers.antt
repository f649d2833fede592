use Rattle.vb_active.proofs.Changed.{renamed-files, renamed-performs}
use Rattle.vb_active.proofs.active.Active.rename.Goals as goal

pub invariant_of-self : goal.invariant_of-self
invariant_of-self c =
    let old = c.self.inside in
    renamed-files old.index c.rename.new.self old.table c.forget_file.new.table c.args.source.now c.args.target.now c.in-Ok.replaced c.self.invariant c.in-Ok.ensures.nodes c.in-Ok.ensures.replaced c.forget_file.ensures

pub returns-in-Ok-clause-performs : goal.returns-in-Ok-clause-performs
returns-in-Ok-clause-performs c = λ told.
    let old = c.self.inside in
    renamed-performs told c.args.self.now old.index c.rename.new.self old.table c.forget_file.new.table c.args.source.now c.args.target.now c.in-Ok.replaced c.self.view_is c.in-Ok.ensures.nodes c.in-Ok.ensures.replaced c.count.ensures.table (λ pages tree has. c.in-Ok.ensures.answer tree has.shape) (λ pages tree has. c.in-Ok.ensures.contents pages tree has) c.forget_file.ensures
