use Rattle.std.proofs.Common.{sym, subst, ◌∙◌}
use Rattle.std.specs.Prelude.{Result}
use Rattle.vb_pages.specs.declared.page_error.PageError.{PageError}
use Rattle.vb_tree.specs.declared.reply.Reply.{Reply}
use Rattle.vb_active.specs.Performs.{Performs, making_of}
use Rattle.vb_active.specs.Views.{ActiveState}
use Rattle.vb_active.proofs.Changed.{made-performs, unmade-performs}
use Rattle.vb_active.proofs.active.Active.make.Goals as goal
use Rattle.vb_active.proofs.active.Active.make.Goals.{in-Ok, in-Err}

pub returns-clause-performs : goal.returns-clause-performs
returns-clause-performs c = λ told.
    let old = c.self.inside in
    let new : ActiveState = record { index = c.add.new.self; pages = old.table } in
    let P : Result Reply PageError → Type 0 = λ r. Performs told c.args.self.now new (making_of c.args.kind c.args.path.now) r in
    elim c.match-add.branch [
      | in-Ok w ↦ subst P (sym w.result-is) (made-performs told c.args.self.now old.index c.add.new.self old.table c.args.kind c.args.path.now w.in-Ok.field-0 w.in-Ok.ensures.nodes.0 c.self.view_is w.in-Ok.ensures.nodes.2 w.count.ensures.table w.in-Ok.ensures.answer w.in-Ok.ensures.contents)
      | in-Err w ↦ (unmade-performs told c.args.self.now old.index c.add.new.self old.table c.args.kind c.args.path.now w.in-Err.error c.match-add.result c.self.view_is w.in-Err.ensures.err (w.result-is ∙ w.unchanged.ensures) w.in-Err.ensures.answer)
    ]
