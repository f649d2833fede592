use Rattle.std.proofs.Common.{refl, sym, ◌∙◌}
use Rattle.vb_active.proofs.Dues.{due-kept}
use Rattle.vb_active.proofs.OneSlot.{kept-seen}
use Rattle.vb_active.proofs.active.Active.copy_of.Goals as goal

pub returns-in_ok-copy-in-Some-clause-copied : goal.returns-in_ok-copy-in-Some-clause-copied
returns-in_ok-copy-in-Some-clause-copied g c = λ d told backs.
    c.in_ok-copy-in-Some.ensures.same ∙ sym (due-kept c.args.self.now d c.args.slot c.args.page c.in-Some.kept.now (kept-seen c.self.inside.index c.self.inside.table c.args.self.now c.args.slot c.args.page _ c.self.view_is c.in-Some.ensures c.in-Some.kept.now refl))
