use Rattle.std.proofs.Common.{sym, ◌∙◌}
use Rattle.vb_active.proofs.Looking.{unless_folder}
use Rattle.vb_active.proofs.looks.find_folder.Goals as goal

pub returns-clause-refused : goal.returns-clause-refused
returns-clause-refused c = λ tree next shape.
    unless_folder c.args.index.now.nodes tree c.args.path.now c.in_ok-slot.slot _ next c.count.ensures.table shape c.in_ok-slot.ensures.slot (sym c.is_folder.ensures ∙ c.if-is_folder.false) (λ more. c.in_ok-slot.ensures.answer tree more shape)
