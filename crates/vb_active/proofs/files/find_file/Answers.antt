use Rattle.std.proofs.Common.{refl, ◌∙◌}
use Rattle.std.proofs.lemmas.Result.{err_from_is_err_and}
use Rattle.vb_index.proofs.Resizing.{file-none}
use Rattle.vb_active.proofs.files.find_file.Goals as goal

pub returns-in_err-length-clause-refused : goal.returns-in_err-length-clause-refused
returns-in_err-length-clause-refused c = λ tree next shape.
    file-none c.args.index.now.nodes tree c.args.path.now c.in_ok-slot.slot next c.count.ensures.table shape c.in_ok-slot.ensures.slot c.in_err-length.ensures.other.1 (λ more. c.in_ok-slot.ensures.answer tree more shape)
    ∙ (let out = err_from_is_err_and c.from_residual-in_err-length.result c.from_residual-in_err-length.ensures.1 in rw (out.1, out.2, c.in_err-length.ensures.other.0) refl)
