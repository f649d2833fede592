use Rattle.std.proofs.Common.{refl, ◌∙◌}
use Rattle.std.proofs.lemmas.Result.{err_from_is_err_and}
use Rattle.vb_tree.proofs.room.check_truncate.Goals as goal

pub returns-clause-refused : goal.returns-clause-refused
returns-clause-refused c =
    c.in_ok-place.ensures.refused _
    ∙ c.in_ok-check_resize.ensures c.args.path.now c.in_ok-place.ensures.found

pub returns-in_err-check_resize-clause-refused : goal.returns-in_err-check_resize-clause-refused
returns-in_err-check_resize-clause-refused c =
    c.in_ok-place.ensures.refused _
    ∙ c.in_err-check_resize.ensures c.args.path.now c.in_ok-place.ensures.found
    ∙ (let out = err_from_is_err_and c.from_residual-in_err-check_resize.result c.from_residual-in_err-check_resize.ensures.1 in
    rw (out.1, out.2) refl)
