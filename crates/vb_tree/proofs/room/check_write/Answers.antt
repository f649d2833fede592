use Rattle.std.proofs.Common.{◌≡◌, length, refl, sym, ap, ◌∙◌}
use Rattle.std.proofs.lemmas.Result.{err_from_is_err_and}
use Rattle.vb_tree.specs.Trees.{length_at}
use Rattle.vb_tree.specs.Contents.{new_length}
use Rattle.vb_tree.specs.Refusals.{refuse_resize}
use Rattle.vb_tree.proofs.Lookups.{length_at-place}
use Rattle.vb_tree.proofs.room.check_write.Goals as goal

pub returns-clause-refused : goal.returns-clause-refused
returns-clause-refused c =
    let new : new_length c.args.offset (length c.args.written.now) (length_at c.args.path.now c.args.entries.now) ≡ c.length_after-new.result =
    ap (new_length c.args.offset (length c.args.written.now)) (length_at-place c.args.path.now c.args.entries.now c.in_ok-place.place c.index-entries-place.result c.in_ok-place.ensures.found ∙ sym c.len-old.ensures)
    ∙ sym c.length_after-new.ensures.length in
    c.in_ok-place.ensures.refused _
    ∙ ap (refuse_resize c.args.limits c.args.entries.now c.args.path.now) new
    ∙ c.in_ok-check_resize.ensures c.args.path.now c.in_ok-place.ensures.found

pub returns-in_err-check_resize-clause-refused : goal.returns-in_err-check_resize-clause-refused
returns-in_err-check_resize-clause-refused c =
    let new : new_length c.args.offset (length c.args.written.now) (length_at c.args.path.now c.args.entries.now) ≡ c.length_after-new.result =
    ap (new_length c.args.offset (length c.args.written.now)) (length_at-place c.args.path.now c.args.entries.now c.in_ok-place.place c.index-entries-place.result c.in_ok-place.ensures.found ∙ sym c.len-old.ensures)
    ∙ sym c.length_after-new.ensures.length in
    c.in_ok-place.ensures.refused _
    ∙ ap (refuse_resize c.args.limits c.args.entries.now c.args.path.now) new
    ∙ c.in_err-check_resize.ensures c.args.path.now c.in_ok-place.ensures.found
    ∙ (let out = err_from_is_err_and c.from_residual-in_err-check_resize.result c.from_residual-in_err-check_resize.ensures.1 in
    rw (out.1, out.2) refl)
