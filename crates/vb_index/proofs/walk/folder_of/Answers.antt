use Rattle.std.proofs.Common.{◌≡◌, ◌-◌, [], get_or, refl, sym, ◌∙◌, arith}
use Rattle.std.proofs.lemmas.List.{get_or_default}
use Rattle.std.proofs.lemmas.Result.{err_from_is_err_and}
use Rattle.vb_index.proofs.Shapes.{OnWay-step, OnWay-refused, OnWay-end}
use Rattle.vb_index.proofs.walk.folder_of.Goals as goal

pub loop-depth-preserved : goal.loop-depth-preserved
loop-depth-preserved c =
    let name : get_or c.args.parts.now (c.loop-depth.depth - 1) [] ≡ c.index-parts-depth.result =
    get_or_default c.args.parts.now (c.loop-depth.depth - 1) [] c.index-parts-depth.result (omega arith) ∙ sym c.index-parts-depth.is in
    OnWay-step c.args.table.now c.args.parts.now (c.loop-depth.depth - 1) _ c.loop-depth.folder _ c.index-parts-depth.result c.loop-depth.invariant (omega arith) (omega arith) name c.in_ok-folder.ensures.found.0 c.in_ok-folder.ensures.found.1 c.in_ok-folder.ensures.refused

pub returns-in_err-folder-clause-refused : goal.returns-in_err-folder-clause-refused
returns-in_err-folder-clause-refused c = λ tree next shape.
    let name : get_or c.args.parts.now (c.loop-depth.depth - 1) [] ≡ c.index-parts-depth.result =
    get_or_default c.args.parts.now (c.loop-depth.depth - 1) [] c.index-parts-depth.result (omega arith) ∙ sym c.index-parts-depth.is in
    OnWay-refused c.args.table.now c.args.parts.now (c.loop-depth.depth - 1) c.loop-depth.folder c.index-parts-depth.result _ c.loop-depth.invariant (omega arith) name c.in_err-folder.ensures.refused tree next shape
    ∙ (let out = err_from_is_err_and c.from_residual.result c.from_residual.ensures.1 in rw (out.1, out.2) refl)

pub returns-clause-refused : goal.returns-clause-refused
returns-clause-refused c = λ tree next shape.
    OnWay-end c.args.table.now c.args.parts.now (c.loop-depth.depth - 1) c.loop-depth.folder c.loop-depth.invariant (omega arith) tree next shape
