use Rattle.std.proofs.Common.{◌≡◌, ◌<◌, is_some, length, refl, sym, ap, ◌∙◌, arith}
use Rattle.std.proofs.lemmas.Result.{err_from_is_err_and}
use Rattle.vb_tree.specs.Trees.{name_of}
use Rattle.vb_index.specs.Nodes.{child_of}
use Rattle.vb_index.proofs.Newness.{missing-root, missing-way, missing-some, missing-none, slot_at-child, slot_at-root, has_parts, last_name}
use Rattle.vb_index.proofs.walk.slot_of.Goals as goal

pub returns-then-is_empty-clause-refused : goal.returns-then-is_empty-clause-refused
returns-then-is_empty-clause-refused c = λ tree next shape. missing-root tree c.args.parts.now next (sym c.is_empty.ensures ∙ c.if-is_empty.true)

pub returns-then-is_empty-clause-found : goal.returns-then-is_empty-clause-found
returns-then-is_empty-clause-found c = rw c.root.ensures.slot (slot_at-root c.args.table.now c.args.parts.now (sym c.is_empty.ensures ∙ c.if-is_empty.true))

pub returns-in_err-folder-clause-refused : goal.returns-in_err-folder-clause-refused
returns-in_err-folder-clause-refused c = λ tree next shape.
    missing-way tree c.args.parts.now _ next (λ more. c.in_err-folder.ensures.refused tree more shape)
    ∙ (let out = err_from_is_err_and c.from_residual.result c.from_residual.ensures.1 in rw (out.1, out.2) refl)

pub returns-in-Some-clause-refused : goal.returns-in-Some-clause-refused
returns-in-Some-clause-refused c = λ tree next shape.
    let above : 0 < length c.args.parts.now = has_parts c.args.parts.now (sym c.is_empty.ensures ∙ c.if-is_empty.false) in
    let name : name_of c.args.parts.now ≡ c.index-parts-last.result = last_name c.args.parts.now _ c.index-parts-last.result c.index-parts-last.is (omega arith) above in
    missing-some c.args.table.now tree c.args.parts.now c.in_ok-folder.folder next shape above c.in_ok-folder.ensures.found.0 (λ more. c.in_ok-folder.ensures.refused tree more shape)
    (ap (λ n. is_some (child_of c.args.table.now c.in_ok-folder.folder n)) name ∙ ap is_some (sym c.in-Some.ensures))

pub returns-in-Some-clause-found : goal.returns-in-Some-clause-found
returns-in-Some-clause-found c =
    let above : 0 < length c.args.parts.now = has_parts c.args.parts.now (sym c.is_empty.ensures ∙ c.if-is_empty.false) in
    let name : name_of c.args.parts.now ≡ c.index-parts-last.result = last_name c.args.parts.now _ c.index-parts-last.result c.index-parts-last.is (omega arith) above in
    slot_at-child c.args.table.now c.args.parts.now c.in_ok-folder.folder above c.in_ok-folder.ensures.found.0
    ∙ ap (child_of c.args.table.now c.in_ok-folder.folder) name ∙ sym c.in-Some.ensures

pub returns-in-None-clause-refused : goal.returns-in-None-clause-refused
returns-in-None-clause-refused c = λ tree next shape.
    let above : 0 < length c.args.parts.now = has_parts c.args.parts.now (sym c.is_empty.ensures ∙ c.if-is_empty.false) in
    let name : name_of c.args.parts.now ≡ c.index-parts-last.result = last_name c.args.parts.now _ c.index-parts-last.result c.index-parts-last.is (omega arith) above in
    missing-none c.args.table.now tree c.args.parts.now c.in_ok-folder.folder next shape above c.in_ok-folder.ensures.found.0 (λ more. c.in_ok-folder.ensures.refused tree more shape)
    (ap (λ n. is_some (child_of c.args.table.now c.in_ok-folder.folder n)) name ∙ ap is_some (sym c.in-None.ensures))
