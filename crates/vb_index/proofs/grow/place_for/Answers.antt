use Rattle.std.proofs.Common.{◌≡◌, ◌<◌, is_some, length, sym, ap, ◌∙◌, arith}
use Rattle.vb_tree.specs.Trees.{name_of}
use Rattle.vb_index.specs.Nodes.{child_of}
use Rattle.vb_index.proofs.Newness.{has_parts, last_name, new-exists, new-many, new-allowed}
use Rattle.vb_index.proofs.Tables.{nodes_in-le}
use Rattle.vb_index.proofs.grow.place_for.Goals as goal

pub returns-then-is_some-clause-refused : goal.returns-then-is_some-clause-refused
returns-then-is_some-clause-refused c = λ tree shape.
    let above : 0 < length c.args.parts.now = has_parts c.args.parts.now (sym c.is_empty.ensures ∙ c.if-is_empty.false) in
    let name : name_of c.args.parts.now ≡ c.index-parts-last.result = last_name c.args.parts.now _ c.index-parts-last.result c.index-parts-last.is (omega arith) above in
    new-exists c.args.limits c.args.table.now tree c.args.parts.now c.in_ok-folder.folder shape above c.in_ok-folder.ensures.found.0 (λ next. c.in_ok-folder.ensures.refused tree next shape)
    (ap (λ n. is_some (child_of c.args.table.now c.in_ok-folder.folder n)) name ∙ ap is_some (sym c.child-taken.ensures) ∙ sym c.is_some.ensures ∙ c.if-is_some.true)

pub overflow_add-nodes : goal.overflow_add-nodes
overflow_add-nodes c = omega (arith, nodes_in-le c.args.table.now, c.count-nodes.ensures.table.few, c.count-nodes.ensures.count)

pub returns-then-nodes-limits-clause-refused : goal.returns-then-nodes-limits-clause-refused
returns-then-nodes-limits-clause-refused c = λ tree shape.
    let above : 0 < length c.args.parts.now = has_parts c.args.parts.now (sym c.is_empty.ensures ∙ c.if-is_empty.false) in
    let name : name_of c.args.parts.now ≡ c.index-parts-last.result = last_name c.args.parts.now _ c.index-parts-last.result c.index-parts-last.is (omega arith) above in
    rw c.count-nodes.ensures.count (new-many c.args.limits c.args.table.now tree c.args.parts.now c.in_ok-folder.folder shape above c.in_ok-folder.ensures.found.0 (λ next. c.in_ok-folder.ensures.refused tree next shape)
    (ap (λ n. is_some (child_of c.args.table.now c.in_ok-folder.folder n)) name ∙ ap is_some (sym c.child-taken.ensures) ∙ sym c.is_some.ensures ∙ c.if-is_some.false) (omega arith))

pub returns-clause-refused : goal.returns-clause-refused
returns-clause-refused c = λ tree shape.
    let above : 0 < length c.args.parts.now = has_parts c.args.parts.now (sym c.is_empty.ensures ∙ c.if-is_empty.false) in
    let name : name_of c.args.parts.now ≡ c.index-parts-last.result = last_name c.args.parts.now _ c.index-parts-last.result c.index-parts-last.is (omega arith) above in
    new-allowed c.args.limits c.args.table.now tree c.args.parts.now c.in_ok-folder.folder shape above c.in_ok-folder.ensures.found.0 (λ next. c.in_ok-folder.ensures.refused tree next shape)
    (ap (λ n. is_some (child_of c.args.table.now c.in_ok-folder.folder n)) name ∙ ap is_some (sym c.child-taken.ensures) ∙ sym c.is_some.ensures ∙ c.if-is_some.false) (omega arith)
