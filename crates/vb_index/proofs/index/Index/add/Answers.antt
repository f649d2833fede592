use Rattle.std.proofs.Common.{◌≡◌, ℕ, false, ◌∷◌, ◌++◌, [], List, set, Option, Some, sym, ap, ◌∙◌, subst}
use Rattle.vb_index.specs.declared.held.Held.{Held}
use Rattle.vb_tree.specs.Trees.{insert_entry}
use Rattle.vb_path.specs.Parts.{IsPart}
use Rattle.vb_tree.specs.Renames.{is_deep}
use Rattle.vb_tree.proofs.Within.{some_parts}
use Rattle.vb_index.specs.Heights.{path_to}
use Rattle.vb_index.proofs.Heights.{last-part, new-shallow}
use Rattle.vb_index.specs.Indexes.{IndexState, HasShapeOf}
use Rattle.vb_index.proofs.Additions.{added}
use Rattle.vb_path.specs.Paths.{IsPath}
use Rattle.vb_index.specs.Contents.{HasTree}
use Rattle.vb_index.proofs.Contents.{added-tree}
use Rattle.vb_index.proofs.index.Index.add.Goals as goal

pub put-requires-clause-valid : goal.put-requires-clause-valid
put-requires-clause-valid c =
    let path : IsPath c.parts-names.result.now = subst IsPath (sym c.parts-names.ensures.same) c.parts-names.ensures.valid in
    subst (λ (h : Held). IsPart h.node.name) (sym c.in_ok-held.ensures) (last-part c.parts-names.result.now path (some_parts c.parts-names.result.now c.in_ok-folder.ensures.found.below_root))

pub put-requires-clause-shallow : goal.put-requires-clause-shallow
put-requires-clause-shallow c =
    let path : IsPath c.parts-names.result.now = subst IsPath (sym c.parts-names.ensures.same) c.parts-names.ensures.valid in
    subst (λ (h : Held). is_deep (path_to c.self.inside.table h.node.parent ++ h.node.name ∷ []) ≡ false) (sym c.in_ok-held.ensures) (new-shallow c.self.inside.table c.parts-names.result.now c.in_ok-folder.folder path c.in_ok-folder.ensures.found)

pub returns-clause-tree : goal.returns-clause-tree
returns-clause-tree c = λ tree shape.
    let nodes : c.args.self.now.nodes ≡ c.self.inside.table = ap (λ (s : IndexState). s.nodes) (sym c.self.view_is) in
    let P : List (Option Held) → Type 0 = λ ns. HasShapeOf ns tree in
    let Q : List (List ℕ) → Type 0 = λ p. HasShapeOf c.put.new.self (insert_entry (record { path = p; kind = c.args.kind; bytes = [] }) tree) in
    subst Q c.parts-names.ensures.same (added c.self.inside.table c.put.new.self tree c.parts-names.result.now c.in_ok-folder.folder c.least_free-slot.result c.args.kind c.in_ok-held.held c.in_ok-folder.ensures.found c.least_free-slot.ensures (subst P nodes shape) c.in_ok-held.ensures
    (c.in_ok-put.ensures.ok ∙ ap (λ k. set c.self.inside.table k (Some c.in_ok-held.held)) (ap (λ (h : Held). h.node.slot) c.in_ok-held.ensures)))

pub returns-clause-contents : goal.returns-clause-contents
returns-clause-contents c = λ pages tree has.
    let nodes : c.args.self.now.nodes ≡ c.self.inside.table = ap (λ (s : IndexState). s.nodes) (sym c.self.view_is) in
    let P : List (Option Held) → Type 0 = λ ns. HasTree ns pages tree in
    let Q : List (List ℕ) → Type 0 = λ p. HasTree c.put.new.self pages (insert_entry (record { path = p; kind = c.args.kind; bytes = [] }) tree) in
    let here : HasTree c.self.inside.table pages tree = subst P nodes has in
    subst Q c.parts-names.ensures.same (added-tree c.self.inside.table c.put.new.self tree c.self.inside.limits c.parts-names.result.now c.in_ok-folder.folder c.least_free-slot.result c.args.kind c.in_ok-held.held pages c.in_ok-folder.ensures.found c.least_free-slot.ensures here (subst IsPath (sym c.parts-names.ensures.same) c.parts-names.ensures.valid) (c.in_ok-folder.ensures.refused tree here.shape) c.in_ok-held.ensures
    (c.in_ok-put.ensures.ok ∙ ap (λ k. set c.self.inside.table k (Some c.in_ok-held.held)) (ap (λ (h : Held). h.node.slot) c.in_ok-held.ensures)))
