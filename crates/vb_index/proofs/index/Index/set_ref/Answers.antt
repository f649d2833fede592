use Rattle.std.proofs.Common.{◌≡◌, ◌<◌, List, [], length, unwrap_or, Option, sym, ap, ◌∙◌, subst}
use Rattle.std.proofs.lemmas.List.{length-set}
use Rattle.vb_index.specs.declared.held.Held.{Held}
use Rattle.vb_index.specs.Nodes.{refs_at}
use Rattle.vb_index.specs.Indexes.{IndexState, HasShapeOf}
use Rattle.vb_index.proofs.Resizing.{page_in, ref-tree}
use Rattle.vb_index.specs.Contents.{HasTree}
use Rattle.vb_index.proofs.Contents.{ref-contents}
use Rattle.vb_index.proofs.index.Index.set_ref.Goals as goal

pub invariant_of-self : goal.invariant_of-self
invariant_of-self c =
    let P : IndexState → Type 0 = λ s. c.args.page < length (unwrap_or (refs_at s.nodes c.args.slot) []) in
    let file = page_in c.self.inside.table c.args.slot c.args.page (subst P (sym c.self.view_is) c.requires) in
    c.self.invariant ∙ sym (ap length (c.set_ref.ensures.reference file.0 file.1) ∙ length-set c.self.inside.table c.args.slot _)

pub returns-clause-tree : goal.returns-clause-tree
returns-clause-tree c = λ tree shape.
    let P : IndexState → Type 0 = λ s. c.args.page < length (unwrap_or (refs_at s.nodes c.args.slot) []) in
    let file = page_in c.self.inside.table c.args.slot c.args.page (subst P (sym c.self.view_is) c.requires) in
    let nodes : c.args.self.now.nodes ≡ c.self.inside.table = ap (λ (s : IndexState). s.nodes) (sym c.self.view_is) in
    let Q : List (Option Held) → Type 0 = λ ns. HasShapeOf ns tree in
    ref-tree c.self.inside.table c.set_ref.new.self tree c.args.slot c.args.page c.args.reference file.0 c.set_ref.ensures.table file.1 (subst Q nodes shape) (c.set_ref.ensures.reference file.0 file.1)

pub returns-clause-contents : goal.returns-clause-contents
returns-clause-contents c = λ pages tree has.
    let P : IndexState → Type 0 = λ s. c.args.page < length (unwrap_or (refs_at s.nodes c.args.slot) []) in
    let file = page_in c.self.inside.table c.args.slot c.args.page (subst P (sym c.self.view_is) c.requires) in
    let nodes : c.args.self.now.nodes ≡ c.self.inside.table = ap (λ (s : IndexState). s.nodes) (sym c.self.view_is) in
    let Q : List (Option Held) → Type 0 = λ ns. HasTree ns pages tree in
    ref-contents c.self.inside.table c.set_ref.new.self tree c.args.slot c.args.page c.args.reference file.0 pages c.set_ref.ensures.table file.1 (subst Q nodes has) (c.set_ref.ensures.reference file.0 file.1)
