use Rattle.std.proofs.Common.{◌≡◌, ℕ, List, Option, None, sym, ap, subst, arith}
use Rattle.vb_index.specs.declared.held.Held.{Held}
use Rattle.vb_tree.specs.Trees.{without}
use Rattle.vb_index.specs.Indexes.{IndexState, HasShapeOf, KeepsLimits}
use Rattle.vb_index.specs.Nodes.{pages_in}
use Rattle.vb_index.proofs.PageSums.{no_more}
use Rattle.vb_index.proofs.Leaving.{leaves-above, detached}
use Rattle.vb_path.specs.Paths.{IsPath}
use Rattle.vb_index.specs.Contents.{HasTree}
use Rattle.vb_index.proofs.Contents.{detached-tree}
use Rattle.vb_index.proofs.index.Index.detach.Goals as goal

pub take-requires-clause-above_root : goal.take-requires-clause-above_root
take-requires-clause-above_root c = (leaves-above c.self.inside.table c.parts.result.now c.in_ok-slot.slot c.in_ok-slot.ensures.found).0

pub take-requires-clause-there : goal.take-requires-clause-there
take-requires-clause-there c = (leaves-above c.self.inside.table c.parts.result.now c.in_ok-slot.slot c.in_ok-slot.ensures.found).1

pub returns-clause-tree : goal.returns-clause-tree
returns-clause-tree c = λ tree is shape.
    let nodes : c.args.self.now.nodes ≡ c.self.inside.table = ap (λ (s : IndexState). s.nodes) (sym c.self.view_is) in
    let P : List (Option Held) → Type 0 = λ ns. HasShapeOf ns tree in
    let Q : List (List ℕ) → Type 0 = λ p. HasShapeOf c.take.new.self (without p tree) in
    subst Q c.parts.ensures.same (detached c.self.inside.table c.take.new.self tree c.parts.result.now c.in_ok-slot.slot c.in_ok-slot.ensures.found is (subst P nodes shape) c.in_ok-take.ensures.ok)

pub returns-clause-contents : goal.returns-clause-contents
returns-clause-contents c = λ pages tree has.
    let nodes : c.args.self.now.nodes ≡ c.self.inside.table = ap (λ (s : IndexState). s.nodes) (sym c.self.view_is) in
    let P : List (Option Held) → Type 0 = λ ns. HasTree ns pages tree in
    let Q : List (List ℕ) → Type 0 = λ p. HasTree c.take.new.self pages (without p tree) in
    let here : HasTree c.self.inside.table pages tree = subst P nodes has in
    subst Q c.parts.ensures.same (detached-tree c.self.inside.table c.take.new.self tree c.self.inside.limits c.parts.result.now c.in_ok-slot.slot c.args.kind pages c.in_ok-slot.ensures.found here (subst IsPath (sym c.parts.ensures.same) c.parts.ensures.valid) (c.in_ok-slot.ensures.refused c.self.inside.limits tree here.shape) c.in_ok-take.ensures.ok)

pub returns-clause-within : goal.returns-clause-within
returns-clause-within c = λ within.
    let old : KeepsLimits (record { limits = c.self.inside.limits; nodes = c.self.inside.table }) = subst KeepsLimits (sym c.self.view_is) within in
    let fewer = no_more c.self.inside.table c.in_ok-slot.slot None (omega arith) in
    let same = ap pages_in c.in_ok-take.ensures.ok in
    omega (arith, same, fewer, old)
