use Rattle.std.proofs.Common.{◌≡◌, ◌+◌, ◌-◌, List, Option, [], length, sym, ap, ◌∙◌, subst, arith}
use Rattle.vb_index.specs.declared.held.Held.{Held}
use Rattle.vb_index.specs.Indexes.{HasShapeOf}
use Rattle.vb_index.proofs.Additions.{fresh-shape}
use Rattle.vb_index.proofs.Beginnings.{fresh-len}
use Rattle.vb_index.specs.Contents.{HasTree}
use Rattle.vb_index.proofs.Contents.{fresh-tree}
use Rattle.vb_index.proofs.index.Index.new.Goals as goal

pub invariant_of-result : goal.invariant_of-result
invariant_of-result c =
    let few = c.requires.least_nodes in
    let up : c.args.limits.nodes ≡ c.args.limits.nodes - 1 + 1 = omega (arith, few) in
    up ∙ sym (fresh-len (c.args.limits.nodes - 1)) ∙ sym (ap length c.in_ok-new.ensures)

pub returns-clause-tree : goal.returns-clause-tree
returns-clause-tree c =
    let P : List (Option Held) → Type 0 = λ nodes. HasShapeOf nodes [] in
    subst P (sym c.in_ok-new.ensures) (fresh-shape (c.args.limits.nodes - 1))

pub returns-clause-contents : goal.returns-clause-contents
returns-clause-contents c = λ pages.
    let P : List (Option Held) → Type 0 = λ nodes. HasTree nodes pages [] in
    subst P (sym c.in_ok-new.ensures) (fresh-tree (c.args.limits.nodes - 1) pages)
