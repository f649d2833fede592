use Rattle.std.proofs.Common.{◌≡◌, ◌+◌, ◌-◌, ◌<◌, length, take, drop, Some, sym, ap, ◌∙◌, arith}
use Rattle.vb_tree.specs.declared.tree.Kind.TheVariants.{Folder}
use Rattle.vb_tree.specs.Trees.{kind_at}
use Rattle.vb_tree.specs.Refusals.{refuse_step, refuse_rest}
use Rattle.vb_tree.proofs.Ways.{refuse_rest-step}
use Rattle.vb_tree.proofs.checks.check_way.Goals as goal

pub loop-depth-preserved : goal.loop-depth-preserved
loop-depth-preserved c = λ next.
    let tree = c.args.entries.now in
    let path = c.args.path.now in
    let d = c.loop-depth.depth in
    let more : d - 1 + 1 < length path = omega arith in
    let up : d - 1 + 1 ≡ d + 1 - 1 = omega arith in
    let same : d + 1 - 1 ≡ d = omega arith in
    let folder : kind_at (take (d + 1 - 1) path) tree ≡ Some Folder =
    ap (λ n. kind_at (take n path) tree) same ∙ sym c.in-Some-Folder.ensures ∙ ap Some c.in-Some-Folder.field-0-is in
    c.loop-depth.invariant next
    ∙ refuse_rest-step tree path (d - 1) next more
    ∙ ap (λ n. refuse_step (kind_at (take n path) tree) (refuse_rest tree (take n path) (drop n path) next)) up
    ∙ ap (λ k. refuse_step k (refuse_rest tree (take (d + 1 - 1) path) (drop (d + 1 - 1) path) next)) folder
