use Rattle.std.proofs.Common.{◌≡◌, ℕ, List, Option, ap, subst, ◌∙◌, arith}
use Rattle.vb_tree.specs.declared.tree.Limits.{Limits}
use Rattle.vb_index.specs.declared.held.Held.{Held}
use Rattle.vb_index.specs.Indexes.{IndexState}
use Rattle.vb_nodes.specs.Building.{HoldsPlaced}
use Rattle.vb_nodes.proofs.Placing.{placed-begin, placed-end}
use Rattle.vb_nodes.proofs.build.build.Goals as goal

pub loop-depth-init : goal.loop-depth-init
loop-depth-init c = (
  placed-begin c.args.nodes.now c.args.limits.nodes c.in_ok-index.index.nodes c.requires.tree c.requires.as_many (ap (λ (s : IndexState). s.nodes) c.in_ok-index.ensures.nodes),
  ap (λ (s : IndexState). s.limits) c.in_ok-index.ensures.nodes,
)

pub returns : goal.returns
returns c =
    let last : c.loop-depth.depth ≡ 33 = omega arith in
    let all = placed-end c.args.nodes.now c.loop-depth.index.nodes c.requires.tree (subst (λ (depth : ℕ). HoldsPlaced c.args.nodes.now depth 0 c.loop-depth.index.nodes) last c.loop-depth.invariant.0) in
    ap (λ (limits : Limits). let s : IndexState = record { limits = limits; nodes = c.loop-depth.index.nodes } in s) c.loop-depth.invariant.1
    ∙ ap (λ (nodes : List (Option Held)). let s : IndexState = record { limits = c.args.limits; nodes = nodes } in s) all
