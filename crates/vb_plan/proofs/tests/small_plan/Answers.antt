use Rattle.std.proofs.Common.{rules, ◌≤◌, List, length, sym, subst, arith}
use Rattle.vb_index.specs.Indexes.{IndexState}
use Rattle.vb_inode.specs.declared.next_view.NextNode.{NextNode}
use Rattle.vb_space.specs.Spaces.{free_places}
use Rattle.vb_space.proofs.FreePlaces.{length-free_from}
use Rattle.vb_plan.specs.Conditions.{CanPlan}
use Rattle.vb_plan.specs.Seen.{basis_of}
use Rattle.vb_plan.proofs.FirstPlan.{can_plan_first, first_view}
use Rattle.vb_plan.proofs.tests.small_plan.Goals as goal

pub of-requires-3-clause-can : goal.of-requires-3-clause-can
of-requires-3-clause-can c =
    let space = c.in_ok-space.space in
    let room : 2 ≤ length (free_places space) = omega (arith, length-free_from space.first space.users, c.free.ensures.count) in
    let at_first = can_plan_first c.of-2.result (free_places space) (search rules) room in
    subst (λ (xs : List NextNode). CanPlan (basis_of c.in_ok-index.index space) xs) (sym c.in_ok-next.ensures)
    (subst (λ (i : IndexState). CanPlan (basis_of i space) (first_view c.of-2.result)) (sym c.in_ok-index.ensures.nodes) at_first)
