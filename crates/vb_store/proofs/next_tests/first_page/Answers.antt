use Rattle.std.proofs.Common.{◌≡◌, Some, sym, subst}
use Rattle.std.specs.List.{flat_map, Contains}
use Rattle.vb_index.specs.Indexes.{IndexState}
use Rattle.vb_index.specs.Nodes.{refs_at}
use Rattle.vb_plan.specs.Conditions.{refs_held}
use Rattle.vb_store.proofs.SmallTrees.{page_held}
use Rattle.vb_store.proofs.next_tests.first_page.Goals as goal

pub returns-in-Some : goal.returns-in-Some
returns-in-Some c =
    let nodes = c.index.result.now.nodes in
    let at : refs_at nodes 1 ≡ Some c.in-Some.refs.now = sym c.in-Some.ensures in
    subst (λ (x : IndexState). Contains (flat_map refs_held x.nodes) c.get.result.now) c.index.ensures.index
    (page_held nodes 1 c.in-Some.refs.now 0 c.get.result.now at c.get.ensures)
