use Rattle.std.proofs.Common.{rules}
use Rattle.std.specs.List.{flat_map, Contains}
use Rattle.vb_plan.specs.Conditions.{refs_held}
use Rattle.vb_store.proofs.SmallTrees.{small_kept}
use Rattle.vb_store.proofs.next_tests.commit_kept.Goals as goal

pub commit-requires-clause-can : goal.commit-requires-clause-can
commit-requires-clause-can c =
    let there : Contains (flat_map refs_held c.args.view.now.index.nodes) c.in_ok-reference.reference = search rules in
    small_kept c.args.view.now c.args.name c.args.length c.in_ok-reference.reference c.in_ok-next.next c.requires.small (search rules) c.requires.one_page there c.in_ok-next.ensures
