use Rattle.std.proofs.Common.{rules}
use Rattle.vb_store.proofs.SmallTrees.{small_fresh}
use Rattle.vb_store.proofs.next_tests.commit_fresh.Goals as goal

pub commit-requires-clause-can : goal.commit-requires-clause-can
commit-requires-clause-can c =
    small_fresh c.args.view.now c.args.name c.args.length c.of.result c.in_ok-next.next c.requires.small (search rules) c.requires.one_page c.in_ok-next.ensures
