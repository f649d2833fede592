use Rattle.std.proofs.Common.{rules}
use Rattle.vb_store.proofs.SmallTrees.{small_two}
use Rattle.vb_store.proofs.next_tests.commit_two.Goals as goal

pub commit-requires-clause-can : goal.commit-requires-clause-can
commit-requires-clause-can c =
    small_two c.args.view.now c.of.result c.of-2.result c.in_ok-next.next c.requires (search rules) (search rules) c.in_ok-next.ensures
