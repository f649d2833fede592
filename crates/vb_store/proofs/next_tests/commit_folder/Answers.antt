use Rattle.std.proofs.Common.{rules}
use Rattle.vb_store.proofs.SmallTrees.{small_folder}
use Rattle.vb_store.proofs.next_tests.commit_folder.Goals as goal

pub commit-requires-clause-can : goal.commit-requires-clause-can
commit-requires-clause-can c = small_folder c.args.view.now c.in_ok-next.next c.requires (search rules) c.in_ok-next.ensures
