use Rattle.std.proofs.Common.{rules}
use Rattle.vb_store.proofs.SmallTrees.{small_two}
use Rattle.vb_store.specs.SmallViews.{IsSmallView}
use Rattle.vb_commit.proofs.two_tests.begin_two.Goals as goal

pub start-requires-clause-can : goal.start-requires-clause-can
start-requires-clause-can c =
    let small : IsSmallView c.args.view.now = record { view = c.is_small.ensures.view; none_begun = c.requires.none_begun; blocks = search (rules, c.is_small.ensures.blocks); nodes = search (rules, c.is_small.ensures.nodes) } in
    small_two c.args.view.now c.page_digest.result c.page_digest-2.result c.in_ok-next.next small (search rules) (search rules) c.in_ok-next.ensures
