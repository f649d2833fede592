use Rattle.std.proofs.Common.{List, length, ap, arith}
use Rattle.vb_block.specs.declared.digest.Ref.{Ref}
use Rattle.vb_inode.specs.declared.next_view.PageSource.{PageSource}
use Rattle.vb_space.specs.Spaces.{free_places}
use Rattle.vb_plan.proofs.Placing.{length-refs_from}
use Rattle.vb_plan.proofs.nodes.plan_node.Goals as goal

pub plan_maps-requires-clause-few : goal.plan_maps-requires-clause-few
plan_maps-requires-clause-few c =
    omega (arith, ap (λ (rs : List Ref). length rs) c.slice-2.ensures, ap (λ (rs : List Ref). length rs) c.in_ok-refs.ensures.refs, length-refs_from (free_places c.args.space.now) (length c.args.pages.now.items) c.slice.result.now, ap (λ (ss : List PageSource). length ss) c.slice.ensures, c.requires.few)
