use Rattle.std.proofs.Common.{sym, subst, ◌≡◌, ◌∙◌, length, List}
use Rattle.vb_disk.specs.States.{DiskState}
use Rattle.vb_frozen.specs.Orders.{order_of}
use Rattle.vb_frozen.specs.Views.{live_page, HasFrozenTree}
use Rattle.vb_index.specs.Contents.{HasTree}
use Rattle.vb_index.specs.Heights.{IsRooted}
use Rattle.vb_index.specs.Indexes.{HasShapeOf, IndexState}
use Rattle.vb_index.specs.Nodes.{IsTable}
use Rattle.vb_local.specs.States.{frozen_state}
use Rattle.vb_local.proofs.Begun.{frozen-is}
use Rattle.vb_local.proofs.freezing.frozen_of.Goals as goal

pub returns : goal.returns
returns c =
    let same : c.index.result.now ≡ c.index-2.result.now = c.index.ensures ∙ sym c.index-2.ensures in
    frozen-is c.args.live.now c.index-2.result.now c.pages.result.now (frozen_state c.in_ok-frozen.frozen) c.index-2.ensures c.pages.ensures.pages
    (subst (λ (i : IndexState). IsTable i.nodes) same c.count-count.ensures.table)
    (subst (λ (i : IndexState). IsRooted i.nodes) same c.count-count.ensures.rooted)
    (subst (λ (i : IndexState). i.limits.nodes ≡ length i.nodes) same c.count-count.ensures.slots)
    c.pages.ensures.files c.in_ok-frozen.ensures.order c.in_ok-frozen.ensures.pages c.in_ok-frozen.ensures.tree
