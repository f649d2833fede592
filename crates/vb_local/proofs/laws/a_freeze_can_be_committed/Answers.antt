use Rattle.vb_local.specs.Trees.{blank_tree}
use Rattle.vb_local.proofs.Frozen.{freeze-follows, frozen-over, view-over}
use Rattle.vb_local.proofs.laws.a_freeze_can_be_committed.Goals as goal

pub returns-clause-frozen : goal.returns-clause-frozen
returns-clause-frozen c v live frozen is over few table rooted slots files pages order =
    frozen-over v live frozen over table rooted files pages order
    (c.a_next_view_can_follow.ensures v.index live.index.nodes (blank_tree live.index.nodes) live.pages (view-over v live over few table rooted slots) is.can.once)

pub returns-clause-follows : goal.returns-clause-follows
returns-clause-follows c live frozen table rooted pages order = freeze-follows live frozen table rooted pages order
