use Rattle.vb_local.specs.States.{frozen_state}
use Rattle.vb_local.proofs.SettledPages.{kept-referred, page-settles}
use Rattle.vb_local.proofs.settling.settle_page.Goals as goal

pub settle_live-requires-clause-at : goal.settle_live-requires-clause-at
settle_live-requires-clause-at c = kept-referred c.args.index.now.nodes (frozen_state c.args.frozen.now) c.args.key.slot c.args.key.page c.requires.can.digests c.requires.kept

pub settle_frozen-requires-clause-at : goal.settle_frozen-requires-clause-at
settle_frozen-requires-clause-at c = kept-referred c.args.index.now.nodes (frozen_state c.args.frozen.now) c.args.key.slot c.args.key.page c.requires.can.digests c.requires.kept

pub returns-clause-settles : goal.returns-clause-settles
returns-clause-settles c = page-settles c.args.index.now.nodes c.args.key.slot c.args.key.page c.args.live.now c.settle_live.new.live (frozen_state c.args.frozen.now) (frozen_state c.settle_frozen.new.frozen) c.requires.kept c.settle_live.ensures c.settle_frozen.ensures
