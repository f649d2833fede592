use Rattle.vb_local.specs.States.{frozen_state}
use Rattle.vb_local.proofs.SettledPages.{frozen-settles}
use Rattle.vb_local.proofs.settling.settle_frozen.Goals as goal

pub returns : goal.returns
returns c = frozen-settles c.args.index.now.nodes c.args.key.slot c.args.key.page c.reference_of.result (frozen_state c.args.frozen.now) (frozen_state c.settle.new.self) c.requires.entries c.requires.kept c.reference_of.ensures c.settle.ensures.referred c.settle.ensures.forgotten (c.settle.ensures.fewer c.requires.kept)
