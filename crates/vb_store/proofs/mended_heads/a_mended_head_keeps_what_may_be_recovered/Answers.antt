use Rattle.vb_store.proofs.HeadsMended.{RecoversOneOf-mended}
use Rattle.vb_store.proofs.RefusedBelow.{metadata-below}
use Rattle.vb_store.proofs.mended_heads.a_mended_head_keeps_what_may_be_recovered.Goals as goal

pub returns-clause-mends : goal.returns-clause-mends
returns-clause-mends c = RecoversOneOf-mended

pub returns-clause-below : goal.returns-clause-below
returns-clause-below c = metadata-below
