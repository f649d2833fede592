use Rattle.std.proofs.Common.{◌∷◌, [], ◌++◌, None, ap, ◌∙◌, arith}
use Rattle.vb_index.proofs.Beginnings.{one_more}
use Rattle.vb_index.proofs.fresh.fresh_nodes.Goals as goal

pub loop-slot-preserved : goal.loop-slot-preserved
loop-slot-preserved c =
    c.in_ok-push.ensures.items ∙ ap (λ nodes. nodes ++ None ∷ []) c.loop-slot.invariant ∙ one_more c.loop-slot._slot (omega arith)
