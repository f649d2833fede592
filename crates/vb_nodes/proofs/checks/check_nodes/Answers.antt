use Rattle.std.proofs.Common.{length, sym, ◌∙◌, arith}
use Rattle.vb_nodes.proofs.Judging.{fault-first, fault-none-next}
use Rattle.vb_nodes.proofs.checks.check_nodes.Goals as goal

pub returns-in-Some-clause-judged : goal.returns-in-Some-clause-judged
returns-in-Some-clause-judged c =
    fault-first c.args.nodes.now (length c.args.nodes.now) c.loop-slot.slot c.in-Some.why c.loop-slot.invariant.0 (sym c.in_ok-why.ensures.fault ∙ c.in-Some.is) (omega arith)

pub loop-slot-preserved : goal.loop-slot-preserved
loop-slot-preserved c = (
  fault-none-next c.args.nodes.now c.loop-slot.slot c.loop-slot.invariant.0 (sym c.in_ok-why.ensures.fault ∙ c.in_default.is),
  c.in_ok-why.ensures.names,
)
