use Rattle.std.proofs.Common.{◌∙◌}
use Rattle.vb_local.proofs.laws.an_operation_relies_on_no_more.Goals as goal

pub returns-clause-live : goal.returns-clause-live
returns-clause-live c told old new op result committed performs over = record {
  limits = performs.limits ∙ over.limits;
  relies = λ slot page reference out. over.relies slot page reference (performs.out slot page reference out);
}

pub returns-clause-nodes : goal.returns-clause-nodes
returns-clause-nodes c told old new op result nodes performs relies slot page reference out = relies slot page reference (performs.out slot page reference out)

pub returns-clause-frozen : goal.returns-clause-frozen
returns-clause-frozen c told old new op result frozen performs follows slot page reference out = follows slot page reference (performs.out slot page reference out)
