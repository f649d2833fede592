use Rattle.std.proofs.Common.{◌≡◌, drop, All}
use Rattle.vb_plan.specs.Plans.{with_held}
use Rattle.vb_store.specs.NextIndexes.{Fits}
use Rattle.vb_store.proofs.next_index.set_all_refs.Given as goal

abbrev pub invariant-loop-one : goal.invariant-loop-one
invariant-loop-one l = record {
  nodes : with_held l.index.nodes (drop l.one-index l.held) ≡ with_held l.initial.index.nodes l.held;
  limits : l.index.limits ≡ l.initial.index.limits;
  fits : All (Fits l.index.nodes) l.held;
}
