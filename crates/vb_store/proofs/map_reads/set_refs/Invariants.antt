use Rattle.std.proofs.Common.{◌≡◌, ◌+◌, ◌≤◌, [], drop, length, unwrap_or}
use Rattle.vb_index.specs.Nodes.{refs_at}
use Rattle.vb_store.specs.Metadata.{with_refs_at}
use Rattle.vb_store.proofs.map_reads.set_refs.Given as goal

abbrev pub invariant-loop-reference : goal.invariant-loop-reference
invariant-loop-reference l = record {
  page : l.page ≡ l.first + l.reference-index;
  nodes : with_refs_at l.index.nodes l.slot l.page (drop l.reference-index l.refs) ≡ with_refs_at l.initial.index.nodes l.slot l.first l.refs;
  limits : l.index.limits ≡ l.initial.index.limits;
  room : l.first + length l.refs ≤ length (unwrap_or (refs_at l.index.nodes l.slot) []);
}
