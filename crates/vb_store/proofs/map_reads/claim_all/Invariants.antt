use Rattle.std.proofs.Common.{◌≡◌, drop, length}
use Rattle.vb_store.specs.Metadata.{all_claimed_by}
use Rattle.vb_store.proofs.map_reads.claim_all.Given as goal

abbrev pub invariant-loop-reference : goal.invariant-loop-reference
invariant-loop-reference l = record {
  claimed : all_claimed_by l.block l.claims (drop l.reference-index l.refs) ≡ all_claimed_by l.block l.initial.claims l.refs;
  first : l.claims.first ≡ l.initial.claims.first;
  range : length l.claims.taken ≡ length l.initial.claims.taken;
}
