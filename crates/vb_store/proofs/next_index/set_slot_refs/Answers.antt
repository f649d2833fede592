use Rattle.std.proofs.Common.{List, ap, ◌∙◌}
use Rattle.vb_block.specs.declared.digest.Ref.{Ref}
use Rattle.vb_store.specs.Metadata.{with_refs_at}
use Rattle.vb_store.proofs.NextIndexed.{slot_written}
use Rattle.vb_store.proofs.next_index.set_slot_refs.Goals as goal

pub returns-clause-nodes : goal.returns-clause-nodes
returns-clause-nodes c =
    let nodes = c.args.index.now.nodes in
    let held = c.args.held.now in
    c.set_refs.ensures.nodes ∙ ap (λ (rs : List Ref). with_refs_at nodes held.node.slot 0 rs) c.slice.ensures ∙ slot_written nodes held c.requires
