use Rattle.std.proofs.Common.{◌≡◌, Some, None, refl, subst, sym}
use Rattle.vb_active.specs.Files.{IsFileOf}
use Rattle.vb_index.specs.Indexes.{IndexState}
use Rattle.vb_index.specs.Nodes.{slot_at}
use Rattle.vb_local.specs.Trees.{blank_tree}
use Rattle.vb_core.proofs.FileWays.{file-found, out-here, page-here}
use Rattle.vb_core.proofs.naming.page_out.Goals as goal

pub unreachable-requires : goal.unreachable-requires
unreachable-requires c =
    let nodes = c.index-index.result.now.nodes in
    let shape = c.nodes_have_a_tree.ensures.shape nodes c.count-count.ensures.table c.count-count.ensures.rooted in
    let out = c.requires.1 in
    file-found nodes (blank_tree nodes) c.args.path.now out.slot out.len c.in_default.field-0 shape
    (subst (λ (x : IndexState). IsFileOf x.nodes c.args.path.now out.slot out.len) (sym c.index-index.ensures) out.file)
    (c.in_default.ensures.answer (blank_tree nodes) None shape)

pub unreachable-requires-in_default-find_out : goal.unreachable-requires-in_default-find_out
unreachable-requires-in_default-find_out c =
    let at : slot_at c.args.live.now.index.nodes c.args.path.now ≡ Some c.in-Ok.slot = subst (λ (x : IndexState). slot_at x.nodes c.args.path.now ≡ Some c.in-Ok.slot) c.index-index.ensures c.in-Ok.ensures.slot in
    c.in_default-find_out.ensures.none refl c.requires.0 (out-here c.args.live.now c.args.path.now c.in-Ok.slot c.requires.0 c.args.reference at c.requires.1)

pub returns : goal.returns
returns c =
    let at : slot_at c.args.live.now.index.nodes c.args.path.now ≡ Some c.in-Ok.slot = subst (λ (x : IndexState). slot_at x.nodes c.args.path.now ≡ Some c.in-Ok.slot) c.index-index.ensures c.in-Ok.ensures.slot in
    page-here c.args.live.now c.args.path.now c.in-Ok.slot c.requires.0 c.in-Some.page c.args.reference.place c.args.reference.digest c.args.reference at c.requires.1 c.in-Some.ensures.found
