use Rattle.std.proofs.Common.{◌≡◌, refl, position, [], Some, None, sym, subst, ◌∙◌}
use Rattle.vb_tree.specs.declared.tree.Kind.TheVariants.{File}
use Rattle.vb_tree.specs.declared.tree.TreeEntry.{TreeEntry}
use Rattle.vb_tree.specs.declared.operation.Op.{Op}
use Rattle.vb_tree.specs.declared.operation.Op.TheVariants.{Truncate}
use Rattle.vb_path.specs.Paths.{same_path}
use Rattle.vb_tree.specs.Contents.{truncated_to}
use Rattle.vb_tree.specs.Refusals.{refusal_of}
use Rattle.vb_tree.proofs.Lookups.{with_bytes_at-place}
use Rattle.vb_tree.proofs.Replies.{tree_after-allowed}
use Rattle.vb_tree.proofs.changes.truncate.Goals as goal

pub returns-in_ok-resize_at-in-Ok-clause-tree : goal.returns-in_ok-resize_at-in-Ok-clause-tree
returns-in_ok-resize_at-in-Ok-clause-tree c =
    let tree = c.args.entries.now.items in
    let path = c.args.path.now in
    let op : Op = Truncate path c.args.length in
    let entry : TreeEntry = record { path = []; kind = File; bytes = [] } in
    let found : position (λ e. same_path path e.path) tree ≡ Some c.in-Ok.place =
    subst (λ t. position (λ (e : TreeEntry). same_path path e.path) t ≡ Some c.in-Ok.place) c.deref.ensures.value c.in-Ok.ensures.found in
    let allowed : refusal_of c.args.limits tree op ≡ None =
    subst (λ t. refusal_of c.args.limits t op ≡ None) c.deref.ensures.value c.in-Ok.ensures.refused in
    c.in_ok-resize_at-in-Ok.ensures.ok entry
    ∙ with_bytes_at-place (truncated_to c.args.length) path tree c.in-Ok.place entry found
    ∙ sym (tree_after-allowed c.args.limits tree op allowed refl)
