use Rattle.std.proofs.Common.{◌≡◌, Some, None, refl, sym, ◌∙◌, subst}
use Rattle.vb_tree.specs.declared.operation.Op.TheVariants.{RemoveDir}
use Rattle.vb_tree.specs.Refusals.{refusal_of}
use Rattle.vb_tree.proofs.Replies.{reply_of-allowed, reply_of-refused, tree_after-allowed, tree_after-refused}
use Rattle.vb_tree.proofs.changes.remove_dir.Goals as goal

pub returns-in-Err-clause-reply : goal.returns-in-Err-clause-reply
returns-in-Err-clause-reply c = λ limits.
    let op = RemoveDir c.args.path.now in
    let tree = c.args.entries.now.items in
    sym (reply_of-refused limits tree op _ (subst (λ t. refusal_of limits t op ≡ Some c.in-Err.reason) c.deref.ensures.value (c.in-Err.ensures limits)))

pub returns-in-Err-clause-tree : goal.returns-in-Err-clause-tree
returns-in-Err-clause-tree c = λ limits.
    let op = RemoveDir c.args.path.now in
    let tree = c.args.entries.now.items in
    sym (tree_after-refused limits tree op _ (subst (λ t. refusal_of limits t op ≡ Some c.in-Err.reason) c.deref.ensures.value (c.in-Err.ensures limits)))

pub returns-in-Ok-clause-reply : goal.returns-in-Ok-clause-reply
returns-in-Ok-clause-reply c = λ limits.
    let op = RemoveDir c.args.path.now in
    let tree = c.args.entries.now.items in
    sym (reply_of-allowed limits tree op (subst (λ t. refusal_of limits t op ≡ None) c.deref.ensures.value (c.in-Ok.ensures limits)))

pub returns-in-Ok-clause-tree : goal.returns-in-Ok-clause-tree
returns-in-Ok-clause-tree c = λ limits.
    let op = RemoveDir c.args.path.now in
    let tree = c.args.entries.now.items in
    c.remove.ensures
    ∙ sym (tree_after-allowed limits tree op (subst (λ t. refusal_of limits t op ≡ None) c.deref.ensures.value (c.in-Ok.ensures limits)) refl)
