use Rattle.std.proofs.Common.{◌≡◌, Some, None, refl, sym, ◌∙◌, subst}
use Rattle.vb_tree.specs.declared.operation.Op.TheVariants.{Rename}
use Rattle.vb_tree.specs.Refusals.{refusal_of}
use Rattle.vb_tree.proofs.Replies.{reply_of-allowed, reply_of-refused, tree_after-allowed, tree_after-refused}
use Rattle.vb_tree.proofs.rename.rename.Goals as goal

pub returns-in-Err-clause-reply : goal.returns-in-Err-clause-reply
returns-in-Err-clause-reply c = λ limits.
    let op = Rename c.args.source.now c.args.target.now in
    sym (reply_of-refused limits c.args.entries.now.items op _ (subst (λ t. refusal_of limits t op ≡ Some c.in-Err.reason) c.deref.ensures.value (c.in-Err.ensures.refused limits)))

pub returns-in-Err-clause-tree : goal.returns-in-Err-clause-tree
returns-in-Err-clause-tree c = λ limits.
    let op = Rename c.args.source.now c.args.target.now in
    sym (tree_after-refused limits c.args.entries.now.items op _ (subst (λ t. refusal_of limits t op ≡ Some c.in-Err.reason) c.deref.ensures.value (c.in-Err.ensures.refused limits)))

pub returns-in_ok-move_entries-in-Ok-clause-reply : goal.returns-in_ok-move_entries-in-Ok-clause-reply
returns-in_ok-move_entries-in-Ok-clause-reply c = λ limits.
    let op = Rename c.args.source.now c.args.target.now in
    sym (reply_of-allowed limits c.args.entries.now.items op (subst (λ t. refusal_of limits t op ≡ None) c.deref.ensures.value (c.in-Ok.ensures.refused limits)))

pub returns-in_ok-move_entries-in-Ok-clause-tree : goal.returns-in_ok-move_entries-in-Ok-clause-tree
returns-in_ok-move_entries-in-Ok-clause-tree c = λ limits.
    let op = Rename c.args.source.now c.args.target.now in
    c.in_ok-move_entries-in-Ok.ensures.ok
    ∙ sym (tree_after-allowed limits c.args.entries.now.items op (subst (λ t. refusal_of limits t op ≡ None) c.deref.ensures.value (c.in-Ok.ensures.refused limits)) refl)
