-- What an operation that is refused, or isn't, answers and leaves.
use Rattle.std.proofs.Common.{◌≡◌, List, Some, None, ap, ◌∙◌}
use Rattle.vb_tree.specs.declared.tree.Limits.{Limits}
use Rattle.vb_tree.specs.declared.tree.TreeEntry.{TreeEntry}
use Rattle.vb_tree.specs.declared.operation.Op.{Op}
use Rattle.vb_tree.specs.declared.reply.Reply.TheVariants.{Done, Refused}
use Rattle.vb_tree.specs.declared.reply.Refusal.{Refusal}
use Rattle.vb_tree.specs.Refusals.{refusal_of}
use Rattle.vb_tree.specs.Operations.{answer_of, effect_of, reply_unless, reply_of, tree_after, tree_after_reply}

pub reply_of-allowed : (limits : Limits) (tree : List TreeEntry) (op : Op) → refusal_of limits tree op ≡ None → reply_of limits tree op ≡ answer_of tree op
reply_of-allowed limits tree op h = ap (λ r. reply_unless r (answer_of tree op)) h

pub reply_of-refused : (limits : Limits) (tree : List TreeEntry) (op : Op) (reason : Refusal) → refusal_of limits tree op ≡ Some reason → reply_of limits tree op ≡ Refused reason
reply_of-refused limits tree op reason h = ap (λ r. reply_unless r (answer_of tree op)) h

pub tree_after-allowed : (limits : Limits) (tree : List TreeEntry) (op : Op) → refusal_of limits tree op ≡ None → answer_of tree op ≡ Done → tree_after limits tree op ≡ effect_of tree op
tree_after-allowed limits tree op h done =
    ap (λ r. tree_after_reply tree op (reply_unless r (answer_of tree op))) h ∙ ap (tree_after_reply tree op) done

pub tree_after-refused : (limits : Limits) (tree : List TreeEntry) (op : Op) (reason : Refusal) → refusal_of limits tree op ≡ Some reason → tree_after limits tree op ≡ tree
tree_after-refused limits tree op reason h = ap (λ r. tree_after_reply tree op (reply_unless r (answer_of tree op))) h
