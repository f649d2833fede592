use Rattle.std.proofs.Common.{◌≡◌, IfOk, OnOk, sym, ap, ◌∙◌, subst}
use Rattle.vb_tree.specs.declared.operation.Op.TheVariants.{Remove, RemoveDir, Read, List as Listing, Stat}
use Rattle.vb_tree.specs.Operations.{reply_of, tree_after}
use Rattle.vb_tree.proofs.play.play.Goals as goal

pub returns-in-Rename-clause-reply : goal.returns-in-Rename-clause-reply
returns-in-Rename-clause-reply c =
    subst (λ o. IfOk c.rename.result (λ reply. reply ≡ reply_of c.args.limits c.args.entries.now.items o)) (sym c.in-Rename.is) (c.rename.ensures.reply c.args.limits)

pub returns-in-Rename-clause-tree : goal.returns-in-Rename-clause-tree
returns-in-Rename-clause-tree c =
    subst (λ o. OnOk c.rename.result (c.rename.new.entries.items ≡ tree_after c.args.limits c.args.entries.now.items o)) (sym c.in-Rename.is) (c.rename.ensures.tree c.args.limits)

pub returns-in-Remove-clause-reply : goal.returns-in-Remove-clause-reply
returns-in-Remove-clause-reply c =
    c.remove_file.ensures.reply c.args.limits ∙ ap (reply_of c.args.limits c.args.entries.now.items) (ap Remove c.parts-in-Remove.ensures.same ∙ sym c.in-Remove.is)

pub returns-in-Remove-clause-tree : goal.returns-in-Remove-clause-tree
returns-in-Remove-clause-tree c =
    c.remove_file.ensures.tree c.args.limits ∙ ap (tree_after c.args.limits c.args.entries.now.items) (ap Remove c.parts-in-Remove.ensures.same ∙ sym c.in-Remove.is)

pub returns-in-RemoveDir-clause-reply : goal.returns-in-RemoveDir-clause-reply
returns-in-RemoveDir-clause-reply c =
    c.remove_dir.ensures.reply c.args.limits ∙ ap (reply_of c.args.limits c.args.entries.now.items) (ap RemoveDir c.parts-in-RemoveDir.ensures.same ∙ sym c.in-RemoveDir.is)

pub returns-in-RemoveDir-clause-tree : goal.returns-in-RemoveDir-clause-tree
returns-in-RemoveDir-clause-tree c =
    c.remove_dir.ensures.tree c.args.limits ∙ ap (tree_after c.args.limits c.args.entries.now.items) (ap RemoveDir c.parts-in-RemoveDir.ensures.same ∙ sym c.in-RemoveDir.is)

pub returns-in-Read-clause-reply : goal.returns-in-Read-clause-reply
returns-in-Read-clause-reply c =
    let op = ap (λ p. Read p c.in-Read.offset c.in-Read.length) c.parts-in-Read.ensures.same ∙ sym c.in-Read.is in
    subst (λ o. IfOk c.read.result (λ reply. reply ≡ reply_of c.args.limits c.args.entries.now.items o)) op
    (subst (λ t. IfOk c.read.result (λ reply. reply ≡ reply_of c.args.limits t (Read c.parts-in-Read.result.now c.in-Read.offset c.in-Read.length))) c.deref.ensures.value (c.read.ensures c.args.limits))

pub returns-in-List-clause-reply : goal.returns-in-List-clause-reply
returns-in-List-clause-reply c =
    subst (λ o. IfOk c.list.result (λ reply. reply ≡ reply_of c.args.limits c.args.entries.now.items o)) (ap Listing c.parts-in-List.ensures.same ∙ sym c.in-List.is)
    (subst (λ t. IfOk c.list.result (λ reply. reply ≡ reply_of c.args.limits t (Listing c.parts-in-List.result.now))) c.deref-in-List.ensures.value (c.list.ensures c.args.limits))

pub returns-in-Stat-clause-reply : goal.returns-in-Stat-clause-reply
returns-in-Stat-clause-reply c =
    c.stat.ensures c.args.limits
    ∙ ap (λ t. reply_of c.args.limits t (Stat c.parts-in-Stat.result.now)) c.deref-in-Stat.ensures.value
    ∙ ap (reply_of c.args.limits c.args.entries.now.items) (ap Stat c.parts-in-Stat.ensures.same ∙ sym c.in-Stat.is)
