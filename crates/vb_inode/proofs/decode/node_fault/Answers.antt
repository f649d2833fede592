use Rattle.std.proofs.Common.{Option, Result, ap, sym, ◌∙◌}
use Rattle.std.specs.Option.{option_map}
use Rattle.std.specs.Result.{result_err}
use Rattle.vb_block.specs.declared.why.Why.{Why}
use Rattle.vb_inode.specs.declared.node.NodeKind.{NodeKind}
use Rattle.vb_inode.specs.declared.errors.NodeError.TheVariants.{Wrong}
use Rattle.vb_inode.specs.Views.{fields_of}
use Rattle.vb_inode.proofs.PagesRead.{sealed_fault}
use Rattle.vb_inode.proofs.decode.node_fault.Goals as goal

pub returns : goal.returns
returns c =
    sealed_fault c.args.nodes c.args.page.now (fields_of c.held_fields.result) c.held_fields.ensures
    ∙ ap (λ (o : Result NodeKind Why). option_map Wrong (result_err o)) (sym c.checked.ensures)
    ∙ ap (λ (o : Option Why). option_map Wrong o) (sym c.err.ensures.value)
