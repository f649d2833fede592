use Rattle.std.proofs.Common.{refl, sym, subst, Result, Ok, Err}
use Rattle.std.proofs.lemmas.Result.{err_from_is_err_and}
use Rattle.vb_block.specs.declared.why.Why.{Why}
use Rattle.vb_inode.specs.declared.node.Node.{Node}
use Rattle.vb_inode.specs.declared.node.NodeKind.{NodeKind}
use Rattle.vb_inode.specs.declared.errors.NodeError.{NodeError}
use Rattle.vb_inode.specs.declared.errors.NodeError.TheVariants.{Wrong}
use Rattle.vb_inode.specs.Reading.{AnswersBy}
use Rattle.vb_inode.specs.Views.{fields_of}
use Rattle.vb_inode.proofs.Decoded.{maps-within}
use Rattle.vb_inode.proofs.decode.read_sealed.Goals as goal

pub node_of-requires : goal.node_of-requires
node_of-requires c =
    maps-within c.args.nodes (fields_of c.held_fields-fields.result) c.in-Ok.kind c.held_fields-fields.ensures.fits (sym c.in-Ok.ensures)

pub returns-in_err-node_of-in-Ok : goal.returns-in_err-node_of-in-Ok
returns-in_err-node_of-in-Ok c =
    let f = fields_of c.held_fields-fields.result in
    let p = err_from_is_err_and c.from_residual.result c.from_residual.ensures.1 in
    let memory : AnswersBy f (Ok c.in-Ok.kind) c.from_residual.result = subst (AnswersBy f (Ok c.in-Ok.kind)) (sym p.1) p.2 in (
      f,
      c.held_fields-fields.ensures,
      subst (λ (o : Result NodeKind Why). AnswersBy f o c.from_residual.result) c.in-Ok.ensures memory,
    )

pub returns-in-Err : goal.returns-in-Err
returns-in-Err c =
    let f = fields_of c.held_fields-fields.result in
    let answer : Result Node NodeError = Err (Wrong c.in-Err.why) in (
      f,
      c.held_fields-fields.ensures,
      subst (λ (o : Result NodeKind Why). AnswersBy f o answer) c.in-Err.ensures refl,
    )

pub returns-in_ok-node_of-in-Ok : goal.returns-in_ok-node_of-in-Ok
returns-in_ok-node_of-in-Ok c =
    let f = fields_of c.held_fields-fields.result in
    let answer : Result Node NodeError = Ok c.in_ok-node_of-in-Ok.field-0 in (
      f,
      c.held_fields-fields.ensures,
      subst (λ (o : Result NodeKind Why). AnswersBy f o answer) c.in-Ok.ensures c.in_ok-node_of-in-Ok.ensures,
    )
