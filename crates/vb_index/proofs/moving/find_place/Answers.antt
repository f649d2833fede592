use Rattle.std.proofs.Common.{refl, ap, ◌∙◌, sym}
use Rattle.std.proofs.lemmas.Result.{err_from_is_err_and}
use Rattle.vb_tree.specs.declared.reply.Refusal.TheVariants.{Exists}
use Rattle.vb_tree.specs.Refusals.{refuse}
use Rattle.vb_index.specs.Nodes.{child_of}
use Rattle.vb_index.specs.Moves.{blocks}
use Rattle.vb_index.proofs.MoveChecks.{place-checks, place-into, place-outside}
use Rattle.vb_index.proofs.moving.find_place.Goals as goal

pub returns-then-is_into_itself-clause-refused : goal.returns-then-is_into_itself-clause-refused
returns-then-is_into_itself-clause-refused c = λ tree next shape.
    place-into c.args.table.now tree c.args.source.now c.args.target.now c.args.slot _ shape c.requires.at (sym c.is_into_itself.ensures ∙ c.if-is_into_itself.true)

pub returns-in_err-folder-clause-refused : goal.returns-in_err-folder-clause-refused
returns-in_err-folder-clause-refused c = λ tree next shape.
    place-outside c.args.table.now tree c.args.source.now c.args.target.now c.args.slot _ shape c.requires.at (sym c.is_into_itself.ensures ∙ c.if-is_into_itself.false)
    ∙ c.in_err-folder.ensures.refused tree _ shape
    ∙ (let out = err_from_is_err_and c.from_residual.result c.from_residual.ensures.1 in rw (out.1, out.2) refl)

pub returns-then-is_blocked-clause-refused : goal.returns-then-is_blocked-clause-refused
returns-then-is_blocked-clause-refused c = λ tree next shape.
    place-checks c.args.table.now tree c.args.source.now c.args.target.now c.args.slot c.in_ok-folder.folder next c.is_blocked.ensures.table shape c.requires.at c.requires.target_in c.in_ok-folder.ensures.found.0 (λ more. c.in_ok-folder.ensures.refused tree more shape) (sym c.is_into_itself.ensures ∙ c.if-is_into_itself.false)
    ∙ ap (λ n. refuse (blocks c.args.table.now c.args.slot (child_of c.args.table.now c.in_ok-folder.folder n)) Exists next) (sym c.last_of.ensures)
    ∙ ap (λ o. refuse (blocks c.args.table.now c.args.slot o) Exists next) (sym c.child-replaced.ensures)
    ∙ ap (λ v. refuse v Exists next) (sym c.is_blocked.ensures.blocked ∙ c.if-is_blocked.true)

pub returns-clause-refused : goal.returns-clause-refused
returns-clause-refused c = λ tree next shape.
    place-checks c.args.table.now tree c.args.source.now c.args.target.now c.args.slot c.in_ok-folder.folder next c.is_blocked.ensures.table shape c.requires.at c.requires.target_in c.in_ok-folder.ensures.found.0 (λ more. c.in_ok-folder.ensures.refused tree more shape) (sym c.is_into_itself.ensures ∙ c.if-is_into_itself.false)
    ∙ ap (λ n. refuse (blocks c.args.table.now c.args.slot (child_of c.args.table.now c.in_ok-folder.folder n)) Exists next) (sym c.last_of.ensures)
    ∙ ap (λ o. refuse (blocks c.args.table.now c.args.slot o) Exists next) (sym c.child-replaced.ensures)
    ∙ ap (λ v. refuse v Exists next) (sym c.is_blocked.ensures.blocked ∙ c.if-is_blocked.false)
