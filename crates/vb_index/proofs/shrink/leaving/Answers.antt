use Rattle.std.proofs.Common.{refl, sym, ◌∙◌}
use Rattle.std.proofs.lemmas.Result.{err_from_is_err_and}
use Rattle.vb_index.specs.Changes.{refuse_leaving}
use Rattle.vb_index.proofs.Leaving.{removal-below}
use Rattle.vb_index.proofs.Newness.{has_parts}
use Rattle.vb_index.proofs.shrink.leaving.Goals as goal

pub returns-in_err-check_kind-clause-refused : goal.returns-in_err-check_kind-clause-refused
returns-in_err-check_kind-clause-refused c = λ limits tree shape.
    removal-below limits tree c.args.parts.now c.args.kind (sym c.is_empty.ensures ∙ c.if-is_empty.false)
    ∙ c.in_ok-slot.ensures.refused tree (refuse_leaving c.args.kind tree c.args.parts.now) shape
    ∙ c.in_err-check_kind.ensures.refused c.args.parts.now tree shape c.in_ok-slot.ensures.found
    ∙ (let out = err_from_is_err_and c.from_residual-in_err-check_kind.result c.from_residual-in_err-check_kind.ensures.1 in rw (out.1, out.2) refl)

pub returns-clause-refused : goal.returns-clause-refused
returns-clause-refused c = λ limits tree shape.
    removal-below limits tree c.args.parts.now c.args.kind (sym c.is_empty.ensures ∙ c.if-is_empty.false)
    ∙ c.in_ok-slot.ensures.refused tree (refuse_leaving c.args.kind tree c.args.parts.now) shape
    ∙ c.in_ok-check_kind.ensures.refused c.args.parts.now tree shape c.in_ok-slot.ensures.found

pub returns-clause-found : goal.returns-clause-found
returns-clause-found c = record {
  table = c.check_kind.ensures.table;
  below_root = has_parts c.args.parts.now (sym c.is_empty.ensures ∙ c.if-is_empty.false);
  at = c.in_ok-slot.ensures.found;
  bare = c.in_ok-check_kind.ensures.bare;
}
