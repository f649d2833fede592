use Rattle.std.proofs.Common.{ℕ, List, sym, ◌∙◌, subst}
use Rattle.vb_index.specs.Moves.{MayReplace}
use Rattle.vb_index.proofs.moving.put_in_place.Goals as goal

pub replace-requires-clause-place : goal.replace-requires-clause-place
replace-requires-clause-place c =
    let P : List ℕ → Type 0 = λ name. MayReplace c.args.table.now c.args.slot c.in-Some.other c.args.place.folder name in
    subst P (sym (c.in_ok-name.ensures ∙ c.slice.ensures)) (c.requires.taken c.in-Some.other c.in-Some.is)
