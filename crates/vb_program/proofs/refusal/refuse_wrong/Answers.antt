use Rattle.std.proofs.Common.{inl, refl}
use Rattle.vb_program.proofs.refusal.refuse_wrong.Goals as goal

pub returns-in-Ok : goal.returns-in-Ok
returns-in-Ok c = inl (refl, rw c.kind_name.ensures at c.in-Ok.ensures)
