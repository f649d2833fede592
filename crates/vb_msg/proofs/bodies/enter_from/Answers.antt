use Rattle.std.proofs.Common.{rules, Bor, List, ℕ}
use Rattle.vb_msg.specs.Frames.{number_of_kind}
use Rattle.vb_msg.proofs.BodiesRead.{enter-err, more_than, no_enter}
use Rattle.vb_msg.proofs.bodies.enter_from.Goals as goal

pub returns-else-is_empty : goal.returns-else-is_empty
returns-else-is_empty c =
    no_enter (number_of_kind c.args.kind) c.args.bytes.now (more_than c.in-Ok.path c.args.bytes.now c.in-Ok.rest.now c.in-Ok.ensures (search rules))

pub returns-in-Err : goal.returns-in-Err
returns-in-Err c = enter-err {R = Bor (List ℕ)} (λ rest. rest.now) (number_of_kind c.args.kind) c.args.bytes.now c.in-Err.error c.in-Err.ensures
