use Rattle.std.proofs.Common.{rules, Bor, List, ℕ}
use Rattle.vb_msg.proofs.BodiesRead.{keep-err, more_than, no_keep}
use Rattle.vb_msg.proofs.bodies.keep_from.Goals as goal

pub returns-else-is_empty : goal.returns-else-is_empty
returns-else-is_empty c =
    no_keep c.args.path c.args.bytes.now (more_than c.in-Ok.origin c.args.bytes.now c.in-Ok.rest.now c.in-Ok.ensures (search rules))

pub returns-in-Err : goal.returns-in-Err
returns-in-Err c = keep-err {R = Bor (List ℕ)} (λ rest. rest.now) c.args.path c.args.bytes.now c.in-Err.error c.in-Err.ensures
