use Rattle.std.proofs.Common.{rules, arith, length, Bor, List, ℕ}
use Rattle.vb_msg.proofs.PathTexts.{too_few, cut_off, taken, not_taken}
use Rattle.vb_msg.proofs.bodies.take_path.Goals as goal

pub returns-then-bytes-lt2 : goal.returns-then-bytes-lt2
returns-then-bytes-lt2 c = too_few c.args.bytes.now c.if-bytes-lt2.true

pub returns-then-rest-len : goal.returns-then-rest-len
returns-then-rest-len c =
    cut_off c.args.bytes.now c.split_u16-len.result.1.now c.split_u16-len.result.0 (search rules) c.split_u16-len.ensures.parts c.if-rest-len.true

pub returns-in-Ok : goal.returns-in-Ok
returns-in-Ok c =
    taken c.in-Ok.path c.args.bytes.now c.split_u16-len.result.1.now c.split_at.result.0.now c.split_at.result.1.now c.split_u16-len.result.0
    c.split_u16-len.ensures.parts (omega arith) c.split_at.ensures.front c.split_at.ensures.back c.in-Ok.ensures

pub returns-in-Err : goal.returns-in-Err
returns-in-Err c =
    not_taken {R = Bor (List ℕ)} (λ rest. rest.now) c.args.bytes.now c.split_u16-len.result.1.now c.split_at.result.0.now c.split_u16-len.result.0 c.in-Err.error (search rules)
    c.split_u16-len.ensures.parts c.split_at.ensures.front c.in-Err.ensures
