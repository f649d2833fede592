use Rattle.std.proofs.Common.{◌≡◌, ◌∙◌, sym, inr, arith}
use Rattle.vb_msg.proofs.FramesRead.{IsSplit, split-made, split-kind, split-found, split-digest, split-err, other_digest, same_digest}
use Rattle.vb_msg.proofs.reading.read_frame.Goals as goal

pub returns-then-ne : goal.returns-then-ne
returns-then-ne c =
    let split : IsSplit c.args.bytes.now c.split_at.result.0.now c.in-Some.body.now c.split_at-2.result.0.now c.split_at-2.result.1.now c.split_u32.result.0 c.in-Some.number.now c.in-Ok.len =
    split-made _ _ c.split_at.result.1.now _ _ c.split_u32.result.1.now _ _ _ _ (sym c.in-Ok.ensures) c.split_at.ensures.front c.split_at.ensures.back
    c.split_at-2.ensures.front c.split_at-2.ensures.back c.split_u32.ensures.parts c.in-Some.ensures.cases.0 (omega arith) in
    inr (c.in-Ok.len, sym c.in-Ok.ensures, split-digest _ _ _ _ _ _ _ _ split (other_digest c.split_at-2.result.0.now c.as_slice.result.now c.split_at.result.0.now c.ne.result c.ne.ensures c.if-ne.true (c.as_slice.ensures ∙ c.digest-digest.ensures)))

pub message_of-requires : goal.message_of-requires
message_of-requires c =
    let split : IsSplit c.args.bytes.now c.split_at.result.0.now c.in-Some.body.now c.split_at-2.result.0.now c.split_at-2.result.1.now c.split_u32.result.0 c.in-Some.number.now c.in-Ok.len =
    split-made _ _ c.split_at.result.1.now _ _ c.split_u32.result.1.now _ _ _ _ (sym c.in-Ok.ensures) c.split_at.ensures.front c.split_at.ensures.back
    c.split_at-2.ensures.front c.split_at-2.ensures.back c.split_u32.ensures.parts c.in-Some.ensures.cases.0 (omega arith) in
    split-kind _ _ _ _ _ _ _ _ split

pub returns-in-Ok-message_of : goal.returns-in-Ok-message_of
returns-in-Ok-message_of c =
    let split : IsSplit c.args.bytes.now c.split_at.result.0.now c.in-Some.body.now c.split_at-2.result.0.now c.split_at-2.result.1.now c.split_u32.result.0 c.in-Some.number.now c.in-Ok.len =
    split-made _ _ c.split_at.result.1.now _ _ c.split_u32.result.1.now _ _ _ _ (sym c.in-Ok.ensures) c.split_at.ensures.front c.split_at.ensures.back
    c.split_at-2.ensures.front c.split_at-2.ensures.back c.split_u32.ensures.parts c.in-Some.ensures.cases.0 (omega arith) in
    split-found _ _ _ _ _ _ _ _ split c.in-Ok-message_of.msg
    (same_digest c.split_at-2.result.0.now c.as_slice.result.now c.split_at.result.0.now c.ne.result c.ne.ensures c.if-ne.false (c.as_slice.ensures ∙ c.digest-digest.ensures))
    c.in-Ok-message_of.ensures.0 c.in-Ok-message_of.ensures.1

pub returns-in-Err-message_of : goal.returns-in-Err-message_of
returns-in-Err-message_of c =
    let split : IsSplit c.args.bytes.now c.split_at.result.0.now c.in-Some.body.now c.split_at-2.result.0.now c.split_at-2.result.1.now c.split_u32.result.0 c.in-Some.number.now c.in-Ok.len =
    split-made _ _ c.split_at.result.1.now _ _ c.split_u32.result.1.now _ _ _ _ (sym c.in-Ok.ensures) c.split_at.ensures.front c.split_at.ensures.back
    c.split_at-2.ensures.front c.split_at-2.ensures.back c.split_u32.ensures.parts c.in-Some.ensures.cases.0 (omega arith) in
    split-err _ _ _ _ _ _ _ _ split c.in-Err-message_of.error c.in-Err-message_of.ensures
