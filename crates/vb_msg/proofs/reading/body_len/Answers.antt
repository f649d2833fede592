use Rattle.std.proofs.Common.{◌≡◌, ◌∙◌, sym, ap, arith, ℕ, Ok, Result}
use Rattle.vb_msg.specs.declared.frame_error.FrameError.{FrameError}
use Rattle.vb_msg.specs.Frames.{has_length, number_in}
use Rattle.vb_msg.proofs.FrameFronts.{front-long, front-four, front-kind, front-cut, front-whole}
use Rattle.vb_msg.proofs.reading.body_len.Goals as goal

-- a length that was found
abbrev found : ℕ → Result ℕ FrameError
found len = Ok len

pub returns-then-len-gt4096 : goal.returns-then-len-gt4096
returns-then-len-gt4096 c = sym (front-long c.args.bytes.now c.if-bytes-lt4.false (omega arith))

pub returns-then-bytes-lt5 : goal.returns-then-bytes-lt5
returns-then-bytes-lt5 c = sym (front-four c.args.bytes.now c.if-bytes-lt4.false (omega arith) c.if-bytes-lt5.true)

pub returns-then-not-has_length : goal.returns-then-not-has_length
returns-then-not-has_length c =
    sym (front-kind c.args.bytes.now c.if-bytes-lt5.false (omega arith)
    (sym (ap (has_length (number_in c.args.bytes.now)) c.body_length-len.ensures.length) ∙ sym c.has_length.ensures ∙ c.if-not-has_length.true))

pub returns-then-bytes-len : goal.returns-then-bytes-len
returns-then-bytes-len c =
    sym (front-cut c.args.bytes.now c.if-bytes-lt5.false (omega arith)
    (sym (ap (has_length (number_in c.args.bytes.now)) c.body_length-len.ensures.length) ∙ sym c.has_length.ensures ∙ c.if-not-has_length.false)
    (omega arith))

pub returns : goal.returns
returns c =
    ap found c.body_length-len.ensures.length
    ∙ sym (front-whole c.args.bytes.now (omega arith)
    (sym (ap (has_length (number_in c.args.bytes.now)) c.body_length-len.ensures.length) ∙ sym c.has_length.ensures ∙ c.if-not-has_length.false)
    (omega arith))
