use Rattle.std.proofs.Common.{Err, refl, subst}
use Rattle.vb_msg.specs.declared.frame_error.FrameError.{FrameError}
use Rattle.vb_msg.specs.Frames.{DecodesTo}
use Rattle.vb_cloudlog.proofs.Openings.{decoded-short, decoded-bad}
use Rattle.vb_cloudlog.proofs.Feeding.{wrong-there}
use Rattle.vb_cloudlog.proofs.play.play.Goals as goal

pub returns-in-Err-Short-clause-played : goal.returns-in-Err-Short-clause-played
returns-in-Err-Short-clause-played c =
    (decoded-short c.args.bytes.now (subst (λ (e : FrameError). DecodesTo c.args.bytes.now (Err e)) c.in-Err-Short.field-0-is c.in-Err-Short.ensures.decoded), refl)

pub returns-in-Err-BadFrame-clause-played : goal.returns-in-Err-BadFrame-clause-played
returns-in-Err-BadFrame-clause-played c =
    (wrong-there c.args.cloud.now c.args.place c.args.bytes.now (decoded-bad c.args.bytes.now (subst (λ (e : FrameError). DecodesTo c.args.bytes.now (Err e)) c.in-Err-BadFrame.field-0-is c.in-Err-BadFrame.ensures.decoded)), refl)
