use Rattle.std.proofs.Common.{rules, ◌≡◌, ◌≢◌, refl}
use Rattle.vb_msg.specs.Frames.{frame}
use Rattle.vb_cloud.specs.declared.refusal.CloudRefusal.TheVariants.{Memory}
use Rattle.vb_cloudlog.proofs.Playing.{takes-refused}
use Rattle.vb_cloudlog.proofs.SentFrames.{appends-frame, appends-front, refused-cause, sent-failed, sent-held, sent-ok, sent-refused, sent-untold}
use Rattle.vb_cloudlog.proofs.log_cloud.LogCloud.send_loaded.Goals as goal

pub returns-in-Err-apply : goal.returns-in-Err-apply
returns-in-Err-apply g c =
    let l = c.args.self.now in
    let told = g.F.LogFile.told l.file in
    let other : c.in-Err-apply.refusal ≢ Memory = search rules in
    let both = takes-refused l.cloud c.apply.new.self c.args.msg.now c.in-Err-apply.refusal other c.in-Err-apply.ensures.step in
    record {
      answer = λ k is. (sent-refused told l.cloud k c.args.msg.now c.in-Err-apply.refusal (λ all has on. l.held all has c.requires) both.0 is, is);
      appended = λ all has. tt;
      untold = λ is. is;
      cause = refused-cause (g.F.LogFile.faults l.file) l.own c.raised-self.result c.in-Err-apply.refusal c.raised-self.ensures;
      own = c.raised-self.ensures;
      no_memory = search rules;
      called = refl;
      calls = refl;
      sends = refl;
    }

pub invariant_of-self-in-Ok-append_frame : goal.invariant_of-self-in-Ok-append_frame
invariant_of-self-in-Ok-append_frame g c =
    let l = c.args.self.now in
    let told = g.F.LogFile.told l.file in
    let told' = g.F.LogFile.told c.append_frame.new.file in
    let bytes : c.slice.result.now ≡ frame c.args.msg.now = search rules in
    record {
      sound = c.in-Ok-apply.ensures.sound l.sound;
      held = sent-held told told' l.cloud c.apply.new.self c.args.msg.now (λ all has on. l.held all has c.requires)
          (appends-frame told told' c.slice.result.now (frame c.args.msg.now) bytes c.in-Ok-append_frame.ensures.appends) c.in-Ok-append_frame.ensures.untold c.in-Ok-apply.ensures.step;
    }

pub returns-in-Ok-append_frame-clause-answer : goal.returns-in-Ok-append_frame-clause-answer
returns-in-Ok-append_frame-clause-answer g c = λ k is.
    let l = c.args.self.now in
    let told = g.F.LogFile.told l.file in
    let told' = g.F.LogFile.told c.append_frame.new.file in
    let bytes : c.slice.result.now ≡ frame c.args.msg.now = search rules in
    sent-ok told told' l.cloud c.apply.new.self k c.args.msg.now (λ all has on. l.held all has c.requires)
    (appends-frame told told' c.slice.result.now (frame c.args.msg.now) bytes c.in-Ok-append_frame.ensures.appends) c.in-Ok-apply.ensures.step is

pub returns-in-Ok-append_frame-clause-untold : goal.returns-in-Ok-append_frame-clause-untold
returns-in-Ok-append_frame-clause-untold g c = λ is.
    let l = c.args.self.now in
    sent-untold (g.F.LogFile.told l.file) (g.F.LogFile.told c.append_frame.new.file) l.cloud (λ all has on. l.held all has c.requires) c.in-Ok-append_frame.ensures.untold is

pub returns-in-Err-Failed-clause-answer : goal.returns-in-Err-Failed-clause-answer
returns-in-Err-Failed-clause-answer g c = λ k is.
    let l = c.args.self.now in
    let told = g.F.LogFile.told l.file in
    let told' = g.F.LogFile.told c.append_frame.new.file in
    let bytes : c.slice.result.now ≡ frame c.args.msg.now = search rules in
    sent-failed told told' l.cloud c.apply.new.self k c.args.msg.now (λ all has on. l.held all has c.requires)
    (appends-front told told' c.slice.result.now (frame c.args.msg.now) c.in-Err-Failed.field-0 bytes c.in-Err-Failed.field-0-is c.in-Err-Failed.ensures.appends) c.in-Ok-apply.ensures.step is
