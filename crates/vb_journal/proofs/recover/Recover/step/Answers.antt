use Rattle.std.proofs.Common.{rules, ◌∙◌, ap}
use Rattle.vb_journal.specs.Interruptions.{is_synced_in}
use Rattle.vb_journal.proofs.Answering.{ahead-of, answers-of}
use Rattle.vb_journal.proofs.RecoverAnswers.{leaves-made, lends-made, makes-gone, makes-went, noted-made, stage-steps, takes-made}
use Rattle.vb_journal.proofs.RecoverStages.{called-lost, called-made, falls-made, synced-next}
use Rattle.vb_journal.proofs.RecoverSteps.{failed-known, went-known}
use Rattle.vb_steps.proofs.StepsLike.{stays-as}
use Rattle.vb_journal.specs.RecoverViews.{recover_call, view_of}
use Rattle.vb_journal.proofs.recover.Recover.step.Goals as goal

pub returns-in-Ok-clause-calls : goal.returns-in-Ok-clause-calls
returns-in-Ok-clause-calls g c =
    makes-went c.args.self.now.stage (g.D.Disk.told c.args.disk.now) (g.D.Disk.told c.step.new.disk) c.in-Ok.field-0 c.answer.result c.answer.ensures.ends c.in-Ok.ensures.steps

pub returns-in-Ok-clause-ahead : goal.returns-in-Ok-clause-ahead
returns-in-Ok-clause-ahead g c = ahead-of c.step.new.machine.stage c.answer.result c.answer.ensures.answer

pub returns-in-Ok-clause-image : goal.returns-in-Ok-clause-image
returns-in-Ok-clause-image g c =
    lends-made c.args.self.now c.step.new.machine (g.D.Disk.told c.args.disk.now) (g.D.Disk.told c.step.new.disk) c.in-Ok.field-0 _ c.answer.result c.answer.ensures.answer c.in-Ok.ensures.steps

pub returns-in-Ok-clause-images : goal.returns-in-Ok-clause-images
returns-in-Ok-clause-images g c =
    let was = g.D.Disk.told c.args.disk.now in
    let then = g.D.Disk.told c.step.new.disk in
    takes-made c.args.self.now.stage c.step.new.machine.stage was then c.in-Ok.field-0 (Unit {0}) c.answer.result c.answer.ensures.answer
    (stage-steps c.args.self.now c.step.new.machine was then c.in-Ok.field-0 _ c.in-Ok.ensures.steps)

pub returns-in-Ok-clause-crash : goal.returns-in-Ok-clause-crash
returns-in-Ok-clause-crash g c begun d told is =
    let was = g.D.Disk.told c.args.disk.now in
    let then = g.D.Disk.told c.step.new.disk in
    went-known begun d c.args.self.now.stage c.step.new.machine.stage was then c.in-Ok.field-0 (Unit {0}) (g.met.D.Disk.valid c.args.disk.now d told) told
    (stage-steps c.args.self.now c.step.new.machine was then c.in-Ok.field-0 _ c.in-Ok.ensures.steps) is

pub returns-in-Ok-clause-answer : goal.returns-in-Ok-clause-answer
returns-in-Ok-clause-answer g c begun d told is =
    let to = returns-in-Ok-clause-crash g c begun d told is in
    answers-of begun to.next c.step.new.machine.stage c.answer.result c.answer.ensures.answer to.known

pub returns-in-Ok-clause-list : goal.returns-in-Ok-clause-list
returns-in-Ok-clause-list g c begun d told is =
    let was = g.D.Disk.told c.args.disk.now in
    let then = g.D.Disk.told c.step.new.disk in
    leaves-made c.args.self.now.stage c.step.new.machine.stage begun d was then c.in-Ok.field-0 (Unit {0}) c.answer.result c.answer.ensures.ends told
    (stage-steps c.args.self.now c.step.new.machine was then c.in-Ok.field-0 _ c.in-Ok.ensures.steps) is

pub returns-in-Ok-clause-noted : goal.returns-in-Ok-clause-noted
returns-in-Ok-clause-noted g c begun d told is has =
    noted-made c.args.self.now c.step.new.machine begun d (g.D.Disk.told c.args.disk.now) (g.D.Disk.told c.step.new.disk) c.in-Ok.field-0 _ told c.in-Ok.ensures.steps is has

pub returns-in-Ok-clause-order : goal.returns-in-Ok-clause-order
returns-in-Ok-clause-order g c was =
    let went = c.in-Ok.ensures.steps.went in
    ap is_synced_in went.goes.goes.view_is ∙ synced-next c.args.self.now.stage went.got was

pub returns-in-Ok-clause-called : goal.returns-in-Ok-clause-called
returns-in-Ok-clause-called g c =
    called-made c.args.self.now.stage (g.D.Disk.calls c.args.disk.now) (g.D.Disk.calls c.step.new.disk) c.in-Ok.field-0 c.answer.result c.answer.ensures.ends c.in-Ok.ensures.called

pub returns-in-Ok-clause-falls : goal.returns-in-Ok-clause-falls
returns-in-Ok-clause-falls g c =
    let went = c.in-Ok.ensures.steps.went in
    falls-made c.args.self.now.stage went.got (view_of c.step.new.machine.stage) c.answer.result went.goes.goes.view_is went.goes.goes.reads c.answer.ensures.answer c.answer.ensures.ends

pub returns-in-Err-clause-calls : goal.returns-in-Err-clause-calls
returns-in-Err-clause-calls g c =
    makes-gone c.args.self.now.stage (g.D.Disk.told c.args.disk.now) (g.D.Disk.told c.step.new.disk) c.in-Err.error c.from.result c.from.ensures c.in-Err.ensures.steps

pub returns-in-Err-clause-crash : goal.returns-in-Err-clause-crash
returns-in-Err-clause-crash g c begun d told is =
    let was = g.D.Disk.told c.args.disk.now in
    let then = g.D.Disk.told c.step.new.disk in
    failed-known begun d c.args.self.now.stage c.step.new.machine.stage was then c.in-Err.error (λ got. Unit {0}) told
    (stays-as (recover_call c.args.self.now.stage) was then c.in-Err.error c.in-Err.ensures.steps c.in-Err.ensures.steps.stays.same) is

pub returns-in-Ok-clause-steps : goal.returns-in-Ok-clause-steps
returns-in-Ok-clause-steps g c = record {
  calls = returns-in-Ok-clause-calls g c;
  ahead = returns-in-Ok-clause-ahead g c;
  error = search rules;
  again = search rules;
  cause = search rules;
  differ = search rules;
  seen = search rules;
  blocks = search rules;
  image = returns-in-Ok-clause-image g c;
  no_image = search rules;
  images = returns-in-Ok-clause-images g c;
  answer = returns-in-Ok-clause-answer g c;
  list = returns-in-Ok-clause-list g c;
  noted = returns-in-Ok-clause-noted g c;
  slots = search rules;
  order = returns-in-Ok-clause-order g c;
  left = search rules;
  called = returns-in-Ok-clause-called g c;
  within = search rules;
  falls = returns-in-Ok-clause-falls g c;
  crash = returns-in-Ok-clause-crash g c;
}

pub returns-in-Err-clause-called : goal.returns-in-Err-clause-called
returns-in-Err-clause-called g c =
    called-lost c.args.self.now.stage (g.D.Disk.calls c.args.disk.now) (g.D.Disk.calls c.step.new.disk) c.in-Err.error c.from.result c.from.ensures c.in-Err.ensures.called

pub returns-in-Err-clause-steps : goal.returns-in-Err-clause-steps
returns-in-Err-clause-steps g c = record {
  calls = returns-in-Err-clause-calls g c;
  ahead = search rules;
  error = search rules;
  again = search rules;
  cause = search rules;
  differ = search rules;
  seen = search rules;
  blocks = search rules;
  image = search rules;
  no_image = search rules;
  images = search rules;
  answer = search rules;
  list = search rules;
  noted = search rules;
  slots = search rules;
  order = search rules;
  left = search rules;
  called = returns-in-Err-clause-called g c;
  within = search rules;
  falls = search rules;
  crash = returns-in-Err-clause-crash g c;
}
