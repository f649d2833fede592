use Rattle.std.proofs.Common.{rules, ◌∙◌, Err, IfErr}
use Rattle.vb_journal.specs.Recovering.{MakesCall}
use Rattle.vb_store.specs.Mounts.{MakesNext, MountStandsAfter, due_of_mount, mount_calls_left}
use Rattle.vb_store.proofs.Faultless.{no_cause_of, no_use_of}
use Rattle.vb_store.proofs.MountAnswers.{mount-answers}
use Rattle.vb_journal.specs.RecoveryCalls.{Falls}
use Rattle.vb_store.specs.MountFalls.{most_mount_calls}
use Rattle.vb_store.proofs.MountsFalling.{lost-falls, mount-falls}
use Rattle.vb_store.proofs.MountsKept.{ended-rests, lost-called, lost-crash, lost-error, lost-list, lost-makes, lost-relied}
use Rattle.vb_store.proofs.MountsMade.{mount-again, mount-called, mount-crash, mount-error, mount-list, mount-made-as, mount-makes, mount-relied, mount-seen, no-fault-differs}
use Rattle.vb_store.proofs.KeptBeside.{keeps-lost, keeps-made}
use Rattle.vb_store.proofs.mount.Mount.step.Goals as goal

pub returns-in-Ok-clause-calls : goal.returns-in-Ok-clause-calls
returns-in-Ok-clause-calls g c =
    mount-made-as (λ r. MakesCall (due_of_mount c.args.self.now.phase) (g.D.Disk.told c.args.self.now.disk) (g.D.Disk.told c.step.new.disk) r) c.step.new.machine c.answer.result c.answer.ensures.answer
    (mount-makes c.args.self.now.phase c.step.new.machine (g.D.Disk.told c.args.self.now.disk) (g.D.Disk.told c.step.new.disk) c.in-Ok.field-0 _ c.in-Ok.ensures.steps)

pub returns-in-Ok-clause-error : goal.returns-in-Ok-clause-error
returns-in-Ok-clause-error g c =
    mount-made-as (λ r. IfErr r (MountStandsAfter c.args.self.now.phase c.step.new.machine)) c.step.new.machine c.answer.result c.answer.ensures.answer
    (mount-error c.args.self.now.phase c.step.new.machine c.in-Ok.ensures.steps.went.got c.in-Ok.ensures.steps.went.goes)

pub returns-in-Ok-clause-again : goal.returns-in-Ok-clause-again
returns-in-Ok-clause-again g c error ended =
    c.answer.ensures.answer ∙ mount-again c.args.self.now.phase c.step.new.machine c.in-Ok.ensures.steps.went.got c.in-Ok.ensures.steps.went.goes error ended

pub returns-in-Ok-clause-cause : goal.returns-in-Ok-clause-cause
returns-in-Ok-clause-cause g c = no_cause_of c.answer.result _ _ c.in-Ok.ensures.cause.kept c.answer.ensures.no_fault

pub returns-in-Ok-clause-left : goal.returns-in-Ok-clause-left
returns-in-Ok-clause-left g c = no_use_of _ c.answer.result _ _ c.in-Ok.ensures.left c.answer.ensures.no_fault

pub returns-in-Ok-clause-called : goal.returns-in-Ok-clause-called
returns-in-Ok-clause-called g c = mount-called c.args.self.now.phase (g.D.Disk.calls c.args.self.now.disk) (g.D.Disk.calls c.step.new.disk) c.in-Ok.field-0 c.answer.result c.in-Ok.ensures.called

pub returns-in-Ok-clause-differ : goal.returns-in-Ok-clause-differ
returns-in-Ok-clause-differ g c = no-fault-differs c.answer.result c.answer.ensures.no_fault

pub returns-in-Ok-clause-seen : goal.returns-in-Ok-clause-seen
returns-in-Ok-clause-seen g c = mount-seen c.args.self.now.phase _ _ c.in-Ok.ensures.seen

pub returns-in-Ok-clause-crash : goal.returns-in-Ok-clause-crash
returns-in-Ok-clause-crash g c =
    mount-crash c.args.self.now.phase c.step.new.machine (g.D.Disk.told c.args.self.now.disk) (g.D.Disk.told c.step.new.disk) c.in-Ok.field-0 _ (λ d told. g.met.D.Disk.valid c.args.self.now.disk d told) c.in-Ok.ensures.steps

pub returns-in-Ok-clause-answer : goal.returns-in-Ok-clause-answer
returns-in-Ok-clause-answer g c begun d told is =
    let to = returns-in-Ok-clause-crash g c begun d told is in
    mount-answers c.args.self.now.phase c.step.new.machine begun to.next c.answer.result to.known c.answer.ensures.ahead (returns-in-Ok-clause-error g c)

pub returns-in-Ok-clause-list : goal.returns-in-Ok-clause-list
returns-in-Ok-clause-list g c begun d next told new_told is =
    mount-made-as (λ r. MakesNext (due_of_mount c.args.self.now.phase) (mount_calls_left c.args.self.now.phase begun d) (mount_calls_left c.step.new.machine begun next) r) c.step.new.machine c.answer.result c.answer.ensures.answer
    (mount-list c.args.self.now.phase c.step.new.machine (g.D.Disk.told c.args.self.now.disk) (g.D.Disk.told c.step.new.disk) c.in-Ok.field-0 _ (λ e was. g.met.D.Disk.valid c.args.self.now.disk e was) c.in-Ok.ensures.steps begun d next told new_told is)

pub returns-in-Ok-clause-relied : goal.returns-in-Ok-clause-relied
returns-in-Ok-clause-relied g c = mount-relied c.args.self.now.phase c.step.new.machine c.in-Ok.ensures.steps.went.got (g.D.Disk.seen c.args.self.now.disk) (g.D.Disk.seen c.step.new.disk) c.in-Ok.ensures.steps.went.goes c.in-Ok.ensures.seen c.in-Ok.ensures.blocks

pub returns-in-Ok-clause-falls : goal.returns-in-Ok-clause-falls
returns-in-Ok-clause-falls g c =
    mount-made-as (λ r. Falls (due_of_mount c.args.self.now.phase) (most_mount_calls c.args.self.now.phase) (most_mount_calls c.step.new.machine) r) c.step.new.machine c.answer.result c.answer.ensures.answer
    (mount-falls c.args.self.now.phase c.step.new.machine c.in-Ok.ensures.steps.went.got c.in-Ok.ensures.steps.went.goes)

pub returns-in-Ok-clause-keeps : goal.returns-in-Ok-clause-keeps
returns-in-Ok-clause-keeps g c =
    keeps-made c.args.self.now.phase c.step.new.machine (g.D.Disk.told c.args.self.now.disk) (g.D.Disk.told c.step.new.disk) c.in-Ok.field-0 (λ d told. g.met.D.Disk.valid c.args.self.now.disk d told) (λ d told. g.met.D.Disk.valid c.step.new.disk d told) c.in-Ok.ensures.steps

pub returns-in-Ok-clause-steps : goal.returns-in-Ok-clause-steps
returns-in-Ok-clause-steps g c = record {
  calls = returns-in-Ok-clause-calls g c;
  ahead = c.answer.ensures.ahead;
  error = returns-in-Ok-clause-error g c;
  again = returns-in-Ok-clause-again g c;
  cause = returns-in-Ok-clause-cause g c;
  left = returns-in-Ok-clause-left g c;
  called = returns-in-Ok-clause-called g c;
  differ = returns-in-Ok-clause-differ g c;
  seen = returns-in-Ok-clause-seen g c;
  blocks = c.in-Ok.ensures.blocks;
  relied = returns-in-Ok-clause-relied g c;
  answer = returns-in-Ok-clause-answer g c;
  list = returns-in-Ok-clause-list g c;
  falls = returns-in-Ok-clause-falls g c;
  within = c.in-Ok.ensures.within;
  crash = returns-in-Ok-clause-crash g c;
  keeps = returns-in-Ok-clause-keeps g c;
}

pub returns-in-Err-clause-calls : goal.returns-in-Err-clause-calls
returns-in-Err-clause-calls g c =
    lost-makes c.args.self.now.phase (g.D.Disk.told c.args.self.now.disk) (g.D.Disk.told c.step.new.disk) c.in-Err.error c.from.result c.from.ensures c.in-Err.ensures.steps

pub returns-in-Err-clause-error : goal.returns-in-Err-clause-error
returns-in-Err-clause-error g c = lost-error c.args.self.now.phase c.step.new.machine c.in-Err.error c.from.result c.from.ensures c.in-Err.ensures.steps.stays

pub returns-in-Err-clause-again : goal.returns-in-Err-clause-again
returns-in-Err-clause-again g c error ended = absurd (cc (c.in-Err.ensures.idle (ended-rests c.args.self.now.phase error ended)))

pub returns-in-Err-clause-called : goal.returns-in-Err-clause-called
returns-in-Err-clause-called g c = lost-called c.args.self.now.phase (g.D.Disk.calls c.args.self.now.disk) (g.D.Disk.calls c.step.new.disk) c.in-Err.error c.from.result c.from.ensures c.in-Err.ensures.called

pub returns-in-Err-clause-seen : goal.returns-in-Err-clause-seen
returns-in-Err-clause-seen g c = mount-seen c.args.self.now.phase _ _ c.in-Err.ensures.seen

pub returns-in-Err-clause-crash : goal.returns-in-Err-clause-crash
returns-in-Err-clause-crash g c =
    lost-crash c.args.self.now.phase c.step.new.machine (g.D.Disk.told c.args.self.now.disk) (g.D.Disk.told c.step.new.disk) c.in-Err.error c.in-Err.ensures.steps

pub returns-in-Err-clause-answer : goal.returns-in-Err-clause-answer
returns-in-Err-clause-answer g c begun d told is =
    let to = returns-in-Err-clause-crash g c begun d told is in
    mount-answers c.args.self.now.phase c.step.new.machine begun to.next (Err c.from.result) to.known tt (returns-in-Err-clause-error g c)

pub returns-in-Err-clause-list : goal.returns-in-Err-clause-list
returns-in-Err-clause-list g c = lost-list c.args.self.now.phase c.step.new.machine (g.D.Disk.told c.args.self.now.disk) (g.D.Disk.told c.step.new.disk) c.in-Err.error c.from.result c.from.ensures c.in-Err.ensures.steps

pub returns-in-Err-clause-relied : goal.returns-in-Err-clause-relied
returns-in-Err-clause-relied g c = lost-relied c.args.self.now.phase c.step.new.machine (g.D.Disk.seen c.args.self.now.disk) (g.D.Disk.seen c.step.new.disk) c.in-Err.ensures.steps.stays c.in-Err.ensures.blocks c.in-Err.ensures.seen

pub returns-in-Err-clause-falls : goal.returns-in-Err-clause-falls
returns-in-Err-clause-falls g c = lost-falls c.args.self.now.phase c.step.new.machine c.in-Err.error c.from.result c.from.ensures c.in-Err.ensures.steps.stays

pub returns-in-Err-clause-keeps : goal.returns-in-Err-clause-keeps
returns-in-Err-clause-keeps g c =
    keeps-lost c.args.self.now.phase c.step.new.machine (g.D.Disk.told c.args.self.now.disk) (g.D.Disk.told c.step.new.disk) c.in-Err.error c.in-Err.ensures.steps

pub returns-in-Err-clause-steps : goal.returns-in-Err-clause-steps
returns-in-Err-clause-steps g c = record {
  calls = returns-in-Err-clause-calls g c;
  ahead = tt;
  error = returns-in-Err-clause-error g c;
  again = returns-in-Err-clause-again g c;
  cause = search rules;
  left = search rules;
  called = returns-in-Err-clause-called g c;
  differ = search rules;
  seen = returns-in-Err-clause-seen g c;
  blocks = c.in-Err.ensures.blocks;
  relied = returns-in-Err-clause-relied g c;
  answer = returns-in-Err-clause-answer g c;
  list = returns-in-Err-clause-list g c;
  falls = returns-in-Err-clause-falls g c;
  within = c.in-Err.ensures.within;
  crash = returns-in-Err-clause-crash g c;
  keeps = returns-in-Err-clause-keeps g c;
}
