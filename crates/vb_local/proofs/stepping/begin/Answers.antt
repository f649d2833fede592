use Rattle.vb_steps.specs.Disks.{disk_view}
use Rattle.vb_local.specs.States.{frozen_state, state_of}
use Rattle.vb_local.proofs.PlansShown.{plan-tied}
use Rattle.vb_local.proofs.StepsGiven.{planned-steps, short-steps}
use Rattle.vb_local.proofs.stepping.begin.Goals as goal

pub go_on-requires-clause-tied : goal.go_on-requires-clause-tied
go_on-requires-clause-tied g c = plan-tied c.args.live.now c.args.view.now c.plan_frozen.new.view (frozen_state c.args.frozen) c.args.epoch c.args.standing c.in-Ok.commit c.requires.tied c.in-Ok.ensures.planned

pub returns-in-Ok-clause-steps : goal.returns-in-Ok-clause-steps
returns-in-Ok-clause-steps g c =
    let before = disk_view (g.D.Disk.told c.args.disk.now) (g.D.Disk.seen c.args.disk.now) (g.D.Disk.faults c.args.disk.now) (g.D.Disk.failures_left c.args.disk.now) (g.D.Disk.calls c.args.disk.now) in
    let after = disk_view (g.D.Disk.told c.go_on.new.disk) (g.D.Disk.seen c.go_on.new.disk) (g.D.Disk.faults c.go_on.new.disk) (g.D.Disk.failures_left c.go_on.new.disk) (g.D.Disk.calls c.go_on.new.disk) in
    planned-steps c.args.live.now c.args.view.now c.plan_frozen.new.view (frozen_state c.args.frozen) c.args.epoch c.args.standing c.in-Ok.commit (state_of c.go_on.new.live c.go_on.new.view c.go_on.result.phase c.args.standing) before after c.go_on.result.answer c.requires.tied c.in-Ok.ensures.planned c.go_on.ensures.steps

pub returns-in-Err-clause-steps : goal.returns-in-Err-clause-steps
returns-in-Err-clause-steps g c =
    let disk = disk_view (g.D.Disk.told c.args.disk.now) (g.D.Disk.seen c.args.disk.now) (g.D.Disk.faults c.args.disk.now) (g.D.Disk.failures_left c.args.disk.now) (g.D.Disk.calls c.args.disk.now) in
    short-steps c.args.live.now c.args.view.now c.plan_frozen.new.view (frozen_state c.args.frozen) c.args.epoch c.args.standing disk c.in-Err.ensures.err (λ d told. g.met.D.Disk.valid c.args.disk.now d told)
