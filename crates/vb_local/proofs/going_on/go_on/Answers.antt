use Rattle.std.proofs.Common.{sym, ◌∙◌}
use Rattle.vb_steps.specs.Disks.{disk_view}
use Rattle.vb_local.specs.States.{frozen_state, phase_state}
use Rattle.vb_local.specs.Ties.{given_of}
use Rattle.vb_local.proofs.StepsGiven.{can-rest, going-steps, going-tied, last-head, rested-steps, rested-tied}
use Rattle.vb_local.proofs.going_on.go_on.Goals as goal

pub rest-requires-clause-begun : goal.rest-requires-clause-begun
rest-requires-clause-begun g c = can-rest c.args.live.now c.args.view.now (frozen_state c.args.frozen) c.args.commit c.args.standing c.requires.tied

pub returns-then-is_rested-clause-tied : goal.returns-then-is_rested-clause-tied
returns-then-is_rested-clause-tied g c =
    let before = disk_view (g.D.Disk.told c.args.disk.now) (g.D.Disk.seen c.args.disk.now) (g.D.Disk.faults c.args.disk.now) (g.D.Disk.failures_left c.args.disk.now) (g.D.Disk.calls c.args.disk.now) in
    let after = disk_view (g.D.Disk.told c.step_commit-answer.new.disk) (g.D.Disk.seen c.step_commit-answer.new.disk) (g.D.Disk.faults c.step_commit-answer.new.disk) (g.D.Disk.failures_left c.step_commit-answer.new.disk) (g.D.Disk.calls c.step_commit-answer.new.disk) in
    let heads = last-head c.args.view.now c.args.commit c.step_commit-answer.new.commit c.head-head.result (given_of c.args.commit.pages (frozen_state c.args.frozen)) before after c.step_commit-answer.result c.step_commit-answer.ensures.steps c.requires.tied.phase.head c.head-head.ensures.head in
    rested-tied c.args.live.now c.args.view.now (frozen_state c.args.frozen) c.args.commit c.head-head.result c.args.commit.epoch c.args.standing c.rest.new.live c.rest.new.view (phase_state c.rest.result) c.requires.tied heads c.rest.ensures

pub returns-then-is_rested-clause-steps : goal.returns-then-is_rested-clause-steps
returns-then-is_rested-clause-steps g c =
    let before = disk_view (g.D.Disk.told c.args.disk.now) (g.D.Disk.seen c.args.disk.now) (g.D.Disk.faults c.args.disk.now) (g.D.Disk.failures_left c.args.disk.now) (g.D.Disk.calls c.args.disk.now) in
    let after = disk_view (g.D.Disk.told c.step_commit-answer.new.disk) (g.D.Disk.seen c.step_commit-answer.new.disk) (g.D.Disk.faults c.step_commit-answer.new.disk) (g.D.Disk.failures_left c.step_commit-answer.new.disk) (g.D.Disk.calls c.step_commit-answer.new.disk) in
    rested-steps c.args.live.now c.args.view.now (frozen_state c.args.frozen) c.args.commit c.step_commit-answer.new.commit c.head-head.result c.args.standing c.rest.new.live c.rest.new.view (phase_state c.rest.result) before after c.step_commit-answer.result c.requires.tied c.step_commit-answer.ensures.steps (c.is_rested.ensures.yes c.if-is_rested.true) c.head-head.ensures.head c.rest.ensures

pub returns-else-is_rested-clause-tied : goal.returns-else-is_rested-clause-tied
returns-else-is_rested-clause-tied g c =
    let before = disk_view (g.D.Disk.told c.args.disk.now) (g.D.Disk.seen c.args.disk.now) (g.D.Disk.faults c.args.disk.now) (g.D.Disk.failures_left c.args.disk.now) (g.D.Disk.calls c.args.disk.now) in
    let after = disk_view (g.D.Disk.told c.step_commit-answer.new.disk) (g.D.Disk.seen c.step_commit-answer.new.disk) (g.D.Disk.faults c.step_commit-answer.new.disk) (g.D.Disk.failures_left c.step_commit-answer.new.disk) (g.D.Disk.calls c.step_commit-answer.new.disk) in
    going-tied c.args.live.now c.args.view.now (frozen_state c.args.frozen) c.args.commit c.step_commit-answer.new.commit c.args.standing before after c.step_commit-answer.result c.requires.tied c.step_commit-answer.ensures.steps (c.is_rested.ensures.no c.if-is_rested.false)

pub returns-else-is_rested-clause-steps : goal.returns-else-is_rested-clause-steps
returns-else-is_rested-clause-steps g c =
    let before = disk_view (g.D.Disk.told c.args.disk.now) (g.D.Disk.seen c.args.disk.now) (g.D.Disk.faults c.args.disk.now) (g.D.Disk.failures_left c.args.disk.now) (g.D.Disk.calls c.args.disk.now) in
    let after = disk_view (g.D.Disk.told c.step_commit-answer.new.disk) (g.D.Disk.seen c.step_commit-answer.new.disk) (g.D.Disk.faults c.step_commit-answer.new.disk) (g.D.Disk.failures_left c.step_commit-answer.new.disk) (g.D.Disk.calls c.step_commit-answer.new.disk) in
    going-steps c.args.live.now c.args.view.now (frozen_state c.args.frozen) c.args.commit c.step_commit-answer.new.commit c.args.standing before after c.step_commit-answer.result c.requires.tied c.step_commit-answer.ensures.steps (c.is_rested.ensures.no c.if-is_rested.false)
