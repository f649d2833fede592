use Rattle.std.proofs.Common.{◌≡◌, Ok, rules, sym, subst}
use Rattle.std.specs.Option.{option_map}
use Rattle.vb_journal.specs.declared.commit_stage.CommitStep.TheVariants.{Idle}
use Rattle.vb_local.specs.declared.phase.Phase.{Phase}
use Rattle.vb_local.specs.declared.phase.Phase.TheVariants as phases
use Rattle.vb_local.specs.Events.{StepsOn}
use Rattle.vb_local.specs.States.{frozen_state, state_of}
use Rattle.vb_steps.specs.Disks.{disk_view}
use Rattle.vb_local.proofs.StepsGiven.{rest-steps}
use Rattle.vb_local.proofs.stepping.step_phase.Goals as goal

pub returns-in-Rests-clause-steps : goal.returns-in-Rests-clause-steps
returns-in-Rests-clause-steps g c =
    let disk = disk_view (g.D.Disk.told c.args.disk.now) (g.D.Disk.seen c.args.disk.now) (g.D.Disk.faults c.args.disk.now) (g.D.Disk.failures_left c.args.disk.now) (g.D.Disk.calls c.args.disk.now) in
    let is : c.args.phase ≡ phases.Rests c.in-Rests.frozen = search rules in
    subst (λ (p : Phase). StepsOn (state_of c.args.live.now c.args.view.now p c.args.standing) (state_of c.args.live.now c.args.view.now (phases.Rests c.in-Rests.frozen) c.args.standing) disk disk (Ok Idle)) (sym is)
    (rest-steps c.args.live.now c.args.view.now (option_map frozen_state c.in-Rests.frozen) c.args.standing disk (λ d told. g.met.D.Disk.valid c.args.disk.now d told))
