use Rattle.vb_steps.proofs.StepsMade.{steps-failed, steps-made, steps-within}
use Rattle.vb_steps.proofs.driver.step.Goals as goal

pub returns-in-Ok-clause-steps : goal.returns-in-Ok-clause-steps
returns-in-Ok-clause-steps g c =
    steps-made (g.M.Machine.call c.args.machine.now) _ _ (g.D.Disk.told c.args.disk.now) (g.D.Disk.told c.make_call.new.disk) c.in-Ok.got c.go_on.result c.in-Ok.ensures.makes c.go_on.ensures.goes c.go_on.ensures.stays c.go_on.ensures.sure

pub returns-in-Err-clause-steps : goal.returns-in-Err-clause-steps
returns-in-Err-clause-steps g c =
    steps-failed (g.M.Machine.call c.args.machine.now) _ _ (g.D.Disk.told c.args.disk.now) (g.D.Disk.told c.make_call.new.disk) c.in-Err.error c.in-Err.ensures.makes (g.met.M.Machine.stands c.args.machine.now)

pub returns-in-Ok-clause-within : goal.returns-in-Ok-clause-within
returns-in-Ok-clause-within g c =
    steps-within (g.M.Machine.call c.args.machine.now) _ _ (g.D.Disk.told c.args.disk.now) (g.D.Disk.told c.make_call.new.disk) c.go_on.result (λ d told. g.met.D.Disk.valid c.args.disk.now d told) (returns-in-Ok-clause-steps g c)

pub returns-in-Err-clause-within : goal.returns-in-Err-clause-within
returns-in-Err-clause-within g c =
    steps-within (g.M.Machine.call c.args.machine.now) _ _ (g.D.Disk.told c.args.disk.now) (g.D.Disk.told c.make_call.new.disk) _ (λ d told. g.met.D.Disk.valid c.args.disk.now d told) (returns-in-Err-clause-steps g c)
