use Rattle.vb_steps.proofs.StepsMade.{write-failed}
use Rattle.vb_steps.proofs.making.write_page.Goals as goal

pub returns-in-Err-clause-makes : goal.returns-in-Err-clause-makes
returns-in-Err-clause-makes g c = write-failed c.args.place c.args.page.now c.in-Err.error (g.D.Disk.told c.args.disk.now) (g.D.Disk.told c.write.new.self) c.in-Err.ensures.failed c.in-Err.ensures.memory c.in-Err.ensures.untold
