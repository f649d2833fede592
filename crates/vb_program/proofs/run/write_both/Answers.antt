use Rattle.vb_program.proofs.Outputs.{written-first, written-second}
use Rattle.vb_program.proofs.run.write_both.Goals as goal

pub returns-in-Ok-clause-written : goal.returns-in-Ok-clause-written
returns-in-Ok-clause-written g c = λ before told.
    written-second before c.args.first.now c.args.second.now _ _
    (c.write_whole-in-Ok.ensures.written _ (c.in-Ok.ensures.written before told))

pub returns-in-Err-clause-written : goal.returns-in-Err-clause-written
returns-in-Err-clause-written g c = λ before told.
    written-first before c.args.first.now c.args.second.now _ (c.in-Err.ensures.written before told)
