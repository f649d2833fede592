use Rattle.std.proofs.Common.{◌∙◌}
use Rattle.vb_stream.proofs.Writing.{front-more, front-failed}
use Rattle.vb_stream.proofs.whole.write_whole.Goals as goal

pub loop-rest-preserved : goal.loop-rest-preserved
loop-rest-preserved g c = record {
  written = λ before told.
      rw c.split_at.ensures.back (front-more before c.args.text.now c.loop-rest.rest.now _ _ c.in-Ok.count (c.loop-rest.invariant.written before told) c.in-Ok.ensures.taken);
  untold = λ none. c.write.ensures.untold (c.loop-rest.invariant.untold none);
  faults = c.in-Ok.ensures.faults ∙ c.loop-rest.invariant.faults;
  shortages = c.in-Ok.ensures.shortages ∙ c.loop-rest.invariant.shortages;
}

pub returns-in-Err-clause-written : goal.returns-in-Err-clause-written
returns-in-Err-clause-written g c = λ before told.
    front-failed before c.args.text.now c.loop-rest.rest.now _ _ c.in-Err.error (c.loop-rest.invariant.written before told) c.in-Err.ensures.taken
