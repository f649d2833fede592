use Rattle.std.proofs.Common.{refl, ◌∙◌, arith}
use Rattle.vb_stream.proofs.Reading.{got-all, got-end}
use Rattle.vb_stream.proofs.whole.read_front.Goals as goal
use Rattle.vb_stream.proofs.whole.read_front.Goals.{else-loop-buffer-test, then-loop-buffer-test+in-Ok-false}

pub loop-buffer-preserved : goal.loop-buffer-preserved
loop-buffer-preserved g c = record {
  front = λ bytes told. (c.in-Ok-true.ensures.more bytes (c.loop-buffer.invariant.front bytes told)).0;
  untold = λ none. c.read_more.ensures.untold (c.loop-buffer.invariant.untold none);
  short = omega (arith, c.read_more.ensures.short);
  faults = c.in-Ok-true.ensures.faults ∙ c.loop-buffer.invariant.faults;
}

pub returns-clause-read : goal.returns-clause-read
returns-clause-read g c = λ bytes told. elim c.loop-buffer-test.branch [
  | else-loop-buffer-test w ↦
      rw (w.source-is, w.got-is) (got-all c.args.most bytes c.loop-buffer.got _ (c.loop-buffer.invariant.front bytes told)
      (omega (arith, w.loop-buffer-test.false, c.len.ensures, c.loop-buffer.invariant.short)))
  | then-loop-buffer-test+in-Ok-false w ↦
      let end = w.in-Ok-false.ensures.more bytes (c.loop-buffer.invariant.front bytes told) in
      rw (w.source-is, w.got-is) (got-end c.args.most bytes w.read_more.new.got _ end.0 (end.1 w.in-Ok-false.field-0-test) w.read_more.ensures.short)
]

pub loop-buffer-init : goal.loop-buffer-init
loop-buffer-init g c = record {
  front = λ bytes told. rw c.new-got.ensures ((bytes, refl), told);
  untold = λ none. none;
  short = rw c.new-got.ensures (omega arith);
  faults = refl;
}
