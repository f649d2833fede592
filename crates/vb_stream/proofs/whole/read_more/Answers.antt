use Rattle.std.proofs.Common.{arith}
use Rattle.std.proofs.lemmas.List.{length-take}
use Rattle.vb_stream.proofs.Reading.{taken-got, nothing-left, lost-at-most}
use Rattle.vb_stream.proofs.whole.read_more.Goals as goal

pub returns-in-Ok-extend-clause-more : goal.returns-in-Ok-extend-clause-more
returns-in-Ok-extend-clause-more g c = λ bytes h. (
  rw (c.in-Ok-extend.ensures.ok, c.split_at.ensures.front)
      (taken-got bytes c.args.got.now c.read_some.new.buffer _ _ c.in-Ok.count c.min-room.result h c.in-Ok.ensures.taken c.in-Ok.ensures.count),
  λ none. nothing-left bytes c.args.got.now c.read_some.new.buffer _ _ c.in-Ok.count c.min-room.result h c.in-Ok.ensures.taken
      (omega (arith, c.min-room.ensures, c.len.ensures, c.requires)) (omega (arith, c.min-room.ensures, c.read_some.array_long)) none,
)

pub returns-in-Err-extend-clause-more : goal.returns-in-Err-extend-clause-more
returns-in-Err-extend-clause-more g c = λ bytes h.
    lost-at-most c.args.most bytes c.args.got.now _ _
    (taken-got bytes c.args.got.now c.read_some.new.buffer _ _ c.in-Ok.count c.min-room.result h c.in-Ok.ensures.taken c.in-Ok.ensures.count)
    (omega (arith, length-take c.in-Ok.count c.read_some.new.buffer, c.in-Ok.ensures.count, c.min-room.ensures, c.len.ensures, c.requires))

pub returns-in-Err-clause-more : goal.returns-in-Err-clause-more
returns-in-Err-clause-more g c = λ bytes h. (c.args.got.now, omega (arith, c.requires), (h.0, c.in-Err.ensures.taken h.0.0 h.1))
