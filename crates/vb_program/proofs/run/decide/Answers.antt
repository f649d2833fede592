use Rattle.std.proofs.Common.{[], refl, arith}
use Rattle.vb_program.specs.Run.{most_read}
use Rattle.vb_program.proofs.ScriptsRead.{nothing-left, taken-at-most}
use Rattle.vb_program.proofs.run.decide.Goals as goal

pub returns-in-Ok-clause-read_whole : goal.returns-in-Ok-clause-read_whole
returns-in-Ok-clause-read_whole g c = λ input told whole.
    let got = c.in-Ok.ensures.read input told in
    nothing-left most_read input c.in-Ok.bytes _ got.0 got.1 (rw c.slice.ensures at (c.rehearse.ensures.whole whole))

pub returns-in-Ok-clause-read_at_most : goal.returns-in-Ok-clause-read_at_most
returns-in-Ok-clause-read_at_most g c = λ input told.
    taken-at-most most_read input _ (c.in-Ok.ensures.read input told).1

pub returns-then-not-are_words-clause-read_at_most : goal.returns-then-not-are_words-clause-read_at_most
returns-then-not-are_words-clause-read_at_most g c = λ input told. ([], omega arith, ((input, refl), told))
