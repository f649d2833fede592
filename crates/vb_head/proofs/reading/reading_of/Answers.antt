use Rattle.std.proofs.Common.{sym, ap, ◌∙◌, arith}
use Rattle.vb_head.specs.Heads.{head_read}
use Rattle.vb_head.proofs.HeadsRead.{head_page-from_read, head_read-head_page}
use Rattle.vb_head.proofs.reading.reading_of.Goals as goal

pub returns-clause-spelled : goal.returns-clause-spelled
returns-clause-spelled c h is =
    let same = c.requires.same in
    let found = head_page-from_read c.args.bytes.now h c.requires.page (λ i. omega (arith, c.type_inv.bytes i)) (ap head_read same ∙ sym c.answer_of.ensures ∙ is) in
    (sym same ∙ found.0, found.1)

pub returns-clause-accepted : goal.returns-clause-accepted
returns-clause-accepted c h is page_is = c.answer_of.ensures ∙ ap head_read page_is ∙ head_read-head_page h is
