use Rattle.std.proofs.Common.{◌*◌, ◌+◌, ◌≤◌, arith, ◌∙◌}
use Rattle.vb_active.proofs.Written.{gap-page, patched-page}
use Rattle.vb_active.proofs.active.Active.written_page.Goals as goal

pub returns-then-start-offset-clause-page : goal.returns-then-start-offset-clause-page
returns-then-start-offset-clause-page g c = λ d old told backs has size.
    let gap : 4096 * c.args.page + 4096 ≤ c.args.offset = c.if-start-offset.true in
    let past = c.requires.gap gap in
    c.in_ok-zero.ensures ∙ gap-page c.args.offset c.args.page c.args.bytes.now old c.requires.some gap (omega (arith, past, size))

pub returns-clause-page : goal.returns-clause-page
returns-clause-page g c = λ d old told backs has size.
    patched-page c.args.offset c.args.page c.max-from.result c.min-to.result c.args.bytes.now old c.in_ok-new.new c.set.new.self c.requires.some (omega (arith, c.if-start-offset.false)) c.requires.to c.max-from.ensures c.min-to.ensures (c.in_ok-new.ensures.base d old told backs has size) c.set.ensures.written
