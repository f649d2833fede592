use Rattle.std.proofs.Common.{arith}
use Rattle.vb_active.proofs.Carries.{page-of-file}
use Rattle.vb_active.proofs.Written.{base-kept, under-error, untouched-after, untouched-before}
use Rattle.vb_active.proofs.active.Active.base_page.Goals as goal

pub returns-then-start-min-clause-base : goal.returns-then-start-min-clause-base
returns-then-start-min-clause-base g c = λ d old told backs has size.
    base-kept d c.args.self.now c.args.file.slot c.args.page c.args.offset c.args.end old c.copy_of.result has (let low = c.if-start-min.true in omega (arith, low, c.min.ensures, size)) (c.copy_of.ensures.copied d told backs)

pub returns-then-start-min-clause-error : goal.returns-then-start-min-clause-error
returns-then-start-min-clause-error g c =
    under-error (g.D.Disk.told c.args.disk.now) c.args.self.now c.args.file.slot c.args.page c.args.offset _ c.args.file.length c.copy_of.result
    (untouched-before c.args.offset c.args.end c.args.file.length c.args.page (omega (arith, c.if-start-min.true, c.min.ensures)) (omega (arith, c.if-start-min.true, c.min.ensures)) c.requires.from c.requires.order)
    c.copy_of.ensures.error

pub copy_of-requires-then-end-min-clause-there : goal.copy_of-requires-then-end-min-clause-there
copy_of-requires-then-end-min-clause-there g c =
    page-of-file c.args.self.now.index.nodes c.requires.file.0 c.args.file.slot c.args.file.length c.args.page c.requires.file.1 (omega (arith, c.if-end-min.true, c.min-2.ensures, c.requires.to))

pub returns-then-end-min-clause-base : goal.returns-then-end-min-clause-base
returns-then-end-min-clause-base g c = λ d old told backs has size.
    base-kept d c.args.self.now c.args.file.slot c.args.page c.args.offset c.args.end old c.copy_of-then-end-min.result has (omega (arith, c.if-end-min.true, c.min-2.ensures, c.requires.to, size)) (c.copy_of-then-end-min.ensures.copied d told backs)

pub returns-then-end-min-clause-error : goal.returns-then-end-min-clause-error
returns-then-end-min-clause-error g c =
    under-error (g.D.Disk.told c.args.disk.now) c.args.self.now c.args.file.slot c.args.page c.args.offset _ c.args.file.length c.copy_of-then-end-min.result
    (untouched-after c.args.offset c.args.end c.args.file.length c.args.page (omega (arith, c.if-end-min.true, c.min-2.ensures)) (omega (arith, c.if-end-min.true, c.min-2.ensures)) c.requires.to c.requires.order)
    c.copy_of-then-end-min.ensures.error
