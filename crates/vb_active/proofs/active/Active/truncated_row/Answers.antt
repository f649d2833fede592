use Rattle.std.proofs.Common.{refl, arith}
use Rattle.vb_active.proofs.Carries.{page-of-file}
use Rattle.vb_active.proofs.Cutting.{below-error, pages-cut, pages-grown}
use Rattle.vb_active.proofs.active.Active.truncated_row.Goals as goal

pub returns-then-before-after-clause-pages : goal.returns-then-before-after-clause-pages
returns-then-before-after-clause-pages g c = λ d old told backs has size.
    pages-grown c.args.file.length c.args.len c.pages_of-before.result _ c.in_ok-pages.pages.items old (omega (arith, c.if-before-after.true, c.pages_of-before.ensures, c.pages_of-after.ensures)) c.pages_of-before.ensures c.in_ok-pages.ensures size

pub cut_page-requires-clause-there : goal.cut_page-requires-clause-there
cut_page-requires-clause-there g c =
    page-of-file c.args.self.now.index.nodes c.requires.file.0 c.args.file.slot c.args.file.length _ c.requires.file.1 (omega (arith, c.if-len-file.false))

pub returns-in-Err-clause-error : goal.returns-in-Err-clause-error
returns-in-Err-clause-error g c =
    below-error (g.D.Disk.told c.args.disk.now) c.args.self.now c.args.file.slot _ c.args.len c.args.file.length c.in-Err.error refl (omega (arith, c.if-kept-eq0.false)) (omega (arith, c.if-len-file.false)) c.in-Err.ensures.error

pub returns-clause-pages : goal.returns-clause-pages
returns-clause-pages g c = λ d old told backs has size.
    pages-cut d c.args.self.now c.args.file.slot c.args.file.length c.args.len _ _ c.in_ok-pages-2.pages.items c.in-Ok.page old has size (omega (arith, c.if-len-file.false)) refl refl c.in_ok-pages-2.ensures (c.in-Ok.ensures.page d told backs)
