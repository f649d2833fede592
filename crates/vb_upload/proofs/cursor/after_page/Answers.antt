use Rattle.std.proofs.Common.{◌≡◌, arith}
use Rattle.vb_tree.specs.Trees.{data_pages_of}
use Rattle.vb_upload.proofs.Behind.{behind-page, behind-seal, some-entry}
use Rattle.vb_upload.proofs.cursor.after_page.Goals as goal

pub returns-then-page-pages_of : goal.returns-then-page-pages_of
returns-then-page-pages_of c =
    let order = c.args.frozen.now.order in
    let e = some-entry order c.args.i c.requires.stands.there in
    let pages : c.pages_of.result ≡ data_pages_of e.0.len = c.pages_of.ensures.pages e.0 e.1 in
    behind-page order c.args.i c.args.page e.0 c.requires.stands e.1 (omega arith)

pub returns-else-page-pages_of : goal.returns-else-page-pages_of
returns-else-page-pages_of c =
    let order = c.args.frozen.now.order in
    let e = some-entry order c.args.i c.requires.stands.there in
    let pages : c.pages_of.result ≡ data_pages_of e.0.len = c.pages_of.ensures.pages e.0 e.1 in
    behind-seal order c.args.i c.args.page e.0 c.requires.stands e.1 (omega arith)
