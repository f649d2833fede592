use Rattle.std.proofs.Common.{arith}
use Rattle.vb_sync.proofs.Indexing.{noted_next}
use Rattle.vb_sync.proofs.noting.note_pages.Goals as goal

pub loop-page-preserved : goal.loop-page-preserved
loop-page-preserved c =
    let l = c.loop-page in
    noted_next c.args.pages.now.entries l.pages.entries c.note_page.new.pages.entries c.args.i l.page c.args.digests.now c.index-digests-page.result (omega arith) c.index-digests-page.is l.invariant c.in_ok-note_page.ensures
