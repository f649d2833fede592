use Rattle.std.proofs.Common.{ℕ, List, ◌∷◌, [], length, subst, sym, ap, ◌∙◌, arith, length-append}
use Rattle.vb_tree.specs.Contents.{written_over, page_of}
use Rattle.vb_active.specs.Replacing.{ArePagesFrom}
use Rattle.vb_active.proofs.Causes.{looked-on}
use Rattle.vb_active.proofs.Written.{row-push}
use Rattle.vb_active.proofs.active.Active.written_run.Goals as goal

pub loop-page-preserved : goal.loop-page-preserved
loop-page-preserved g c =
    let looked = c.loop-page.invariant.looked in
    let added = c.in_ok-add_page.ensures.ok in
    record {
      count = omega (arith, ap length added, length-append c.loop-page.run.items (c.in_ok-new.new ∷ []), c.loop-page.invariant.count);
      pages = λ d old told backs has size.
          let bytes = written_over c.args.offset c.args.bytes.now old in
          let P : List (List ℕ) → Type 0 = λ run. ArePagesFrom c.args.span.first bytes run in
          subst P (sym added) (row-push c.args.span.first bytes c.in_ok-new.new c.loop-page.run.items (c.loop-page.invariant.pages d old told backs has size)
          (c.in_ok-new.ensures.page d old (looked.told_same ∙ told) backs has size ∙ ap (page_of bytes) (sym c.loop-page.invariant.count)));
      looked = looked-on c.written_page.result (g.D.Disk.told c.args.disk.now) (g.D.Disk.told c.loop-page.disk) (g.D.Disk.told c.written_page.new.disk) (g.D.Disk.seen c.args.disk.now) (g.D.Disk.seen c.loop-page.disk) (g.D.Disk.seen c.written_page.new.disk) (g.D.Disk.faults c.args.disk.now) (g.D.Disk.faults c.loop-page.disk) (g.D.Disk.faults c.written_page.new.disk) (g.D.Disk.failures_left c.args.disk.now) (g.D.Disk.failures_left c.loop-page.disk) (g.D.Disk.failures_left c.written_page.new.disk) looked c.written_page.ensures.told c.written_page.ensures.seen c.written_page.ensures.cause c.written_page.ensures.left;
    }
