use Rattle.std.proofs.Common.{subst}
use Rattle.vb_pages.specs.Tables.{Puts}
use Rattle.vb_pages.proofs.Keys.{Puts-updated}
use Rattle.vb_pages.proofs.page_table.PageTable.put.Goals as goal

pub returns-clause-ok : goal.returns-clause-ok
returns-clause-ok c =
    let new = c.insert.new.self.entries in
    subst (λ old. Puts old new c.args.slot c.args.page c.args.value) c.self.view_is (Puts-updated c.self.inside.entries.entries new c.args.slot c.args.page (record { page = c.args.value }) c.in_ok-insert.ensures.updates.0)
