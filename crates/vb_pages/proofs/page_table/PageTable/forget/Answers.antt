use Rattle.std.proofs.Common.{◌≡◌, ◌+◌, length, IsSome, sym, subst}
use Rattle.vb_pages.specs.Tables.{kept_page, Forgets}
use Rattle.vb_pages.proofs.Keys.{fewer-removed, Forgets-updated}
use Rattle.vb_pages.proofs.page_table.PageTable.forget.Goals as goal

pub returns-clause-forgotten : goal.returns-clause-forgotten
returns-clause-forgotten c =
    let new = c.remove.new.self.entries in
    subst (λ old. Forgets old new c.args.slot c.args.page) c.self.view_is (Forgets-updated c.self.inside.entries.entries new c.args.slot c.args.page c.remove.ensures.updates.0)

pub returns-clause-fewer : goal.returns-clause-fewer
returns-clause-fewer c = λ there.
    let old = c.self.inside.entries.entries in
    let new = c.remove.new.self.entries in
    let was : IsSome (kept_page old c.args.slot c.args.page) = subst (λ pages. IsSome (kept_page pages c.args.slot c.args.page)) (sym c.self.view_is) there in
    subst (λ pages. length pages ≡ length new + 1) c.self.view_is (fewer-removed old new c.args.slot c.args.page c.remove.result was c.remove.ensures.value c.remove.ensures.len)
