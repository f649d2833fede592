use Rattle.std.proofs.Common.{◌≡◌, ◌-◌, ◌++◌, List, ℕ, take, drop, OnOk, refl, sym, subst}
use Rattle.vb_active.proofs.Dues.{due-kept}
use Rattle.vb_active.proofs.OneSlot.{kept-seen}
use Rattle.vb_active.proofs.active.Active.add_piece.Goals as goal

pub returns-in-Some-clause-piece : goal.returns-in-Some-clause-piece
returns-in-Some-clause-piece g c = λ d told backs.
    let P : List ℕ → Type 0 = λ page. OnOk c.extend.result (c.extend.new.bytes ≡ c.args.bytes.now ++ take (c.args.to - c.args.from) (drop c.args.from page)) in
    subst P (sym (due-kept c.args.self.now d c.args.slot c.args.page c.in-Some.kept.now (kept-seen c.self.inside.index c.self.inside.table c.args.self.now c.args.slot c.args.page _ c.self.view_is c.in-Some.ensures c.in-Some.kept.now refl))) c.extend.ensures.ok
