use Rattle.std.proofs.Common.{◌<◌, ℕ, Some, length, ap, ◌∙◌, arith, rules}
use Rattle.vb_helper.specs.Scrubs.{due_in}
use Rattle.vb_helper.proofs.Following.{next_found, none_found}
use Rattle.vb_helper.proofs.following_page.next_page.Goals as goal

pub returns-then-page-len-clause-next : goal.returns-then-page-len-clause-next
returns-then-page-len-clause-next c =
    let l = c.loop-i in
    let e = c.index-order-i.result in
    let due : due_in c.args.treated.now e < length e.refs = search rules in
    ap (λ (n : ℕ). Some (record { entry = l.i; page = n })) c.due_in-page.ensures
    ∙ next_found l.i c.args.treated.now c.args.order.now e c.index-order-i.is l.invariant (omega arith) due

pub returns-clause-next : goal.returns-clause-next
returns-clause-next c =
    none_found c.args.treated.now c.args.order.now (λ k d less. c.loop-i.invariant k d (let past = c.loop-i-test.false in omega (arith, less, past)))
