use Rattle.std.proofs.Common.{◌≡◌, Some, None, cond, eqb, length, ap, subst, sym, ◌∙◌, rules}
use Rattle.std.specs.Option.{option_or}
use Rattle.std.specs.Ordering.{nat_cmp}
use Rattle.std.specs.BTreeMap.{get}
use Rattle.vb_frozen.specs.Orders.{IsOrder}
use Rattle.vb_frozen.proofs.Places.{order-append}
use Rattle.vb_frozen.proofs.order.add_entry.Goals as goal

pub returns-clause-order : goal.returns-clause-order
returns-clause-order c =
    let long : c.len.result ≡ length c.args.entries.now.items = search rules in
    subst (λ es. IsOrder es c.note.new.places) (sym c.in_ok-push.ensures.items) (order-append c.args.entries.now.items _ c.args.places.now c.note.new.places c.requires.order c.requires.short (λ other. c.in_ok-note.ensures other ∙ ap (λ n. option_or (get nat_cmp c.args.places.now other) (cond (eqb c.args.node.now.slot other) (Some n) None)) long))
