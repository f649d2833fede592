use Rattle.std.proofs.Common.{◌≡◌, ◌+◌, ◌-◌, ◌&&◌, nat_lt, refl, sym, ap, ◌∙◌, arith}
use Rattle.vb_index.proofs.Heights.{rooted-fresh}
use Rattle.vb_index.proofs.Kept.{kept-fresh}
use Rattle.vb_index.proofs.table.Table.new.Goals as goal

pub invariant_of-result : goal.invariant_of-result
invariant_of-result c =
    let up : c.args.slots - 1 + 1 ≡ c.args.slots = omega arith in
    kept-fresh _ (c.args.slots - 1) c.in_ok-nodes.ensures (omega arith) (rooted-fresh (c.args.slots - 1) (omega arith)) (c.in_ok-children.ensures.len ∙ sym up)
    (λ folder name d l. c.in_ok-children.ensures.empty folder name d (omega arith))
    (λ q. c.in_ok-free.ensures q ∙ ap (λ n. nat_lt 0 q && nat_lt q n) (sym up)) refl refl
