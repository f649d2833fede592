use Rattle.std.proofs.Common.{◌≡◌, ◌&&◌, nat_lt, ap, ◌∙◌, arith}
use Rattle.vb_index.proofs.fresh.fresh_slots.Goals as goal

pub returns : goal.returns
returns c = λ q.
    let last : c.loop-slot.slot ≡ c.args.slots = omega arith in
    c.loop-slot.invariant q ∙ ap (λ n. nat_lt 0 q && nat_lt q n) last
