-- A seat more comes to the one that takes all in.
use Rattle.std.proofs.Common.{rules, ◌≡◌, ◌+◌, ℕ, List, [], ◌∷◌, ◌++◌, length, sym, ap, ◌∙◌, subst, arith, length-append}
use Rattle.vb_hist.specs.declared.entry.Entry.{Entry}
use Rattle.vb_hist.specs.Makers.{entries_of}
use Rattle.vb_hist.proofs.Pushed.{all-push}
use Rattle.vb_turn.specs.declared.seat.TurnSeat.{TurnSeat}
use Rattle.vb_turn.specs.Numbers.{weigh, Made}
use Rattle.vb_turn.specs.Seating.{carried_at}
use Rattle.vb_turn.specs.Turns.{own_of, IsSeatOf, IsFree, AreBack, AreWhole}
use Rattle.vb_turn.proofs.Totals.{total_append, made_parts, all_last}
use Rattle.vb_turn.proofs.Making.{joins}
use Rattle.vb_turn.proofs.turn.Turn.gathered.Goals as goal

pub join_seat-requires : goal.join_seat-requires
join_seat-requires g c = let key = c.args.self.now.table.shared.key in let inv = c.loop-next.invariant in let next = c.in-Some-pop.next in
    let parts : c.loop-next.row.items ≡ c.pop-in-loop-next.new.self.items ++ next ∷ [] = c.in-Some-pop.ensures.items in
    let back = (all_last (λ seat. IsSeatOf c.args.self.now seat × IsFree seat) c.pop-in-loop-next.new.self.items next (subst (AreBack c.args.self.now) parts inv.5)).1 in
    let other = c.into_table_seat-other.ensures in (
      inv.0,
      ap (λ s. s.table_id) other.seat ∙ back.0.0,
      other.carries ∙ ap carried_at back.1,
      search rules,
      joins g.V.Kept.history g.V.Kept.stands g.V.Kept.published_after key _ _ c.loop-next.all.me.0 c.into_table_seat-other.result.me.0 inv.1 (ap (λ s. s.me.0.stage) other.seat ∙ back.1) inv.3
          (let one = ap length other.own in omega arith),
    )

pub loop-next-preserved : goal.loop-next-preserved
loop-next-preserved g c = let inv = c.loop-next.invariant in let next = c.in-Some-pop.next in let rest = c.pop-in-loop-next.new.self.items in
    let parts : c.loop-next.row.items ≡ rest ++ next ∷ [] = c.in-Some-pop.ensures.items in
    let back = all_last (λ seat. IsSeatOf c.args.self.now seat × IsFree seat) rest next (subst (AreBack c.args.self.now) parts inv.5) in
    let these = c.into_table_seat-other.result.me.0.mine in let those = c.loop-next.all.me.0.mine in
    let own : these ≡ (next.number, own_of next) ∷ [] = c.into_table_seat-other.ensures.own in
    let now = c.join_seat.ensures.2 in
    let mine : c.join_seat.new.seat.me.0.mine ≡ these ++ those = ap (λ m. m.0.mine) now in (
      c.join_seat.ensures.0 ∙ inv.0,
      ap (λ m. m.0.stage) now ∙ inv.1,
      ap (λ m. m.1) now ∙ inv.2,
      (let l = length-append these those in let n = ap length mine in omega (arith, inv.3)),
      (let sum = total_append (λ (m : ℕ × List Entry). 1) these those in let one : weigh (λ _. 1) these ≡ 1 + 0 = ap (weigh (λ _. 1)) own in
          let all : weigh (λ _. 1) c.join_seat.new.seat.me.0.mine ≡ weigh (λ _. 1) (these ++ those) = ap (weigh (λ _. 1)) mine in
          let long : length c.loop-next.row.items ≡ length rest + 1 = ap length parts ∙ length-append rest (next ∷ []) in omega (arith, inv.4)),
      back.0,
      λ history made whole.
          let both = made_parts history these those (subst (Made history) mine made) in
          let here : entries_of next.number history ≡ own_of next = (subst (Made history) own both.0).0 in
          inv.6 history both.1 (subst (AreWhole history) (sym parts) (all-push (λ (seat : TurnSeat g.row.V.Denot). entries_of seat.number history ≡ own_of seat) rest next whole here)),
    )

pub returns-clause-whole : goal.returns-clause-whole
returns-clause-whole g c = λ history made. let none_left : c.loop-next.row.items ≡ [] = search rules in c.loop-next.invariant.6 history made (subst (AreWhole history) (sym none_left) tt)
