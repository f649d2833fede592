use Rattle.std.proofs.Common.{ℕ, List, ◌<◌, ◌+◌, length, arith, sym, ap, ◌∙◌, get_or, set, take}
use Rattle.std.proofs.lemmas.List.{get_or_default}
use Rattle.std.proofs.lemmas.List.Edits.{map_over_more}
use Rattle.vb_space.specs.declared.users.Users.{Users}
use Rattle.vb_space.specs.declared.users.Users.TheVariants.{Neither}
use Rattle.vb_space.specs.Free.{settled}
use Rattle.vb_space.proofs.FreePlaces.{more_free, more_used}
use Rattle.vb_space.proofs.settle.settle.Goals as goal
use Rattle.vb_space.proofs.settle.settle.Goals.{then-is_neither, else-is_neither}

pub loop-i-preserved : goal.loop-i-preserved
loop-i-preserved c =
    let l = c.loop-i in
    let within : l.i < length l.users = omega (arith, c.loop-i-test.true) in
    let was = get_or l.users l.i Neither in
    let users = ap (λ (u : Users). set l.users l.i u) c.settled-settled.ensures ∙ map_over_more settled c.args.users.now l.users l.i was c.loop-i-test.true l.invariant.users (get_or_default l.users l.i Neither was within) in
    elim c.if-is_neither.branch [
      | then-is_neither w ↦
          let listed = more_free c.args.first l.users l.free l.i l.count c.settled-settled.result within (omega arith) l.invariant.listed (sym c.is_neither.ensures ∙ w.if-is_neither.true) in
          record {
            users = users;
            listed = ap (λ (n : ℕ). take n c.if-is_neither.free) w.count-is ∙ ap (λ (f : List ℕ). take (l.count + 1) f) w.free-is ∙ listed;
            count = omega (arith, w.count-is);
          }
      | else-is_neither w ↦
          let listed = more_used c.args.first l.users l.free l.i l.count c.settled-settled.result within l.invariant.listed (sym c.is_neither.ensures ∙ w.if-is_neither.false) in
          record {
            users = users;
            listed = ap (λ (n : ℕ). take n c.if-is_neither.free) w.count-is ∙ ap (λ (f : List ℕ). take l.count f) w.free-is ∙ listed;
            count = omega (arith, w.count-is);
          }
    ]
