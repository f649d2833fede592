use Rattle.std.proofs.Common.{◌≡◌, ◌-◌, take, drop, Option}
use Rattle.vb_tree.specs.declared.reply.Refusal.{Refusal}
use Rattle.vb_tree.specs.Refusals.{refuse_way, refuse_rest}
use Rattle.vb_tree.proofs.checks.check_way.Given as goal

abbrev pub invariant-loop-depth : goal.invariant-loop-depth
invariant-loop-depth l =
    (next : Option Refusal) → refuse_way l.entries l.path next ≡ refuse_rest l.entries (take (l.depth - 1) l.path) (drop (l.depth - 1) l.path) next
