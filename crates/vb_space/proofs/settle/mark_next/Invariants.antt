use Rattle.std.proofs.Common.{◌≡◌, ℕ, ◌<◌, ◌≤◌, ◌+◌, length, take, get_or, cond, nat_eq}
use Rattle.std.specs.Prelude.{count_by}
use Rattle.std.specs.List.{list_any}
use Rattle.vb_space.specs.declared.users.Users.TheVariants.{Neither, Next}
use Rattle.vb_space.specs.Free.{has_next}
use Rattle.vb_space.proofs.settle.mark_next.Given as goal

abbrev pub invariant-loop-place : goal.invariant-loop-place
invariant-loop-place l = record {
  marked : (k : ℕ) → k < length l.users → get_or l.users k Neither ≡ cond (list_any (λ place. nat_eq place (l.first + k)) (take l.place-index l.used)) Next Neither;
  counted : count_by has_next l.users ≤ l.place-index;
}
