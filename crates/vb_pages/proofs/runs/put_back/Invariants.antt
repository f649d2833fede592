-- what is left to be put back over what stands gives what is to stand at the end
use Rattle.std.proofs.Common.{◌≡◌, ◌+◌, ◌^◌, ◌≤◌, length, IsSome}
use Rattle.std.specs.Option.{unwrap_or}
use Rattle.vb_pages.specs.declared.kept.PageKey.{PageKey}
use Rattle.vb_pages.specs.Tables.{kept_at, run_at}
use Rattle.vb_pages.proofs.runs.put_back.Given as goal

abbrev pub invariant-loop-old : goal.invariant-loop-old
invariant-loop-old l = record {
  fits : l.first + length l.replaced.items ≤ 2 ^ 32;
  there : (q : PageKey) → IsSome (run_at l.slot l.first l.replaced.items q) → IsSome (kept_at l.entries.entries q);
  back : (q : PageKey) → unwrap_or (run_at l.slot l.first l.initial.replaced.items q) (kept_at l.initial.entries.entries q) ≡ unwrap_or (run_at l.slot l.first l.replaced.items q) (kept_at l.entries.entries q);
}

abbrev pub decreases-loop-old : goal.decreases-loop-old
decreases-loop-old l = length l.replaced.items
