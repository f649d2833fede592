-- the pages that are left of the run over what stands give what is to stand at the end; what was noted over what stands
-- gives what stood at the start
use Rattle.std.proofs.Common.{◌≡◌, ◌+◌, ◌^◌, ◌≤◌, length, vec_capacity, IsSome}
use Rattle.std.specs.Vec.Iter.{into_iter_items}
use Rattle.std.specs.Option.{option_map, option_or, unwrap_or}
use Rattle.vb_pages.specs.declared.kept.PageKey.{PageKey}
use Rattle.vb_pages.specs.Tables.{kept_at, kept_of, run_at}
use Rattle.vb_pages.proofs.runs.replace_all.Given as goal

abbrev pub invariant-loop-page : goal.invariant-loop-page
invariant-loop-page l =
    let n = length l.replaced.items in
    let rest = into_iter_items l.page-iterator in
    record {
      can_next : (goal.iterator-loop-page).can_next l.page-iterator;
      finite : (goal.iterator-loop-page).is_finite l.page-iterator;
      fits : l.first + (n + length rest) ≤ 2 ^ 32;
      room : n + length rest ≤ vec_capacity l.replaced;
      run : (q : PageKey) → option_or (option_map kept_of (run_at l.slot l.first l.fn.run.items q)) (kept_at l.initial.entries.entries q)
          ≡ option_or (option_map kept_of (run_at l.slot (l.first + n) rest q)) (kept_at l.entries.entries q);
      noted : (q : PageKey) → kept_at l.initial.entries.entries q ≡ unwrap_or (run_at l.slot l.first l.replaced.items q) (kept_at l.entries.entries q);
      there : (q : PageKey) → IsSome (run_at l.slot l.first l.replaced.items q) → IsSome (kept_at l.entries.entries q);
    }
