use Rattle.std.proofs.Common.{◌≡◌, replicate}
use Rattle.vb_block.specs.Pages.{zero_page}
use Rattle.vb_active.proofs.truncates.zero_run.Given as goal

abbrev pub invariant-loop : goal.invariant-loop
invariant-loop l = l.run.items ≡ replicate l.counter zero_page
