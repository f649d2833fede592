use Rattle.std.proofs.Common.{arith}
use Rattle.vb_space.proofs.Counts.{length-le-counts}
use Rattle.vb_space.proofs.FreePlaces.{length-free_from}
use Rattle.vb_plan.specs.Seen.{basis_of}
use Rattle.vb_plan.proofs.Nexts.{all_pages_few}
use Rattle.vb_plan.proofs.laws.no_more_pages_are_planned_than_files_take.Goals as goal

pub returns-clause-few : goal.returns-clause-few
returns-clause-few c basis next each = all_pages_few basis 0 next each

pub returns-clause-room : goal.returns-clause-room
returns-clause-room c index space next half each fits committed begun halves =
    omega (arith, all_pages_few (basis_of index space) 0 next each, fits, committed, begun, halves, length-le-counts space.users, length-free_from space.first space.users)
