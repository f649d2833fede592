use Rattle.std.proofs.Common.{◌==◌, ◌≤◌, ℕ, List, length, count_by, All, sym, subst}
use Rattle.vb_space.specs.Spaces.{IsFree}
use Rattle.vb_plan.specs.Plans.{all_pages}
use Rattle.vb_plan.specs.Seen.{basis_of}
use Rattle.vb_plan.proofs.FreeOnes.{first_are_free, first_name_once}
use Rattle.vb_plan.proofs.PlannedPlaces.{places_of_plan}
use Rattle.vb_plan.proofs.laws.pages_go_to_the_first_free_places.Goals as goal

pub returns-clause-free : goal.returns-clause-free
returns-clause-free c index space next can =
    let basis = basis_of index space in
    subst (λ (places : List ℕ). All (IsFree space) places) (sym (places_of_plan basis next can.room)) (first_are_free space (length (all_pages basis 0 next)))

pub returns-clause-once : goal.returns-clause-once
returns-clause-once c index space next place can =
    let basis = basis_of index space in
    subst (λ (places : List ℕ). count_by (λ p. p == place) places ≤ 1) (sym (places_of_plan basis next can.room)) (first_name_once space (length (all_pages basis 0 next)) place)
