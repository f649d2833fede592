use Rattle.std.proofs.Common.{◌≤◌, ◌==◌, ◌∙◌, ℕ, List, count_by, length, map, All, ap, sym, subst}
use Rattle.std.proofs.lemmas.Bool.{false≢true}
use Rattle.std.proofs.lemmas.List.Elements.{All-contains}
use Rattle.vb_space.specs.Free.{has_committed}
use Rattle.vb_space.specs.Spaces.{IsFree}
use Rattle.vb_plan.specs.Laws.{place_of}
use Rattle.vb_plan.specs.Plans.{all_pages}
use Rattle.vb_plan.specs.Seen.{basis_of}
use Rattle.vb_plan.proofs.FreeOnes.{first_are_free, first_name_once}
use Rattle.vb_plan.proofs.PlannedPlaces.{places_of_plan}
use Rattle.vb_plan.proofs.PlacesNext.{next_named, next_once, next_written}
use Rattle.vb_plan.proofs.laws.next_nodes_name_each_place_once.Goals as goal

pub returns-clause-once : goal.returns-clause-once
returns-clause-once c index space next place can once committed =
    let basis = basis_of index space in
    let pages = all_pages basis 0 next in
    let places = sym (places_of_plan basis next can.room) in
    let planned = subst (λ (ps : List ℕ). count_by (λ p. p == place) ps ≤ 1) places (first_name_once space (length pages) place) in
    let free = subst (λ (ps : List ℕ). All (IsFree space) ps) places (first_are_free space (length pages)) in
    next_once basis next place can once planned
    (λ new old. (
    let is = All-contains (IsFree space) (map place_of pages) place free new in
    let used = (committed old).used in
    false≢true (sym (ap has_committed is.unused) ∙ used)))

pub returns-clause-named : goal.returns-clause-named
returns-clause-named c = next_named

pub returns-clause-written : goal.returns-clause-written
returns-clause-written c = next_written
