-- What a caller sees of a place that is taken.
use Rattle.std.proofs.Common.{◌≡◌, ℕ, ◌+◌, ◌-◌, ◌<◌, ◌≤◌, List, length, set, ap, sym, arith, subst}
use Rattle.vb_space.specs.declared.users.Users.{Users}
use Rattle.vb_space.specs.declared.users.Users.TheVariants.{Next}
use Rattle.vb_space.specs.Free.{joined}
use Rattle.vb_space.specs.Spaces.{DataPlaces, IsLeastFree, with_next, next_count, committed_count}
use Rattle.vb_space.proofs.Counts.{next-taken, committed-taken}
use Rattle.vb_space.proofs.FreePlaces.{IsHead}

abbrev pub places_of : ℕ → List Users → DataPlaces
places_of first users = record { first = first; users = users }

least_at : (first : ℕ) (us : List Users) (place : ℕ) (rest : List ℕ) → IsHead first us place rest → IsLeastFree (places_of first us) place
least_at first us place rest head = record {
  free = record { within = (head.lower, head.upper); unused = head.unused };
  least = λ other free.
      let under : place ≤ first + (other - first) = head.least (other - first) (omega (arith, free.within.0, free.within.1)) free.unused in
      omega (arith, free.within.0);
}

pub least_free : (first : ℕ) (us : List Users) (s : DataPlaces) (place : ℕ) (rest : List ℕ) → places_of first us ≡ s → IsHead first us place rest → IsLeastFree s place
least_free first us s place rest seen head =
    subst (λ (d : DataPlaces). IsLeastFree d place) seen (least_at first us place rest head)

pub taken : (first : ℕ) (us : List Users) (s : DataPlaces) (place : ℕ) (rest : List ℕ) → places_of first us ≡ s → IsHead first us place rest → places_of first (set us (place - first) Next) ≡ with_next s place
taken first us s place rest seen head =
    subst (λ (d : DataPlaces). places_of first (set us (place - first) Next) ≡ with_next d place) seen (ap (λ (u : Users). places_of first (set us (place - first) u)) (sym (ap joined head.unused)))

pub taken_next : (first : ℕ) (us : List Users) (s : DataPlaces) (place : ℕ) (rest : List ℕ) → places_of first us ≡ s → IsHead first us place rest → next_count (places_of first (set us (place - first) Next)) ≡ next_count s + 1
taken_next first us s place rest seen head =
    let within : place - first < length us = omega (arith, head.lower, head.upper) in
    subst (λ (d : DataPlaces). next_count (places_of first (set us (place - first) Next)) ≡ next_count d + 1) seen (next-taken us (place - first) within head.unused)

pub taken_committed : (first : ℕ) (us : List Users) (s : DataPlaces) (place : ℕ) (rest : List ℕ) → places_of first us ≡ s → IsHead first us place rest → committed_count (places_of first (set us (place - first) Next)) ≡ committed_count s
taken_committed first us s place rest seen head =
    let within : place - first < length us = omega (arith, head.lower, head.upper) in
    subst (λ (d : DataPlaces). committed_count (places_of first (set us (place - first) Next)) ≡ committed_count d) seen (committed-taken us (place - first) within head.unused)
