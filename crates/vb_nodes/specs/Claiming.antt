-- Places that are named once: which of a range were claimed, and why one is refused.
use Rattle.std.specs.Prelude.{Result, Ok, Err, ℕ, ◌+◌, ◌-◌, Bool, true, false, ◌||◌, nat_lt, nat_le, if◌then◌else◌, List, length, get_or, slice_set}
use Rattle.vb_block.specs.declared.why.Why.{Why}
use Rattle.vb_block.specs.declared.why.Why.TheVariants.{Place, PlaceTwice}

-- a range of places, and for each of them whether it was claimed
pub record ClaimsState : Type 0 where
  pub first : ℕ
  pub taken : List Bool

-- whether a place lies outside the range
abbrev pub is_outside : ClaimsState → ℕ → Bool
is_outside claims place = nat_lt place claims.first || nat_le (claims.first + length claims.taken) place

-- whether a place was claimed
abbrev pub is_claimed : ClaimsState → ℕ → Bool
is_claimed claims place = if nat_lt place claims.first then false else get_or claims.taken (place - claims.first) false

-- the claims with one more
abbrev pub with_claim : ClaimsState → ℕ → ClaimsState
with_claim claims place = record claims { taken = slice_set claims.taken (place - claims.first) true }

-- the answer to a claim: it is refused outside the range, and where it was claimed before
abbrev pub claim_answer : ClaimsState → ℕ → Result (Unit {0}) Why
claim_answer claims place =
    if is_outside claims place then Err Place else
    (if is_claimed claims place then Err PlaceTwice else Ok tt)
