-- The first place in a list at which a test holds.
use Rattle.std.proofs.Common.{◌≡◌, ℕ, ◌<◌, Bool, true, false, List, length, get_or, set, position, Some, None, arith}
use Rattle.std.specs.List.{position_or_len}
use Rattle.std.proofs.lemmas.Bool.Decides.{nat_tests}
use Rattle.std.proofs.lemmas.List.{length-set}
use Rattle.std.proofs.lemmas.List.Folds.{position_or_len-set}
use Rattle.std.proofs.lemmas.List.Sums.{position_or_len_is, fails_before_first}

from_place : {X : Type 0} (p : X → Bool) (xs : List X) (i : ℕ) → position_or_len p xs ≡ i → i < length xs → position p xs ≡ Some i
from_place p xs i e h = grind (arith, nat_tests)

to_none : {X : Type 0} (p : X → Bool) (xs : List X) → position_or_len p xs ≡ length xs → position p xs ≡ None
to_none p xs e = grind (arith, nat_tests)

from_none : {X : Type 0} (p : X → Bool) (xs : List X) (k : ℕ) → position p xs ≡ None → k < length xs → k < position_or_len p xs
from_none p xs k h l = grind (arith, nat_tests)

-- the test holds there, and nowhere before
pub position-at : {X : Type 0} (p : X → Bool) (xs : List X) (i : ℕ) (d : X) → i < length xs → p (get_or xs i d) ≡ true → ((k : ℕ) → k < i → p (get_or xs k d) ≡ false) → position p xs ≡ Some i
position-at p xs i d h t f = from_place p xs i (position_or_len_is p xs i d (omega arith) f (λ _. t)) h

-- the test holds nowhere
pub position-nowhere : {X : Type 0} (p : X → Bool) (xs : List X) (d : X) → ((k : ℕ) → k < length xs → p (get_or xs k d) ≡ false) → position p xs ≡ None
position-nowhere p xs d f = to_none p xs (position_or_len_is p xs (length xs) d (omega arith) f (λ h. absurd (omega arith)))

-- where no place is found, the test holds at none
pub position-None : {X : Type 0} (p : X → Bool) (xs : List X) (k : ℕ) (d : X) → position p xs ≡ None → k < length xs → p (get_or xs k d) ≡ false
position-None p xs k d h l = fails_before_first p xs k d (from_none p xs k h l)

same_place : {X : Type 0} (p : X → Bool) (xs ys : List X) → position_or_len p xs ≡ position_or_len p ys → length xs ≡ length ys → position p xs ≡ position p ys
same_place p xs ys e l = cc

-- an item becomes another of which the test says the same
pub position-set : {X : Type 0} (p : X → Bool) (xs : List X) (i : ℕ) (y d : X) → p y ≡ p (get_or xs i d) → position p (set xs i y) ≡ position p xs
position-set p xs i y d h = same_place p (set xs i y) xs (position_or_len-set p xs i y d h) (length-set xs i y)
