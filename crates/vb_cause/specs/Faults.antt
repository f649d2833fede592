-- A count of what an object of the outside did, as its faults. It never falls, and it stands still at its type's end.
use Rattle.std.specs.Prelude.{ℕ, ◌+◌, ◌≤◌, min}

-- the greatest count, 2^64 - 1
abbrev pub greatest_count : ℕ
greatest_count = 18446744073709551615

-- a count after one more. At its end it stands still.
abbrev pub counted : ℕ → ℕ
counted n = min (n + 1) greatest_count

-- a fault was counted between the two moments: the count grew, or it stands at its type's end
abbrev pub HasRisen : ℕ → ℕ → Type 0
HasRisen before after = counted before ≤ after
