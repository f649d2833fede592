-- The length in front of a frame's body.
use Rattle.std.proofs.Common.{◌≡◌, ℕ, ◌<◌, ◌≤◌, ◌^◌, List, ◌++◌, take}
use Rattle.byteorder.specs.Endian.{little_number}
use Rattle.byteorder.specs.Numbers.{little_from-take, little_number-reads_back}
use Rattle.vb_block.specs.Numbers.{four_bytes}
use Rattle.vb_msg.specs.Frames.{body_length}

-- the length in front of some bytes is read again
pub body_length-again : (n : ℕ) (xs : List ℕ) → n < 2 ^ 32 → body_length (four_bytes n ++ xs) ≡ n
unfolding four_bytes body_length
body_length-again n xs ln = little_number-reads_back 4 n xs ln

-- the length stands in the first four bytes
pub body_length-take : (n : ℕ) (xs : List ℕ) → 4 ≤ n → body_length (take n xs) ≡ body_length xs
unfolding body_length
body_length-take n xs four = little_from-take 0 4 n xs four
