-- Numbers in bytes, the lowest byte first.
use Rattle.std.specs.Prelude.{ℕ, List}
use Rattle.byteorder.specs.Endian.{little_bytes}

-- a number in two bytes
unfoldable pub two_bytes : ℕ → List ℕ
two_bytes n = little_bytes 2 n

-- a number in four bytes
unfoldable pub four_bytes : ℕ → List ℕ
four_bytes n = little_bytes 4 n

-- a number in eight bytes
unfoldable pub eight_bytes : ℕ → List ℕ
eight_bytes n = little_bytes 8 n
