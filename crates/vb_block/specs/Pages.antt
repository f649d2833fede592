-- Pages: how long they are, what a write leaves, and what a seal is.
use Rattle.std.specs.Prelude.{◌≡◌, ℕ, ◌+◌, List, ◌++◌, length, take, drop, replicate}
use Rattle.sha2.specs.Sha256.{sha256}

-- a page has 4,096 bytes
abbrev pub IsPage : List ℕ → Type 0
IsPage bytes = length bytes ≡ 4096

-- the page whose bytes are all this one
unfoldable pub filled_page : ℕ → List ℕ
filled_page byte = replicate 4096 byte

-- the page of zeros
abbrev pub zero_page : List ℕ
zero_page = filled_page 0

-- the bytes, with these from a place on
abbrev pub overwritten : List ℕ → ℕ → List ℕ → List ℕ
overwritten old at bytes = take at old ++ bytes ++ drop (at + length bytes) old

-- what a seal covers: all bytes but the last 32
unfoldable pub sealed_part : List ℕ → List ℕ
sealed_part bytes = take 4064 bytes

-- the last 32 bytes
unfoldable pub seal_of : List ℕ → List ℕ
seal_of bytes = drop 4064 bytes

-- the page is sealed: its last 32 bytes are the SHA-256 of all before them
abbrev pub IsSealed : List ℕ → Type 0
IsSealed bytes = seal_of bytes ≡ sha256 (sealed_part bytes)

-- the page with its seal
abbrev pub sealed_page : List ℕ → List ℕ
sealed_page bytes = sealed_part bytes ++ sha256 (sealed_part bytes)
