-- The pages of a content, and their digests.
use Rattle.std.specs.Prelude.{ℕ, zero, suc, ◌-◌, ◌*◌, List, [], ◌∷◌, ◌++◌, length, take, drop, replicate}
use Rattle.sha2.specs.Sha256.{sha256}
use Rattle.vb_tree.specs.Trees.{data_pages_of}

-- these bytes, filled up to 4,096 with zeros
unfoldable pub filled_up : List ℕ → List ℕ
filled_up bytes = bytes ++ replicate (4096 - length bytes) 0

-- the page of some bytes with this number, counted from 0, the last one filled up with zeros
abbrev pub page_at : ℕ → List ℕ → List ℕ
page_at number bytes = filled_up (take 4096 (drop (4096 * number) bytes))

-- the digests of so many first pages of some bytes
abbrev pub first_digests : ℕ → List ℕ → List (List ℕ)
first_digests zero bytes = []
first_digests (suc n) bytes = first_digests n bytes ++ sha256 (page_at n bytes) ∷ []

-- the digests of all pages of some bytes
abbrev pub digests_of : List ℕ → List (List ℕ)
digests_of bytes = first_digests (data_pages_of (length bytes)) bytes
