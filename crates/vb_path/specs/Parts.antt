-- Parts of paths: which bytes may be the name of an entry.
use Rattle.std.specs.Prelude.{ℕ, ◌≤◌, Bool, ◌&&◌, ◌==◌, is_none, IsTrue, List, length, Option}
use Rattle.std.specs.List.{position, AllByRecursion}
use Rattle.vb_path.specs.Paths.{part_fault_of, bad_utf8_in, zero_byte_in, text_of_path}

-- the place of the first slash
abbrev pub slash_place_in : List ℕ → Option ℕ
slash_place_in bytes = position (λ b. b == 47) bytes

-- whether bytes may be a part of a path: they aren't empty, `.` or `..`, are at most 255, are UTF-8,
-- and none of them is zero or a slash
unfoldable pub is_part : List ℕ → Bool
is_part bytes =
    is_none (part_fault_of bytes) && is_none (bad_utf8_in bytes)
    && is_none (zero_byte_in bytes) && is_none (slash_place_in bytes)

-- the bytes may be a part of a path
abbrev pub IsPart : List ℕ → Type 0
IsPart bytes = IsTrue (is_part bytes)

-- these are the parts of a path: each may be a part, they are at most 32, and their text has at most 1,024 bytes
pub record MakePath (parts : List (List ℕ)) : Type 0 where
  pub valid : AllByRecursion IsPart parts
  pub few : length parts ≤ 32
  pub short : length (text_of_path parts) ≤ 1024
