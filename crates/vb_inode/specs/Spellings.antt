-- Pages as lists of bytes.
use Rattle.std.specs.Prelude.{ℕ, ◌<◌, List}
use Rattle.std.specs.List.{All}
use Rattle.vb_block.specs.Pages.{IsPage}

-- each number is a byte
abbrev pub AreBytes : List ℕ → Type 0
AreBytes bytes = All (λ b. b < 256) bytes

-- a page, and each number of it is a byte, as of each page in memory
pub record IsBytePage (page : List ℕ) : Type 0 where
  pub is_page : IsPage page
  pub are_bytes : AreBytes page
