-- Misses: the bytes that a damaged place may read as, so that damage is found by a digest or a seal.
use Rattle.std.specs.Prelude.{◌≡◌, ◌≢◌, ℕ, ◌<◌, ◌≤◌, Bool, true, false, not, ◌&&◌, List}
use Rattle.std.specs.List.{All, list_all}
use Rattle.std.specs.Str.{bytes_eq}
use Rattle.sha2.specs.Sha256.{sha256}
use Rattle.vb_block.specs.Pages.{IsSealed, filled_page, seal_of, sealed_part}
use Rattle.vb_disk.specs.declared.cell.Cell.{Cell}
use Rattle.vb_disk.specs.Cells.{candidates}

-- bytes that a damaged place may read as: they aren't sealed, and no candidate has their digest
pub record IsMiss (cell : Cell) (bytes : List ℕ) : Type 0 where
  pub unsealed : ¬ IsSealed bytes
  pub unlike : All (λ candidate. sha256 candidate ≢ sha256 bytes) (candidates cell)

-- the test of a seal
abbrev pub is_sealed : List ℕ → Bool
is_sealed bytes = bytes_eq (seal_of bytes) (sha256 (sealed_part bytes))

-- the test of a miss
abbrev pub is_miss : Cell → List ℕ → Bool
is_miss cell bytes = not (is_sealed bytes) && list_all (λ candidate. not (bytes_eq (sha256 candidate) (sha256 bytes))) (candidates cell)

-- the greatest byte that is tried for a miss, 0xEE
abbrev pub first_tried : ℕ
first_tried = 238

-- the page of equal bytes that is a miss, of the first byte from 0xEE downwards that gives one
pub record IsFirstMiss (cell : Cell) (page : List ℕ) : Type 0 where
  pub byte : ℕ
  pub tried : byte ≤ first_tried
  pub filled : page ≡ filled_page byte
  pub miss : is_miss cell (filled_page byte) ≡ true
  pub none_before : (other : ℕ) → byte < other → other ≤ first_tried → is_miss cell (filled_page other) ≡ false

-- none of the bytes from 0xEE down to 0 gives a miss
abbrev pub IsAllTaken : Cell → Type 0
IsAllTaken cell = (byte : ℕ) → byte ≤ first_tried → is_miss cell (filled_page byte) ≡ false
