-- Pages that are being written.
use Rattle.std.specs.Prelude.{◌≡◌, ℕ, ◌≤◌, true, List, drop}
use Rattle.vb_block.specs.Pages.{IsPage}
use Rattle.vb_inode.specs.Checks.{are_zeros}

-- a page is written up to a place: from there on it is zero
pub record IsWrittenTo (at : ℕ) (page : List ℕ) : Type 0 where
  pub within : at ≤ 4096
  pub is_page : IsPage page
  pub zeros : are_zeros (drop at page) ≡ true
