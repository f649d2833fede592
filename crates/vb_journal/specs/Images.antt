-- Node images: sealed pages that name their slots.
use Rattle.std.specs.Prelude.{◌≢◌, ℕ, ◌<◌, List, [], length, get_or}
use Rattle.byteorder.specs.Endian.{little_number}
use Rattle.vb_block.specs.Pages.{IsSealed}

-- the slot that an image names
unfoldable pub slot_of : List ℕ → ℕ
slot_of image = little_number 4 image

-- the image at this position, counted from 0
abbrev pub image_at : List (List ℕ) → ℕ → List ℕ
image_at images i = get_or images i []

-- images that may be committed to a store with this many nodes: sealed, and each for a node of its own
pub record AreImages (nodes : ℕ) (images : List (List ℕ)) : Type 0 where
  pub sealed : (i : ℕ) → i < length images → IsSealed (image_at images i)
  pub slots : (i : ℕ) → i < length images → slot_of (image_at images i) < nodes
  pub distinct : (i j : ℕ) → i < j → j < length images → slot_of (image_at images i) ≢ slot_of (image_at images j)
