-- A journal that is read, one image after the other.
use Rattle.std.specs.Prelude.{◌≡◌, ℕ, List, [], ◌∷◌, ◌++◌, length, Result, Ok, Err}
use Rattle.vb_head.specs.declared.head.Head.{Head}
use Rattle.vb_head.specs.declared.head.State.TheVariants.{Opened}
use Rattle.vb_journal.specs.declared.journal.Grown.{Grown}
use Rattle.vb_journal.specs.declared.journal.Grown.TheVariants.{Part, Whole}
use Rattle.vb_journal.specs.declared.journal.Journal.{Journal}
use Rattle.vb_journal.specs.Images.{AreImages}

-- the same head and images
pub record IsLike (journal : Journal) (head : Head) (images : List (List ℕ)) : Type 0 where
  pub head_is : journal.head ≡ head
  pub images_are : journal.images ≡ images

-- all the images that this head counts in
pub record AreAll (head : Head) (images : List (List ℕ)) : Type 0 where
  pub counted : head.state ≡ Opened (length images)
  pub images_are : AreImages head.nodes images

-- one image more was added, or for want of memory none was
abbrev pub Grows : Journal → List ℕ → Result Grown Journal → Type 0
Grows before image (Ok (Part after)) = IsLike after before.head (before.images ++ image ∷ [])
Grows before image (Ok (Whole head images)) = (head ≡ before.head) × (images ≡ before.images ++ image ∷ []) × AreAll head images
Grows before image (Err after) = IsLike after before.head before.images
