-- What a disk shows to one who reads it: which head counts, and the image of each node.
use Rattle.std.specs.Prelude.{ℕ, zero, suc, ◌+◌, nat_lt, ◌==◌, if◌then◌else◌, List, [], ◌∷◌, Option, Some, None}
use Rattle.vb_head.specs.declared.head.Head.{Head}
use Rattle.vb_head.specs.declared.head.HeadRead.{HeadRead}
use Rattle.vb_head.specs.declared.head.HeadRead.TheVariants.{Good, Bad, Alien, Unsealed, Blank}
use Rattle.vb_journal.specs.Images.{slot_of}

-- the head that a page is, if it is one
abbrev pub good_of : HeadRead → Option Head
good_of (Good h) = Some h
good_of (Bad why) = None
good_of Alien = None
good_of (Unsealed kept found) = None
good_of Blank = None

-- the one of two heads that counts: with the greater sequence, and the first one where they are equal
abbrev pub greater : Option Head → Option Head → Option Head
greater (Some a) (Some b) = Some (if nat_lt a.sequence b.sequence then b else a)
greater (Some a) None = Some a
greater None (Some b) = Some b
greater None None = None

-- what stands at so many places from this one on
abbrev pub pages_from : (ℕ → List ℕ) → ℕ → ℕ → List (List ℕ)
pages_from reads place zero = []
pages_from reads place (suc n) = reads place ∷ pages_from reads (place + 1) n

-- the image of a node, after images were put over its home in their order
abbrev pub image_over : List (List ℕ) → ℕ → List ℕ → List ℕ
image_over [] slot home = home
image_over (image ∷ images) slot home = image_over images slot (if slot_of image == slot then image else home)
