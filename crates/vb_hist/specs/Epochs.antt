-- The epochs of a history: of its freezes, and of its publications.
use Rattle.std.specs.Prelude.{ℕ, ◌<◌, List, [], ◌∷◌, Option, Some, None}
use Rattle.std.specs.List.{filter_map}
use Rattle.vb_hist.specs.declared.entry.Entry.{Entry}
use Rattle.vb_hist.specs.declared.entry.Entry.TheVariants.{Freeze, Publish}

-- the epoch of a freeze
abbrev pub frozen_epoch : Entry → Option ℕ
frozen_epoch (Freeze by epoch) = Some epoch
frozen_epoch other = None

-- the epoch of a publication
abbrev pub published_epoch : Entry → Option ℕ
published_epoch (Publish epoch) = Some epoch
published_epoch other = None

-- the epochs of the freezes, in their order
abbrev pub freezes_of : List Entry → List ℕ
freezes_of history = filter_map frozen_epoch history

-- the epochs of the publications, in their order
abbrev pub publications_of : List Entry → List ℕ
publications_of history = filter_map published_epoch history

-- each number is greater than the one before it, and the first is greater than this one
abbrev pub RiseAbove : ℕ → List ℕ → Type 0
RiseAbove low [] = Unit {0}
RiseAbove low (number ∷ numbers) = (low < number) × RiseAbove number numbers

-- the last of the numbers, and this one where there is none
abbrev pub last_or : ℕ → List ℕ → ℕ
last_or low [] = low
last_or low (number ∷ numbers) = last_or number numbers
