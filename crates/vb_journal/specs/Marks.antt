-- The slots that some images name, as a list of marks by slot.
use Rattle.std.specs.Prelude.{◌≡◌, ℕ, Bool, false, List, get_or}
use Rattle.vb_journal.specs.Recoveries.{is_named}

-- a slot is marked where one of the images names it
abbrev pub AreMarked : List Bool → List (List ℕ) → Type 0
AreMarked marks images = (slot : ℕ) → get_or marks slot false ≡ is_named images slot
