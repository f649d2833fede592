-- What each kind of step tells the seat that makes it, and what becomes of its view.
use Rattle.std.specs.Prelude.{◌≡◌, ℕ, ◌%◌, ◌^◌, ◌≤◌, ◌==◌, nat_le, max, if◌then◌else◌, MatchBool, true, List, [], ◌∷◌, ◌++◌, length, Option, Some, None}
use mathlib.Core.List.{IsPrefix}
use Rattle.atomic_table.specs.Table.{Me, Step, rest}
use Rattle.vb_hist.specs.declared.entry.Entry.{Entry}
use Rattle.vb_turn.specs.declared.view.TurnStage.{TurnStage}
use Rattle.vb_turn.specs.declared.view.TurnStage.TheVariants.{Free, Waiting, Holding, Counted, Posted, Starting}
use Rattle.vb_turn.specs.declared.view.View.{View}
use Rattle.vb_turn.specs.Seating.{is_holding}
use Rattle.vb_turn.specs.Numbers.{Makers, Made, remade, WasPublished}

-- what a seat is to its thread: its view, and the slot that it has taken
abbrev pub Sat : Type 0 → Type 0
Sat V = Me (Option V) (View V)

-- the stage after the count
abbrev pub counted_stage : TurnStage → TurnStage
counted_stage Free = Free
counted_stage (Waiting t) = Waiting t
counted_stage (Holding t) = Counted t
counted_stage (Counted t) = Counted t
counted_stage (Posted t) = Posted t
counted_stage Starting = Starting

-- the stage after the post
abbrev pub posted_stage : TurnStage → TurnStage
posted_stage Free = Free
posted_stage (Waiting t) = Waiting t
posted_stage (Holding t) = Holding t
posted_stage (Counted t) = Posted t
posted_stage (Posted t) = Posted t
posted_stage Starting = Starting

-- the longer of two lists
abbrev pub longer : {A : Type 0} → List A → List A → List A
longer xs ys = if nat_le (length xs) (length ys) then ys else xs

-- the first maker alone
abbrev pub first_of : Makers → Makers
first_of [] = []
first_of (m ∷ ms) = m ∷ []

-- the makers after the first
abbrev pub after_first : Makers → Makers
after_first [] = []
after_first (m ∷ ms) = ms

module _ {V : Type 0} where
  -- draw: the seat gets the ticket that it found
  abbrev pub drew : Step (Option V) → Sat V → ℕ → Sat V → Type 0
  drew p m found m' = (t : ℕ) × (found ≡ t % 2 ^ 64) × (m' ≡ (record m.0 { stage = Waiting t }, m.1))

  -- the view of a seat that has got the value of this history
  abbrev pub holding : (List Entry → ℕ) → ℕ → List Entry → View V → View V
  holding epoch t seen v = record v { stage = Holding t; seen = seen; told = epoch seen }

  -- what a seat learns of the value that it gets: it stands for the value given, its history goes on from what the seat has seen,
  -- has of the seat's numbers just what they made, and its epoch was once that which the seat was told
  pub record Gets (stands : V → Type 0) (epoch : List Entry → ℕ) (history : V → List Entry) (v : View V) (x : V) : Type 0 where
    pub valid : stands x
    pub grows : IsPrefix v.seen (history x)
    pub made : Made (history x) v.mine
    pub told : WasPublished epoch (history x) v.told

  -- look: where the seat's ticket is served, it gets the slot with the value, and else nothing
  abbrev pub looked : (V → List Entry) → (V → V → Type 0) → (V → List Entry → ℕ) → Step (Option V) → Sat V → ℕ → Sat V → Type 0
  looked history stands epoch p m found m' =
      (t : ℕ) (given : V) → m.0.stage ≡ Waiting t → m.0.given ≡ Some given
      → MatchBool (found == t % 2 ^ 64)
      ((x : V) × Gets (stands given) (epoch given) history m.0 x × (m' ≡ (holding (epoch given) t (history x) m.0, (0, Some x) ∷ m.1)))
      (m' ≡ m)

  -- a seat that waited has got the value out of the slot
  pub record Took (history : V → List Entry) (stands : V → Type 0) (epoch : List Entry → ℕ) (m m' : Sat V) (x : V) : Type 0 where
    pub gets : Gets stands epoch history m.0 x
    pub holds : is_holding m'.0.stage ≡ true
    pub view : m'.0 ≡ record m.0 { stage = m'.0.stage; seen = history x; told = epoch (history x) }
    pub slot : m'.1 ≡ (0, None) ∷ m.1

  -- open, at the making alone: the first seat gets the empty slot
  abbrev pub opened : Step (Option V) → Sat V → ℕ → Sat V → Type 0
  opened p m found m' = m' ≡ (record m.0 { stage = Posted 0 }, (0, None) ∷ m.1)

  -- count: the history is now this one, which the seat has seen
  abbrev pub counted : List Entry → Step (Option V) → Sat V → ℕ → Sat V → Type 0
  counted log p m found m' = m' ≡ (record m.0 { stage = counted_stage m.0.stage; seen = log; mine = remade log m.0.mine }, m.1)

  -- post: the seat was told the epoch that it stores
  abbrev pub posted : Step (Option V) → Sat V → ℕ → Sat V → Type 0
  posted p m found m' = m' ≡ (record m.0 { stage = posted_stage m.0.stage; told = found }, m.1)

  -- pass: the slot and the ticket go
  abbrev pub passed : Step (Option V) → Sat V → ℕ → Sat V → Type 0
  passed p m found m' = m' ≡ (record m.0 { stage = Free }, rest m.1)

  -- an epoch that a seat may be told: not before the one that it was told last, and that of a history which goes on from what it has seen
  pub record Tells (epoch : List Entry → ℕ) (v : View V) (found : ℕ) : Type 0 where
    pub later : v.told ≤ found
    pub history : List Entry
    pub grows : IsPrefix v.seen history
    pub epoch_of : found ≡ epoch history

  -- glance: the seat is told the epoch that it found
  abbrev pub glanced : (V → List Entry → ℕ) → Step (Option V) → Sat V → ℕ → Sat V → Type 0
  glanced epoch p m found m' =
      ((given : V) → m.0.given ≡ Some given → Tells (epoch given) m.0 found) × (m' ≡ (record m.0 { told = found }, m.1))

  -- split: the new seat has the first number, the old one the others
  abbrev pub handed_out : View V → View V
  handed_out v = record v { mine = first_of v.mine }

  abbrev pub left_over : View V → View V
  left_over v = record v { mine = after_first v.mine }

  -- join: the numbers of both, the longer history seen, and the greater epoch told
  abbrev pub joined : View V → View V → View V
  joined v w = record v { mine = w.mine ++ v.mine; seen = longer v.seen w.seen; told = max v.told w.told }

  abbrev pub spent_view : View V
  spent_view = record { given = None; mine = []; stage = Free; seen = []; told = 0 }
