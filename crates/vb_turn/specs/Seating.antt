-- What callers see of a seat and of a lock.
use Rattle.std.specs.Prelude.{ℕ, Bool, true, false, List, [], ◌∷◌, Option, None}
use Rattle.vb_hist.specs.declared.entry.Entry.{Entry}
use Rattle.vb_turn.specs.declared.view.TurnStage.{TurnStage}
use Rattle.vb_turn.specs.declared.view.TurnStage.TheVariants.{Free, Waiting, Holding, Counted, Posted, Starting}
use Rattle.vb_turn.specs.Numbers.{Makers}

-- the slots that a seat of this stage carries: a holder has the lock's slot, from which it took the value
abbrev pub carried_at : {V : Type 0} → TurnStage → List (ℕ × Option V)
carried_at Free = []
carried_at (Waiting t) = []
carried_at (Holding t) = (0, None) ∷ []
carried_at (Counted t) = []
carried_at (Posted t) = []
carried_at Starting = []

-- a stage between two calls
abbrev pub is_rest : TurnStage → Bool
is_rest Free = true
is_rest (Waiting t) = true
is_rest (Holding t) = true
is_rest (Counted t) = false
is_rest (Posted t) = false
is_rest Starting = false

-- it holds the turn, with the lock's slot in hand
abbrev pub is_holding : TurnStage → Bool
is_holding Free = false
is_holding (Waiting t) = false
is_holding (Holding t) = true
is_holding (Counted t) = false
is_holding (Posted t) = false
is_holding Starting = false

-- the entries of the first maker
abbrev pub made_first : Makers → List Entry
made_first [] = []
made_first (m ∷ ms) = m.1
