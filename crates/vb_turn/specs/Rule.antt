-- The rule of a turn lock: what its words, its slot and the views of its seats have to do with each other at each moment.
use Rattle.std.specs.Prelude.{◌≡◌, ℕ, ◌+◌, ◌%◌, ◌^◌, ◌<◌, ◌≤◌, Bool, true, false, List, [], ◌∷◌, length, Option, Some, None}
use mathlib.Core.Option.{some, none}
use mathlib.Core.Option as maybe
use mathlib.Core.List.{IsPrefix}
use lib.ListN.{get_elem?}
use Rattle.atomic_table.specs.Table.{State}
use Rattle.vb_hist.specs.declared.entry.Entry.{Entry}
use Rattle.vb_turn.specs.declared.view.TurnStage.{TurnStage}
use Rattle.vb_turn.specs.declared.view.TurnStage.TheVariants.{Free, Waiting, Holding, Counted, Posted, Starting}
use Rattle.vb_turn.specs.declared.view.View.{View}
use Rattle.vb_turn.specs.declared.view.Start.{Start}
use Rattle.vb_turn.specs.Numbers.{total, AreApart, AllKnown, weigh, Made, unused, WasPublished, Rises}

-- where the value is: not yet in the lock, in its slot, or out with the seat whose turn it is
pub data Place (V : Type 0) : Type 0 where
  starting : Place V
  home : V → Place V
  away : Place V

-- what a moment amounts to: the tickets drawn and those served, the seat of each ticket that is out, the place of the value,
-- the history, and the beginning of it whose epoch is told
pub record Now (V : Type 0) : Type 0 where
  pub drawn : ℕ
  pub served : ℕ
  pub seat_of : ℕ → ℕ
  pub place : Place V
  pub log : List Entry
  pub shown : List Entry

-- what the slot has
abbrev pub slot_of : {V : Type 0} → Place V → maybe.Option (Option V)
slot_of starting = some None
slot_of (home x) = some (Some x)
slot_of away = none

-- the ticket of a stage
abbrev pub ticket_of : TurnStage → Option ℕ
ticket_of Free = None
ticket_of (Waiting t) = Some t
ticket_of (Holding t) = Some t
ticket_of (Counted t) = Some t
ticket_of (Posted t) = Some t
ticket_of Starting = Some 0

-- how many tickets a stage has
abbrev pub tickets : TurnStage → ℕ
tickets Free = 0
tickets (Waiting t) = 1
tickets (Holding t) = 1
tickets (Counted t) = 1
tickets (Posted t) = 1
tickets Starting = 1

-- it is this seat's turn
abbrev pub has_turn : TurnStage → Bool
has_turn Free = false
has_turn (Waiting t) = false
has_turn (Holding t) = true
has_turn (Counted t) = true
has_turn (Posted t) = true
has_turn Starting = true

-- between a holder's count and its post
abbrev pub is_counted : TurnStage → Bool
is_counted Free = false
is_counted (Waiting t) = false
is_counted (Holding t) = false
is_counted (Counted t) = true
is_counted (Posted t) = false
is_counted Starting = false

module _ {V : Type 0} where
  -- what a stage says of the moment and of what its seat has seen: a seat whose turn it is has seen the whole history,
  -- of which all is shown but between its count and its post; any other has seen a beginning of what is shown
  abbrev pub IsAt : Now V → TurnStage → List Entry → Type 0
  IsAt now Free seen = IsPrefix seen now.shown
  IsAt now (Waiting t) seen = IsPrefix seen now.shown
  IsAt now (Holding t) seen = (t ≡ now.served) × (now.place ≡ away) × (seen ≡ now.log) × (now.shown ≡ now.log)
  IsAt now (Counted t) seen = (t ≡ now.served) × (now.place ≡ away) × (seen ≡ now.log)
  IsAt now (Posted t) seen = (t ≡ now.served) × (now.place ≡ away) × (seen ≡ now.log) × (now.shown ≡ now.log)
  IsAt now Starting seen = (now.served ≡ 0) × (now.place ≡ starting) × (seen ≡ now.log) × (now.shown ≡ now.log)

  -- each ticket from the one served up to those drawn is that of the seat named for it
  abbrev pub AreDrawn : Now V → List (View V) → Type 0
  AreDrawn now views =
      (t : ℕ) → now.served ≤ t → t < now.drawn → (v : View V) × (get_elem? views (now.seat_of t) ≡ some v) × (ticket_of v.stage ≡ Some t)

  -- the seat of the served ticket has its turn
  abbrev pub IsServed : Now V → List (View V) → Type 0
  IsServed now views = (v : View V) × (get_elem? views (now.seat_of now.served) ≡ some v) × (has_turn v.stage ≡ true)

  module _ (history : V → List Entry) (stands : V → V → Type 0) (epoch : V → List Entry → ℕ) (start : Start V) where
    -- a value in the slot stands for the value given, its history is that of all, and its epoch is told;
    -- where the slot has no value, the seat of the served ticket has its turn
    abbrev pub IsPlaced : Now V → List (View V) → Place V → Type 0
    IsPlaced now views starting = IsServed now views
    IsPlaced now views (home x) = stands start.value x × (history x ≡ now.log) × (now.shown ≡ now.log)
    IsPlaced now views away = IsServed now views

    -- what a seat was told is at most what is told now, is the epoch of a beginning of the history,
    -- and but between its count and its post is at least the epoch of what it has seen
    pub record IsTold (log shown : List Entry) (v : View V) : Type 0 where
      pub most : v.told ≤ epoch start.value shown
      pub source : WasPublished (epoch start.value) log v.told
      pub least : is_counted v.stage ≡ false → epoch start.value v.seen ≤ v.told

    -- what holds of the view of the seat j. A view with no numbers is spent
    pub record Fits (now : Now V) (j : ℕ) (v : View V) : Type 0 where
      pub spent : v.mine ≡ [] → v.stage ≡ Free
      pub given : 0 < length v.mine → v.given ≡ Some start.value
      pub ticket : (t : ℕ) → ticket_of v.stage ≡ Some t → (now.served ≤ t) × (t < now.drawn) × (now.seat_of t ≡ j)
      pub stage : IsAt now v.stage v.seen
      pub made : Made now.log v.mine
      pub told : 0 < length v.mine → IsTold now.log now.shown v

    pub record Rule (s : State (Option V) (View V)) (now : Now V) : Type 0 where
      -- the words: tickets are counted modulo 2^64
      pub words : s.words ≡ now.drawn % 2 ^ 64 ∷ now.served % 2 ^ 64 ∷ length now.log % 2 ^ 64 ∷ epoch start.value now.shown ∷ []
      pub slot : s.homes ≡ slot_of now.place ∷ []
      -- the numbers: at most 65, no one twice, and those of all views are together the lock's
      pub few : length start.numbers.items ≤ 65
      pub apart : AreApart start.numbers.items
      pub numbers : (h : ℕ → ℕ) → total (λ (v : View V). weigh h v.mine) s.views ≡ total h start.numbers.items
      -- the tickets
      pub count : now.served + total (λ (v : View V). tickets v.stage) s.views ≡ now.drawn
      pub drawn : AreDrawn now s.views
      pub placed : IsPlaced now s.views now.place
      pub fits : (j : ℕ) (v : View V) → get_elem? s.views j ≡ some v → Fits now j v
      -- the history: each entry has one of the numbers, and no beginning of it or of what is shown has a later epoch
      pub known : AllKnown start.numbers.items now.log
      pub rises : Rises (epoch start.value) now.log
      pub risen : Rises (epoch start.value) now.shown
      pub front : IsPrefix now.shown now.log

    abbrev pub Keeps : State (Option V) (View V) → Type 0
    Keeps s = (now : Now V) × Rule s now

  -- the first seat has all numbers, of which none has made an entry
  abbrev pub first_view : (V → List Entry → ℕ) → Start V → View V
  first_view epoch start = record { given = Some start.value; mine = unused start.numbers.items; stage = Starting; seen = []; told = epoch start.value [] }

  -- a free seat with numbers of which none has made an entry
  abbrev pub unused_view : (V → List Entry → ℕ) → Start V → List ℕ → View V
  unused_view epoch start numbers = record { given = Some start.value; mine = unused numbers; stage = Free; seen = []; told = epoch start.value [] }
