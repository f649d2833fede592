-- What a crash may leave of a disk, what damage may, and which of them are refused.
use Rattle.std.specs.Prelude.{◌≡◌, ◌⊎◌, ℕ, ◌<◌, ◌≤◌, Bool, ◌&&◌, nat_lt, ◌==◌, if◌then◌else◌, List, [], ◌∷◌, length, Option, Some, None, Result, Ok, Err}
use Rattle.std.specs.List.{Contains}
use Rattle.vb_block.specs.Pages.{IsPage}
use Rattle.vb_disk.specs.declared.cell.Cell.{Cell}
use Rattle.vb_disk.specs.declared.crash.Side.{Side}
use Rattle.vb_disk.specs.declared.crash.Pick.{Pick}
use Rattle.vb_disk.specs.declared.crash.Tear.{Tear}
use Rattle.vb_disk.specs.declared.crash.CrashRefused.{CrashRefused}
use Rattle.vb_disk.specs.declared.crash.CrashRefused.TheVariants.{NoSuchCandidate, NotOpen, NotAMiss, Memory}
use Rattle.vb_disk.specs.declared.crash.DamageRefused.{DamageRefused}
use Rattle.vb_disk.specs.declared.crash.DamageRefused.TheVariants.{NoSuchPlace, NotAMiss as NoMissThere, Memory as NoMemoryFound}
use Rattle.vb_disk.specs.declared.crash.MissRefused.{MissRefused}
use Rattle.vb_disk.specs.declared.crash.MissRefused.TheVariants.{NoSuchPlace as NoPlaceThere, AllTaken, Memory as NoMemoryLeft}
use Rattle.vb_disk.specs.Cells.{candidates, is_settled, settled_cell, picked_cell, hurt_cell}
use Rattle.vb_disk.specs.Misses.{IsAllTaken, IsFirstMiss, IsMiss, is_miss}
use Rattle.vb_disk.specs.States.{DiskState}

-- ---- what any crash may leave

-- the place is newly hurt: it had two candidates or more, and reads as a page that is a miss
pub record IsTorn (old new : Cell) : Type 0 where
  pub several : 0 < length old.later
  pub bytes : List ℕ
  pub reads : new.hurt ≡ Some bytes
  pub page : IsPage bytes
  pub miss : IsMiss old bytes

-- a place after a crash: one candidate was picked, and it is hurt as before or newly torn
pub record CellMayCrashTo (old new : Cell) : Type 0 where
  pub picked : Contains (candidates old) new.first
  pub alone : new.later ≡ []
  pub hurt : (new.hurt ≡ old.hurt) ⊎ IsTorn old new

-- what a crash may leave: each place by itself. The size and the counts stay.
pub record MayCrashTo (old new : DiskState) : Type 0 where
  pub size : new.size ≡ old.size
  pub writes : new.writes ≡ old.writes
  pub resizes : new.resizes ≡ old.resizes
  pub synced_at : new.synced_at ≡ old.synced_at
  pub each : (place : ℕ) → CellMayCrashTo (old.cells place) (new.cells place)

-- ---- a crash that is told what to leave

-- the first pick of a place
abbrev pub pick_at : ℕ → List Pick → Option ℕ
pick_at place [] = None
pick_at place (p ∷ ps) = if p.place == place then Some p.index else pick_at place ps

-- the page that a torn place reads as
abbrev pub page_of : Tear → List ℕ
page_of t = t.page

-- the page of the first tear of a place
abbrev pub tear_at : ℕ → List Tear → Option (List ℕ)
tear_at place [] = None
tear_at place (t ∷ ts) = if t.place == place then Some t.page else tear_at place ts

-- a place with its pick, if it has one
abbrev pub with_pick : Option ℕ → Cell → Cell
with_pick None cell = cell
with_pick (Some index) cell = picked_cell index cell

-- a place with its tear, if it has one
abbrev pub with_tear : Option (List ℕ) → Cell → Cell
with_tear None cell = cell
with_tear (Some page) cell = hurt_cell cell page

-- a place after such a crash: torn, picked, and else what stands on the side that is left
abbrev pub crashed_cell : Side → List Pick → List Tear → ℕ → Cell → Cell
crashed_cell rest picks torn place cell =
    settled_cell rest (with_pick (pick_at place picks) (with_tear (tear_at place torn) cell))

-- a disk after such a crash
abbrev pub crashed : Side → List Pick → List Tear → DiskState → DiskState
crashed rest picks torn d = record d { cells = λ place. crashed_cell rest picks torn place (d.cells place) }

-- whether the candidate is there
abbrev pub has_candidate : ℕ → (ℕ → Cell) → Pick → Bool
has_candidate size cells p = nat_lt p.place size && nat_lt p.index (length (candidates (cells p.place)))

-- why the picks are refused
abbrev pub pick_refusal : ℕ → (ℕ → Cell) → List Pick → Option CrashRefused
pick_refusal size cells [] = None
pick_refusal size cells (p ∷ ps) = if has_candidate size cells p then pick_refusal size cells ps else Some (NoSuchCandidate p.place)

-- why the tears are refused
abbrev pub tear_refusal : (ℕ → Cell) → List Tear → Option CrashRefused
tear_refusal cells [] = None
tear_refusal cells (t ∷ ts) =
    if is_settled (cells t.place) then Some (NotOpen t.place) else
    (if is_miss (cells t.place) t.page then tear_refusal cells ts else Some (NotAMiss t.place))

-- the one reason, and else the other
abbrev pub or_reason : Option CrashRefused → Option CrashRefused → Option CrashRefused
or_reason None other = other
or_reason (Some reason) other = Some reason

-- why a crash is refused: the first reason of the picks in order, and then of the tears
abbrev pub crash_refusal : DiskState → List Pick → List Tear → Option CrashRefused
crash_refusal d picks torn = or_reason (pick_refusal d.size d.cells picks) (tear_refusal d.cells torn)

-- the answer is the reason where there is one, unless memory ran out
abbrev pub AnswersCrash : Option CrashRefused → Result (Unit {0}) CrashRefused → Type 0
AnswersCrash refusal (Ok done) = refusal ≡ None
AnswersCrash refusal (Err Memory) = Unit {0}
AnswersCrash refusal (Err reason) = refusal ≡ Some reason

-- ---- damage

-- a disk of which one place was damaged, and reads as this page
abbrev pub damaged : DiskState → ℕ → List ℕ → DiskState
damaged d place page = record d { cells = λ q. if q == place then hurt_cell (d.cells q) page else d.cells q }

-- why damage is refused
abbrev pub damage_refusal : DiskState → ℕ → List ℕ → Option DamageRefused
damage_refusal d place page =
    if nat_lt place d.size then (if is_miss (d.cells place) page then None else Some (NoMissThere place)) else Some (NoSuchPlace place)

-- the answer is the reason where there is one, unless memory ran out
abbrev pub AnswersDamage : Option DamageRefused → Result (Unit {0}) DamageRefused → Type 0
AnswersDamage refusal (Ok done) = refusal ≡ None
AnswersDamage refusal (Err NoMemoryFound) = Unit {0}
AnswersDamage refusal (Err reason) = refusal ≡ Some reason

-- ---- a page that is a miss

-- the answer is the first miss, or says truly why there is none, unless memory ran out
abbrev pub AnswersMiss : DiskState → ℕ → Result (List ℕ) MissRefused → Type 0
AnswersMiss d place (Ok page) = (place < d.size) × IsFirstMiss (d.cells place) page
AnswersMiss d place (Err (NoPlaceThere named)) = (named ≡ place) × (d.size ≤ place)
AnswersMiss d place (Err (AllTaken named)) = (named ≡ place) × (place < d.size) × IsAllTaken (d.cells place)
AnswersMiss d place (Err NoMemoryLeft) = Unit {0}
