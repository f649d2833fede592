-- Places that a sync settled: what they read as, and what a crash leaves.
use Rattle.std.proofs.Common.{◌≡◌, ℕ, zero, suc, ◌<◌, ◌≤◌, List, [], ◌∷◌, length, get_or, Option, unwrap_or, refl, sym, ap, subst, ◌∙◌, inl, inr, arith}
use Rattle.std.specs.List.{Contains}
use Rattle.vb_disk.specs.declared.cell.Cell.{Cell}
use Rattle.vb_disk.specs.Cells.{read_of, synced_cell}
use Rattle.vb_disk.specs.Crashes.{CellMayCrashTo, MayCrashTo}
use Rattle.vb_disk.specs.States.{DiskState, read_at}
use Rattle.vb_journal.specs.Recovering.{StandsFrom}

-- a sync leaves what a place reads as
pub read_of-synced : (cell : Cell) → read_of (synced_cell cell) ≡ read_of cell
read_of-synced cell = refl

-- a place with one candidate reads after a crash as before
alone_in : (page first : List ℕ) → Contains (page ∷ []) first → first ≡ page
alone_in page first has = elim has.0 as (λ k. k < 1 → get_or (page ∷ []) k first ≡ first → first ≡ page) [
  | zero ↦ λ within is. sym is
  | suc k ↦ λ within is. absurd (omega arith)
] has.1 has.2

read_by : (hurt : Option (List ℕ)) (first : List ℕ) → Cell
read_by hurt first = record { first = first; later = []; hurt = hurt }

pub read_of-alone : (cell : Cell) → cell.later ≡ [] → read_of cell ≡ unwrap_or cell.hurt cell.first
read_of-alone cell alone = ap (λ (l : List (List ℕ)). unwrap_or cell.hurt (get_or (cell.first ∷ l) (length l) cell.first)) alone

pub read_of-crashed : (old new : Cell) → old.later ≡ [] → CellMayCrashTo old new → read_of new ≡ read_of old
read_of-crashed old new alone crash = elim crash.hurt [
  | inl as_before ↦
      let first : new.first ≡ old.first = alone_in old.first new.first (subst (λ (l : List (List ℕ)). Contains (old.first ∷ l) new.first) alone crash.picked) in
      read_of-alone new crash.alone ∙ ap (λ (h : Option (List ℕ)). unwrap_or h new.first) as_before ∙ ap (unwrap_or old.hurt) first ∙ sym (read_of-alone old alone)
  | inr torn ↦ absurd (let none : length old.later ≡ 0 = ap length alone in omega (arith, torn.several))
]

-- a place that stands but for a sync
pub read_at-stands : (from place : ℕ) (begun d : DiskState) → StandsFrom from begun d → from ≤ place → read_at d place ≡ read_at begun place
read_at-stands from place begun d stands past = ap read_of (stands.each place past)

settled_cell : (cell : Cell) (before : Cell) → cell ≡ synced_cell before → cell.later ≡ []
settled_cell cell before is = ap (λ (c : Cell). c.later) is

pub crashed-synced : (place : ℕ) (begun d new : DiskState) → d.cells place ≡ synced_cell (begun.cells place) → MayCrashTo d new → read_at new place ≡ read_at begun place
crashed-synced place begun d new is crash =
    read_of-crashed (d.cells place) (new.cells place) (settled_cell (d.cells place) (begun.cells place) is) (crash.each place) ∙ ap read_of is

pub crashed-stands : (from place : ℕ) (begun d new : DiskState) → StandsFrom from begun d → from ≤ place → MayCrashTo d new → read_at new place ≡ read_at begun place
crashed-stands from place begun d new stands past crash = crashed-synced place begun d new (stands.each place past) crash
