-- Sound drafts: what holds of everything that was read so far.
use Rattle.std.specs.Prelude.{◌≡◌, ℕ, ◌+◌, ◌≤◌, false, List, length, Option, Some, None}
use Rattle.std.specs.List.{AllByRecursion}
use Rattle.vb_geometry.specs.Layout.{StoreSize}
use Rattle.vb_hist.specs.declared.script.WriterScript.{WriterScript}
use Rattle.vb_hist.specs.Quiet.{IsLineInRange, AreInRange, line_count}
use Rattle.vb_script.specs.Scripts.{Draft, has_writer, IsDiskInLimits, AreWriters}

-- the disk, where there is one, is within the limits of scripts
abbrev pub IsDiskAllowed : Option StoreSize → Type 0
IsDiskAllowed None = Unit {0}
IsDiskAllowed (Some disk) = IsDiskInLimits disk

-- the section that lines go into: its writer's number is allowed and new, and its lines are in their ranges
abbrev pub IsSoundSection : List WriterScript → Option WriterScript → Type 0
IsSoundSection ended None = Unit {0}
IsSoundSection ended (Some section) =
    (1 ≤ section.writer) × (section.writer ≤ 64) × (has_writer section.writer ended ≡ false) × AllByRecursion IsLineInRange section.lines

-- how many lines the section has that lines go into
abbrev pub section_lines : Option WriterScript → ℕ
section_lines None = 0
section_lines (Some section) = length section.lines

-- how many lines there are so far
abbrev pub lines_in : Draft → ℕ
lines_in draft = line_count draft.ended + section_lines draft.section

-- what was read so far may be handed on
pub record IsSound (draft : Draft) : Type 0 where
  pub disk_allowed : IsDiskAllowed draft.disk
  pub writers_allowed : AreWriters draft.ended
  pub lines_in_range : AreInRange draft.ended
  pub section_sound : IsSoundSection draft.ended draft.section
