-- Scripts: from the bytes to what they say, or to the first line that isn't read.
use Rattle.std.specs.Prelude.{◌≡◌, ℕ, ◌+◌, ◌≤◌, Bool, true, false, not, nat_lt, nat_le, ◌==◌, ◌&&◌, is_none, if◌then◌else◌, List, [], ◌∷◌, ◌++◌, length, take, count_by, Option, Some, None, Result, Ok, Err}
use Rattle.std.specs.List.{list_any}
use Rattle.std.specs.Option.{option_to_list}
use Rattle.vb_geometry.specs.Layout.{StoreSize, IsStoreSize, is_store_size}
use Rattle.vb_hist.specs.declared.script.Line.{Line}
use Rattle.vb_hist.specs.declared.script.WriterScript.{WriterScript}
use Rattle.vb_script.specs.declared.error.LineKind.TheVariants as kind
use Rattle.vb_script.specs.declared.error.ScriptError.{ScriptError}
use Rattle.vb_script.specs.declared.error.ScriptError.TheVariants.{Wrong, NotYet, Memory}
use Rattle.vb_script.specs.declared.script.Form.{Form}
use Rattle.vb_script.specs.declared.script.Form.TheVariants.{Rehearse, Run}
use Rattle.vb_script.specs.declared.script.Script.{Script}
use Rattle.vb_script.specs.Steps.{Fault, ◌>>=◌, provided}
use Rattle.vb_script.specs.Steps as fault
use Rattle.vb_script.specs.Words.{lines_of, words_of, one_word, two_words, no_word, a_number}
use Rattle.vb_script.specs.Commands.{Command, Disk, Writer, InSection, Schedule, InSchedule, a_command}
use Rattle.vb_script.specs.Lines.{line_of}

-- the most bytes that a script has
abbrev pub most_bytes : ℕ
most_bytes = 16777216

-- whether a line is skipped: an empty one, and one that begins with `#`
abbrev pub is_skipped : List ℕ → Bool
is_skipped [] = true
is_skipped (b ∷ bs) = b == 35

-- whether a form has a disk and a schedule: a rehearsal has
abbrev pub is_rehearsal : Form → Bool
is_rehearsal Rehearse = true
is_rehearsal Run = false

-- what was read so far: the disk, the sections that ended, and the one that lines go into
pub record Draft : Type 0 where
  pub disk : Option StoreSize
  pub ended : List WriterScript
  pub section : Option WriterScript

-- nothing is read so far
abbrev pub blank : Draft
blank = record { disk = None; ended = []; section = None }

-- whether nothing is read so far: a disk is read first, and a section is there from the first writer on
abbrev pub is_blank : Draft → Bool
is_blank draft = is_none draft.disk && is_none draft.section

-- the sections so far: those that ended, and the one that lines go into
abbrev pub sections_of : Draft → List WriterScript
sections_of draft = draft.ended ++ option_to_list draft.section

-- whether a writer has this number
abbrev pub has_writer : ℕ → List WriterScript → Bool
has_writer writer scripts = list_any (λ script. script.writer == writer) scripts

-- whether a script's disk may have this size: one that a store may have, and at most 65,536 blocks
abbrev pub is_disk : ℕ → ℕ → Bool
is_disk blocks nodes = is_store_size blocks nodes && nat_le blocks 65536

-- `disk BLOCKS NODES`
unfoldable pub disk_line : List (List ℕ) → Result StoreSize Fault
disk_line words = do
  two ← two_words words
  blocks ← a_number two.0
  nodes ← a_number two.1
  provided kind.Range (is_disk blocks nodes) (Ok (record { blocks = blocks; nodes = nodes }))

-- `writer N`: a number from 1 to 64 that no writer has
unfoldable pub writer_line : List WriterScript → List (List ℕ) → Result ℕ Fault
writer_line scripts words = do
  word ← one_word words
  writer ← a_number word
  provided kind.Range (nat_le 1 writer && nat_le writer 64)
      (provided kind.Twice (not (has_writer writer scripts)) (Ok writer))

-- `schedule`, which isn't read yet
unfoldable pub schedule_line : List (List ℕ) → Result Draft Fault
schedule_line words = do
  nothing ← no_word words
  Err fault.NotYet

-- the draft with the disk that a line gives
abbrev pub with_disk : Draft → Result StoreSize Fault → Result Draft Fault
with_disk draft read = do
  disk ← read
  Ok (record draft { disk = Some disk })

-- the draft with the section that a writer's line begins, which the last one ends at
abbrev pub with_writer : Draft → Result ℕ Fault → Result Draft Fault
with_writer draft read = do
  writer ← read
  Ok (record draft { ended = sections_of draft; section = Some (record { writer = writer; lines = [] }) })

-- the section with one more line
abbrev pub with_line : WriterScript → Line → WriterScript
with_line section line = record section { lines = section.lines ++ line ∷ [] }

-- the draft with one more line of its section: where there is no section, a line of one has no place
abbrev pub with_section_line : Draft → Option WriterScript → Result Line Fault → Result Draft Fault
with_section_line draft None read = Err (fault.Wrong kind.Place)
with_section_line draft (Some section) read = do
  next ← read
  Ok (record draft { section = Some (with_line section next) })

-- the draft after one more command: its place comes first, and then its words. A disk comes first, and it and a schedule
-- belong to a rehearsal; a writer may come anywhere; an operation or a freeze belongs to a section; and a line of a schedule
-- has no place before the schedule
abbrev pub after_command : Form → Draft → Command → List (List ℕ) → Result Draft Fault
after_command form draft Disk words = provided kind.Place (is_rehearsal form && is_blank draft) (with_disk draft (disk_line words))
after_command form draft Writer words = with_writer draft (writer_line (sections_of draft) words)
after_command form draft (InSection verb) words = with_section_line draft draft.section (line_of verb words)
after_command form draft Schedule words = provided kind.Place (is_rehearsal form) (schedule_line words)
after_command form draft InSchedule words = Err (fault.Wrong kind.Place)

-- the draft after the words of one more line
abbrev pub after_words : Form → Draft → List (List ℕ) → Result Draft Fault
after_words form draft [] = Err (fault.Wrong kind.Unknown)
after_words form draft (word ∷ words) = do
  command ← a_command word
  after_command form draft command words

-- the draft after one more line
unfoldable pub after_line : Form → Draft → List ℕ → Result Draft Fault
after_line form draft line = if is_skipped line then Ok draft else after_words form draft (words_of line)

-- the refusal at a line that isn't read
abbrev pub refusal_at : ℕ → Fault → ScriptError
refusal_at number (fault.Wrong kind) = Wrong number kind
refusal_at number fault.NotYet = NotYet number

-- what follows a line that was read, and the refusal at a line that isn't
abbrev pub at_line : {A B : Type 0} → ℕ → Result A Fault → (A → Result B ScriptError) → Result B ScriptError
at_line number (Ok value) next = next value
at_line number (Err fault) next = Err (refusal_at number fault)

-- the draft after all of these lines, the first of which has this number
unfoldable pub after_lines : Form → ℕ → Draft → List (List ℕ) → Result Draft ScriptError
after_lines form number draft [] = Ok draft
after_lines form number draft (line ∷ lines) = at_line number (after_line form draft line) (λ next. after_lines form (number + 1) next lines)

-- what a draft says at its end
abbrev pub script_in : Draft → Script
script_in draft = record { disk = draft.disk; writers = sections_of draft }

-- the script of a draft that was read to its end
abbrev pub finished : Result Draft ScriptError → Result Script ScriptError
finished (Ok draft) = Ok (script_in draft)
finished (Err error) = Err error

-- the number of the line that has the byte at a place: one more than the line ends before it
abbrev pub line_at : ℕ → List ℕ → ℕ
line_at place bytes = count_by (λ b. b == 10) (take place bytes) + 1

-- what a script says: too many bytes come before all else, and then the first line that isn't read
unfoldable pub script_of : Form → List ℕ → Result Script ScriptError
script_of form bytes =
    if nat_lt most_bytes (length bytes) then Err (Wrong (line_at most_bytes bytes) kind.Long)
    else finished (after_lines form 1 blank (lines_of bytes))

-- what was read is what is due, unless memory ran out
abbrev pub IsDue : {A : Type 0} → Result A ScriptError → Result A ScriptError → Type 0
IsDue due (Ok value) = due ≡ Ok value
IsDue due (Err (Wrong line kind)) = due ≡ Err (Wrong line kind)
IsDue due (Err (NotYet line)) = due ≡ Err (NotYet line)
IsDue due (Err Memory) = Unit {0}

-- what was read is what the script says, unless memory ran out
abbrev pub IsScriptOf : Form → List ℕ → Result Script ScriptError → Type 0
IsScriptOf form bytes result = IsDue (script_of form bytes) result

-- a disk's size is within the limits of scripts
pub record IsDiskInLimits (disk : StoreSize) : Type 0 where
  pub size : IsStoreSize disk.blocks disk.nodes
  pub most_blocks : disk.blocks ≤ 65536

-- the writers' numbers are from 1 to 64, and no two are equal
abbrev pub AreWriters : List WriterScript → Type 0
AreWriters [] = Unit {0}
AreWriters (script ∷ scripts) = (1 ≤ script.writer) × (script.writer ≤ 64) × (has_writer script.writer scripts ≡ false) × AreWriters scripts
