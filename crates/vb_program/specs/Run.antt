-- What a run may come to, and what is then written.
use Rattle.std.specs.Prelude.{◌≡◌, ℕ, Bool, true, false, nat_eq, ◌==◌, if◌then◌else◌, List, [], ◌∷◌, ◌++◌, take, codes, unwrap_or, Result, Ok, Err, IsErr, ◌⊎◌}
use Rattle.std.specs.Cmp.Lexicographic.{pointwise}
use Rattle.vb_tree.specs.declared.tree.Limits.{Limits}
use Rattle.vb_hist.specs.declared.entry.Entry.{Entry}
use Rattle.vb_hist.specs.Histories.{folder_after}
use Rattle.vb_hist.specs.Quiet.{quiet_history, last_epoch_of}
use Rattle.vb_geometry.specs.Layout.{StoreSize, page_limit}
use Rattle.vb_cause.specs.Faults.{counted}
use Rattle.vb_cloud.specs.Published.{PublishedView}
use Rattle.vb_script.specs.Scripts.{script_of}
use Rattle.vb_script.specs.declared.script.Script.{Script}
use Rattle.vb_script.specs.declared.script.Form.TheVariants.{Rehearse}
use Rattle.vb_script.specs.declared.error.LineKind.{LineKind}
use Rattle.vb_script.specs.declared.error.LineKind.TheVariants as kinds
use Rattle.vb_script.specs.declared.error.ScriptError.{ScriptError}
use Rattle.vb_script.specs.declared.error.ScriptError.TheVariants as script
use Rattle.vb_report.specs.Text.{epoch_line, named_line, line_feed, history_text, text_of}
use Rattle.vb_report.specs.Reports.{ReportView, with_text, with_shortage}
use Rattle.vb_stream.specs.Counts.{faults_after_write, shortages_after_write}
use Rattle.vb_stream.specs.declared.sink.SinkError.{SinkError}
use Rattle.vb_stream.specs.declared.sink.SinkError.TheVariants as sink
use Rattle.vb_program.specs.declared.ending.Ending.{Ending}
use Rattle.vb_program.specs.declared.ending.Ending.TheVariants.{Whole, Words, Source, Wrong, NotYet, Memory}
use mathlib.Core.List.{IsPrefix}

-- whether the words are none, or the one word `rehearse`
abbrev pub are_words : List (List ℕ) → Bool
are_words [] = true
are_words (word ∷ []) = pointwise nat_eq word (codes "rehearse")
are_words (word ∷ another ∷ words) = false

-- the disk of a script that names none: 16,384 blocks and 1,024 nodes
abbrev pub usual_disk : StoreSize
usual_disk = record { blocks = 16384; nodes = 1024 }

-- the limits that a disk sets: the pages that it has room for, and its nodes
abbrev pub limits_of_disk : StoreSize → Limits
limits_of_disk disk = record { pages = page_limit disk.blocks disk.nodes; nodes = disk.nodes }

-- the limits of a rehearsal: those of its script's disk
abbrev pub limits_of : Script → Limits
limits_of script = limits_of_disk (unwrap_or script.disk usual_disk)

-- the most bytes that are read: one more than a script may have
abbrev pub most_read : ℕ
most_read = 16777217

-- what the bytes that are read say
abbrev pub script_in : List ℕ → Result Script ScriptError
script_in input = script_of Rehearse (take most_read input)

-- the history of the quiet run of a script
abbrev pub history_of_run : Script → List Entry
history_of_run script = quiet_history (limits_of script) script.writers

-- the view that a quiet run published last: the folder after its history, at the history's last epoch
abbrev pub view_after : List Entry → PublishedView
view_after history = record { epoch = last_epoch_of history; tree = folder_after [] history }

-- the name of what is wrong with a line
abbrev pub kind_text : LineKind → List ℕ
kind_text kinds.Unknown = codes "Unknown"
kind_text kinds.Place = codes "Place"
kind_text kinds.Words = codes "Words"
kind_text kinds.Number = codes "Number"
kind_text kinds.Hex = codes "Hex"
kind_text kinds.Path = codes "Path"
kind_text kinds.Range = codes "Range"
kind_text kinds.Twice = codes "Twice"
kind_text kinds.Long = codes "Long"

-- the error line of a script that has a wrong line
abbrev pub wrong_text : ℕ → LineKind → List ℕ
wrong_text line kind = named_line (codes "error script ") line (kind_text kind)

-- the error line of a script with a line that isn't played yet
abbrev pub not_yet_text : ℕ → List ℕ
not_yet_text line = epoch_line (codes "error notyet ") line

-- the lines are those of a front of the quiet run's history; before the script is read there are none
abbrev pub AreFirstLines : List ℕ → List ℕ → Type 0
AreFirstLines input lines =
    (lines ≡ []) ⊎ ((script : Script) × (front : List Entry)
    × (script_in input ≡ Ok script) × IsPrefix front (history_of_run script) × (lines ≡ history_text front))

-- the status of each ending
abbrev pub status_of : Ending → ℕ
status_of Whole = 0
status_of Words = 2
status_of Source = 3
status_of (Wrong line kind) = 5
status_of (NotYet line) = 11
status_of Memory = 10

-- the error line of an ending that needs no number
abbrev pub error_line : Ending → List ℕ
error_line Whole = []
error_line Words = codes "error words" ++ line_feed
error_line Source = codes "error source" ++ line_feed
error_line (Wrong line kind) = []
error_line (NotYet line) = []
error_line Memory = codes "error memory" ++ line_feed

-- the lines before that error line, from these words and bytes
abbrev pub Reports : List (List ℕ) → List ℕ → Ending → List ℕ → Type 0
Reports words input Whole lines =
    (are_words words ≡ true) × (script : Script) × (script_in input ≡ Ok script) × (lines ≡ text_of (history_of_run script) (view_after (history_of_run script)))
Reports words input Words lines = (are_words words ≡ false) × (lines ≡ [])
Reports words input Source lines = (are_words words ≡ true) × (lines ≡ [])
Reports words input (Wrong line kind) lines =
    (are_words words ≡ true) × (script_in input ≡ Err (script.Wrong line kind)) × (lines ≡ wrong_text line kind)
Reports words input (NotYet line) lines =
    (are_words words ≡ true) × (script_in input ≡ Err (script.NotYet line)) × (lines ≡ not_yet_text line)
Reports words input Memory lines = (are_words words ≡ true) × AreFirstLines input lines

-- what is told of a folder that was played on, of its history and the view that is published: all of the text; or, where
-- the run found no memory, all lines of the history that it made; or, where the report found none, which it counted, whole
-- lines of that history as far as it did
abbrev pub TellsFolder : List Entry → PublishedView → ReportView → Ending → ReportView → Type 0
TellsFolder history view before Whole after = after ≡ with_text before (text_of history view)
TellsFolder history view before Memory after =
    (after ≡ with_text before (history_text history))
    ⊎ ((front : List Entry) × IsPrefix front history × (after ≡ with_shortage (with_text before (history_text front))))
TellsFolder history view before other after = ⊥

-- the text of a history and of the view after it, or the lines of a front of it, as far as memory was found
abbrev pub TellsHistory : List Entry → Ending → List ℕ → Type 0
TellsHistory history Whole lines = lines ≡ text_of history (view_after history)
TellsHistory history Memory lines = (front : List Entry) × IsPrefix front history × (lines ≡ history_text front)
TellsHistory history other lines = ⊥

-- the ending of a script that isn't read
abbrev pub ending_at : ScriptError → Ending
ending_at (script.Wrong line kind) = Wrong line kind
ending_at (script.NotYet line) = NotYet line
ending_at script.Memory = Memory

-- its error line, where that has a number
abbrev pub refusal_text : ScriptError → List ℕ
refusal_text (script.Wrong line kind) = wrong_text line kind
refusal_text (script.NotYet line) = not_yet_text line
refusal_text script.Memory = []

-- the error line of a script that isn't read, or nothing where memory ran out
abbrev pub TellsRefusal : ScriptError → ReportView → Ending → ReportView → Type 0
TellsRefusal error before ending after =
    ((ending ≡ ending_at error) × (after ≡ with_text before (refusal_text error)))
    ⊎ ((ending ≡ Memory) × (after ≡ with_shortage before))

-- all that is due at an ending: the lines, and then its error line
abbrev pub IsDue : List (List ℕ) → List ℕ → Ending → List ℕ → Type 0
IsDue words input ending due = (lines : List ℕ) × Reports words input ending lines × (due ≡ lines ++ error_line ending)

-- the status where a write failed: a run that is whole so far ends with 4, and another keeps its status
abbrev pub status_after_fault : Ending → ℕ
status_after_fault Whole = 4
status_after_fault other = status_of other

-- the status where a write found no memory: a run that is whole so far ends with 10, and another keeps its status
abbrev pub status_after_shortage : Ending → ℕ
status_after_shortage Whole = 10
status_after_shortage other = status_of other

-- the statuses of a script that isn't read: that of its first wrong line, or of its first line that isn't played yet,
-- unless the words, the source or the memory were wanting
abbrev pub IsRefused : ScriptError → ℕ → Type 0
IsRefused error status =
    (status ≡ status_of (ending_at error)) ⊎ ((status ≡ status_of Words) ⊎ ((status ≡ status_of Source) ⊎ (status ≡ status_of Memory)))

-- the status of a run whose lines were written with this outcome
abbrev pub status_after : {A : Type 0} → Ending → Result A SinkError → ℕ
status_after ending (Ok done) = status_of ending
status_after ending (Err sink.Failed) = status_after_fault ending
status_after ending (Err sink.Memory) = status_after_shortage ending

-- what a sink counted while the lines were written: a failed write raised the faults alone, and want of memory the
-- shortages alone, each once; and nothing was written after either
pub record IsCounted {A : Type 0} (outcome : Result A SinkError) (faults shortages new_faults new_shortages : ℕ) (stopped : Bool) : Type 0 where
  pub faults_counted : new_faults ≡ faults_after_write faults outcome
  pub shortages_counted : new_shortages ≡ shortages_after_write shortages outcome
  pub nothing_follows : IsErr outcome → stopped ≡ true

-- what a sink counted at a status: at 0 all was written, at 4 a write failed, and at each other status at most one write
-- didn't come to its end, which was the last one
abbrev pub CountsAt : ℕ → ℕ → ℕ → ℕ → ℕ → Bool → Type 0
CountsAt status faults shortages new_faults new_shortages stopped =
    (outcome : Result Unit SinkError) × IsCounted outcome faults shortages new_faults new_shortages stopped
    × (status ≡ 0 → outcome ≡ Ok tt) × (status ≡ 4 → outcome ≡ Err sink.Failed)

-- the source's faults at an ending: one more where the source failed, and else as before
abbrev pub faults_at : Ending → ℕ → ℕ
faults_at Source faults = counted faults
faults_at other faults = faults

-- the source's faults at a status: one more at 3, and else as before
abbrev pub faults_at_status : ℕ → ℕ → ℕ
faults_at_status status faults = if status == 3 then counted faults else faults
