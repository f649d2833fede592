-- The quiet run: what happens where writers follow each other and nothing fails.
use Rattle.std.specs.Prelude.{ℕ, ◌+◌, Bool, true, false, if◌then◌else◌, List, [], ◌∷◌, ◌++◌, length}
use Rattle.std.specs.List.{fold, sum_by, AllByRecursion}
use Rattle.vb_tree.specs.declared.tree.Limits.{Limits}
use Rattle.vb_tree.specs.Operations.{reply_of, is_done, IsInRange}
use Rattle.vb_hist.specs.declared.entry.Entry.{Entry}
use Rattle.vb_hist.specs.declared.entry.Entry.TheVariants.{Call, Freeze, Commit, Rest, Publish, End}
use Rattle.vb_hist.specs.declared.script.Line.{Line}
use Rattle.vb_hist.specs.declared.script.Line.TheVariants as lines
use Rattle.vb_hist.specs.declared.script.WriterScript.{WriterScript}
use Rattle.vb_hist.specs.Histories.{folder_after}

-- the last epoch after one more entry
abbrev pub epoch_after : ℕ → Entry → ℕ
epoch_after last (Freeze by epoch) = epoch
epoch_after last other = last

-- the last epoch of a history that starts at 0
abbrev pub last_epoch_of : List Entry → ℕ
last_epoch_of history = fold epoch_after 0 history

-- whether a call was answered Done since the last freeze, after one more entry
abbrev pub unfrozen_after : Bool → Entry → Bool
unfrozen_after before (Call writer op reply) = if is_done reply then true else before
unfrozen_after before (Freeze by epoch) = false
unfrozen_after before other = before

-- whether a call was answered Done after the last freeze
abbrev pub is_unfrozen : List Entry → Bool
is_unfrozen history = fold unfrozen_after false history

-- a freeze at an epoch that is committed, comes to rest and is published before anything else happens
abbrev pub published_freeze : ℕ → ℕ → List Entry
published_freeze by epoch = Freeze by epoch ∷ Commit epoch ∷ Rest epoch ∷ Publish epoch ∷ []

-- the history after a freeze at the next epoch
abbrev pub after_quiet_freeze : ℕ → List Entry → List Entry
after_quiet_freeze by history = history ++ published_freeze by (last_epoch_of history + 1)

-- the history after one line of a writer: an operation is a call with its reply
abbrev pub after_line : Limits → ℕ → List Entry → Line → List Entry
after_line limits writer history (lines.Perform op) =
    history ++ Call writer op (reply_of limits (folder_after [] history) op) ∷ []
after_line limits writer history lines.Freeze = after_quiet_freeze writer history

-- the history after all lines of a writer, which then ends
abbrev pub after_writer : Limits → List Entry → WriterScript → List Entry
after_writer limits history script = fold (after_line limits script.writer) history script.lines ++ End script.writer ∷ []

-- the program freezes once more where a call was answered Done after the last freeze
abbrev pub with_last_freeze : List Entry → List Entry
with_last_freeze history = if is_unfrozen history then after_quiet_freeze 0 history else history

-- the history of scripts whose writers follow each other
abbrev pub quiet_history : Limits → List WriterScript → List Entry
quiet_history limits scripts = with_last_freeze (fold (after_writer limits) [] scripts)

-- the line's operation, where it has one, is in its ranges
abbrev pub IsLineInRange : Line → Type 0
IsLineInRange (lines.Perform op) = IsInRange op
IsLineInRange lines.Freeze = Unit {0}

-- every line of every script is in its ranges
abbrev pub AreInRange : List WriterScript → Type 0
AreInRange scripts = AllByRecursion (λ script. AllByRecursion IsLineInRange script.lines) scripts

-- how many lines the scripts have
abbrev pub line_count : List WriterScript → ℕ
line_count scripts = sum_by (λ script. length script.lines) scripts
