-- What it means that a history merges the scripts of its writers.
use Rattle.std.specs.Prelude.{◌≡◌, ◌⊎◌, ℕ, Bool, true, false, List, [], ◌∷◌, ◌++◌}
use Rattle.std.specs.List.{AllByRecursion, AllZip, Any, filter}
use Rattle.vb_tree.specs.declared.reply.Reply.{Reply}
use Rattle.vb_hist.specs.declared.entry.Entry.{Entry}
use Rattle.vb_hist.specs.declared.entry.Entry.TheVariants.{Call, Freeze, FreezeBusy, End}
use Rattle.vb_hist.specs.declared.script.Line.{Line}
use Rattle.vb_hist.specs.declared.script.Line.TheVariants as lines
use Rattle.vb_hist.specs.declared.script.WriterScript.{WriterScript}
use Rattle.vb_hist.specs.Makers.{entries_of, maker_of}

-- whether it is a writer's: a call, a freeze that was made or was busy, or the writer's end
abbrev pub is_writers : Entry → Bool
is_writers (Call writer op reply) = true
is_writers (Freeze by epoch) = true
is_writers (FreezeBusy writer epoch) = true
is_writers (End writer) = true
is_writers other = false

-- the lines of a number: its calls, freezes and end, in their order
abbrev pub lines_of : ℕ → List Entry → List Entry
lines_of number history = filter is_writers (entries_of number history)

-- an entry is what became of a line of a writer's script: a call of the operation, or a freeze that was made or was busy
abbrev pub IsPlayOf : ℕ → Line → Entry → Type 0
IsPlayOf writer (lines.Perform op) entry = (reply : Reply) × (entry ≡ Call writer op reply)
IsPlayOf writer lines.Freeze entry = (epoch : ℕ) × ((entry ≡ Freeze writer epoch) ⊎ (entry ≡ FreezeBusy writer epoch))

-- these entries are what became of a script: of its lines in order, and then the writer's end
abbrev pub ArePlayOf : WriterScript → List Entry → Type 0
ArePlayOf script entries =
    (played : List Entry) × AllZip (IsPlayOf script.writer) script.lines played × (entries ≡ played ++ End script.writer ∷ [])

-- an entry's number is 0 or a writer's
abbrev pub IsOfWriter : List WriterScript → Entry → Type 0
IsOfWriter scripts entry = (maker_of entry ≡ 0) ⊎ Any (λ script. script.writer ≡ maker_of entry) scripts

-- a history merges scripts: the lines of each writer are what became of its script, and no other number is there
pub record Merges (history : List Entry) (scripts : List WriterScript) : Type 0 where
  pub played : AllByRecursion (λ script. ArePlayOf script (lines_of script.writer history)) scripts
  pub known : AllByRecursion (IsOfWriter scripts) history
