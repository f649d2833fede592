-- Commands: what a line's first word asks for.
use Rattle.std.specs.Prelude.{ℕ, Bool, ◌||◌, if◌then◌else◌, List, codes, Option, Some, None, Result}
use Rattle.std.specs.Str.{bytes_eq}
use Rattle.vb_script.specs.declared.error.LineKind.TheVariants as kind
use Rattle.vb_script.specs.Steps.{Fault, or_wrong}
use Rattle.vb_script.specs.Verbs.{Verb}
use Rattle.vb_script.specs.Verbs as verbs

-- what a line asks for: it gives the disk's size, begins a writer's section, stands in one, begins the schedule, or stands in it
pub data Command : Type 0 where
  Disk : Command
  Writer : Command
  InSection : (verb : Verb) → Command
  Schedule : Command
  InSchedule : Command

-- what a word asks for in a writer's section
unfoldable pub verb_of : List ℕ → Option Verb
verb_of word =
    if bytes_eq word (codes "create") then Some verbs.Create
    else if bytes_eq word (codes "mkdir") then Some verbs.MakeDir
    else if bytes_eq word (codes "write") then Some verbs.Write
    else if bytes_eq word (codes "truncate") then Some verbs.Truncate
    else if bytes_eq word (codes "rename") then Some verbs.Rename
    else if bytes_eq word (codes "rm") then Some verbs.Remove
    else if bytes_eq word (codes "rmdir") then Some verbs.RemoveDir
    else if bytes_eq word (codes "read") then Some verbs.Read
    else if bytes_eq word (codes "ls") then Some verbs.List
    else if bytes_eq word (codes "stat") then Some verbs.Stat
    else if bytes_eq word (codes "freeze") then Some verbs.Freeze
    else None

-- whether a word begins a line of a schedule
unfoldable pub is_schedule_word : List ℕ → Bool
is_schedule_word word =
    bytes_eq word (codes "call") || bytes_eq word (codes "commit") || bytes_eq word (codes "upload")
    || bytes_eq word (codes "drop") || bytes_eq word (codes "scrub") || bytes_eq word (codes "crash")
    || bytes_eq word (codes "mount") || bytes_eq word (codes "rollback") || bytes_eq word (codes "damage")
    || bytes_eq word (codes "fail") || bytes_eq word (codes "peek")

-- a verb as a command
abbrev pub in_section : Option Verb → Option Command
in_section None = None
in_section (Some verb) = Some (InSection verb)

-- what a line's first word asks for
unfoldable pub command_of : List ℕ → Option Command
command_of word =
    if bytes_eq word (codes "disk") then Some Disk
    else if bytes_eq word (codes "writer") then Some Writer
    else if bytes_eq word (codes "schedule") then Some Schedule
    else if is_schedule_word word then Some InSchedule
    else in_section (verb_of word)

-- the command of a line
abbrev pub a_command : List ℕ → Result Command Fault
a_command word = or_wrong kind.Unknown (command_of word)
