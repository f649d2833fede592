-- What the reader's own types mean in the grammar.
use Rattle.std.specs.Prelude.{◌≡◌, Option, Some, None, Result, Ok, Err, MatchOption}
use Rattle.vb_script.specs.declared.error.LineKind.{LineKind}
use Rattle.vb_script.specs.declared.error.LineError.{LineError}
use Rattle.vb_script.specs.declared.error.LineError.TheVariants as error
use Rattle.vb_script.specs.declared.command.Command.{Command as ReadCommand}
use Rattle.vb_script.specs.declared.command.Command.TheVariants as command
use Rattle.vb_script.specs.declared.command.Verb.{Verb as ReadVerb}
use Rattle.vb_script.specs.declared.command.Verb.TheVariants as verb
use Rattle.vb_script.specs.Steps.{Fault, Wrong, NotYet}
use Rattle.vb_script.specs.Verbs.{Verb}
use Rattle.vb_script.specs.Verbs as verbs
use Rattle.vb_script.specs.Commands.{Command}
use Rattle.vb_script.specs.Commands as commands

-- the verb that one of the reader's stands for
abbrev pub verb_meant : ReadVerb → Verb
verb_meant verb.Create = verbs.Create
verb_meant verb.MakeDir = verbs.MakeDir
verb_meant verb.Write = verbs.Write
verb_meant verb.Truncate = verbs.Truncate
verb_meant verb.Rename = verbs.Rename
verb_meant verb.Remove = verbs.Remove
verb_meant verb.RemoveDir = verbs.RemoveDir
verb_meant verb.Read = verbs.Read
verb_meant verb.List = verbs.List
verb_meant verb.Stat = verbs.Stat
verb_meant verb.Freeze = verbs.Freeze

-- the command that one of the reader's stands for
abbrev pub command_meant : ReadCommand → Command
command_meant command.Disk = commands.Disk
command_meant command.Writer = commands.Writer
command_meant (command.InSection verb) = commands.InSection (verb_meant verb)
command_meant command.Schedule = commands.Schedule
command_meant command.InSchedule = commands.InSchedule

-- the fault that an error of the reader stands for: want of memory is none
abbrev pub fault_meant : LineError → Option Fault
fault_meant (error.Wrong kind) = Some (Wrong kind)
fault_meant error.NotYet = Some NotYet
fault_meant error.Memory = None

-- what a step found that takes no memory: a value, or how the line is wrong
abbrev pub found : {A : Type 0} → Result A LineKind → Result A Fault
found (Ok value) = Ok value
found (Err kind) = Err (Wrong kind)

-- what was read is what is due, unless memory ran out
abbrev pub Gives : {A : Type 0} → Result A LineError → Result A Fault → Type 0
Gives (Ok value) due = due ≡ Ok value
Gives (Err error) due = MatchOption (fault_meant error) (Unit {0}) (λ fault. due ≡ Err fault)
