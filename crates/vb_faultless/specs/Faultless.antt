-- What an event answers over whole devices that list no failure.
use Rattle.std.specs.Prelude.{◌≡◌, ◌⊎◌, Option, Some, Result}
use Rattle.vb_cause.specs.Causes.{UsesFailures}
use Rattle.vb_cloud.specs.Machine.{CloudState}
use Rattle.vb_disk.specs.States.{DiskState}
use Rattle.vb_during.specs.TornPages.{IsAllWhole}
use Rattle.vb_event.specs.Answers.{IsDue}
use Rattle.vb_event.specs.Core.{Core, Given}
use Rattle.vb_event.specs.declared.answer.FaultKind.{FaultKind}
use Rattle.vb_event.specs.declared.answer.FaultKind.TheVariants.{Memory}
use Rattle.vb_event.specs.declared.answer.FolderAnswer.{FolderAnswer}
use Rattle.vb_event.specs.declared.answer.FolderAnswer.TheVariants as answers
use Rattle.vb_event.specs.declared.event.FolderEvent.{FolderEvent}
use Rattle.vb_local.specs.Phases.{AreTied}
use Rattle.vb_local.specs.Shown.{LocalTrees, ShowsOn}
use Rattle.vb_folder.specs.Ledgers.{LedgerState}

-- a disk of which no place is hurt shows a folder with these trees
pub record ShowsWhole (d : DiskState) (s : LedgerState) (t : LocalTrees) : Type 0 where
  pub whole : IsAllWhole d
  pub tied : AreTied s.local
  pub shows : ShowsOn d s.local t

-- an answer blames no device: where it is a fault, no memory was found
abbrev pub BlamesNone : FolderAnswer → Type 0
BlamesNone answer = (kind : FaultKind) → answer ≡ answers.Fault kind → kind ≡ Memory

-- an event was answered as it is due, or no memory was found
abbrev pub IsDueOrMemory : Given → Core → FolderEvent → FolderAnswer → Type 0
IsDueOrMemory given core event answer = IsDue given core event answer ⊎ (answer ≡ answers.Fault Memory)
