-- A folder over its devices: what contracts see of it, and its answers.
use Rattle.std.specs.Prelude.{Result, Ok, Err}
use Rattle.vb_event.specs.declared.answer.FaultKind.{FaultKind}
use Rattle.vb_event.specs.declared.answer.FaultKind.TheVariants as faults
use Rattle.vb_event.specs.declared.answer.FolderAnswer.{FolderAnswer}
use Rattle.vb_event.specs.declared.answer.FolderAnswer.TheVariants as answers
use Rattle.vb_folder.specs.Ledgers.{LedgerState}
use Rattle.vb_publish.specs.declared.step.UploadStep.{UploadStep}
use Rattle.vb_tree.specs.declared.reply.Reply.{Reply}
use Rattle.vb_core.specs.declared.folder.Folder.{Folder}
use Rattle.vb_core.specs.declared.folder_error.FolderError.{FolderError}
use Rattle.vb_core.specs.declared.folder_error.FolderError.TheVariants.{Damaged, DiskFault, LinkFault, Memory}

-- ---- its parts

-- the folder beside its devices
abbrev pub ledger_in : {D K : Type 0} → Folder D K → LedgerState
ledger_in folder = folder.ledger

-- the disk that it stands on
abbrev pub disk_in : {D K : Type 0} → Folder D K → D
disk_in folder = folder.disk

-- the link to its cloud
abbrev pub link_in : {D K : Type 0} → Folder D K → K
link_in folder = folder.link

-- ---- results as answers

-- why a call of the folder failed
abbrev pub folder_fault : FolderError → FaultKind
folder_fault (Damaged path page place kept found) = faults.Damaged
folder_fault DiskFault = faults.Disk
folder_fault LinkFault = faults.Link
folder_fault Memory = faults.Memory

-- the answer of an operation
abbrev pub called_answer : Result Reply FolderError → FolderAnswer
called_answer (Ok reply) = answers.Called reply
called_answer (Err error) = answers.Fault (folder_fault error)

-- that of an upload step
abbrev pub uploaded_answer : Result UploadStep FolderError → FolderAnswer
uploaded_answer (Ok step) = answers.UploadStepped step
uploaded_answer (Err error) = answers.Fault (folder_fault error)
