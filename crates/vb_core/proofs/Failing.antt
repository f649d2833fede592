-- Errors of operations, with the names of their pages.
use Rattle.std.proofs.Common.{◌≡◌, ℕ, List, Option, Result, Err, refl, sym, subst, ap}
use Rattle.vb_active.specs.Needs.{IsErrorOn}
use Rattle.vb_disk.specs.States.{DiskState}
use Rattle.vb_event.specs.declared.answer.FaultKind.TheVariants as faults
use Rattle.vb_folder.specs.Events.{page_fault}
use Rattle.vb_folder.specs.Ledgers.{LedgerState}
use Rattle.vb_pages.specs.declared.page_error.PageError.{PageError}
use Rattle.vb_pages.specs.declared.page_error.PageError.TheVariants as pages
use Rattle.vb_tree.specs.declared.operation.Op.{Op}
use Rattle.vb_core.specs.Folders.{folder_fault}
use Rattle.vb_core.specs.Names.{NamesPage}
use Rattle.vb_core.specs.declared.folder_error.FolderError.{FolderError}
use Rattle.vb_core.specs.declared.folder_error.FolderError.TheVariants.{Damaged, DiskFault, LinkFault, Memory}

-- damage leaves the folder
abbrev pub LeavesDamaged : LedgerState → LedgerState → PageError → Type 0
LeavesDamaged old new error = (place : ℕ) (kept found : List ℕ) → error ≡ pages.Damaged place kept found → new ≡ old

-- so its live view has the damaged page afterwards
pub error-then : (told : Option DiskState) (op : Op) (old new : LedgerState) (error : PageError) → LeavesDamaged old new error → IsErrorOn told old.local.live op error → IsErrorOn told new.local.live op error
error-then told op old new (pages.Damaged place kept found) leaves is =
    subst (λ (s : LedgerState). IsErrorOn told s.local.live op (pages.Damaged place kept found)) (sym (leaves place kept found refl)) is
error-then told op old new pages.DiskFault leaves is = tt
error-then told op old new pages.Memory leaves is = tt

-- and the page that is named is one of the live view before
pub names-before : (told : Option DiskState) (op : Op) (old new : LedgerState) (error : PageError) (named : FolderError) → LeavesDamaged old new error → folder_fault named ≡ page_fault error → NamesPage told new.local.live op (Err named) → NamesPage told old.local.live op (Err named)
names-before told op old new (pages.Damaged at was found) (Damaged path page place kept digest) leaves fault names =
    subst (λ (s : LedgerState). NamesPage told s.local.live op (Err (Damaged path page place kept digest))) (leaves at was found refl) names
names-before told op old new pages.DiskFault (Damaged path page place kept digest) leaves fault names = (let e : faults.Damaged ≡ faults.Disk = fault in absurd (cc e))
names-before told op old new pages.Memory (Damaged path page place kept digest) leaves fault names = (let e : faults.Damaged ≡ faults.Memory = fault in absurd (cc e))
names-before told op old new error DiskFault leaves fault names = tt
names-before told op old new error LinkFault leaves fault names = names
names-before told op old new error Memory leaves fault names = tt
