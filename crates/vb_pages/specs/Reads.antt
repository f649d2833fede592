-- What a read of a page answers.
use Rattle.std.specs.Prelude.{◌≡◌, ◌≢◌, ℕ, List, Result, Ok, Err}
use Rattle.sha2.specs.Sha256.{sha256}
use Rattle.vb_block.specs.declared.digest.Ref.{Ref}
use Rattle.vb_disk.specs.declared.disk_error.DiskError.{DiskError}
use Rattle.vb_disk.specs.declared.disk_error.DiskError.TheVariants as disk_errors
use Rattle.vb_pages.specs.declared.page_error.PageError.{PageError}
use Rattle.vb_pages.specs.declared.page_error.PageError.TheVariants.{Damaged, DiskFault, Memory}

-- what an error of the disk is to one who reads a page
abbrev pub page_error_of : DiskError → PageError
page_error_of disk_errors.Failed = DiskFault
page_error_of disk_errors.Memory = Memory

-- a damage names the reference's place and the digest that is due, and the digest that was found is another one
pub record IsDamageOf (reference : Ref) (place : ℕ) (kept found : List ℕ) : Type 0 where
  pub here : place ≡ reference.place
  pub due : kept ≡ reference.digest
  pub differ : kept ≢ found

-- a page that is given has the reference's digest, and damage is damage of that reference
abbrev pub AnswersRead : Ref → Result (List ℕ) PageError → Type 0
AnswersRead reference (Ok page) = sha256 page ≡ reference.digest
AnswersRead reference (Err (Damaged place kept found)) = IsDamageOf reference place kept found
AnswersRead reference (Err DiskFault) = Unit {0}
AnswersRead reference (Err Memory) = Unit {0}

-- where a read gave these bytes, they are the page that is given, or the digest that was found is theirs
abbrev pub GivesWhatWasRead : List ℕ → Result (List ℕ) PageError → Type 0
GivesWhatWasRead bytes (Ok page) = page ≡ bytes
GivesWhatWasRead bytes (Err (Damaged place kept found)) = found ≡ sha256 bytes
GivesWhatWasRead bytes (Err DiskFault) = Unit {0}
GivesWhatWasRead bytes (Err Memory) = Unit {0}
