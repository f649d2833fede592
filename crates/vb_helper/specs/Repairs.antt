-- What fetching a page back answers and leaves.
use Rattle.std.specs.Prelude.{◌≡◌, ◌≢◌, ◌⊎◌, ℕ, List, Option, Some, None, Result, Ok, Err, IsErrOf}
use Rattle.std.specs.List.{All}
use Rattle.sha2.specs.Sha256.{sha256}
use Rattle.vb_block.specs.Pages.{IsPage}
use Rattle.vb_block.specs.declared.digest.Ref.{Ref}
use Rattle.vb_cause.specs.Faults.{counted}
use Rattle.vb_cloud.specs.Machine.{CloudState}
use Rattle.vb_disk.specs.Cells.{candidates}
use Rattle.vb_disk.specs.Moments.{OnlyWrites}
use Rattle.vb_disk.specs.States.{DiskState, read_at, written}
use Rattle.vb_link.specs.declared.view.ViewEntry.{ViewEntry}
use Rattle.vb_link.specs.Views.{LinkView, page_in}
use Rattle.vb_sync.specs.declared.published_page.PublishedPage.{PublishedPage}
use Rattle.vb_sync.specs.Published.{first_page, IsPublished}
use Rattle.vb_helper.specs.declared.repairing.Refetched.{Refetched}
use Rattle.vb_helper.specs.declared.repairing.Refetched.TheVariants.{Whole, Repaired}
use Rattle.vb_helper.specs.declared.refetch_error.RefetchError.{RefetchError}
use Rattle.vb_helper.specs.declared.refetch_error.RefetchError.TheVariants.{NotHeld, DiskFault, LinkFault, Memory}

-- ---- the answer by the table

-- a loss names the reference's place and digest, another digest that was found, and that no published page has the due one
pub record IsLossOf (reference : Ref) (entries : List ViewEntry) (place : ℕ) (kept found : List ℕ) : Type 0 where
  pub here : place ≡ reference.place
  pub due : kept ≡ reference.digest
  pub differ : kept ≢ found
  pub unpublished : IsPublished reference.digest entries → ⊥

-- a page is repaired, and the link fails, only where the due digest is published; a page is lost only where it isn't
abbrev pub AnswersBy : List ViewEntry → Ref → Result Refetched RefetchError → Type 0
AnswersBy entries reference (Ok Whole) = Unit {0}
AnswersBy entries reference (Ok Repaired) = IsPublished reference.digest entries
AnswersBy entries reference (Err (NotHeld place kept found)) = IsLossOf reference entries place kept found
AnswersBy entries reference (Err LinkFault) = IsPublished reference.digest entries
AnswersBy entries reference (Err DiskFault) = Unit {0}
AnswersBy entries reference (Err Memory) = Unit {0}

-- ---- what is left of the disk

-- a read of the place gives a page of another digest
abbrev pub IsMissed : Ref → DiskState → Type 0
IsMissed reference d = sha256 (read_at d reference.place) ≢ reference.digest

-- a page of the due digest was written to the place: over a told cloud the one that it has where the table has its first
pub record IsMended (reference : Ref) (entries : List ViewEntry) (cloud : Option CloudState) (d : DiskState) (told : Option DiskState) : Type 0 where
  pub missed : IsMissed reference d
  pub page : List ℕ
  pub whole : IsPage page
  pub due : sha256 page ≡ reference.digest
  pub published : (k : CloudState) (at : PublishedPage) → cloud ≡ Some k → first_page reference.digest entries ≡ Some at → page_in at.entry at.page k ≡ Some page
  pub is : told ≡ Some (written d reference.place page)

-- what is left of a disk: at Whole the place reads as due; at each other answer but a fault of the disk and want of memory
-- it missed; and a write was made at Repaired, or where the disk failed in it
abbrev pub LeavesDisk : Ref → List ViewEntry → Option CloudState → DiskState → Option DiskState → Result Refetched RefetchError → Type 0
LeavesDisk reference entries cloud d told (Ok Whole) = (sha256 (read_at d reference.place) ≡ reference.digest) × (told ≡ Some d)
LeavesDisk reference entries cloud d told (Ok Repaired) = IsMended reference entries cloud d told
LeavesDisk reference entries cloud d told (Err (NotHeld place kept found)) = IsMissed reference d × (found ≡ sha256 (read_at d reference.place)) × (told ≡ Some d)
LeavesDisk reference entries cloud d told (Err LinkFault) = IsMissed reference d × (told ≡ Some d)
LeavesDisk reference entries cloud d told (Err DiskFault) = (told ≡ Some d) ⊎ IsMended reference entries cloud d told
LeavesDisk reference entries cloud d told (Err Memory) = told ≡ Some d

-- writes alone were made, at that place alone; and where it wasn't hurt and all its candidates have the due digest, it is
-- as it was
pub record Spares (reference : Ref) (d e : DiskState) : Type 0 where
  pub writes : OnlyWrites d e
  pub elsewhere : (place : ℕ) → place ≢ reference.place → e.cells place ≡ d.cells place
  pub unhurt : (d.cells reference.place).hurt ≡ None → All (λ page. sha256 page ≡ reference.digest) (candidates (d.cells reference.place)) → e.cells reference.place ≡ d.cells reference.place

-- at Ok a read of the place gives a page of the due digest, and at Repaired the place is whole
abbrev pub IsRepaired : Ref → DiskState → Result Refetched RefetchError → Type 0
IsRepaired reference e (Ok Whole) = sha256 (read_at e reference.place) ≡ reference.digest
IsRepaired reference e (Ok Repaired) = ((e.cells reference.place).hurt ≡ None) × (sha256 (read_at e reference.place) ≡ reference.digest)
IsRepaired reference e (Err error) = Unit {0}

-- ---- calls

-- how far it came: a read, then a fetch, and then a write
pub data Reached : Type 0 where
  AtStart : Reached
  AfterRead : Reached
  AfterFetch : Reached
  AfterWrite : Reached

-- how many calls of the disk were made by then
abbrev pub disk_calls_by : Reached → ℕ → ℕ
disk_calls_by AtStart calls = calls
disk_calls_by AfterRead calls = counted calls
disk_calls_by AfterFetch calls = counted calls
disk_calls_by AfterWrite calls = counted (counted calls)

-- and of the link
abbrev pub link_calls_by : Reached → ℕ → ℕ
link_calls_by AtStart calls = calls
link_calls_by AfterRead calls = calls
link_calls_by AfterFetch calls = counted calls
link_calls_by AfterWrite calls = counted calls

-- the counts of calls of a disk and of a link, before and after
pub record CallCounts : Type 0 where
  pub disk_old : ℕ
  pub disk_new : ℕ
  pub link_old : ℕ
  pub link_new : ℕ

-- so many calls were made
pub record CameTo (reached : Reached) (c : CallCounts) : Type 0 where
  pub disk : c.disk_new ≡ disk_calls_by reached c.disk_old
  pub link : c.link_new ≡ link_calls_by reached c.link_old

-- the calls that each answer takes
abbrev pub MakesCalls : CallCounts → Result Refetched RefetchError → Type 0
MakesCalls c (Ok Whole) = CameTo AfterRead c
MakesCalls c (Ok Repaired) = CameTo AfterWrite c
MakesCalls c (Err (NotHeld place kept found)) = CameTo AfterRead c
MakesCalls c (Err LinkFault) = CameTo AfterFetch c
MakesCalls c (Err DiskFault) = CameTo AfterRead c ⊎ CameTo AfterWrite c
MakesCalls c (Err Memory) = (reached : Reached) × CameTo reached c

-- ---- what is shown

-- a read of the place: none where it gave a page of the due digest, and else the other digest that was found
abbrev pub ReadsDue : Ref → DiskState → Result (Option (List ℕ)) RefetchError → Type 0
ReadsDue reference d (Ok None) = sha256 (read_at d reference.place) ≡ reference.digest
ReadsDue reference d (Ok (Some found)) = found ≡ sha256 (read_at d reference.place)
ReadsDue reference d (Err error) = Unit {0}

-- what was found is another digest than the due one, and the error is that of a disk
abbrev pub FindsOther : Ref → Result (Option (List ℕ)) RefetchError → Type 0
FindsOther reference (Ok None) = Unit {0}
FindsOther reference (Ok (Some found)) = reference.digest ≢ found
FindsOther reference (Err DiskFault) = Unit {0}
FindsOther reference (Err Memory) = Unit {0}
FindsOther reference (Err LinkFault) = ⊥
FindsOther reference (Err (NotHeld place kept found)) = ⊥

-- what was shown still is, unless the link failed
abbrev pub ShowsUnlessFault : {T : Type 0} → Option LinkView → Option LinkView → Result T RefetchError → Type 0
ShowsUnlessFault before after result = (v : LinkView) → before ≡ Some v → (IsErrOf result LinkFault → ⊥) → after ≡ Some v
