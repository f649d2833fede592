-- A scrub: which page of a view is due, and what treating it answers.
use Rattle.std.specs.Prelude.{◌≡◌, ℕ, ◌+◌, ◌<◌, nat_lt, if◌then◌else◌, List, [], ◌∷◌, length, slice_get, get_or, Option, Some, None, Result, Ok, Err, IsErrOf}
use Rattle.std.specs.Option.{option_and_then, option_map}
use Rattle.std.specs.declared.cmp.Ordering.{Ordering}
use Rattle.std.specs.declared.cmp.Ordering.TheVariants.{Less, Equal, Greater}
use Rattle.vb_block.specs.declared.digest.Ref.{Ref}
use Rattle.vb_path.specs.Paths.{path_cmp}
use Rattle.vb_frozen.specs.declared.entry.FrozenEntry.{FrozenEntry}
use Rattle.vb_helper.specs.declared.repairing.Refetched.{Refetched}
use Rattle.vb_helper.specs.declared.repairing.Refetched.TheVariants.{Whole, Repaired}
use Rattle.vb_helper.specs.declared.refetch_error.RefetchError.{RefetchError}
use Rattle.vb_helper.specs.declared.refetch_error.RefetchError.TheVariants.{NotHeld, DiskFault, LinkFault, Memory}
use Rattle.vb_helper.specs.declared.scrub_answers.Loss.{Loss}
use Rattle.vb_helper.specs.declared.scrub_answers.ScrubStep.{ScrubStep}
use Rattle.vb_helper.specs.declared.scrub_answers.ScrubStep.TheVariants as scrub_steps
use Rattle.vb_helper.specs.declared.scrub_answers.ScrubError.{ScrubError}
use Rattle.vb_helper.specs.declared.scrub_answers.ScrubError.TheVariants as scrub_errors
use Rattle.vb_cloud.specs.Machine.{CloudState}
use Rattle.vb_disk.specs.Moments.{EachMoment}
use Rattle.vb_disk.specs.States.{DiskState}
use Rattle.vb_link.specs.declared.view.ViewEntry.{ViewEntry}
use Rattle.vb_link.specs.Views.{LinkView}
use Rattle.vb_helper.specs.Repairs.{AnswersBy, CallCounts, LeavesDisk, MakesCalls, Spares, IsRepaired}
use Rattle.vb_helper.specs.declared.following_page.Treated.{Treated}
use Rattle.vb_helper.specs.declared.following_page.DuePage.{DuePage}

-- the entries of a view stand strictly in path order
abbrev pub IsInPathOrder : List FrozenEntry → Type 0
IsInPathOrder order = (i j : ℕ) (d : FrozenEntry) → i < j → j < length order → path_cmp (get_or order i d).path (get_or order j d).path ≡ Less

-- the first page of an entry that is due, by how its path stands to that of the page treated last. An entry before that
-- path has none, which is a number past its pages.
abbrev pub due_by : Ordering → ℕ → ℕ → ℕ
due_by Less page count = count
due_by Equal page count = page + 1
due_by Greater page count = 0

-- the first page of an entry that is due
abbrev pub due_in : Option Treated → FrozenEntry → ℕ
due_in None e = 0
due_in (Some t) e = due_by (path_cmp e.path t.path) t.page (length e.refs)

-- the page that follows the one treated last, in path and page order, where the first entry stands at this place
abbrev pub next_from : ℕ → Option Treated → List FrozenEntry → Option DuePage
next_from i treated [] = None
next_from i treated (e ∷ es) = if nat_lt (due_in treated e) (length e.refs) then Some (record { entry = i; page = due_in treated e }) else next_from (i + 1) treated es

-- the data page of a view that follows the one treated last, in path and page order
abbrev pub next_page : Option Treated → List FrozenEntry → Option DuePage
next_page treated order = next_from 0 treated order

-- ---- a step

-- the reference of a page of the entry at a place
abbrev pub ref_at : List FrozenEntry → DuePage → Option Ref
ref_at order at = option_and_then (λ e. slice_get e.refs at.page) (slice_get order at.entry)

-- the path of the entry at a place
abbrev pub path_at : List FrozenEntry → DuePage → Option (List (List ℕ))
path_at order at = option_map (λ e. e.path) (slice_get order at.entry)

-- the loss that an error tells
abbrev pub loss_in : RefetchError → Option Loss
loss_in (NotHeld place kept found) = Some (record { place = place; kept = kept; found = found })
loss_in DiskFault = None
loss_in LinkFault = None
loss_in Memory = None

-- what fetching the page back answered
abbrev pub refetched_of : Result ScrubStep ScrubError → Result Refetched RefetchError
refetched_of (Ok scrub_steps.Whole) = Ok Whole
refetched_of (Ok (scrub_steps.Repaired place path page)) = Ok Repaired
refetched_of (Ok scrub_steps.Done) = Ok Whole
refetched_of (Err (scrub_errors.NotHeld path page loss)) = Err (NotHeld loss.place loss.kept loss.found)
refetched_of (Err scrub_errors.DiskFault) = Err DiskFault
refetched_of (Err scrub_errors.LinkFault) = Err LinkFault
refetched_of (Err scrub_errors.Memory) = Err Memory

-- the answer names this page
abbrev pub NamesPage : List (List ℕ) → ℕ → ℕ → Result ScrubStep ScrubError → Type 0
NamesPage path page here (Ok scrub_steps.Whole) = Unit {0}
NamesPage path page here (Ok (scrub_steps.Repaired place named number)) = (place ≡ here) × (named ≡ path) × (number ≡ page)
NamesPage path page here (Ok scrub_steps.Done) = ⊥
NamesPage path page here (Err (scrub_errors.NotHeld named number loss)) = (named ≡ path) × (number ≡ page)
NamesPage path page here (Err scrub_errors.DiskFault) = Unit {0}
NamesPage path page here (Err scrub_errors.LinkFault) = Unit {0}
NamesPage path page here (Err scrub_errors.Memory) = Unit {0}

-- which page was treated last after a step: this one where it was whole, repaired or lost, and after another error the one before
abbrev pub treated_after : Option Treated → Treated → Result ScrubStep ScrubError → Option Treated
treated_after old page (Ok step) = Some page
treated_after old page (Err (scrub_errors.NotHeld path number loss)) = Some page
treated_after old page (Err scrub_errors.DiskFault) = old
treated_after old page (Err scrub_errors.LinkFault) = old
treated_after old page (Err scrub_errors.Memory) = old

-- what was told before a step and after it, and how many calls were made by then
pub record Around : Type 0 where
  pub disk_old : Option DiskState
  pub disk_new : Option DiskState
  pub cloud : Option CloudState
  pub counts : CallCounts

-- a page was treated: its page was fetched back, or tried to be, by its reference; the answer names it, and it is the one
-- treated last unless another error came than its loss
pub record Treats (order : List FrozenEntry) (at : DuePage) (entries : List ViewEntry) (around : Around) (old new : Option Treated) (result : Result ScrubStep ScrubError) : Type 0 where
  pub reference : Ref
  pub path : List (List ℕ)
  pub refers : ref_at order at ≡ Some reference
  pub stands : path_at order at ≡ Some path
  pub names : NamesPage path at.page reference.place result
  pub treated : new ≡ treated_after old (record { path = path; page = at.page }) result
  pub answer : AnswersBy entries reference (refetched_of result)
  pub disk : (d : DiskState) → around.disk_old ≡ Some d → LeavesDisk reference entries around.cloud d around.disk_new (refetched_of result)
  pub spares : (d e : DiskState) → around.disk_old ≡ Some d → around.disk_new ≡ Some e → Spares reference d e
  pub moments : (d e : DiskState) → around.disk_old ≡ Some d → around.disk_new ≡ Some e → EachMoment (Spares reference d) d e
  pub repaired : (d e : DiskState) → around.disk_old ≡ Some d → around.disk_new ≡ Some e → IsRepaired reference e (refetched_of result)
  pub calls : MakesCalls around.counts (refetched_of result)

-- nothing was told or called
pub record StaysStill (around : Around) : Type 0 where
  pub disk : around.disk_new ≡ around.disk_old
  pub disk_calls : around.counts.disk_new ≡ around.counts.disk_old
  pub link_calls : around.counts.link_new ≡ around.counts.link_old

-- what was shown still is, unless the link failed
abbrev pub ShowsOnBeside : Option LinkView → Option LinkView → Result ScrubStep ScrubError → Type 0
ShowsOnBeside before after result = (v : LinkView) → before ≡ Some v → (IsErrOf result scrub_errors.LinkFault → ⊥) → after ≡ Some v
