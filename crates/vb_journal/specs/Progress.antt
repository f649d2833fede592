-- How far the places of a store have come while a commit goes on.
use Rattle.std.specs.Prelude.{◌≡◌, ◌≢◌, ◌⊎◌, ℕ, suc, ◌<◌, ◌≤◌, Bool, true, false, nat_lt, if◌then◌else◌, List, [], ◌∷◌, length, replicate, Option, Some, None}
use Rattle.std.specs.List.{All}
use Rattle.vb_disk.specs.declared.cell.Cell.{Cell}
use Rattle.vb_disk.specs.Cells.{candidates}
use Rattle.vb_disk.specs.Crashes.{MayCrashTo}
use Rattle.vb_disk.specs.Moments.{EachMoment}
use Rattle.vb_disk.specs.States.{DiskState}
use Rattle.vb_geometry.specs.Layout.{home_place, journal_place}
use Rattle.vb_head.specs.declared.head.Head.{Head}
use Rattle.vb_head.specs.Heads.{head_page}
use Rattle.vb_journal.specs.declared.commit_stage.Stage.{Stage}
use Rattle.vb_journal.specs.declared.commit_stage.Stage.TheVariants.{Journal, Opening, Homes, Closing, Rested}
use Rattle.vb_journal.specs.declared.commit_stage.Turn.{Turn}
use Rattle.vb_journal.specs.declared.commit_stage.Turn.TheVariants.{First, FirstSync, Second, SecondSync}
use Rattle.vb_journal.specs.Images.{image_at, slot_of}
use Rattle.vb_journal.specs.Outcomes.{IsRefused, Recovers, RecoversWholly}
use Rattle.vb_journal.specs.Plans.{closed_head, opened_head}
use Rattle.vb_journal.specs.Shown.{image_over}

-- a place between two pages: it holds the old one; the new one was perhaps written; it was written
pub data Progress : Type 0 where
  Fixed : (page : List ℕ) → Progress
  Trying : (old new : List ℕ) → Progress
  Tried : (old new : List ℕ) → Progress

-- a place has come so far by its candidates, whatever it reads as where it is hurt. A write that failed may have been
-- made, so that the new page stands there several times.
abbrev pub Has : Progress → Cell → Type 0
Has (Fixed page) cell = candidates cell ≡ page ∷ []
Has (Trying old new) cell = (times : ℕ) × (candidates cell ≡ old ∷ replicate times new)
Has (Tried old new) cell = (times : ℕ) × (candidates cell ≡ old ∷ replicate (suc times) new)

-- the first copy of a head in a turn from the old to the new one
abbrev pub first_in : List ℕ → List ℕ → Turn → Progress
first_in old new First = Trying old new
first_in old new FirstSync = Tried old new
first_in old new Second = Fixed new
first_in old new SecondSync = Fixed new

-- the second copy
abbrev pub second_in : List ℕ → List ℕ → Turn → Progress
second_in old new First = Fixed old
second_in old new FirstSync = Fixed old
second_in old new Second = Trying old new
second_in old new SecondSync = Tried old new

-- the first copy at each stage, where these are the heads before the commit, opened and closed
abbrev pub first_at : List ℕ → List ℕ → List ℕ → Stage → Progress
first_at before opened closed (Journal next) = Fixed before
first_at before opened closed (Opening turn) = first_in before opened turn
first_at before opened closed (Homes next) = Fixed opened
first_at before opened closed (Closing turn) = first_in opened closed turn
first_at before opened closed Rested = Fixed closed

-- the second copy at each stage
abbrev pub second_at : List ℕ → List ℕ → List ℕ → Stage → Progress
second_at before opened closed (Journal next) = Fixed before
second_at before opened closed (Opening turn) = second_in before opened turn
second_at before opened closed (Homes next) = Fixed opened
second_at before opened closed (Closing turn) = second_in opened closed turn
second_at before opened closed Rested = Fixed closed

-- the images before this one were written, and this one and those after it perhaps
abbrev pub passed_by : ℕ → ℕ → List ℕ → List ℕ → Progress
passed_by next i old new = if nat_lt i next then Tried old new else Trying old new

-- the place of the journal for an image
abbrev pub journal_at : ℕ → List ℕ → List ℕ → Stage → Progress
journal_at i old new (Journal next) = passed_by next i old new
journal_at i old new (Opening turn) = Fixed new
journal_at i old new (Homes next) = Fixed new
journal_at i old new (Closing turn) = Fixed new
journal_at i old new Rested = Fixed new

-- the home of an image
abbrev pub home_at : ℕ → List ℕ → List ℕ → Stage → Progress
home_at i old new (Journal next) = Fixed old
home_at i old new (Opening turn) = Fixed old
home_at i old new (Homes next) = passed_by next i old new
home_at i old new (Closing turn) = Fixed new
home_at i old new Rested = Fixed new

-- no image is for this slot
abbrev pub IsUnnamed : List (List ℕ) → ℕ → Type 0
IsUnnamed images slot = (i : ℕ) → i < length images → slot_of (image_at images i) ≢ slot

-- a store in the midst of a commit, at a stage, by its candidates. Before it the homes held these pages, and so did the journal.
pub record IsCommitting (head : Head) (epoch : ℕ) (images : List (List ℕ)) (homes journal : ℕ → List ℕ) (stage : Stage) (d : DiskState) : Type 0 where
  pub id : length head.id ≡ 16
  pub size : d.size ≡ head.blocks
  pub first : Has (first_at (head_page head) (head_page (opened_head head epoch images)) (head_page (closed_head head epoch)) stage) (d.cells 0)
  pub second : Has (second_at (head_page head) (head_page (opened_head head epoch images)) (head_page (closed_head head epoch)) stage) (d.cells 1)
  pub in_journal : (i : ℕ) → i < length images → Has (journal_at i (journal i) (image_at images i) stage) (d.cells (journal_place head.nodes i))
  pub at_home : (i : ℕ) → i < length images → Has (home_at i (homes (slot_of (image_at images i))) (image_at images i) stage) (d.cells (home_place (slot_of (image_at images i))))
  pub beyond : (i : ℕ) → length images ≤ i → i < head.nodes → Has (Fixed (journal i)) (d.cells (journal_place head.nodes i))
  pub others : (slot : ℕ) → slot < head.nodes → IsUnnamed images slot → Has (Fixed (homes slot)) (d.cells (home_place slot))

-- a store at rest: each place of its heads, homes and journal has one candidate
pub record IsAtRest (head : Head) (homes journal : ℕ → List ℕ) (d : DiskState) : Type 0 where
  pub id : length head.id ≡ 16
  pub size : d.size ≡ head.blocks
  pub first : Has (Fixed (head_page head)) (d.cells 0)
  pub second : Has (Fixed (head_page head)) (d.cells 1)
  pub each_home : (slot : ℕ) → slot < head.nodes → Has (Fixed (homes slot)) (d.cells (home_place slot))
  pub each_image : (i : ℕ) → i < head.nodes → Has (Fixed (journal i)) (d.cells (journal_place head.nodes i))

-- the images of the nodes after the commit
abbrev pub new_images : List (List ℕ) → (ℕ → List ℕ) → ℕ → List ℕ
new_images images homes slot = image_over images slot (homes slot)

-- the journal after it
abbrev pub new_journal : List (List ℕ) → (ℕ → List ℕ) → ℕ → List ℕ
new_journal images journal i = if nat_lt i (length images) then image_at images i else journal i

-- the size and the candidates of each place below this one stand, as where damage came or others were written
pub record HasSameCandidates (end : ℕ) (old new : DiskState) : Type 0 where
  pub size : new.size ≡ old.size
  pub each : (place : ℕ) → place < end → candidates (new.cells place) ≡ candidates (old.cells place)

-- ---- what crashes leave

-- how many images of the journal a head may count in at a stage
abbrev pub counted_at : ℕ → Stage → ℕ
counted_at count (Journal next) = 0
counted_at count (Opening turn) = count
counted_at count (Homes next) = count
counted_at count (Closing turn) = count
counted_at count Rested = count

-- whether the first copy of a head was synced, so that it counts whatever becomes of the second one
abbrev pub is_second : Turn → Bool
is_second First = false
is_second FirstSync = false
is_second Second = true
is_second SecondSync = true

-- the copies of the head that are needed in a turn: the second until the first was synced, the first from its write to
-- that of the second, and both while the one was written and not yet synced
abbrev pub heads_in : Turn → List ℕ
heads_in First = 1 ∷ []
heads_in FirstSync = 0 ∷ 1 ∷ []
heads_in Second = 0 ∷ []
heads_in SecondSync = 0 ∷ 1 ∷ []

-- those at a stage: where both have the same head, the second, since the first is the next to be written
abbrev pub heads_needed : Stage → List ℕ
heads_needed (Journal next) = 1 ∷ []
heads_needed (Opening turn) = heads_in turn
heads_needed (Homes next) = 1 ∷ []
heads_needed (Closing turn) = heads_in turn
heads_needed Rested = 1 ∷ []

-- how many images in the journal are needed at a stage: those that were written, until the first closed head was synced
abbrev pub images_needed : ℕ → Stage → ℕ
images_needed count (Journal next) = next
images_needed count (Opening turn) = count
images_needed count (Homes next) = count
images_needed count (Closing turn) = if is_second turn then 0 else count
images_needed count Rested = 0

-- the homes of how many images are needed: of all of them, but once the first opened head was synced of those alone
-- that were written home
abbrev pub homes_needed : ℕ → Stage → ℕ
homes_needed count (Journal next) = count
homes_needed count (Opening turn) = if is_second turn then 0 else count
homes_needed count (Homes next) = next
homes_needed count (Closing turn) = count
homes_needed count Rested = count

-- this holds of the head and the images from before the commit or of the new ones, and from the second sync of the
-- opened heads on of the new ones
abbrev pub OldOrNew : Head → ℕ → List (List ℕ) → (ℕ → List ℕ) → (Head → (ℕ → List ℕ) → Type 0) → Stage → Type 0
OldOrNew head epoch images homes P (Journal next) = P head homes ⊎ P (closed_head head epoch) (new_images images homes)
OldOrNew head epoch images homes P (Opening turn) = P head homes ⊎ P (closed_head head epoch) (new_images images homes)
OldOrNew head epoch images homes P (Homes next) = P (closed_head head epoch) (new_images images homes)
OldOrNew head epoch images homes P (Closing turn) = P (closed_head head epoch) (new_images images homes)
OldOrNew head epoch images homes P Rested = P (closed_head head epoch) (new_images images homes)

-- each crash of a disk leaves one that recovers to the old or the new images, or is refused where a head was hurt
-- before, or an image of the journal that a head may count in
abbrev pub EachCrashRecovers : Head → ℕ → List (List ℕ) → (ℕ → List ℕ) → Stage → DiskState → Type 0
EachCrashRecovers head epoch images homes stage d =
    (new : DiskState) → MayCrashTo d new
    → OldOrNew head epoch images homes (λ h pages. Recovers d new h pages) stage ⊎ IsRefused head.nodes (counted_at (length images) stage) d new

-- each crash of a disk leaves one that recovers to exactly the old or the new images
abbrev pub EachCrashRecoversWholly : Head → ℕ → List (List ℕ) → (ℕ → List ℕ) → Stage → DiskState → Type 0
EachCrashRecoversWholly head epoch images homes stage d =
    (new : DiskState) → MayCrashTo d new → OldOrNew head epoch images homes (λ h pages. RecoversWholly new h pages) stage

-- each crash of a store at rest leaves one that recovers to its head and its images, or is refused where a head was
-- hurt before
abbrev pub EachCrashStays : Head → (ℕ → List ℕ) → DiskState → Type 0
EachCrashStays head homes d = (new : DiskState) → MayCrashTo d new → Recovers d new head homes ⊎ IsRefused head.nodes 0 d new

-- a place isn't hurt
abbrev pub IsWholeAt : DiskState → ℕ → Type 0
IsWholeAt d place = (d.cells place).hurt ≡ None

-- each place that still counts at a stage is whole: the heads, the images in the journal and the homes that are needed,
-- and the homes that no image is for
pub record IsUnharmed (head : Head) (images : List (List ℕ)) (stage : Stage) (d : DiskState) : Type 0 where
  pub heads : All (IsWholeAt d) (heads_needed stage)
  pub in_journal : (i : ℕ) → i < images_needed (length images) stage → IsWholeAt d (journal_place head.nodes i)
  pub at_home : (i : ℕ) → i < length images → i < homes_needed (length images) stage → IsWholeAt d (home_place (slot_of (image_at images i)))
  pub others : (slot : ℕ) → slot < head.nodes → IsUnnamed images slot → IsWholeAt d (home_place slot)

-- what a step leaves of a disk that is known at its stage: one that is known at the stage after it. Each moment
-- within it is known at the one stage or the other, and each crash at it recovers as at that one. No place is hurt by
-- it; an unharmed disk stays so, and each crash within the step recovers wholly.
pub record GoesTo (head : Head) (epoch : ℕ) (images : List (List ℕ)) (homes journal : ℕ → List ℕ) (before after : Stage) (d : DiskState) (new : Option DiskState) : Type 0 where
  pub next : DiskState
  pub told : new ≡ Some next
  pub known : IsCommitting head epoch images homes journal after next
  pub moments : EachMoment (λ m. IsCommitting head epoch images homes journal before m ⊎ IsCommitting head epoch images homes journal after m) d next
  pub crashes : EachMoment (λ m. EachCrashRecovers head epoch images homes before m ⊎ EachCrashRecovers head epoch images homes after m) d next
  pub whole_stays : (place : ℕ) → IsWholeAt d place → IsWholeAt next place
  pub unharmed : IsUnharmed head images before d → IsUnharmed head images after next
  pub wholly : IsUnharmed head images before d → EachMoment (EachCrashRecoversWholly head epoch images homes before) d next

-- so does each step of a disk that is known at its stage
abbrev pub GoesOn : Head → ℕ → List (List ℕ) → (ℕ → List ℕ) → (ℕ → List ℕ) → Stage → Stage → Option DiskState → Option DiskState → Type 0
GoesOn head epoch images homes journal before after old new =
    (d : DiskState) → old ≡ Some d → IsCommitting head epoch images homes journal before d
    → GoesTo head epoch images homes journal before after d new
