-- What is known of a disk's candidates while a store is recovered from it, whatever is damaged at any moment.
use Rattle.std.specs.Prelude.{◌≡◌, ◌≢◌, ◌⊎◌, ℕ, ◌+◌, ◌-◌, ◌*◌, ◌<◌, ◌≤◌, ◌==◌, if◌then◌else◌, Bool, true, false, List, [], length, None, Result, Ok, Err}
use Rattle.std.specs.List.{Contains}
use Rattle.vb_block.specs.Pages.{IsPage}
use Rattle.vb_disk.specs.Misses.{IsMiss}
use Rattle.vb_disk.specs.States.{DiskState}
use Rattle.vb_head.specs.declared.head.Head.{Head}
use Rattle.vb_head.specs.declared.head.HeadRead.{HeadRead}
use Rattle.vb_head.specs.declared.head.State.TheVariants.{Closed, Opened}
use Rattle.vb_head.specs.Heads.{IsHead, head_page, head_read}
use Rattle.vb_journal.specs.declared.commit_stage.Stage.{Stage}
use Rattle.vb_journal.specs.declared.recover_error.RecoverError.{RecoverError}
use Rattle.vb_journal.specs.declared.recover_error.RecoverError.TheVariants.{NotAStore, Damaged, Unfit, Rebuilding, DiskFault, Memory}
use Rattle.vb_journal.specs.Images.{AreImages}
use Rattle.vb_journal.specs.Interruptions.{AreSettled}
use Rattle.vb_journal.specs.Outcomes.{IsHurt}
use Rattle.vb_journal.specs.Plans.{CanFinish, closed_head}
use Rattle.vb_journal.specs.Progress.{Fixed, Has, IsAtRest, IsCommitting, Tried, Trying, new_images}
use Rattle.vb_journal.specs.Recoveries.{choice_of, images_refusal, is_rebuilding, journal_place}
use Rattle.vb_journal.specs.RecoverViews.{IsSpelled, RecoverView, AtAsk, AtSettle, AtFirst, AtSecond, AtMend, AtSettleMend, AtImage, AtReplay, AtReady, AtRefused}
use Rattle.vb_journal.specs.Replays.{is_late}
use Rattle.vb_journal.specs.Shown.{pages_from}
use Rattle.vb_store.specs.Clear.{first_candidates}
use Rattle.vb_store.specs.EmptyStores.{whole_cell}
use Rattle.vb_store.specs.OneOf.{RecoversOneOf, TreeView, ViewOf}

-- ---- refusals below the heads

-- a refusal that comes of no head: never that there is no store, or that one is being made, or damage of a head
abbrev pub IsBelowHeads : RecoverError → Type 0
IsBelowHeads (NotAStore place) = ⊥
IsBelowHeads (Damaged place kept found) = 2 ≤ place
IsBelowHeads (Unfit place why) = Unit {0}
IsBelowHeads Rebuilding = ⊥
IsBelowHeads DiskFault = Unit {0}
IsBelowHeads Memory = Unit {0}

-- an answer is refused, if it is, below the heads
abbrev pub MayFailBelow : {T : Type 0} → Result T RecoverError → Type 0
MayFailBelow (Ok value) = Unit {0}
MayFailBelow (Err error) = IsBelowHeads error

-- ---- a head that is mended

-- a place with this candidate alone may read as this page: as the candidate, or as a miss of it
abbrev pub MayReadAs : List ℕ → List ℕ → Type 0
MayReadAs was page = (page ≡ was) ⊎ (IsPage page × IsMiss (whole_cell was) page)

-- reads of the heads: this place gives the one page, and the other place the other one
abbrev pub head_reads : ℕ → List ℕ → List ℕ → ℕ → List ℕ
head_reads place page other at = if at == place then page else other

-- a head counts by what its two places read as: it is the one candidate of the one place, and the other one, of which
-- the candidate was known, read as that or as a miss of it. Over that place the head was written, or not yet.
pub record IsChosenBeside (head : Head) (place : ℕ) (was : List ℕ) (d : DiskState) : Type 0 where
  pub is : IsHead head
  pub low : place ≤ 1
  pub whole : IsPage was
  pub page : List ℕ
  pub read : MayReadAs was page
  pub counts : choice_of d.size (head_reads place page (head_page head)) ≡ Ok head
  pub here : Has (Fixed (head_page head)) (d.cells (1 - place))
  pub there : Has (Trying was (head_page head)) (d.cells place)

-- ---- what is known at each stage of a recovery

-- a place was read as this page, when it had the one candidate that it has: as that, or as a miss of it, and then the
-- place is hurt
abbrev pub WasRead : DiskState → ℕ → List ℕ → Type 0
WasRead d place page =
    (page ≡ first_candidates d place) ⊎ (IsHurt d place × IsPage page × IsMiss (whole_cell (first_candidates d place)) page)

-- the first head was read
pub record HasFirstHead (places : ℕ) (read : HeadRead) (d : DiskState) : Type 0 where
  pub size : places ≡ d.size
  pub settled : AreSettled d
  pub page : List ℕ
  pub read_is : read ≡ head_read page
  pub spelled : IsSpelled page
  pub was : WasRead d 0 page

-- this head is being written over the other place, which held this candidate; all else has one candidate
pub record IsMendedBeside (head : Head) (place : ℕ) (d : DiskState) : Type 0 where
  pub was : List ℕ
  pub chosen : IsChosenBeside head place was d
  pub settled : (other : ℕ) → other ≢ place → (d.cells other).later ≡ []

-- so it is, and it was written
pub record WasMendedBeside (head : Head) (place : ℕ) (d : DiskState) : Type 0 where
  pub mended : IsMendedBeside head place d
  pub tried : Has (Tried mended.was (head_page head)) (d.cells place)

-- this head is the one candidate of both its places, and each other place has one too
pub record HasOneHead (head : Head) (d : DiskState) : Type 0 where
  pub is : IsHead head
  pub size : d.size ≡ head.blocks
  pub whole : is_rebuilding head.state ≡ false
  pub first : Has (Fixed (head_page head)) (d.cells 0)
  pub second : Has (Fixed (head_page head)) (d.cells 1)
  pub settled : AreSettled d

-- the images in memory are the first of the journal's candidates
pub record HasImagesBeside (head : Head) (count : ℕ) (images : List (List ℕ)) (d : DiskState) : Type 0 where
  pub heads : HasOneHead head d
  pub opened : head.state ≡ Opened count
  pub left : length images < count
  pub images_are : AreImages head.nodes images
  pub read : images ≡ pages_from (first_candidates d) (journal_place head) (length images)
  pub accepted : images_refusal head.nodes (journal_place head) [] images ≡ None

-- a disk has one of these views, with this head and these node images
pub record HasItsView (views : List TreeView) (d : DiskState) (head : Head) (images : ℕ → List ℕ) : Type 0 where
  pub view : TreeView
  pub listed : Contains views view
  pub head_is : view.metadata.head ≡ head
  pub is : ViewOf d view head images

-- the commit whose images are in memory goes on from its homes, with these images as the journal's candidates; the
-- places of data have one candidate each, and what will be mounted is one of these views
pub record IsReplayedBeside (views : List TreeView) (head : Head) (epoch : ℕ) (images : List (List ℕ)) (stage : Stage) (d : DiskState) : Type 0 where
  pub can : CanFinish head epoch images
  pub late : is_late stage ≡ true
  pub homes : ℕ → List ℕ
  pub journal : ℕ → List ℕ
  pub known : IsCommitting head epoch images homes journal stage d
  pub behind : (place : ℕ) → 2 + 2 * head.nodes ≤ place → (d.cells place).later ≡ []
  pub its : HasItsView views d (closed_head head epoch) (new_images images homes)

-- a store is at rest with this head, each place has one candidate, and these are one of the views
pub record RestsBeside (views : List TreeView) (head : Head) (d : DiskState) : Type 0 where
  pub is : IsHead head
  pub closed : head.state ≡ Closed
  pub homes : ℕ → List ℕ
  pub journal : ℕ → List ℕ
  pub rests : IsAtRest head homes journal d
  pub settled : AreSettled d
  pub its : HasItsView views d head homes

-- a refusal has its reason: damage, at a place that is hurt; no store, with both heads hurt; or, where that is allowed,
-- a store that is being made
abbrev pub HasReason : Bool → RecoverError → DiskState → Type 0
HasReason made (NotAStore place) d = IsHurt d 0 × IsHurt d 1
HasReason made (Damaged place kept found) d = IsHurt d place
HasReason made (Unfit place why) d = ⊥
HasReason made Rebuilding d = made ≡ true
HasReason made DiskFault d = ⊥
HasReason made Memory d = ⊥

-- what is known of the disk's candidates at a stage
abbrev pub IsKnownBeside : List TreeView → Bool → RecoverView → DiskState → Type 0
IsKnownBeside views made AtAsk d = Unit {0}
IsKnownBeside views made (AtSettle places) d = places ≡ d.size
IsKnownBeside views made (AtFirst places) d = (places ≡ d.size) × AreSettled d
IsKnownBeside views made (AtSecond places read) d = HasFirstHead places read d
IsKnownBeside views made (AtMend head other) d = IsMendedBeside head other d
IsKnownBeside views made (AtSettleMend head other) d = WasMendedBeside head other d
IsKnownBeside views made (AtImage head count images) d = HasImagesBeside head count images d
IsKnownBeside views made (AtReplay head epoch images stage) d = IsReplayedBeside views head epoch images stage d
IsKnownBeside views made (AtReady head) d = RestsBeside views head d
IsKnownBeside views made (AtRefused why) d = HasReason made why d

-- so it is, and these views may be recovered
pub record IsBeside (views : List TreeView) (made : Bool) (view : RecoverView) (d : DiskState) : Type 0 where
  pub known : IsKnownBeside views made view d
  pub recovers : RecoversOneOf views made d
