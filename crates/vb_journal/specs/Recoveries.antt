-- What a store recovers to, by what reads of its disk give: the head that counts, the images of the journal, and the
-- image of each node.
use Rattle.std.specs.Prelude.{ℕ, ◌+◌, Bool, true, false, not, ◌&&◌, ◌||◌, nat_lt, ◌==◌, if◌then◌else◌, List, [], ◌∷◌, ◌++◌, Option, Some, None, Result, Ok, Err}
use Rattle.std.specs.List.{list_any}
use Rattle.std.specs.Str.{bytes_eq}
use Rattle.sha2.specs.Sha256.{sha256}
use Rattle.vb_block.specs.declared.why.Why.TheVariants.{Blocks, Slot}
use Rattle.vb_block.specs.Pages.{seal_of, sealed_part}
use Rattle.vb_disk.specs.declared.disk_error.DiskError.{DiskError}
use Rattle.vb_disk.specs.declared.disk_error.DiskError.TheVariants.{Failed, Memory as NoMemory}
use Rattle.vb_disk.specs.Misses.{is_sealed}
use Rattle.vb_geometry.specs.declared.geometry.TheConstants.{HEADS}
use Rattle.vb_geometry.specs.Layout.{home_place}
use Rattle.vb_head.specs.declared.head.Head.{Head}
use Rattle.vb_head.specs.declared.head.HeadRead.{HeadRead}
use Rattle.vb_head.specs.declared.head.HeadRead.TheVariants.{Good, Bad, Alien, Unsealed, Blank}
use Rattle.vb_head.specs.declared.head.State.{State}
use Rattle.vb_head.specs.declared.head.State.TheVariants.{Closed, Opened, Rebuilding as IsBeingMade}
use Rattle.vb_head.specs.Heads.{count_of, head_read}
use Rattle.vb_journal.specs.declared.recover_error.RecoverError.{RecoverError}
use Rattle.vb_journal.specs.declared.recover_error.RecoverError.TheVariants.{NotAStore, Damaged, Unfit, Rebuilding, DiskFault, Memory}
use Rattle.vb_journal.specs.Images.{slot_of}
use Rattle.vb_journal.specs.Shown.{good_of, greater, image_over, pages_from}

-- a call of the disk that failed
abbrev pub error_from : DiskError → RecoverError
error_from Failed = DiskFault
error_from NoMemory = Memory

-- whether the same call is made again after it
abbrev pub is_retried : RecoverError → Bool
is_retried (NotAStore place) = false
is_retried (Damaged place kept found) = false
is_retried (Unfit place why) = false
is_retried Rebuilding = false
is_retried DiskFault = true
is_retried Memory = true

-- the one refusal, and where there is none the other
abbrev pub or_refusal : Option RecoverError → Option RecoverError → Option RecoverError
or_refusal None other = other
or_refusal (Some refusal) other = Some refusal

-- ---- the head

-- the block is a head one of whose fields fails a check
abbrev pub unfit_head : ℕ → HeadRead → Option RecoverError
unfit_head place (Good h) = None
unfit_head place (Bad why) = Some (Unfit place why)
unfit_head place Alien = None
unfit_head place (Unsealed kept found) = None
unfit_head place Blank = None

-- the block is sealed and no head
abbrev pub alien_block : ℕ → HeadRead → Option RecoverError
alien_block place (Good h) = None
alien_block place (Bad why) = None
alien_block place Alien = Some (NotAStore place)
alien_block place (Unsealed kept found) = None
alien_block place Blank = None

-- the block isn't sealed
abbrev pub damaged_head : ℕ → HeadRead → Option RecoverError
damaged_head place (Good h) = None
damaged_head place (Bad why) = None
damaged_head place Alien = None
damaged_head place (Unsealed kept found) = Some (Damaged place kept found)
damaged_head place Blank = None

-- the first refusal of this kind, of the two places
abbrev pub first_of : (ℕ → HeadRead → Option RecoverError) → HeadRead → HeadRead → Option RecoverError
first_of kind a b = or_refusal (kind 0 a) (kind 1 b)

-- the refusal, and where there is none both places are blank
abbrev pub or_blank : Option RecoverError → RecoverError
or_blank None = NotAStore 0
or_blank (Some refusal) = refusal

-- why two places without a head are refused
abbrev pub headless : HeadRead → HeadRead → RecoverError
headless a b = or_blank (or_refusal (first_of unfit_head a b) (or_refusal (first_of alien_block a b) (first_of damaged_head a b)))

-- the place of the head that counts, where there is one
abbrev pub greater_place : Option Head → Option Head → ℕ
greater_place (Some a) (Some b) = if nat_lt a.sequence b.sequence then 1 else 0
greater_place (Some a) None = 0
greater_place None b = 1

-- whether the store is being made
abbrev pub is_rebuilding : State → Bool
is_rebuilding Closed = false
is_rebuilding (Opened count) = false
is_rebuilding IsBeingMade = true

-- the head that counts, unless it is for a disk of another size or the store is being made
abbrev pub fitting_head : ℕ → ℕ → Head → Result Head RecoverError
fitting_head size place head =
    if not (head.blocks == size) then Err (Unfit place Blocks) else
    (if is_rebuilding head.state then Err Rebuilding else Ok head)

-- the head that counts, if there is one
abbrev pub head_among : ℕ → HeadRead → HeadRead → Option Head → Result Head RecoverError
head_among size a b None = Err (headless a b)
head_among size a b (Some head) = fitting_head size (greater_place (good_of a) (good_of b)) head

-- whether two states are one
abbrev pub is_same_state : State → State → Bool
is_same_state Closed Closed = true
is_same_state Closed (Opened n) = false
is_same_state Closed IsBeingMade = false
is_same_state (Opened m) Closed = false
is_same_state (Opened m) (Opened n) = m == n
is_same_state (Opened m) IsBeingMade = false
is_same_state IsBeingMade Closed = false
is_same_state IsBeingMade (Opened n) = false
is_same_state IsBeingMade IsBeingMade = true

-- whether two heads are one
abbrev pub is_same_head : Head → Head → Bool
is_same_head a b =
    bytes_eq a.id b.id && a.blocks == b.blocks && a.nodes == b.nodes && a.sequence == b.sequence && a.epoch == b.epoch && is_same_state a.state b.state

-- whether both places read as one head
abbrev pub are_one_head : HeadRead → HeadRead → Bool
are_one_head (Good a) (Good b) = is_same_head a b
are_one_head (Good a) (Bad why) = false
are_one_head (Good a) Alien = false
are_one_head (Good a) (Unsealed kept found) = false
are_one_head (Good a) Blank = false
are_one_head (Bad why) b = false
are_one_head Alien b = false
are_one_head (Unsealed kept found) b = false
are_one_head Blank b = false

-- the least size of a disk that holds a store
abbrev pub least_size : ℕ
least_size = 38

-- the head that counts on a disk of this size whose first two places read as these, or why there is none
abbrev pub head_choice : ℕ → HeadRead → HeadRead → Result Head RecoverError
head_choice size a b = if nat_lt size least_size then Err (NotAStore 0) else head_among size a b (greater (good_of a) (good_of b))

-- the head that counts by what reads give
abbrev pub choice_of : ℕ → (ℕ → List ℕ) → Result Head RecoverError
choice_of size reads = head_choice size (head_read (reads 0)) (head_read (reads 1))

-- ---- the journal

-- where the images of the journal begin
abbrev pub journal_place : Head → ℕ
journal_place head = HEADS + head.nodes

-- the images of the journal that a head counts in
abbrev pub journal_of : (ℕ → List ℕ) → Head → List (List ℕ)
journal_of reads head = pages_from reads (journal_place head) (count_of head.state)

-- whether one of the images is for this slot
abbrev pub is_named : List (List ℕ) → ℕ → Bool
is_named images slot = list_any (λ image. slot_of image == slot) images

-- why an image of the journal is refused that stands at this place, after these: it isn't sealed, or its slot is that
-- of no node or was named before
abbrev pub image_refusal : ℕ → ℕ → List (List ℕ) → List ℕ → Option RecoverError
image_refusal nodes place before image =
    if not (is_sealed image) then Some (Damaged place (seal_of image) (sha256 (sealed_part image))) else
    (if not (nat_lt (slot_of image) nodes) || is_named before (slot_of image) then Some (Unfit place Slot) else None)

-- the first refusal of these images, the first of which stands at this place after some others
abbrev pub images_refusal : ℕ → ℕ → List (List ℕ) → List (List ℕ) → Option RecoverError
images_refusal nodes place before [] = None
images_refusal nodes place before (image ∷ images) =
    or_refusal (image_refusal nodes place before image) (images_refusal nodes (place + 1) (before ++ image ∷ []) images)

-- the first refusal of the journal
abbrev pub journal_refusal : (ℕ → List ℕ) → Head → Option RecoverError
journal_refusal reads head = images_refusal head.nodes (journal_place head) [] (journal_of reads head)

-- ---- what is recovered

-- a head whose journal was put over the homes
abbrev pub settled_from : Head → State → Head
settled_from head Closed = head
settled_from head (Opened count) = record head { sequence = head.sequence + 1; state = Closed }
settled_from head IsBeingMade = head

-- the head that recovery leaves, where this one counts
abbrev pub settled_head : Head → Head
settled_head head = settled_from head head.state

-- the image of the node of a slot: what stands at its home, with the journal put over it
abbrev pub node_image : (ℕ → List ℕ) → Head → ℕ → List ℕ
node_image reads head slot = image_over (journal_of reads head) slot (reads (home_place slot))

-- the images of all nodes, by slot
abbrev pub node_images : (ℕ → List ℕ) → Head → List (List ℕ)
node_images reads head = pages_from (node_image reads head) 0 head.nodes

-- what a store recovers to
pub record Recovered : Type 0 where
  pub head : Head
  pub images : List (List ℕ)

-- what it recovers to where this head counts, unless the journal is refused
abbrev pub recovered_from : (ℕ → List ℕ) → Head → Option RecoverError → Result Recovered RecoverError
recovered_from reads head None = Ok (record { head = settled_head head; images = node_images reads head })
recovered_from reads head (Some refusal) = Err refusal

-- what it recovers to by the choice of its head
abbrev pub recovered_by : (ℕ → List ℕ) → Result Head RecoverError → Result Recovered RecoverError
recovered_by reads (Err refusal) = Err refusal
recovered_by reads (Ok head) = recovered_from reads head (journal_refusal reads head)

-- what a disk of this size recovers to whose reads give these pages, or the first refusal
unfoldable pub recovery_of : ℕ → (ℕ → List ℕ) → Result Recovered RecoverError
recovery_of size reads = recovered_by reads (choice_of size reads)
