-- An image that is written to its home.
use Rattle.std.proofs.Common.{◌≡◌, ℕ, ◌+◌, ◌<◌, ◌≤◌, Bool, cond, List, [], length, Some, sym, ap, ◌∙◌, arith}
use Rattle.std.specs.Prelude.{slice_get}
use Rattle.std.proofs.lemmas.Bool.{lt-ltb}
use Rattle.std.proofs.lemmas.Option.{get_or_from_slice_get}
use Rattle.byteorder.specs.Endian.{little_number}
use Rattle.vb_disk.specs.States.{DiskCall, Sync, Write}
use Rattle.vb_head.specs.declared.head.Head.{Head}
use Rattle.vb_journal.specs.declared.commit_stage.Stage.TheVariants.{Homes}
use Rattle.vb_journal.specs.Images.{image_at, slot_of}
use Rattle.vb_journal.specs.Plans.{CanFinish, due_call}

-- the image that was taken from the list
image_read : (images : List (List ℕ)) (next : ℕ) (image : List ℕ) → slice_get images next ≡ Some image → image_at images next ≡ image
image_read images next image is = get_or_from_slice_get images next image [] is

-- the number that was read from it is its slot
pub slot_read : (images : List (List ℕ)) (next : ℕ) (image : List ℕ) (value : ℕ) → slice_get images next ≡ Some image → value ≡ little_number 4 image → value ≡ slot_of (image_at images next)
unfolding slot_of
slot_read images next image value taken read = read ∙ ap (little_number 4) (sym (image_read images next image taken))

-- a home lies in the store
pub home_within : (head : Head) (epoch : ℕ) (images : List (List ℕ)) (next value : ℕ) → CanFinish head epoch images → next < length images → value ≡ slot_of (image_at images next) → (2 + value < head.blocks) × (head.blocks ≤ 262144)
home_within head epoch images next value can left is =
    let low = can.images_are.slots next left in
    let space = can.closed.space in
    let few = can.closed.blocks in
    (omega arith, few)

-- what is written there is the image that is due
pub due-home : (head : Head) (epoch : ℕ) (images : List (List ℕ)) (next : ℕ) (image : List ℕ) (value : ℕ) → next < length images → slice_get images next ≡ Some image → value ≡ little_number 4 image → Write (2 + value) image ≡ due_call head epoch images (Homes next)
due-home head epoch images next image value left taken read =
    let due : DiskCall = Write (2 + slot_of (image_at images next)) (image_at images next) in
    ap (λ (v : ℕ). Write (2 + v) image) (slot_read images next image value taken read)
    ∙ ap (λ (p : List ℕ). Write (2 + slot_of (image_at images next)) p) (sym (image_read images next image taken))
    ∙ ap (λ (b : Bool). cond b due Sync) (sym (lt-ltb next (length images) left))
