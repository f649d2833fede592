use Rattle.std.specs.Prelude.{◌≡◌, ℕ, ◌<◌, Some, slice_get}
use Rattle.vb_block.specs.declared.digest.Ref.{Ref}
use Rattle.vb_frozen.specs.declared.entry.FrozenEntry.{FrozenEntry}
use Rattle.vb_upload.specs.Cursors.{CanBeSent}
use Rattle.vb_upload.proofs.tests.all_can_be_sent.Given as goal

-- the entries before this one can be sent, and their pages lie on the disk
abbrev pub invariant-loop-i : goal.invariant-loop-i
invariant-loop-i l =
    ((k : ℕ) (e : FrozenEntry) → k < l.i → slice_get l.frozen.order k ≡ Some e → CanBeSent e)
    × ((k : ℕ) (e : FrozenEntry) (page : ℕ) (reference : Ref) → k < l.i → slice_get l.frozen.order k ≡ Some e → slice_get e.refs page ≡ Some reference → reference.place < l.blocks)
