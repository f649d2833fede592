use Rattle.std.specs.Prelude.{◌≡◌, ℕ, ◌<◌, Some, slice_get}
use Rattle.vb_block.specs.declared.digest.Ref.{Ref}
use Rattle.vb_upload.proofs.tests.are_below.Given as goal

-- the references before this one are below
abbrev pub invariant-loop-reference : goal.invariant-loop-reference
invariant-loop-reference l = (k : ℕ) (r : Ref) → k < l.reference-index → slice_get l.refs k ≡ Some r → r.place < l.blocks
