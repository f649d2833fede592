-- What a recovery finds on each choice of a store's disk.
use Rattle.std.specs.Prelude.{◌⊎◌, ℕ, List, length}
use Rattle.vb_disk.specs.States.{DiskState}
use Rattle.vb_head.specs.declared.head.Head.{Head}
use Rattle.vb_journal.specs.declared.commit_stage.Stage.{Stage}
use Rattle.vb_journal.specs.Choices.{IsChoiceOf}
use Rattle.vb_journal.specs.Outcomes.{IsRefused, Recovers}
use Rattle.vb_journal.specs.Progress.{OldOrNew, counted_at}

-- the disk recovers to this head and to these images of the nodes. Where a home is hurt, the image of its node may be
-- what it reads as.
abbrev pub RecoversButHurt : DiskState → Head → (ℕ → List ℕ) → Type 0
RecoversButHurt d head images = Recovers d d head images

-- the disk is refused as damaged at a place that is hurt, or as no store with both heads hurt; and a head is hurt, or
-- one of so many places at the front of the journal
abbrev pub IsRefusedAsHurt : ℕ → ℕ → DiskState → Type 0
IsRefusedAsHurt nodes count d = IsRefused nodes count d d

-- each choice recovers to the old or the new images of a commit but for homes that are hurt in it, or is refused where
-- a head is hurt in it, or an image of the journal that a head may count in
abbrev pub EachChoiceRecovers : Head → ℕ → List (List ℕ) → (ℕ → List ℕ) → Stage → DiskState → Type 0
EachChoiceRecovers head epoch images homes stage d =
    (new : DiskState) → IsChoiceOf new d
    → OldOrNew head epoch images homes (λ h pages. RecoversButHurt new h pages) stage ⊎ IsRefusedAsHurt head.nodes (counted_at (length images) stage) new

-- each choice recovers to this head and these images but for homes that are hurt in it, or is refused where a head is
-- hurt in it
abbrev pub EachChoiceStays : Head → (ℕ → List ℕ) → DiskState → Type 0
EachChoiceStays head homes d = (new : DiskState) → IsChoiceOf new d → RecoversButHurt new head homes ⊎ IsRefusedAsHurt head.nodes 0 new
