-- The image of the journal that a recovery lends, and how a mount stops at an error.
use Rattle.std.specs.Prelude.{◌≡◌, ℕ, ◌+◌, List, length, Option, Some, None}
use Rattle.std.specs.Result.{result_err}
use Rattle.vb_inode.specs.Reading.{node_read}
use Rattle.vb_journal.specs.declared.recover.Recover.{Recover}
use Rattle.vb_journal.specs.declared.recover_error.RecoverError.{RecoverError}
use Rattle.vb_journal.specs.Recovering.{images_by, nodes_of}
use Rattle.vb_journal.specs.Recovers.{lent_image, recovery_stage}
use Rattle.vb_store.specs.declared.mount_phase.MountPhase.{MountPhase}
use Rattle.vb_store.specs.declared.mount_phase.MountPhase.TheVariants.{Recovering, Reading, Ready}
use Rattle.vb_store.specs.Metadata.{node_or_refusal}

-- why the node of an image is refused that is the last of so many, in a store with so many nodes
abbrev pub fault_of_image : Option (List ℕ) → Option ℕ → ℕ → Option RecoverError
fault_of_image None nodes count = None
fault_of_image (Some image) None count = None
fault_of_image (Some image) (Some nodes) count = result_err (node_or_refusal (1 + nodes + count) (node_read nodes image))

-- why the node of the image that is lent is refused
abbrev pub lent_fault : Recover → Option RecoverError
lent_fault r = fault_of_image (lent_image r) (nodes_of (recovery_stage r)) (length (images_by (recovery_stage r)))

-- the phase is that of this recovery
abbrev pub IsPhaseOf : Recover → MountPhase → Type 0
IsPhaseOf r (Recovering j) = j.recover ≡ r
IsPhaseOf r (Reading stage) = ⊥
IsPhaseOf r (Ready ready) = ⊥
