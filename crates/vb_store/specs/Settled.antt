-- Stores that are being read or were mounted: what their views are to the candidates of their disk.
use Rattle.std.specs.Prelude.{◌≡◌, ◌⊎◌, ℕ, ◌+◌, Bool, List, length, Ok, IsOk}
use Rattle.std.specs.List.{Contains}
use Rattle.vb_disk.specs.States.{DiskState}
use Rattle.vb_head.specs.declared.head.Head.{Head}
use Rattle.vb_head.specs.declared.head.State.TheVariants.{Closed}
use Rattle.vb_head.specs.Heads.{IsHead}
use Rattle.vb_journal.specs.declared.recover_error.RecoverError.{RecoverError}
use Rattle.vb_journal.specs.Interruptions.{AreSettled}
use Rattle.vb_journal.specs.Progress.{IsAtRest}
use Rattle.vb_store.specs.declared.mount_stage.MountStage.{MountStage}
use Rattle.vb_store.specs.declared.mount_stage.MountStage.TheVariants.{ReadHome, ReadMap, Finish, Refused}
use Rattle.vb_store.specs.Beside.{HasReason, RestsBeside}
use Rattle.vb_store.specs.Clear.{first_candidates}
use Rattle.vb_store.specs.Metadata.{block_place, map_checked, metadata_of, node_checked}
use Rattle.vb_store.specs.MountStages.{HasEnded, IsSameAnswer, rest_of}
use Rattle.vb_store.specs.OneOf.{TreeView}
use Rattle.vb_store.specs.Recovered.{Recovers, recovered}

-- ---- settled disks

-- a disk is settled for a view: each place has one candidate; it is at rest with the view's head, the candidate of both
-- heads, and with the candidates of its homes and its journal; and the candidates say the view's nodes and references, and
-- recover its epoch and its tree
pub record IsSettled (view : TreeView) (d : DiskState) : Type 0 where
  pub is : IsHead view.metadata.head
  pub closed : view.metadata.head.state ≡ Closed
  pub settled : AreSettled d
  pub rests : IsAtRest view.metadata.head (λ slot. first_candidates d (2 + slot)) (λ i. first_candidates d (2 + view.metadata.head.nodes + i)) d
  pub metadata : metadata_of d.size (first_candidates d) ≡ Ok view.metadata
  pub recovers : recovered d.size (first_candidates d) ≡ Recovers view.metadata.head.epoch view.tree

-- so it is for one of these views
pub record IsSettledFor (views : List TreeView) (d : DiskState) : Type 0 where
  pub view : TreeView
  pub listed : Contains views view
  pub is : IsSettled view d

-- ---- homes and map pages that are read one at a time

-- a step took in the page that was read at this place: what is left of the answer stands, if that place gives this page,
-- and unless the page passed its check, nothing is left to be read
pub record TakesIn (place : ℕ) (page : List ℕ) (before after : MountStage) (Passes : Type 0) : Type 0 where
  pub same : IsSameAnswer place page before after
  pub ends : Passes ⊎ ((error : RecoverError) × HasEnded after error)

-- a page that was read passes its check: a home that of its node, and a map page that of its digest and its bytes
abbrev pub PassesRead : List ℕ → MountStage → Type 0
PassesRead page (ReadHome h) =
    IsOk (node_checked h.head.nodes (length h.nodes) (record { place = block_place h.slots.items h.head.nodes (length h.nodes); page = page }))
PassesRead page (ReadMap m) = IsOk (map_checked m.map page)
PassesRead page (Finish w) = Unit {0}
PassesRead page (Refused r) = Unit {0}

-- where all was read, or something was refused, the stage stays
abbrev pub StaysAtEnd : MountStage → MountStage → Type 0
StaysAtEnd (ReadHome h) after = Unit {0}
StaysAtEnd (ReadMap m) after = Unit {0}
StaysAtEnd (Finish w) after = after ≡ Finish w
StaysAtEnd (Refused r) after = after ≡ Refused r

-- so it did at each stage
abbrev pub TakesPage : List ℕ → MountStage → MountStage → Type 0
TakesPage page (ReadHome h) after = TakesIn (2 + length h.nodes) page (ReadHome h) after (PassesRead page (ReadHome h))
TakesPage page (ReadMap m) after = TakesIn m.map.reference.place page (ReadMap m) after (PassesRead page (ReadMap m))
TakesPage page (Finish w) after = after ≡ Finish w
TakesPage page (Refused r) after = after ≡ Refused r

-- what is left of the answer, if each place gives its candidate from now on, is the metadata of the view that the disk is
-- settled for; or the mount was refused, for its reason
abbrev pub LeadsTo : Bool → TreeView → MountStage → DiskState → Type 0
LeadsTo made view stage d =
    (rest_of (first_candidates d) stage ≡ Ok view.metadata) ⊎ ((error : RecoverError) × HasEnded stage error × HasReason made error d)

-- a store at rest is being read, and what is read leads to one of these views
pub record IsReadBeside (views : List TreeView) (made : Bool) (stage : MountStage) (d : DiskState) : Type 0 where
  pub head : Head
  pub rests : RestsBeside views head d
  pub its : IsSettledFor views d
  pub leads : LeadsTo made its.view stage d
