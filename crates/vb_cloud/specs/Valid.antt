-- Which states a cloud can have.
use Rattle.std.specs.Prelude.{◌≡◌, ℕ, ◌<◌, ◌≤◌, List, [], ◌∷◌, length, Option, Some, None}
use Rattle.vb_tree.specs.declared.tree.TreeEntry.{TreeEntry}
use Rattle.vb_tree.specs.Trees.{IsTree}
use Rattle.vb_cloud.specs.Machine.{ObjectState, Absent, Growing, Sealed, DraftState, CloudState}

-- a view that a cloud can have, shown or drafted: an epoch below 2^63, and the entries of a tree, at most 65,535
pub record IsView (epoch : ℕ) (tree : List TreeEntry) : Type 0 where
  pub small_epoch : epoch < 9223372036854775808
  pub ordered : IsTree tree
  pub few : length tree ≤ 65535

-- no file of these entries is longer than 44,433,408 bytes
abbrev pub AllFit : List TreeEntry → Type 0
AllFit [] = Unit {0}
AllFit (e ∷ es) = (length e.bytes ≤ 44433408) × AllFit es

-- the bytes of an object, none where there is no object
abbrev pub object_bytes : ObjectState → List ℕ
object_bytes Absent = []
object_bytes (Growing bytes) = bytes
object_bytes (Sealed bytes) = bytes

-- a draft that a cloud can have beside a shown epoch: of a later one
pub record IsDraft (shown : ℕ) (d : DraftState) : Type 0 where
  pub later : shown < d.epoch
  pub view : IsView d.epoch d.tree
  pub object_fits : length (object_bytes d.object) ≤ 44433408

-- there is no draft, or one that a cloud can have beside a shown epoch
abbrev pub IsDraftIfAny : ℕ → Option DraftState → Type 0
IsDraftIfAny shown None = Unit {0}
IsDraftIfAny shown (Some d) = IsDraft shown d

-- the id has 16 bytes, and the views are such as a cloud can have
pub record HasViews (k : CloudState) : Type 0 where
  pub id_whole : length k.id ≡ 16
  pub shown : IsView k.epoch k.tree
  pub draft : IsDraftIfAny k.epoch k.draft

-- the files of a draft fit, where there is one
abbrev pub DraftFits : Option DraftState → Type 0
DraftFits None = Unit {0}
DraftFits (Some d) = AllFit d.tree

-- a state that messages can leave: besides, each file fits
pub record IsCloudState (k : CloudState) : Type 0 where
  pub views : HasViews k
  pub shown_fits : AllFit k.tree
  pub draft_fits : DraftFits k.draft
