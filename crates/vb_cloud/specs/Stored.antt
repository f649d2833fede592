-- What the entries that a cloud keeps are as contracts see them.
use Rattle.std.specs.Prelude.{◌≡◌, ℕ, List, [], ◌∷◌, map}
use Rattle.std.specs.Arc.{arc_value}
use Rattle.vb_tree.specs.declared.tree.Kind.{Kind}
use Rattle.vb_tree.specs.declared.tree.Kind.TheVariants.{Folder, File}
use Rattle.vb_tree.specs.declared.tree.TreeEntry.{TreeEntry}
use Rattle.std.specs.Global.{Vec}
use Rattle.vb_cloud.specs.Machine.{ObjectState, Absent, Growing, Sealed}
use Rattle.vb_cloud.specs.declared.entry.CloudEntry.{CloudEntry}
use Rattle.vb_cloud.specs.declared.object.Object.{Object}
use Rattle.vb_cloud.specs.declared.object.Object.TheVariants as object
use Rattle.vb_cloud.specs.declared.stored.Stored.{Stored}
use Rattle.vb_cloud.specs.declared.stored.Stored.TheVariants as stored

-- what is stored there
abbrev pub stored_kind : Stored → Kind
stored_kind stored.Folder = Folder
stored_kind (stored.File content) = File

-- its bytes, none for a folder
abbrev pub stored_bytes : Stored → List ℕ
stored_bytes stored.Folder = []
stored_bytes (stored.File content) = arc_value content

-- the entry at a path with what is stored there
abbrev pub entry_of : List (List ℕ) → Stored → TreeEntry
entry_of path s = record { path = path; kind = stored_kind s; bytes = stored_bytes s }

-- the tree of the entries that are shown
abbrev pub shown_tree : List CloudEntry → List TreeEntry
shown_tree es = map (λ e. entry_of e.path e.stored) es

-- the tree of the entries of a draft, each under its path's parts
abbrev pub draft_tree : List (Vec (List ℕ) × CloudEntry) → List TreeEntry
draft_tree es = map (λ e. entry_of e.0.items e.1.stored) es

-- each entry of a draft stands under the parts of its path
abbrev pub AreUnderTheirPaths : List (Vec (List ℕ) × CloudEntry) → Type 0
AreUnderTheirPaths [] = Unit {0}
AreUnderTheirPaths (e ∷ es) = (e.1.path ≡ e.0.items) × AreUnderTheirPaths es

-- an object as the machine has it
abbrev pub object_of : Object → ObjectState
object_of object.Absent = Absent
object_of (object.Growing content) = Growing content
object_of (object.Sealed content) = Sealed (arc_value content)
