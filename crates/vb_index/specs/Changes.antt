-- Changes: what leaves, and how a file's length changes what is held of it.
use Rattle.std.specs.Prelude.{◌≡◌, ℕ, ◌<◌, ◌-◌, List, ◌++◌, length, take, replicate, slice_set, Option, Some, None, IsSome}
use Rattle.vb_block.specs.declared.digest.Ref.{Ref}
use Rattle.vb_tree.specs.declared.tree.Kind.{Kind}
use Rattle.vb_tree.specs.declared.tree.Kind.TheVariants.{Folder, File}
use Rattle.vb_tree.specs.declared.operation.Op.{Op}
use Rattle.vb_tree.specs.declared.operation.Op.TheVariants.{Remove, RemoveDir}
use Rattle.vb_tree.specs.declared.tree.TreeEntry.{TreeEntry}
use Rattle.vb_tree.specs.declared.reply.Refusal.{Refusal}
use Rattle.vb_tree.specs.declared.reply.Refusal.TheVariants.{NotAFile, NotADir, NotEmpty}
use Rattle.vb_tree.specs.Refusals.{refuse}
use Rattle.vb_tree.specs.Trees.{kind_at, is_folder, is_file, has_entries, data_pages_of}
use Rattle.vb_index.specs.declared.held.Held.{Held}
use Rattle.vb_index.specs.Nodes.{child_of, slot_at, refs_at, IsTable}

-- the operation that removes a file or a folder
abbrev pub removal_of : Kind → List (List ℕ) → Op
removal_of Folder path = RemoveDir path
removal_of File path = Remove path

-- why what stands at a path can't leave as a folder or as a file
abbrev pub refuse_leaving : Kind → List TreeEntry → List (List ℕ) → Option Refusal
refuse_leaving Folder tree path = refuse (is_file (kind_at path tree)) NotADir (refuse (has_entries path tree) NotEmpty None)
refuse_leaving File tree path = refuse (is_folder (kind_at path tree)) NotAFile None

-- a slot has no entries
abbrev pub IsBare : List (Option Held) → ℕ → Type 0
IsBare nodes slot = (name : List ℕ) → child_of nodes slot name ≡ None

-- the node at a path may leave: it isn't the root, and has no entries
pub record MayLeave (nodes : List (Option Held)) (path : List (List ℕ)) (slot : ℕ) : Type 0 where
  pub table : IsTable nodes
  pub below_root : 0 < length path
  pub at : slot_at nodes path ≡ Some slot
  pub bare : IsBare nodes slot

-- the reference of a page that was never committed
abbrev pub blank_ref : Ref
blank_ref = record { place = 0; digest = replicate 32 0 }

-- a file's references at a length: those that it has stay, and new pages were never committed
abbrev pub refs_for : ℕ → List Ref → List Ref
refs_for len refs = take (data_pages_of len) refs ++ replicate (data_pages_of len - length refs) blank_ref

-- what is held of a file at another length
abbrev pub resized : ℕ → Held → Held
resized len held = record { node = record held.node { length = len }; refs = refs_for len held.refs }

-- what is held of a file with another reference of a page
abbrev pub with_ref : ℕ → Ref → Held → Held
with_ref page reference held = record held { refs = slice_set held.refs page reference }

-- a file stands at a path
pub record IsFileAt (nodes : List (Option Held)) (path : List (List ℕ)) (slot : ℕ) : Type 0 where
  pub table : IsTable nodes
  pub at : slot_at nodes path ≡ Some slot
  pub file : IsSome (refs_at nodes slot)
