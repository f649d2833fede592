-- Indexes: limits and nodes, and the trees that have the folders, files and lengths of the nodes.
use Rattle.std.specs.Prelude.{◌≡◌, ℕ, ◌<◌, ◌≤◌, true, if◌then◌else◌, IsSome, List, [], length, Option, Some, None, Result, Ok, Err}
use Rattle.std.specs.Option.{option_map, option_and_then}
use Rattle.vb_inode.specs.declared.node.NodeKind.{NodeKind}
use Rattle.vb_inode.specs.declared.node.NodeKind.TheVariants.{Folder as FolderNode, File as FileNode}
use Rattle.vb_tree.specs.declared.tree.Kind.{Kind}
use Rattle.vb_tree.specs.declared.tree.Kind.TheVariants.{Folder, File}
use Rattle.vb_tree.specs.declared.tree.Limits.{Limits}
use Rattle.vb_tree.specs.declared.tree.TreeEntry.{TreeEntry}
use Rattle.vb_tree.specs.declared.reply.Refusal.{Refusal}
use Rattle.vb_tree.specs.Trees.{is_root, entry_at, parent_of, name_of, node_count, page_count}
use Rattle.vb_index.specs.declared.errors.IndexError.{IndexError}
use Rattle.vb_index.specs.declared.errors.IndexError.TheVariants.{Refused, Memory}
use Rattle.vb_index.specs.declared.held.Held.{Held}
use Rattle.vb_index.specs.Heights.{IsRooted}
use Rattle.vb_index.specs.Nodes.{kind_of, held_at, holds_folder, child_of, slot_at, nodes_in, pages_in, IsTable}

-- an index: its limits, and what each slot holds
pub record IndexState : Type 0 where
  pub limits : Limits
  pub nodes : List (Option Held)

-- the files of an index take no more pages than its limits
abbrev pub KeepsLimits : IndexState → Type 0
KeepsLimits index = pages_in index.nodes ≤ index.limits.pages

-- what stands at a path: its kind, and its length, which is 0 for a folder
pub record Shape : Type 0 where
  pub kind : Kind
  pub len : ℕ

-- the shape of what a slot holds
abbrev pub shape_of : Held → Shape
shape_of held = record { kind = kind_of held.node; len = held.node.length }

-- the shape of the entry of a name in a folder
abbrev pub shape_below : List (Option Held) → ℕ → List ℕ → Option Shape
shape_below nodes folder name = option_and_then (λ slot. option_map shape_of (held_at nodes slot)) (child_of nodes folder name)

-- the shape of the node at a path
abbrev pub shape_at : List (Option Held) → List (List ℕ) → Option Shape
shape_at nodes path = option_and_then (λ slot. option_map shape_of (held_at nodes slot)) (slot_at nodes path)

-- the shape of a tree's entry
abbrev pub shape_of_entry : TreeEntry → Shape
shape_of_entry e = record { kind = e.kind; len = length e.bytes }

-- the shape of what stands at a path of a tree
abbrev pub shape_in : List (List ℕ) → List TreeEntry → Option Shape
shape_in path tree = if is_root path then Some (record { kind = Folder; len = 0 }) else option_map shape_of_entry (entry_at path tree)

-- a tree has the folders, files and lengths of the nodes: the same shape at every path, as many nodes and as many pages
pub record HasShapeOf (nodes : List (Option Held)) (tree : List TreeEntry) : Type 0 where
  pub same : (path : List (List ℕ)) → shape_at nodes path ≡ shape_in path tree
  pub as_many : nodes_in nodes ≡ node_count tree
  pub as_large : pages_in nodes ≡ page_count tree

-- the answer is Ok where there is no reason to refuse, and else that reason, unless memory ran out
abbrev pub IsAnswer : {T : Type 0} → Option Refusal → Result T IndexError → Type 0
IsAnswer due (Ok value) = due ≡ None
IsAnswer due (Err (Refused reason)) = due ≡ Some reason
IsAnswer due (Err Memory) = Unit {0}

-- the least slot that is free
pub record IsLeastFree (nodes : List (Option Held)) (slot : ℕ) : Type 0 where
  pub there : slot < length nodes
  pub free : held_at nodes slot ≡ None
  pub least : (k : ℕ) → k < slot → IsSome (held_at nodes k)

-- the kind of an entry's node
abbrev pub node_kind : Kind → NodeKind
node_kind Folder = FolderNode
node_kind File = FileNode

-- what an index holds of a new entry: an empty file, or a folder without entries
abbrev pub new_held : ℕ → Kind → ℕ → List ℕ → Held
new_held slot kind folder name = record { node = record { slot = slot; kind = node_kind kind; parent = folder; name = name; length = 0; maps = [] }; refs = [] }

-- a folder of the index is the place for a new entry at a path
pub record IsPlace (nodes : List (Option Held)) (path : List (List ℕ)) (folder : ℕ) : Type 0 where
  pub table : IsTable nodes
  pub below_root : 0 < length path
  pub at : slot_at nodes (parent_of path) ≡ Some folder
  pub in_folder : holds_folder (held_at nodes folder) ≡ true
  pub new_name : child_of nodes folder (name_of path) ≡ None
  pub room : nodes_in nodes < length nodes
  pub rooted : IsRooted nodes
