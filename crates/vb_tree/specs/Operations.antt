-- Operations: what each answers, and the tree that it leaves.
use Rattle.std.specs.Prelude.{ℕ, ◌^◌, ◌<◌, ◌≤◌, Bool, true, false, if◌then◌else◌, List, [], length, unwrap_or, Option, Some, None}
use Rattle.vb_path.specs.Paths.{IsPath}
use Rattle.vb_tree.specs.declared.tree.Kind.{Kind}
use Rattle.vb_tree.specs.declared.tree.Kind.TheVariants.{Folder, File}
use Rattle.vb_tree.specs.declared.tree.Limits.{Limits}
use Rattle.vb_tree.specs.declared.tree.TreeEntry.{TreeEntry}
use Rattle.vb_tree.specs.declared.operation.Op.{Op}
use Rattle.vb_tree.specs.declared.operation.Op.TheVariants.{Create, MakeDir, Write, Truncate, Rename, Remove, RemoveDir, Read, List as Listing, Stat}
use Rattle.vb_tree.specs.declared.reply.Reply.{Reply}
use Rattle.vb_tree.specs.declared.reply.Reply.TheVariants.{Done, Bytes, Names, Info, Refused}
use Rattle.vb_tree.specs.declared.reply.Refusal.{Refusal}
use Rattle.vb_tree.specs.Trees.{entry_at, kind_at, length_at, bytes_in, insert_entry, with_bytes_at, without, names_in}
use Rattle.vb_tree.specs.Contents.{written_over, truncated_to, part_of}
use Rattle.vb_tree.specs.Renames.{renamed}
use Rattle.vb_tree.specs.Refusals.{refusal_of}

-- the path that an operation is about, and for a rename the one that is left
abbrev pub path_of_op : Op → List (List ℕ)
path_of_op (Create path) = path
path_of_op (MakeDir path) = path
path_of_op (Write path offset bytes) = path
path_of_op (Truncate path len) = path
path_of_op (Rename source target) = source
path_of_op (Remove path) = path
path_of_op (RemoveDir path) = path
path_of_op (Read path offset len) = path
path_of_op (Listing path) = path
path_of_op (Stat path) = path

-- the operation's numbers are in their ranges
abbrev pub IsInRange : Op → Type 0
IsInRange (Create path) = Unit {0}
IsInRange (MakeDir path) = Unit {0}
IsInRange (Write path offset bytes) = (offset < 2 ^ 63) × (length bytes ≤ 65536)
IsInRange (Truncate path len) = len < 2 ^ 63
IsInRange (Rename source target) = Unit {0}
IsInRange (Remove path) = Unit {0}
IsInRange (RemoveDir path) = Unit {0}
IsInRange (Read path offset len) = (offset < 2 ^ 63) × (len ≤ 65536)
IsInRange (Listing path) = Unit {0}
IsInRange (Stat path) = Unit {0}

-- the paths of the operation are paths
abbrev pub HasPaths : Op → Type 0
HasPaths (Create path) = IsPath path
HasPaths (MakeDir path) = IsPath path
HasPaths (Write path offset bytes) = IsPath path
HasPaths (Truncate path len) = IsPath path
HasPaths (Rename source target) = IsPath source × IsPath target
HasPaths (Remove path) = IsPath path
HasPaths (RemoveDir path) = IsPath path
HasPaths (Read path offset len) = IsPath path
HasPaths (Listing path) = IsPath path
HasPaths (Stat path) = IsPath path

-- a kind and a length: a folder has the length 0
abbrev pub info_of : Kind → ℕ → Reply
info_of Folder len = Info Folder 0
info_of File len = Info File len

-- what an operation that isn't refused answers
abbrev pub answer_of : List TreeEntry → Op → Reply
answer_of tree (Create path) = Done
answer_of tree (MakeDir path) = Done
answer_of tree (Write path offset bytes) = Done
answer_of tree (Truncate path len) = Done
answer_of tree (Rename source target) = Done
answer_of tree (Remove path) = Done
answer_of tree (RemoveDir path) = Done
answer_of tree (Read path offset len) = Bytes (part_of offset len (bytes_in (entry_at path tree)))
answer_of tree (Listing path) = Names (names_in path tree)
answer_of tree (Stat path) = info_of (unwrap_or (kind_at path tree) Folder) (length_at path tree)

-- the refusal as a reply, and the answer where there is none
abbrev pub reply_unless : Option Refusal → Reply → Reply
reply_unless (Some reason) answer = Refused reason
reply_unless None answer = answer

-- what an operation answers
abbrev pub reply_of : Limits → List TreeEntry → Op → Reply
reply_of limits tree op = reply_unless (refusal_of limits tree op) (answer_of tree op)

-- whether a reply is Done
abbrev pub is_done : Reply → Bool
is_done Done = true
is_done (Bytes bytes) = false
is_done (Names names) = false
is_done (Info kind len) = false
is_done (Refused reason) = false

-- the tree after an operation that was answered Done
abbrev pub effect_of : List TreeEntry → Op → List TreeEntry
effect_of tree (Create path) = insert_entry (record { path = path; kind = File; bytes = [] }) tree
effect_of tree (MakeDir path) = insert_entry (record { path = path; kind = Folder; bytes = [] }) tree
effect_of tree (Write path offset bytes) =
    with_bytes_at path (written_over offset bytes (bytes_in (entry_at path tree))) tree
effect_of tree (Truncate path len) = with_bytes_at path (truncated_to len (bytes_in (entry_at path tree))) tree
effect_of tree (Rename source target) = renamed source target tree
effect_of tree (Remove path) = without path tree
effect_of tree (RemoveDir path) = without path tree
effect_of tree (Read path offset len) = tree
effect_of tree (Listing path) = tree
effect_of tree (Stat path) = tree

-- the tree after a call that was answered so: the effect where the reply is Done
abbrev pub tree_after_reply : List TreeEntry → Op → Reply → List TreeEntry
tree_after_reply tree op reply = if is_done reply then effect_of tree op else tree

-- the tree that an operation leaves
abbrev pub tree_after : Limits → List TreeEntry → Op → List TreeEntry
tree_after limits tree op = tree_after_reply tree op (reply_of limits tree op)
