-- The plan of an upload: the messages that make a cloud show a tree.
use Rattle.std.specs.Prelude.{ℕ, ◌+◌, ◌*◌, List, [], ◌∷◌, ◌++◌, length, map, Option, Some, None}
use Rattle.std.specs.List.{flat_map, range_with_len}
use Rattle.vb_tree.specs.declared.tree.Kind.{Kind}
use Rattle.vb_tree.specs.declared.tree.Kind.TheVariants.{Folder, File}
use Rattle.vb_tree.specs.declared.tree.TreeEntry.{TreeEntry}
use Rattle.vb_tree.specs.Contents.{part_of}
use Rattle.vb_tree.specs.Trees.{data_pages_of}
use Rattle.vb_msg.specs.declared.message.Msg.{Msg}
use Rattle.vb_msg.specs.declared.message.Msg.TheVariants.{Begin, Object, Part, Seal, Publish}
use Rattle.vb_publish.specs.Messages.{enter_named, epoch_named, keep_named, part_named, path_named}

-- the part of some bytes that is their page of this number: the last one ends where they do
abbrev pub part_at : List ℕ → ℕ → Msg
part_at bytes k = Part (part_named (part_of (4096 * k) 4096 bytes))

-- the parts of some bytes, one for each page
abbrev pub parts_of : List ℕ → List Msg
parts_of bytes = map (part_at bytes) (range_with_len 0 (data_pages_of (length bytes)))

-- the path of the published file whose content a file keeps: none is kept yet
abbrev pub origin_of : List TreeEntry → TreeEntry → Option (List (List ℕ))
origin_of published e = None

-- the messages of a file: it is kept, or else its content comes in parts and is sealed, and then it enters
abbrev pub file_messages : Option (List (List ℕ)) → TreeEntry → List Msg
file_messages (Some origin) e = keep_named (path_named e.path) (path_named origin) ∷ []
file_messages None e = Object ∷ parts_of e.bytes ++ Seal ∷ enter_named (path_named e.path) File ∷ []

-- the messages of an entry: a folder enters
abbrev pub messages_by : Kind → List TreeEntry → TreeEntry → List Msg
messages_by Folder published e = enter_named (path_named e.path) Folder ∷ []
messages_by File published e = file_messages (origin_of published e) e

-- the messages of an entry over a published tree
abbrev pub entry_messages : List TreeEntry → TreeEntry → List Msg
entry_messages published e = messages_by e.kind published e

-- the plan of an epoch and a tree over a published tree: Begin, the messages of each entry in path order, and Publish
abbrev pub upload_plan : ℕ → List TreeEntry → List TreeEntry → List Msg
upload_plan epoch tree published = Begin (epoch_named epoch) ∷ flat_map (entry_messages published) tree ++ Publish (epoch_named epoch) ∷ []

-- ---- how many messages it takes

-- how many messages an entry of this kind and length takes: one for a folder, and for a file three and its pages
abbrev pub messages_for : Kind → ℕ → ℕ
messages_for Folder len = 1
messages_for File len = 3 + data_pages_of len

-- how many messages each entry of a tree takes
abbrev pub counts_of_tree : List TreeEntry → List ℕ
counts_of_tree tree = map (λ e. messages_for e.kind (length e.bytes)) tree

-- the sum of these counts
abbrev pub total_of : List ℕ → ℕ
total_of [] = 0
total_of (n ∷ ns) = n + total_of ns

-- the length of a plan whose entries take so many messages each: Begin, theirs, and Publish
abbrev pub plan_length : List ℕ → ℕ
plan_length counts = 2 + total_of counts
