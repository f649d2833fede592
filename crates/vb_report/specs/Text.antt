-- What is printed of a history and of a published view. Every line ends with a line feed.
use Rattle.std.specs.Prelude.{ℕ, ◌+◌, ◌/◌, ◌%◌, Bool, ◌||◌, nat_lt, ◌==◌, if◌then◌else◌, List, [], ◌∷◌, ◌++◌, length, map, codes, decimal}
use Rattle.std.specs.List.{flat_map}
use Rattle.vb_tree.specs.declared.tree.Kind.{Kind}
use Rattle.vb_tree.specs.declared.tree.Kind.TheVariants.{Folder, File}
use Rattle.vb_tree.specs.declared.tree.TreeEntry.{TreeEntry}
use Rattle.vb_tree.specs.declared.operation.Op.{Op}
use Rattle.vb_tree.specs.declared.operation.Op.TheVariants as ops
use Rattle.vb_tree.specs.declared.reply.Reply.{Reply}
use Rattle.vb_tree.specs.declared.reply.Reply.TheVariants as replies
use Rattle.vb_tree.specs.declared.reply.Refusal.{Refusal}
use Rattle.vb_tree.specs.declared.reply.Refusal.TheVariants.{RootFixed, NoEntry, NoParent, ParentNotDir, Exists, NotAFile, NotADir, NotEmpty, IntoItself, DeepTree, TooLong, TooManyNodes, NoSpace}
use Rattle.hex.specs.Hex.{encode_lower}
use Rattle.vb_path.specs.Paths.{text_of_path}
use Rattle.vb_cloud.specs.Published.{PublishedView}
use Rattle.vb_hist.specs.declared.entry.Entry.{Entry}
use Rattle.vb_hist.specs.declared.entry.Entry.TheVariants.{Call, Freeze, FreezeBusy, Commit, Rest, Publish, Doubt, Dropped, End, Cut}

-- a line feed
abbrev pub line_feed : List ℕ
line_feed = 10 ∷ []

-- a hexadecimal digit in lower case
abbrev pub hex_digit : ℕ → ℕ
hex_digit n = if nat_lt n 10 then 48 + n else 87 + n

-- whether a byte of a path or a name is printed by its number: 0x00 to 0x20, `%` and 0x7F
abbrev pub is_escaped : ℕ → Bool
is_escaped b = nat_lt b 33 || (b == 37 || b == 127)

-- a byte of a path or a name: itself, or `%` and two hexadecimal digits
abbrev pub byte_text : ℕ → List ℕ
byte_text b = if is_escaped b then 37 ∷ hex_digit (b / 16) ∷ hex_digit (b % 16) ∷ [] else b ∷ []

-- the bytes of a path or a name
abbrev pub escaped : List ℕ → List ℕ
escaped bytes = flat_map byte_text bytes

-- a path
unfoldable pub path_text : List (List ℕ) → List ℕ
path_text path = escaped (text_of_path path)

-- two numbers, one after the other
abbrev pub numbers_text : ℕ → ℕ → List ℕ
numbers_text first second = decimal first ++ codes " " ++ decimal second

-- a refusal: its name, and its numbers behind it
unfoldable pub refusal_text : Refusal → List ℕ
refusal_text RootFixed = codes "RootFixed"
refusal_text NoEntry = codes "NoEntry"
refusal_text NoParent = codes "NoParent"
refusal_text ParentNotDir = codes "ParentNotDir"
refusal_text Exists = codes "Exists"
refusal_text NotAFile = codes "NotAFile"
refusal_text NotADir = codes "NotADir"
refusal_text NotEmpty = codes "NotEmpty"
refusal_text IntoItself = codes "IntoItself"
refusal_text DeepTree = codes "DeepTree"
refusal_text (TooLong len) = codes "TooLong " ++ decimal len
refusal_text (TooManyNodes nodes limit) = codes "TooManyNodes " ++ numbers_text nodes limit
refusal_text (NoSpace pages limit) = codes "NoSpace " ++ numbers_text pages limit

-- the bytes of a file: two hexadecimal digits in lower case for each, and `-` where there are none
abbrev pub bytes_text : List ℕ → List ℕ
bytes_text [] = codes "-"
bytes_text (b ∷ bs) = encode_lower (b ∷ bs)

-- the names in a folder, a space before each
abbrev pub names_text : List (List ℕ) → List ℕ
names_text names = flat_map (λ name. codes " " ++ escaped name) names

-- what stands at a path: a file's length behind it
abbrev pub info_text : Kind → ℕ → List ℕ
info_text Folder len = codes "folder"
info_text File len = codes "file " ++ decimal len

-- a reply
unfoldable pub reply_text : Reply → List ℕ
reply_text replies.Done = codes "ok"
reply_text (replies.Bytes bytes) = bytes_text bytes
reply_text (replies.Names names) = decimal (length names) ++ names_text names
reply_text (replies.Info kind len) = info_text kind len
reply_text (replies.Refused refusal) = codes "refused " ++ refusal_text refusal

-- an operation: its word in a script, and its path or both of them
unfoldable pub op_text : Op → List ℕ
op_text (ops.Create path) = codes "create " ++ path_text path
op_text (ops.MakeDir path) = codes "mkdir " ++ path_text path
op_text (ops.Write path offset bytes) = codes "write " ++ path_text path
op_text (ops.Truncate path len) = codes "truncate " ++ path_text path
op_text (ops.Rename source target) = codes "rename " ++ path_text source ++ codes " " ++ path_text target
op_text (ops.Remove path) = codes "rm " ++ path_text path
op_text (ops.RemoveDir path) = codes "rmdir " ++ path_text path
op_text (ops.Read path offset len) = codes "read " ++ path_text path
op_text (ops.List path) = codes "ls " ++ path_text path
op_text (ops.Stat path) = codes "stat " ++ path_text path

-- a writer's number before what the writer did
abbrev pub writer_text : ℕ → List ℕ
writer_text writer = codes "w" ++ decimal writer ++ codes " "

-- who did it: a writer, or the program, which isn't named
abbrev pub who_text : ℕ → List ℕ
who_text by = if by == 0 then [] else writer_text by

-- a word, and an epoch behind it
abbrev pub epoch_line : List ℕ → ℕ → List ℕ
epoch_line word epoch = word ++ decimal epoch ++ line_feed

-- a word, a number behind it, and a name behind that
abbrev pub named_line : List ℕ → ℕ → List ℕ → List ℕ
named_line word number name = word ++ decimal number ++ codes " " ++ name ++ line_feed

-- the line of an entry, and nothing for an entry that prints none
unfoldable pub entry_text : Entry → List ℕ
entry_text (Call writer op reply) = writer_text writer ++ op_text op ++ codes " " ++ reply_text reply ++ line_feed
entry_text (Freeze by epoch) = who_text by ++ epoch_line (codes "freeze ") epoch
entry_text (FreezeBusy writer epoch) = writer_text writer ++ epoch_line (codes "freeze busy ") epoch
entry_text (Publish epoch) = epoch_line (codes "publish ") epoch
entry_text (Dropped epoch) = epoch_line (codes "drop ") epoch
entry_text (Cut epoch limits) = epoch_line (codes "cut ") epoch
entry_text (Commit epoch) = []
entry_text (Rest epoch) = []
entry_text (Doubt epoch) = []
entry_text (End writer) = []

-- the lines of a history
abbrev pub history_text : List Entry → List ℕ
history_text history = flat_map entry_text history

-- what is listed of an entry of a view: its path, what stands there, and its length, which is 0 for a folder
pub record ListedEntry : Type 0 where
  pub path : List (List ℕ)
  pub kind : Kind
  pub len : ℕ

-- what is listed of a tree's entry
abbrev pub listed_of : TreeEntry → ListedEntry
listed_of e = record { path = e.path; kind = e.kind; len = length e.bytes }

-- the line of a folder or a file of this length
abbrev pub line_of_kind : Kind → List (List ℕ) → ℕ → List ℕ
line_of_kind Folder path len = codes "folder " ++ path_text path ++ line_feed
line_of_kind File path len = codes "file " ++ path_text path ++ codes " " ++ decimal len ++ line_feed

-- the line of a listed entry
unfoldable pub listed_text : ListedEntry → List ℕ
listed_text e = line_of_kind e.kind e.path e.len

-- a listing: a heading with the epoch behind it, and then the line of each entry
abbrev pub listing_text : List ℕ → ℕ → List ListedEntry → List ℕ
listing_text heading epoch entries = epoch_line heading epoch ++ flat_map listed_text entries

-- the listing of a published view
abbrev pub view_text : PublishedView → List ℕ
view_text view = listing_text (codes "view ") view.epoch (map listed_of view.tree)

-- all that is printed of a history and of the view that is published at its end
abbrev pub text_of : List Entry → PublishedView → List ℕ
text_of history view = history_text history ++ view_text view
