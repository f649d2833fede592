-- Where an upload stands, and how many messages of its plan were sent.
use Rattle.std.specs.Prelude.{◌≡◌, ℕ, ◌+◌, ◌<◌, ◌≤◌, false, nat_lt, if◌then◌else◌, List, length, map, take, slice_get, Option, Some, None}
use Rattle.std.specs.List.{All}
use Rattle.vb_disk.specs.States.{DiskState}
use Rattle.vb_path.specs.Paths.{IsPath}
use Rattle.vb_tree.specs.declared.tree.Kind.{Kind}
use Rattle.vb_tree.specs.declared.tree.Kind.TheVariants.{Folder, File}
use Rattle.vb_tree.specs.declared.tree.TreeEntry.{TreeEntry}
use Rattle.vb_tree.specs.Trees.{data_pages_of, is_root, longest_file}
use Rattle.vb_pages.specs.declared.kept.KeptPage.{KeptPage}
use Rattle.vb_pages.specs.declared.kept.PageKey.{PageKey}
use Rattle.vb_frozen.specs.declared.entry.FrozenEntry.{FrozenEntry}
use Rattle.vb_frozen.specs.Views.{HasFrozenTree, IsBacked}
use Rattle.vb_upload.specs.declared.cursor.Cursor.{Cursor}
use Rattle.vb_upload.specs.declared.cursor.Cursor.TheVariants.{Begin, Entry, Page, Sealed}
use Rattle.vb_msg.specs.declared.message.Msg.{Msg}
use Rattle.vb_msg.specs.declared.message.Msg.TheVariants.{Object, Seal, Publish}
use Rattle.vb_publish.specs.Messages.{enter_named, epoch_named, path_named}
use Rattle.vb_publish.specs.Plans.{messages_for, part_at, plan_length, total_of}

-- an entry that can be sent: its path is one and not the root, it isn't longer than a file may be, and each of its pages
-- has a reference
pub record CanBeSent (e : FrozenEntry) : Type 0 where
  pub is_path : IsPath e.path
  pub below_root : is_root e.path ≡ false
  pub few_bytes : e.len ≤ longest_file
  pub each_page : length e.refs ≡ data_pages_of e.len

-- every entry of an order can be sent
abbrev pub AllCanBeSent : List FrozenEntry → Type 0
AllCanBeSent order = All CanBeSent order

-- how many messages each entry of an order takes
abbrev pub counts_of : List FrozenEntry → List ℕ
counts_of order = map (λ e. messages_for e.kind e.len) order

-- how many messages were sent at a cursor, where the entries take so many: Begin; those of the entries before this one;
-- and of this one Object and a part for each page before this one, or all but the last
abbrev pub sent_at : List ℕ → Cursor → ℕ
sent_at counts Begin = 0
sent_at counts (Entry i) = 1 + total_of (take i counts)
sent_at counts (Page i page) = 2 + total_of (take i counts) + page
sent_at counts (Sealed i) = total_of (take (i + 1) counts)

-- a file stands at this place of an order, and it has so many pages or more
pub record IsFileWith (order : List FrozenEntry) (i pages : ℕ) : Type 0 where
  pub there : i < length order
  pub file : (e : FrozenEntry) → slice_get order i ≡ Some e → e.kind ≡ File
  pub enough : (e : FrozenEntry) → slice_get order i ≡ Some e → pages ≤ data_pages_of e.len

-- a cursor stands in the messages of an order
abbrev pub StandsIn : List FrozenEntry → Cursor → Type 0
StandsIn order Begin = Unit {0}
StandsIn order (Entry i) = i ≤ length order
StandsIn order (Page i page) = IsFileWith order i page
StandsIn order (Sealed i) = IsFileWith order i 0

-- one message more was sent at a cursor than at another, and it isn't the last
pub record IsBehind (order : List FrozenEntry) (cursor next : Cursor) : Type 0 where
  pub stands : StandsIn order next
  pub one_more : sent_at (counts_of order) next ≡ sent_at (counts_of order) cursor + 1
  pub not_last : sent_at (counts_of order) next < plan_length (counts_of order)

-- the last message comes at a cursor
abbrev pub IsLast : List FrozenEntry → Cursor → Type 0
IsLast order cursor = sent_at (counts_of order) cursor + 1 ≡ plan_length (counts_of order)

-- where an upload stands behind the message at a cursor: nowhere where it is the last
abbrev pub GoesAfter : List FrozenEntry → Cursor → Option Cursor → Type 0
GoesAfter order cursor None = IsLast order cursor
GoesAfter order cursor (Some next) = IsBehind order cursor next

-- every candidate of the place of the page that is due at a cursor is that page, where one is due that isn't in memory
abbrev pub BacksDue : List FrozenEntry → List (PageKey × KeptPage) → DiskState → Cursor → Type 0
BacksDue order pages d Begin = Unit {0}
BacksDue order pages d (Entry i) = Unit {0}
BacksDue order pages d (Page i page) = IsBacked order pages d i page
BacksDue order pages d (Sealed i) = Unit {0}

-- a frozen view has this tree over a disk that backs the page which is due
pub record IsUploadOf (order : List FrozenEntry) (pages : List (PageKey × KeptPage)) (d : DiskState) (cursor : Cursor) (tree : List TreeEntry) : Type 0 where
  pub has : HasFrozenTree order pages d tree
  pub backed : BacksDue order pages d cursor

-- ---- the message at a cursor

-- the first message of an entry: a folder enters, and a file's content begins
abbrev pub first_message : List (List ℕ) → Kind → Msg
first_message path Folder = enter_named (path_named path) Folder
first_message path File = Object

-- the first message of an entry, and the publication where there is none
abbrev pub message_of_entry : ℕ → Option FrozenEntry → Msg
message_of_entry epoch None = Publish (epoch_named epoch)
message_of_entry epoch (Some e) = first_message e.path e.kind

-- the message is the part of a page, or the seal past the last one
abbrev pub IsPageMessage : List ℕ → ℕ → Msg → Type 0
IsPageMessage bytes page m = m ≡ (if nat_lt page (data_pages_of (length bytes)) then part_at bytes page else Seal)
