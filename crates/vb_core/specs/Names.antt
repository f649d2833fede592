-- What an error of a folder names: a damaged page, by the path of its file.
use Rattle.std.specs.Prelude.{◌≡◌, ◌≢◌, ◌⊎◌, ℕ, List, slice_get, IsSome, Option, Some, None, Result, Ok, Err}
use Rattle.vb_active.specs.Files.{IsFileOf}
use Rattle.vb_active.specs.Needs.{IsDamageOn, NeedsPage, path_of_pages}
use Rattle.vb_active.specs.Views.{ActiveState, Backs, IsOut}
use Rattle.vb_block.specs.declared.digest.Ref.{Ref}
use Rattle.vb_disk.specs.States.{DiskState}
use Rattle.vb_folder.specs.Ledgers.{LedgerState}
use Rattle.vb_folder.specs.Uploads.{CallCounts, CallsForUpload, TellsUpload, sending_of}
use Rattle.vb_frozen.specs.declared.entry.FrozenEntry.{FrozenEntry}
use Rattle.vb_link.specs.Views.{LinkView}
use Rattle.vb_local.specs.States.{frozen_in}
use Rattle.vb_local.specs.Ties.{FrozenState}
use Rattle.vb_publish.specs.declared.step.UploadStep.{UploadStep}
use Rattle.vb_tree.specs.declared.operation.Op.{Op}
use Rattle.vb_tree.specs.declared.reply.Reply.{Reply}
use Rattle.vb_upload.specs.Steps.{IsDamageAt, cursor_of}
use Rattle.vb_upload.specs.declared.answer.UploadError.{UploadError}
use Rattle.vb_upload.specs.declared.answer.UploadError.TheVariants as uploads
use Rattle.vb_core.specs.declared.folder_error.FolderError.{FolderError}
use Rattle.vb_core.specs.declared.folder_error.FolderError.TheVariants.{Damaged, DiskFault, LinkFault, Memory}

-- ---- a page of the live view

-- this page of the file at a path isn't in memory, and its reference has this place and this digest
pub record IsPageOut (view : ActiveState) (path : List (List ℕ)) (page place : ℕ) (kept : List ℕ) : Type 0 where
  pub slot : ℕ
  pub len : ℕ
  pub file : IsFileOf view.index.nodes path slot len
  pub reference : Ref
  pub out : IsOut view slot page reference
  pub here : place ≡ reference.place
  pub due : kept ≡ reference.digest

-- damage that an operation met: it is that of this page of the file at its path, and of a page that it needs; and where the
-- disk backs the view, the place is hurt
pub record NamesPageOf (told : Option DiskState) (view : ActiveState) (op : Op) (path : List (List ℕ)) (page place : ℕ) (kept found : List ℕ) : Type 0 where
  pub its_path : path ≡ path_of_pages op
  pub out : IsPageOut view path page place kept
  pub differ : kept ≢ found
  pub needed : IsDamageOn told view op place kept found
  pub hurt : (d : DiskState) → told ≡ Some d → Backs d view → IsSome (d.cells place).hurt

-- an operation's damage names its page, and it never fails by the link
abbrev pub NamesPage : Option DiskState → ActiveState → Op → Result Reply FolderError → Type 0
NamesPage told view op (Ok reply) = Unit {0}
NamesPage told view op (Err (Damaged path page place kept found)) = NamesPageOf told view op path page place kept found
NamesPage told view op (Err DiskFault) = Unit {0}
NamesPage told view op (Err LinkFault) = ⊥
NamesPage told view op (Err Memory) = Unit {0}

-- the path of the file whose pages an operation may need; none where it needs no page
abbrev pub IsPathOfPages : Op → Option (List (List ℕ)) → Type 0
IsPathOfPages op None = (len page : ℕ) → NeedsPage op len page → ⊥
IsPathOfPages op (Some path) = path ≡ path_of_pages op

-- ---- a page of the view that is being sent

-- damage that an upload met: it is that of the page that is due of the entry with this path in the view that is being sent
pub record NamesEntryOf (s : LedgerState) (told : Option DiskState) (path : List (List ℕ)) (page place : ℕ) (kept found : List ℕ) : Type 0 where
  pub frozen : FrozenState
  pub sends : IsSome (sending_of s)
  pub view : frozen_in s.local.phase ≡ Some frozen
  pub i : ℕ
  pub entry : FrozenEntry
  pub there : slice_get frozen.order i ≡ Some entry
  pub its_path : path ≡ entry.path
  pub damage : IsDamageAt frozen.order frozen.pages told (cursor_of s.upload) i page place kept found

-- the path of the entry at a place of the view that stands
abbrev pub IsPathIn : LedgerState → ℕ → List (List ℕ) → Type 0
IsPathIn s i path = (frozen : FrozenState) (entry : FrozenEntry) → frozen_in s.local.phase ≡ Some frozen → slice_get frozen.order i ≡ Some entry → path ≡ entry.path

-- an upload's error is made of one that names an entry by its place: damage has the entry's path, and where there is no memory
-- for that it is want of memory
abbrev pub IsNamedOf : LedgerState → UploadError → FolderError → Type 0
IsNamedOf s (uploads.Damaged i page place kept found) named =
    (named ≡ Memory) ⊎ ((path : List (List ℕ)) × IsPathIn s i path × (named ≡ Damaged path page place kept found))
IsNamedOf s uploads.DiskFault named = named ≡ DiskFault
IsNamedOf s uploads.LinkFault named = named ≡ LinkFault
IsNamedOf s uploads.Memory named = named ≡ Memory

-- an upload's damage names its entry
abbrev pub NamesEntry : LedgerState → Option DiskState → Result UploadStep FolderError → Type 0
NamesEntry s told (Ok step) = Unit {0}
NamesEntry s told (Err (Damaged path page place kept found)) = NamesEntryOf s told path page place kept found
NamesEntry s told (Err DiskFault) = Unit {0}
NamesEntry s told (Err LinkFault) = Unit {0}
NamesEntry s told (Err Memory) = Unit {0}

-- ---- an upload step's answer

-- an upload step's answer and the one from which it is made: the same, but that damage has a path, and that no memory was
-- found where there was none for the path
abbrev pub IsMadeOf : Result UploadStep UploadError → Result UploadStep FolderError → Type 0
IsMadeOf (Ok step) result = result ≡ Ok step
IsMadeOf (Err (uploads.Damaged i page place kept found)) result =
    (result ≡ Err Memory) ⊎ ((path : List (List ℕ)) × (result ≡ Err (Damaged path page place kept found)))
IsMadeOf (Err uploads.DiskFault) result = result ≡ Err DiskFault
IsMadeOf (Err uploads.LinkFault) result = result ≡ Err LinkFault
IsMadeOf (Err uploads.Memory) result = result ≡ Err Memory

-- what an upload step tells of the page that is due and of a doubt, and which calls it makes
pub record TellsStep (s : LedgerState) (told : Option DiskState) (shown : Option LinkView) (before after : CallCounts) (result : Result UploadStep FolderError) : Type 0 where
  pub below : Result UploadStep UploadError
  pub made : IsMadeOf below result
  pub tells : TellsUpload s told shown below
  pub calls : CallsForUpload s before after below
