-- Frozen views: an order, the pages that are kept in memory, and the tree that they have over a disk.
use Rattle.std.specs.Prelude.{◌≡◌, ℕ, ◌<◌, List, [], ◌∷◌, length, slice_get, Option, Some, None, unwrap_or, Result, Ok, Err, IfOk}
use Rattle.std.specs.Option.{option_and_then}
use Rattle.vb_block.specs.declared.digest.Ref.{Ref}
use Rattle.vb_disk.specs.States.{DiskState, read_at}
use Rattle.vb_tree.specs.declared.tree.TreeEntry.{TreeEntry}
use Rattle.vb_tree.specs.Contents.{page_of}
use Rattle.vb_tree.specs.Trees.{data_pages_of, IsTree}
use Rattle.vb_index.specs.declared.held.Held.{Held}
use Rattle.vb_index.specs.Nodes.{refs_at}
use Rattle.vb_pages.specs.declared.kept.KeptPage.{KeptPage}
use Rattle.vb_pages.specs.declared.kept.PageKey.{PageKey}
use Rattle.vb_pages.specs.declared.page_error.PageError.{PageError}
use Rattle.vb_pages.specs.declared.page_error.PageError.TheVariants.{Damaged, DiskFault, Memory}
use Rattle.vb_pages.specs.Disks.{first_at, HoldsOnly}
use Rattle.vb_pages.specs.Reads.{AnswersRead, GivesWhatWasRead}
use Rattle.vb_pages.specs.Tables.{kept_page}
use Rattle.vb_frozen.specs.declared.entry.FrozenEntry.{FrozenEntry}
use Rattle.vb_frozen.specs.Orders.{AreApart}

-- a page of a slot of an index: the table's, or else the first candidate at its reference's place
abbrev pub live_page : List (Option Held) → List (PageKey × KeptPage) → DiskState → ℕ → ℕ → List ℕ
live_page nodes pages d slot k = unwrap_or (kept_page pages slot k) (first_at d (slice_get (unwrap_or (refs_at nodes slot) []) k))

-- a page of an entry: the table's, or else the first candidate at its reference's place
abbrev pub frozen_page : List (PageKey × KeptPage) → DiskState → FrozenEntry → ℕ → List ℕ
frozen_page pages d entry k = unwrap_or (kept_page pages entry.slot k) (first_at d (slice_get entry.refs k))

-- an order's entry is a tree's: its path, kind and length, and its pages are those of the bytes
pub record IsEntryOf (pages : List (PageKey × KeptPage)) (d : DiskState) (entry : FrozenEntry) (e : TreeEntry) : Type 0 where
  pub path : entry.path ≡ e.path
  pub kind : entry.kind ≡ e.kind
  pub len : entry.len ≡ length e.bytes
  pub contents : (k : ℕ) → k < data_pages_of (length e.bytes) → frozen_page pages d entry k ≡ page_of e.bytes k

-- an order's entries are a tree's, one by one
abbrev pub AreEntriesOf : List (PageKey × KeptPage) → DiskState → List FrozenEntry → List TreeEntry → Type 0
AreEntriesOf pages d [] [] = Unit {0}
AreEntriesOf pages d [] (e ∷ es) = ⊥
AreEntriesOf pages d (entry ∷ entries) [] = ⊥
AreEntriesOf pages d (entry ∷ entries) (e ∷ es) = IsEntryOf pages d entry e × AreEntriesOf pages d entries es

-- the entries of an order and their pages, in memory or on the disk, are those of a tree, and no two have one slot
pub record HasFrozenTree (order : List FrozenEntry) (pages : List (PageKey × KeptPage)) (d : DiskState) (tree : List TreeEntry) : Type 0 where
  pub is_tree : IsTree tree
  pub apart : AreApart order
  pub entries : AreEntriesOf pages d order tree

-- a page of the entry at a place in the order that is kept in memory
abbrev pub page_kept : List FrozenEntry → List (PageKey × KeptPage) → ℕ → ℕ → Option (List ℕ)
page_kept order pages i k = option_and_then (λ entry. kept_page pages entry.slot k) (slice_get order i)

-- the reference of a page of the entry at a place in the order
abbrev pub page_ref : List FrozenEntry → ℕ → ℕ → Option Ref
page_ref order i k = option_and_then (λ entry. slice_get entry.refs k) (slice_get order i)

-- a page of an entry isn't kept in memory, and this is its reference
pub record IsOnDisk (order : List FrozenEntry) (pages : List (PageKey × KeptPage)) (i k : ℕ) (reference : Ref) : Type 0 where
  pub at : page_ref order i k ≡ Some reference
  pub apart : page_kept order pages i k ≡ None

-- a page that is kept in memory is given, unless memory ran out
abbrev pub GivesKept : List ℕ → Result (List ℕ) PageError → Type 0
GivesKept bytes (Ok page) = page ≡ bytes
GivesKept bytes (Err (Damaged place kept found)) = ⊥
GivesKept bytes (Err DiskFault) = ⊥
GivesKept bytes (Err Memory) = Unit {0}

-- every candidate of the place of a page that isn't kept in memory is one page of its reference's digest
abbrev pub IsBacked : List FrozenEntry → List (PageKey × KeptPage) → DiskState → ℕ → ℕ → Type 0
IsBacked order pages d i k = (reference : Ref) → IsOnDisk order pages i k reference → HoldsOnly (d.cells reference.place) reference.digest

-- what is given of a page: where it is kept in memory that page, and else what the read of its reference gave; and over a
-- disk that tells and backs it that page of the tree, whatever is hurt
pub record GivesPage (order : List FrozenEntry) (pages : List (PageKey × KeptPage)) (told : Option DiskState) (i k : ℕ) (result : Result (List ℕ) PageError) : Type 0 where
  pub kept : (bytes : List ℕ) → page_kept order pages i k ≡ Some bytes → GivesKept bytes result
  pub answer : (reference : Ref) → IsOnDisk order pages i k reference → AnswersRead reference result
  pub read : (d : DiskState) (reference : Ref) → told ≡ Some d → IsOnDisk order pages i k reference → GivesWhatWasRead (read_at d reference.place) result
  pub contents : (d : DiskState) (tree : List TreeEntry) (e : TreeEntry) → told ≡ Some d → HasFrozenTree order pages d tree → IsBacked order pages d i k → slice_get tree i ≡ Some e → k < data_pages_of (length e.bytes) → IfOk result (λ given. given ≡ page_of e.bytes k)
