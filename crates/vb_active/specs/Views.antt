-- Live views: an index, the pages that a table keeps of its files, and the pages on the disk that those are the newer ones of.
use Rattle.std.specs.Prelude.{◌≡◌, ℕ, ◌<◌, List, [], slice_get, Option, Some, None, IsSome, unwrap_or}
use Rattle.vb_block.specs.declared.digest.Ref.{Ref}
use Rattle.vb_disk.specs.States.{DiskState}
use Rattle.vb_index.specs.declared.held.Held.{Held}
use Rattle.vb_index.specs.Indexes.{IndexState}
use Rattle.vb_index.specs.Nodes.{refs_at}
use Rattle.vb_pages.specs.declared.kept.KeptPage.{KeptPage}
use Rattle.vb_pages.specs.declared.kept.PageKey.{PageKey}
use Rattle.vb_pages.specs.Disks.{first_at, HoldsOnly}
use Rattle.vb_pages.specs.Tables.{kept_page}

-- a live view: its index, and the table of the pages that it keeps in memory
pub record ActiveState : Type 0 where
  pub index : IndexState
  pub pages : List (PageKey × KeptPage)

-- the reference of a page of a slot, None where the slot holds no file with that page
abbrev pub ref_at : List (Option Held) → ℕ → ℕ → Option Ref
ref_at nodes slot page = slice_get (unwrap_or (refs_at nodes slot) []) page

-- a page of a slot: the table's, or else the first candidate at its reference's place
unfoldable pub due_page : ActiveState → DiskState → ℕ → ℕ → List ℕ
due_page view d slot page = unwrap_or (kept_page view.pages slot page) (first_at d (ref_at view.index.nodes slot page))

-- the table keeps no page that its file hasn't
abbrev pub KeepsFiles : List (Option Held) → List (PageKey × KeptPage) → Type 0
KeepsFiles nodes pages = (slot page : ℕ) → IsSome (kept_page pages slot page) → IsSome (ref_at nodes slot page)

-- a page of the index isn't in the table, and this is its reference
pub record IsOut (view : ActiveState) (slot page : ℕ) (reference : Ref) : Type 0 where
  pub at : ref_at view.index.nodes slot page ≡ Some reference
  pub apart : kept_page view.pages slot page ≡ None

-- every candidate of the place of each page that isn't in the table is one page of its reference's digest
abbrev pub Backs : DiskState → ActiveState → Type 0
Backs d view = (slot page : ℕ) (reference : Ref) → IsOut view slot page reference → HoldsOnly (d.cells reference.place) reference.digest

-- the places of the pages that aren't in the table lie below a size
abbrev pub LiesBelow : ℕ → ActiveState → Type 0
LiesBelow size view = (slot page : ℕ) (reference : Ref) → IsOut view slot page reference → reference.place < size

-- what stays out of the table stays as it is: a page that isn't in it afterwards wasn't in it before, with the same reference
abbrev pub StaysOut : ActiveState → ActiveState → Type 0
StaysOut old new = (slot page : ℕ) (reference : Ref) → IsOut new slot page reference → IsOut old slot page reference
