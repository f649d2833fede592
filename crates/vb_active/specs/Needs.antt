-- Which pages an operation needs, and when a page that it needs is damaged.
use Rattle.std.specs.Prelude.{◌≡◌, ◌⊎◌, ℕ, ◌+◌, ◌/◌, ◌%◌, ◌<◌, ◌≤◌, min, List, length, Option, Some, IsSome}
use Rattle.vb_block.specs.declared.digest.Ref.{Ref}
use Rattle.vb_disk.specs.States.{DiskState}
use Rattle.vb_pages.specs.declared.page_error.PageError.{PageError}
use Rattle.vb_pages.specs.declared.page_error.PageError.TheVariants.{Damaged, DiskFault, Memory}
use Rattle.vb_pages.specs.Reads.{IsDamageOf}
use Rattle.vb_tree.specs.declared.operation.Op.{Op}
use Rattle.vb_tree.specs.declared.operation.Op.TheVariants.{Create, MakeDir, Write, Truncate, Rename, Remove, RemoveDir, Read, List as Listing, Stat}
use Rattle.vb_tree.specs.Trees.{data_pages_of}
use Rattle.vb_active.specs.Files.{IsFileOf}
use Rattle.vb_active.specs.Views.{ActiveState, Backs, IsOut}

-- a page of a file of this length has a byte that is asked for
pub record HasAsked (offset count len page : ℕ) : Type 0 where
  pub byte : ℕ
  pub here : byte / 4096 ≡ page
  pub in_file : byte < len
  pub from : offset ≤ byte
  pub to : byte < offset + count

-- a page of a file of this length has a byte that stays while others there are written over
pub record HasUntouched (offset count len page : ℕ) : Type 0 where
  pub byte : ℕ
  pub here : byte / 4096 ≡ page
  pub in_file : byte < len
  pub stays : (byte < offset) ⊎ (offset + count ≤ byte)
  pub written : ℕ
  pub also_here : written / 4096 ≡ page
  pub from : offset ≤ written
  pub to : written < offset + count

-- a page of a file of this length has a byte that stays while others there are cut away
pub record HasUncut (kept len page : ℕ) : Type 0 where
  pub byte : ℕ
  pub here : byte / 4096 ≡ page
  pub stays : byte < kept
  pub cut : ℕ
  pub also_here : cut / 4096 ≡ page
  pub from : kept ≤ cut
  pub in_file : cut < len

-- an operation needs a page of a file of this length
abbrev pub NeedsPage : Op → ℕ → ℕ → Type 0
NeedsPage (Create path) len page = ⊥
NeedsPage (MakeDir path) len page = ⊥
NeedsPage (Write path offset bytes) len page = HasUntouched offset (length bytes) len page
NeedsPage (Truncate path kept) len page = HasUncut kept len page
NeedsPage (Rename source target) len page = ⊥
NeedsPage (Remove path) len page = ⊥
NeedsPage (RemoveDir path) len page = ⊥
NeedsPage (Read path offset count) len page = HasAsked offset count len page
NeedsPage (Listing path) len page = ⊥
NeedsPage (Stat path) len page = ⊥

-- a truncate of a file of this length leaves a page in memory: a new one, or the last one where it is cut within
abbrev pub IsCutPage : ℕ → ℕ → ℕ → Type 0
IsCutPage kept len page = ((data_pages_of len ≤ page) × (page < data_pages_of kept))
    ⊎ ((kept < len) × (0 < kept % 4096) × (page ≡ kept / 4096))

-- an operation leaves a page of a file of this length in memory: a write those that it touches and the new ones of its gap
abbrev pub DirtiesPage : Op → ℕ → ℕ → Type 0
DirtiesPage (Create path) len page = ⊥
DirtiesPage (MakeDir path) len page = ⊥
DirtiesPage (Write path offset bytes) len page =
    (0 < length bytes) × (min (data_pages_of len) (offset / 4096) ≤ page) × (page < data_pages_of (offset + length bytes))
DirtiesPage (Truncate path kept) len page = IsCutPage kept len page
DirtiesPage (Rename source target) len page = ⊥
DirtiesPage (Remove path) len page = ⊥
DirtiesPage (RemoveDir path) len page = ⊥
DirtiesPage (Read path offset count) len page = ⊥
DirtiesPage (Listing path) len page = ⊥
DirtiesPage (Stat path) len page = ⊥

-- a page that isn't in the table is damaged so: the place and the digest that is due are its reference's, and where the
-- disk backs the view, its place is hurt
pub record IsDamageAt (told : Option DiskState) (view : ActiveState) (slot page : ℕ) (place : ℕ) (kept found : List ℕ) : Type 0 where
  pub reference : Ref
  pub out : IsOut view slot page reference
  pub named : IsDamageOf reference place kept found
  pub hurt : (d : DiskState) → told ≡ Some d → Backs d view → IsSome (d.cells place).hurt

-- damage is that of a page of this slot and number
abbrev pub IsErrorAt : Option DiskState → ActiveState → ℕ → ℕ → PageError → Type 0
IsErrorAt told view slot page (Damaged place kept found) = IsDamageAt told view slot page place kept found
IsErrorAt told view slot page DiskFault = Unit {0}
IsErrorAt told view slot page Memory = Unit {0}

-- damage is that of a page of this slot with one of the bytes from here to there
pub record IsDamageIn (told : Option DiskState) (view : ActiveState) (slot start end : ℕ) (place : ℕ) (kept found : List ℕ) : Type 0 where
  pub byte : ℕ
  pub from : start ≤ byte
  pub to : byte < end
  pub damage : IsDamageAt told view slot (byte / 4096) place kept found

-- an error of a read of these bytes
abbrev pub IsErrorIn : Option DiskState → ActiveState → ℕ → ℕ → ℕ → PageError → Type 0
IsErrorIn told view slot start end (Damaged place kept found) = IsDamageIn told view slot start end place kept found
IsErrorIn told view slot start end DiskFault = Unit {0}
IsErrorIn told view slot start end Memory = Unit {0}

-- the path of the file whose pages an operation needs
abbrev pub path_of_pages : Op → List (List ℕ)
path_of_pages (Create path) = path
path_of_pages (MakeDir path) = path
path_of_pages (Write path offset bytes) = path
path_of_pages (Truncate path kept) = path
path_of_pages (Rename source target) = source
path_of_pages (Remove path) = path
path_of_pages (RemoveDir path) = path
path_of_pages (Read path offset count) = path
path_of_pages (Listing path) = path
path_of_pages (Stat path) = path

-- an operation leaves a page of the file at its path in memory
pub record Dirties (view : ActiveState) (op : Op) (slot page : ℕ) : Type 0 where
  pub len : ℕ
  pub file : IsFileOf view.index.nodes (path_of_pages op) slot len
  pub dirty : DirtiesPage op len page

-- an operation's damage is that of a page which it needs, of the file at its path
pub record IsDamageOn (told : Option DiskState) (view : ActiveState) (op : Op) (place : ℕ) (kept found : List ℕ) : Type 0 where
  pub slot : ℕ
  pub len : ℕ
  pub page : ℕ
  pub file : IsFileOf view.index.nodes (path_of_pages op) slot len
  pub needed : NeedsPage op len page
  pub damage : IsDamageAt told view slot page place kept found

-- an operation's error: damage is that of a page which it needs
abbrev pub IsErrorOn : Option DiskState → ActiveState → Op → PageError → Type 0
IsErrorOn told view op (Damaged place kept found) = IsDamageOn told view op place kept found
IsErrorOn told view op DiskFault = Unit {0}
IsErrorOn told view op Memory = Unit {0}

-- damage of a page of which a byte stays while others there are written over
pub record IsDamageUnder (told : Option DiskState) (view : ActiveState) (slot offset count len : ℕ) (place : ℕ) (kept found : List ℕ) : Type 0 where
  pub page : ℕ
  pub needed : HasUntouched offset count len page
  pub damage : IsDamageAt told view slot page place kept found

-- an error of a write of so many bytes into a file of this length
abbrev pub IsErrorUnder : Option DiskState → ActiveState → ℕ → ℕ → ℕ → ℕ → PageError → Type 0
IsErrorUnder told view slot offset count len (Damaged place kept found) = IsDamageUnder told view slot offset count len place kept found
IsErrorUnder told view slot offset count len DiskFault = Unit {0}
IsErrorUnder told view slot offset count len Memory = Unit {0}

-- damage of a page of which a byte stays while others there are cut away
pub record IsDamageBelow (told : Option DiskState) (view : ActiveState) (slot kept_bytes len : ℕ) (place : ℕ) (kept found : List ℕ) : Type 0 where
  pub page : ℕ
  pub needed : HasUncut kept_bytes len page
  pub damage : IsDamageAt told view slot page place kept found

-- an error of a truncate to so many bytes of a file of this length
abbrev pub IsErrorBelow : Option DiskState → ActiveState → ℕ → ℕ → ℕ → PageError → Type 0
IsErrorBelow told view slot kept_bytes len (Damaged place kept found) = IsDamageBelow told view slot kept_bytes len place kept found
IsErrorBelow told view slot kept_bytes len DiskFault = Unit {0}
IsErrorBelow told view slot kept_bytes len Memory = Unit {0}
