-- A file that gets another length, and new pages in a row.
use Rattle.std.specs.Prelude.{◌≡◌, ◌⊎◌, ℕ, ◌+◌, ◌*◌, ◌/◌, ◌<◌, ◌≤◌, min, ◌==◌, ◌&&◌, nat_le, if◌then◌else◌, List, length, slice_get, slice_set, Some, None}
use Rattle.std.specs.Option.{option_or}
use Rattle.vb_block.specs.Pages.{zero_page}
use Rattle.vb_tree.specs.Contents.{page_of}
use Rattle.vb_tree.specs.Trees.{data_pages_of}
use Rattle.vb_index.specs.declared.held.Held.{Held}
use Rattle.vb_index.specs.Changes.{resized}
use Rattle.vb_index.specs.Nodes.{held_at}
use Rattle.vb_pages.specs.Tables.{kept_page, key_of, run_at}
use Rattle.vb_active.specs.Needs.{IsCutPage}
use Rattle.vb_active.specs.Views.{ActiveState}

-- the file in a slot has another length; the pages of a run are those of the slot from the first one on, it has none past its
-- end, and all else is as it was
pub record Replaces (old new : ActiveState) (slot len first : ℕ) (run : List (List ℕ)) : Type 0 where
  pub index : (held : Held) → held_at old.index.nodes slot ≡ Some held → new.index ≡ record old.index { nodes = slice_set old.index.nodes slot (Some (resized len held)) }
  pub pages : (s k : ℕ) → kept_page new.pages s k ≡ (if s == slot && nat_le (data_pages_of len) k then None else option_or (run_at slot first run (key_of s k)) (kept_page old.pages s k))

-- the pages of a row are those of these bytes, from the first one on
abbrev pub ArePagesFrom : ℕ → List ℕ → List (List ℕ) → Type 0
ArePagesFrom first bytes run = (i : ℕ) → i < length run → slice_get run i ≡ Some (page_of bytes (first + i))

-- a page on which a write puts its piece: the old one, or zeros where no byte of the old one stays
abbrev pub IsBase : ℕ → ℕ → ℕ → List ℕ → List ℕ → Type 0
IsBase offset end page old base = (base ≡ page_of old page)
    ⊎ ((base ≡ zero_page) × ((offset ≤ 4096 * page) ⊎ (length old ≤ 4096 * page)) × ((length old ≤ end) ⊎ (4096 * page + 4096 ≤ end)))

-- the pages that a write of so many bytes leaves in the table, of a file of so many pages: the new ones of a gap, and those
-- that it touches
pub record IsSpan (offset count pages first last : ℕ) : Type 0 where
  pub order : first ≤ last
  pub none : count ≡ 0 → last ≡ 0
  pub from : 0 < count → first ≡ min pages (offset / 4096)
  pub to : 0 < count → last ≡ data_pages_of (offset + count)

-- which pages a truncate leaves in the table: where there are more, all new ones, and outside of them those that stay whole
pub record IsRow (long len first : ℕ) (run : List (List ℕ)) : Type 0 where
  pub within : first + length run ≤ data_pages_of len
  pub grown : data_pages_of long < data_pages_of len → (first ≡ data_pages_of long) × (first + length run ≡ data_pages_of len)
  pub dirtied : (k : ℕ) → first ≤ k → k < first + length run → IsCutPage len long k
  pub dirties : (k : ℕ) → IsCutPage len long k → (first ≤ k) × (k < first + length run)
  pub whole : (k : ℕ) → k < data_pages_of len → (k < first) ⊎ (first + length run ≤ k) → (long ≤ len) ⊎ (4096 * k + 4096 ≤ len)
