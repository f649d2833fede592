-- Map pages of one file: which references each has, and which of them stay where they are.
use Rattle.std.specs.Prelude.{ℕ, ◌+◌, ◌*◌, ◌/◌, ◌==◌, ◌&&◌, Bool, if◌then◌else◌, List, [], length, take, drop, map, slice_get, unwrap_or, Option, Some, None}
use Rattle.std.specs.List.{range_with_len}
use Rattle.std.specs.Str.{bytes_eq}
use Rattle.std.specs.Cmp.Lexicographic.{pointwise}
use Rattle.sha2.specs.Sha256.{sha256}
use Rattle.vb_block.specs.declared.digest.Ref.{Ref}
use Rattle.vb_inode.specs.declared.next_view.PageSource.{PageSource}
use Rattle.vb_inode.specs.declared.next_view.PageSource.TheVariants.{Kept, Fresh}
use Rattle.vb_inode.specs.Layout.{map_page}
use Rattle.vb_index.specs.declared.held.Held.{Held}
use Rattle.vb_index.specs.Nodes.{held_at, refs_at}

-- whether two references are one
abbrev pub same_ref : Ref → Ref → Bool
same_ref a b = a.place == b.place && bytes_eq a.digest b.digest

-- whether two lists of references are one
abbrev pub same_refs : List Ref → List Ref → Bool
same_refs a b = pointwise same_ref a b

-- the references in a file's map page of this number, of those of all its pages
abbrev pub group_at : ℕ → List Ref → List Ref
group_at number refs = take 113 (drop (113 * number) refs)

-- how many map pages a file with these references has
abbrev pub group_count : List Ref → ℕ
group_count refs = (length refs + 112) / 113

-- the map references of a file: those of its map pages, and those of its pages
pub record FileRefs : Type 0 where
  pub maps : List Ref
  pub refs : List Ref

-- the map references in a slot, none where it is free
abbrev pub maps_in : Option Held → List Ref
maps_in None = []
maps_in (Some held) = held.node.maps

-- the references of the committed file in a slot, none where no file is there
abbrev pub committed_refs : List (Option Held) → ℕ → FileRefs
committed_refs nodes slot = record { maps = maps_in (held_at nodes slot); refs = unwrap_or (refs_at nodes slot) [] }

-- the committed map page of this number, where it has just these references
abbrev pub standing_map : FileRefs → ℕ → List Ref → Option Ref
standing_map old number group = if same_refs group (group_at number old.refs) then slice_get old.maps number else None

-- where a map page with these references comes from: it stays if there is one, and is yet to be written if not
abbrev pub source_of_map : List Ref → Option Ref → PageSource
source_of_map group None = Fresh (sha256 (map_page group))
source_of_map group (Some r) = Kept r

-- where the map page of this number comes from
abbrev pub map_source : FileRefs → List Ref → ℕ → PageSource
map_source old refs number = source_of_map (group_at number refs) (standing_map old number (group_at number refs))

-- where the map pages come from of a file whose pages have these references, and whose slot had those when it was committed
abbrev pub map_sources : FileRefs → List Ref → List PageSource
map_sources old refs = map (map_source old refs) (range_with_len 0 (group_count refs))
