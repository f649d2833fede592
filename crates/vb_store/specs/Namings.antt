-- Namings: how often the references of a tree name each place, while its map pages are read.
use Rattle.std.specs.Prelude.{◌≡◌, ℕ, ◌+◌, ◌≤◌, Bool, true, false, ◌&&◌, ◌==◌, nat_lt, nat_le, if◌then◌else◌, List, [], length, get_or, map, count_by, Option, Some, None, unwrap_or}
use Rattle.std.specs.List.{list_any, sum_by}
use Rattle.vb_head.specs.declared.head.Head.{Head}
use Rattle.vb_index.specs.declared.held.Held.{Held}
use Rattle.vb_index.specs.Indexes.{IndexState}
use Rattle.vb_index.specs.Nodes.{held_at, pages_in, refs_at, refs_of}
use Rattle.vb_inode.specs.Layout.{AreRefs}
use Rattle.vb_nodes.specs.Claiming.{ClaimsState, is_claimed}
use Rattle.vb_tree.specs.Trees.{data_pages_of, map_pages_of}
use Rattle.vb_store.specs.declared.map_page.MapPage.{MapPage}
use Rattle.vb_store.specs.Views.{limits_of, places_of}

-- an index has the slots of a head and keeps its limits, and each node has a reference for each of its pages and map
-- pages, the latter such as can stand in a block
pub record IsIndexOf (head : Head) (index : IndexState) : Type 0 where
  pub slots : length index.nodes ≡ head.nodes
  pub limits : index.limits ≡ limits_of head
  pub pages : pages_in index.nodes ≤ index.limits.pages
  pub refs : (slot : ℕ) (held : Held) → held_at index.nodes slot ≡ Some held → length held.refs ≡ data_pages_of held.node.length
  pub maps : (slot : ℕ) (held : Held) → held_at index.nodes slot ≡ Some held → length held.node.maps ≡ map_pages_of held.node.length
  pub map_refs : (slot : ℕ) (held : Held) → held_at index.nodes slot ≡ Some held → AreRefs held.node.maps

-- ---- which places are named

-- how often a place stands among these
abbrev pub count_of : ℕ → List ℕ → ℕ
count_of place places = count_by (λ p. p == place) places

-- one for a place that was claimed, and none for any other
abbrev pub claims_of : ClaimsState → ℕ → ℕ
claims_of claims place = if is_claimed claims place then 1 else 0

-- how often the references of what a slot holds name a place. A data page's reference to place 0 is blank: it names none.
abbrev pub namings_of_slot : ℕ → Option Held → ℕ
namings_of_slot place None = 0
namings_of_slot place (Some held) =
    count_of place (places_of held.node.maps) + (if place == 0 then 0 else count_of place (places_of (unwrap_or (refs_of held) [])))

-- how often those of all slots do
abbrev pub namings_in : ℕ → List (Option Held) → ℕ
namings_in place slots = sum_by (namings_of_slot place) slots

-- the places of map pages
abbrev pub places_of_maps : List MapPage → List ℕ
places_of_maps maps = map (λ m. m.reference.place) maps

-- no place is named more often than once where it was claimed, and once by each of these map pages, which are left
pub record AreNamedOnce (slots : List (Option Held)) (claims : ClaimsState) (left : List MapPage) : Type 0 where
  pub once : (place : ℕ) → namings_in place slots ≤ count_of place (places_of_maps left) + claims_of claims place

-- ---- which pages have no reference yet

-- whether the reference of a file's page is blank
abbrev pub is_blank_at : List (Option Held) → ℕ → ℕ → Bool
is_blank_at slots slot page = get_or (map (λ r. r.place == 0) (unwrap_or (refs_at slots slot) [])) page false

-- whether a map page names a file's page
abbrev pub names_page : ℕ → ℕ → MapPage → Bool
names_page slot page m = m.slot == slot && (nat_le m.first page && nat_lt page (m.first + m.count))

-- each page whose reference is blank is named by one of these map pages
pub record AreBlanksNamed (slots : List (Option Held)) (maps : List MapPage) : Type 0 where
  pub each : (slot page : ℕ) → is_blank_at slots slot page ≡ true → list_any (names_page slot page) maps ≡ true
