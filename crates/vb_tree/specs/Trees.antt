-- Trees: their entries, what stands where, and how much they take.
use Rattle.std.specs.Prelude.{slice_index_or, slice_set, ◌≡◌, ℕ, ◌+◌, ◌-◌, ◌/◌, ◌≤◌, ◌==◌, Bool, true, false, not, ◌&&◌, if◌then◌else◌, List, [], ◌∷◌, length, take, get_or, map, Option, Some, None}
use Rattle.std.specs.Option.{option_map}
use Rattle.std.specs.Ordering.{is_lt, nat_cmp}
use Rattle.std.specs.Cmp.Lexicographic.{slice_cmp}
use Rattle.std.specs.declared.cmp.Ordering.TheVariants.{Less}
use Rattle.std.specs.List.{find, filter, list_any, sum_by}
use Rattle.vb_tree.specs.declared.tree.Kind.{Kind}
use Rattle.vb_tree.specs.declared.tree.Kind.TheVariants.{Folder, File}
use Rattle.vb_tree.specs.declared.tree.Limits.{Limits}
use Rattle.vb_tree.specs.declared.tree.TreeEntry.{TreeEntry}
use Rattle.vb_path.specs.Paths.{same_path, path_cmp, IsPath}

-- a tree and its limits
pub record LimitedTree : Type 0 where
  pub limits : Limits
  pub tree : List TreeEntry

-- the first entry at a path
abbrev pub entry_at : List (List ℕ) → List TreeEntry → Option TreeEntry
entry_at path tree = find (λ e. same_path path e.path) tree

-- whether a path is the root
abbrev pub is_root : List (List ℕ) → Bool
is_root path = length path == 0

-- what stands at a path: the root is a folder, and every other place has what its entry is
abbrev pub kind_at : List (List ℕ) → List TreeEntry → Option Kind
kind_at path tree = if is_root path then Some Folder else option_map (λ e. e.kind) (entry_at path tree)

-- the bytes at a path, none where nothing stands
abbrev pub bytes_in : Option TreeEntry → List ℕ
bytes_in None = []
bytes_in (Some e) = e.bytes

-- the length of the file at a path, and 0 where there is none
abbrev pub length_at : List (List ℕ) → List TreeEntry → ℕ
length_at path tree = length (bytes_in (entry_at path tree))

-- whether it is a folder
abbrev pub is_folder : Option Kind → Bool
is_folder None = false
is_folder (Some Folder) = true
is_folder (Some File) = false

-- whether it is a file
abbrev pub is_file : Option Kind → Bool
is_file None = false
is_file (Some Folder) = false
is_file (Some File) = true

-- the path of the folder in which a path lies
abbrev pub parent_of : List (List ℕ) → List (List ℕ)
parent_of path = take (length path - 1) path

-- the last part of a path
abbrev pub name_of : List (List ℕ) → List ℕ
name_of path = get_or path (length path - 1) []

-- whether a path is that of an entry of a folder
abbrev pub is_entry_of : List (List ℕ) → List (List ℕ) → Bool
is_entry_of folder path = not (is_root path) && same_path folder (parent_of path)

-- whether a folder has entries
abbrev pub has_entries : List (List ℕ) → List TreeEntry → Bool
has_entries folder tree = list_any (λ e. is_entry_of folder e.path) tree

-- the names of a folder's entries, in path order
abbrev pub names_in : List (List ℕ) → List TreeEntry → List (List ℕ)
names_in folder tree = map (λ e. name_of e.path) (filter (λ e. is_entry_of folder e.path) tree)

-- the tree without the entry at a path
abbrev pub without : List (List ℕ) → List TreeEntry → List TreeEntry
without path tree = filter (λ e. not (same_path path e.path)) tree

-- the tree with one more entry, before the first that comes after it
abbrev pub insert_entry : TreeEntry → List TreeEntry → List TreeEntry
insert_entry new [] = new ∷ []
insert_entry new (e ∷ es) = if is_lt (path_cmp new.path e.path) then new ∷ e ∷ es else e ∷ insert_entry new es

-- the tree in which the entry at a path has these bytes
abbrev pub with_bytes_at : List (List ℕ) → List ℕ → List TreeEntry → List TreeEntry
with_bytes_at path bytes [] = []
with_bytes_at path bytes (e ∷ es) = if same_path path e.path then record e { bytes = bytes } ∷ es else e ∷ with_bytes_at path bytes es

-- the entries with the bytes of the one at a place changed
abbrev pub changed_at : (List ℕ → List ℕ) → ℕ → TreeEntry → List TreeEntry → List TreeEntry
changed_at change place d entries = slice_set entries place (record (slice_index_or entries place d) { bytes = change (slice_index_or entries place d).bytes })

-- how many pages of 4,096 bytes a length takes
abbrev pub data_pages_of : ℕ → ℕ
data_pages_of len = (len + 4095) / 4096

-- how many map pages a length takes: one for each 113 of its pages
abbrev pub map_pages_of : ℕ → ℕ
map_pages_of len = (data_pages_of len + 112) / 113

-- how many pages a file of this length takes: its data pages and its map pages
abbrev pub pages_of_length : ℕ → ℕ
pages_of_length len = data_pages_of len + map_pages_of len

-- how many pages all files take
abbrev pub page_count : List TreeEntry → ℕ
page_count tree = sum_by (λ e. pages_of_length (length e.bytes)) tree

-- how many pages all files take once the one at a path has another length
abbrev pub pages_with : List (List ℕ) → ℕ → List TreeEntry → ℕ
pages_with path len tree = page_count tree - pages_of_length (length_at path tree) + pages_of_length len

-- how many nodes a tree has, the root among them
abbrev pub node_count : List TreeEntry → ℕ
node_count tree = length tree + 1

-- the greatest length of a file
abbrev pub longest_file : ℕ
longest_file = 44433408

-- limits that a store may have
pub record AreInLimits (limits : Limits) : Type 0 where
  pub least_nodes : 16 ≤ limits.nodes
  pub most_nodes : limits.nodes ≤ 65536
  pub least_pages : 2 ≤ limits.pages
  pub most_pages : limits.pages ≤ 131071

-- the tree keeps to limits that a store may have
pub record IsWithin (limits : Limits) (tree : List TreeEntry) : Type 0 where
  pub limits_allowed : AreInLimits limits
  pub nodes_within : node_count tree ≤ limits.nodes
  pub pages_within : page_count tree ≤ limits.pages

-- each of these entries comes after a path
abbrev pub AllAfter : List (List ℕ) → List TreeEntry → Type 0
AllAfter path [] = Unit {0}
AllAfter path (e ∷ es) = (path_cmp path e.path ≡ Less) × AllAfter path es

-- the entries stand strictly in path order
abbrev pub AreInOrder : List TreeEntry → Type 0
AreInOrder [] = Unit {0}
AreInOrder (e ∷ es) = AllAfter e.path es × AreInOrder es

-- an entry belongs into a tree: its path is a path and not the root, its parent is a folder there, a folder has no bytes,
-- and a file has at most 44,433,408 bytes
pub record BelongsIn (tree : List TreeEntry) (e : TreeEntry) : Type 0 where
  pub path_valid : IsPath e.path
  pub below_root : is_root e.path ≡ false
  pub parent_there : kind_at (parent_of e.path) tree ≡ Some Folder
  pub folder_empty : e.kind ≡ Folder → e.bytes ≡ []
  pub bytes_few : length e.bytes ≤ longest_file

-- each of these entries belongs into a tree
abbrev pub AllBelongIn : List TreeEntry → List TreeEntry → Type 0
AllBelongIn tree [] = Unit {0}
AllBelongIn tree (e ∷ es) = BelongsIn tree e × AllBelongIn tree es

-- the entries are those of a tree: strictly in path order, and each belongs there
pub record IsTree (tree : List TreeEntry) : Type 0 where
  pub in_order : AreInOrder tree
  pub all_belong : AllBelongIn tree tree

-- each of these names comes after a name, by bytes
abbrev pub AllNamesAfter : List ℕ → List (List ℕ) → Type 0
AllNamesAfter name [] = Unit {0}
AllNamesAfter name (n ∷ ns) = (slice_cmp nat_cmp name n ≡ Less) × AllNamesAfter name ns

-- the names stand strictly in byte order
abbrev pub AreNamesInOrder : List (List ℕ) → Type 0
AreNamesInOrder [] = Unit {0}
AreNamesInOrder (n ∷ ns) = AllNamesAfter n ns × AreNamesInOrder ns
