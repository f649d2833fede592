-- Renames: which entries move, where to, and the tree that is left.
use Rattle.std.specs.Prelude.{ℕ, Bool, nat_lt, ◌&&◌, ◌||◌, if◌then◌else◌, List, [], ◌∷◌, ◌++◌, length, take, drop, map}
use Rattle.std.specs.List.{list_any}
use Rattle.vb_tree.specs.declared.tree.TreeEntry.{TreeEntry}
use Rattle.vb_path.specs.Paths.{same_path, text_of_path}
use Rattle.vb_tree.specs.Trees.{insert_entry, without}

-- whether a path is this one or lies below it
abbrev pub is_within : List (List ℕ) → List (List ℕ) → Bool
is_within top path = same_path top (take (length top) path)

-- where a path within the source leads once the source stands at the target
abbrev pub moved_path : List (List ℕ) → List (List ℕ) → List (List ℕ) → List (List ℕ)
moved_path source target path = target ++ drop (length source) path

-- whether a path has more than 1,024 bytes or more than 32 parts
abbrev pub is_deep : List (List ℕ) → Bool
is_deep path = nat_lt 1024 (length (text_of_path path)) || nat_lt 32 (length path)

-- whether an entry that moves would have a path that is too deep
abbrev pub makes_deep : List (List ℕ) → List (List ℕ) → List TreeEntry → Bool
makes_deep source target tree =
    list_any (λ e. is_within source e.path && is_deep (moved_path source target e.path)) tree

-- the path after the rename: what is within the source moves, and what isn't stays
abbrev pub path_after : List (List ℕ) → List (List ℕ) → List (List ℕ) → List (List ℕ)
path_after source target path = if is_within source path then moved_path source target path else path

-- the entries, each at its path after the rename
abbrev pub moved : List (List ℕ) → List (List ℕ) → List TreeEntry → List TreeEntry
moved source target tree = map (λ (e : TreeEntry). record e { path = path_after source target e.path }) tree

-- the entries in path order
abbrev pub in_path_order : List TreeEntry → List TreeEntry
in_path_order [] = []
in_path_order (e ∷ es) = insert_entry e (in_path_order es)

-- the tree after a rename: a file that stood at the target is gone, and a path renamed to itself stays
abbrev pub renamed : List (List ℕ) → List (List ℕ) → List TreeEntry → List TreeEntry
renamed source target tree =
    if same_path source target then tree else in_path_order (moved source target (without target tree))
