-- Refusals: why an operation is refused, by what stands where, by lengths, and by how much is taken.
use Rattle.std.specs.Prelude.{ℕ, ◌+◌, Bool, true, false, not, ◌&&◌, ◌||◌, nat_lt, is_some, is_none, List, [], ◌∷◌, ◌++◌, length, Option, Some, None}
use Rattle.vb_tree.specs.declared.tree.Kind.{Kind}
use Rattle.vb_tree.specs.declared.tree.Kind.TheVariants.{Folder, File}
use Rattle.vb_tree.specs.declared.tree.Limits.{Limits}
use Rattle.vb_tree.specs.declared.tree.TreeEntry.{TreeEntry}
use Rattle.vb_tree.specs.declared.operation.Op.{Op}
use Rattle.vb_tree.specs.declared.operation.Op.TheVariants.{Create, MakeDir, Write, Truncate, Rename, Remove, RemoveDir, Read, List as Listing, Stat}
use Rattle.vb_tree.specs.declared.reply.Refusal.{Refusal}
use Rattle.vb_tree.specs.declared.reply.Refusal.TheVariants.{RootFixed, NoEntry, NoParent, ParentNotDir, Exists, NotAFile, NotADir, NotEmpty, IntoItself, DeepTree, TooLong, TooManyNodes, NoSpace}
use Rattle.vb_path.specs.Paths.{same_path}
use Rattle.vb_tree.specs.Trees.{longest_file, is_root, kind_at, length_at, is_folder, is_file, has_entries, page_count, pages_with, node_count}
use Rattle.vb_tree.specs.Contents.{new_length}
use Rattle.vb_tree.specs.Renames.{is_within, makes_deep}

-- the reason where the test holds, and else what comes next
abbrev pub refuse : Bool → Refusal → Option Refusal → Option Refusal
refuse true reason next = Some reason
refuse false reason next = next

-- no reason where the test holds, and else what comes next
abbrev pub allow : Bool → Option Refusal → Option Refusal
allow true next = None
allow false next = next

-- what stands on the way is a folder and the way goes on, or the way ends there
abbrev pub refuse_step : Option Kind → Option Refusal → Option Refusal
refuse_step None next = Some NoParent
refuse_step (Some File) next = Some ParentNotDir
refuse_step (Some Folder) next = next

-- why the rest of a path can't be reached from a folder: the shortest proper prefix that is no folder
abbrev pub refuse_rest : List TreeEntry → List (List ℕ) → List (List ℕ) → Option Refusal → Option Refusal
refuse_rest tree folder [] next = next
refuse_rest tree folder (part ∷ []) next = next
refuse_rest tree folder (part ∷ below ∷ parts) next =
    refuse_step (kind_at (folder ++ part ∷ []) tree) (refuse_rest tree (folder ++ part ∷ []) (below ∷ parts) next)

-- why a path can't be reached from the root
abbrev pub refuse_way : List TreeEntry → List (List ℕ) → Option Refusal → Option Refusal
refuse_way tree path next = refuse_rest tree [] path next

-- why nothing is to be had at a path
abbrev pub refuse_missing : List TreeEntry → List (List ℕ) → Option Refusal → Option Refusal
refuse_missing tree path next =
    refuse_way tree path
    (refuse (is_none (kind_at path tree)) NoEntry next)

-- why no file is to be had at a path
abbrev pub refuse_unless_file : List TreeEntry → List (List ℕ) → Option Refusal → Option Refusal
refuse_unless_file tree path next =
    refuse_missing tree path
    (refuse (is_folder (kind_at path tree)) NotAFile next)

-- why no folder is to be had at a path
abbrev pub refuse_unless_folder : List TreeEntry → List (List ℕ) → Option Refusal → Option Refusal
refuse_unless_folder tree path next =
    refuse_missing tree path
    (refuse (is_file (kind_at path tree)) NotADir next)

-- why nothing new may stand at a path
abbrev pub refuse_new : Limits → List TreeEntry → List (List ℕ) → Option Refusal
refuse_new limits tree path =
    refuse (is_root path) RootFixed
    (refuse_way tree path
    (refuse (is_some (kind_at path tree)) Exists
    (refuse (nat_lt limits.nodes (node_count tree + 1)) (TooManyNodes (node_count tree + 1) limits.nodes) None)))

-- no room for the pages that there would be: more than the limit, and more than before
abbrev pub refuse_pages : Limits → ℕ → ℕ → Option Refusal
refuse_pages limits before after =
    refuse (nat_lt limits.pages after && nat_lt before after) (NoSpace after limits.pages) None

-- why a file can't have a length: it is too long, or the pages before and after leave no room
abbrev pub refuse_length : Limits → ℕ → ℕ → ℕ → Option Refusal
refuse_length limits before after len =
    refuse (nat_lt longest_file len) (TooLong len)
    (refuse_pages limits before after)

-- why the file at a path can't get a length
abbrev pub refuse_resize : Limits → List TreeEntry → List (List ℕ) → ℕ → Option Refusal
refuse_resize limits tree path len = refuse_length limits (page_count tree) (pages_with path len tree) len

-- why what stands at the source can't move to the target
abbrev pub refuse_move : List TreeEntry → List (List ℕ) → List (List ℕ) → Option Refusal
refuse_move tree source target =
    refuse (is_folder (kind_at source tree) && is_within source target) IntoItself
    (refuse_way tree target
    (refuse (is_some (kind_at target tree) && not (is_file (kind_at source tree) && is_file (kind_at target tree))) Exists
    (refuse (makes_deep source target tree) DeepTree None)))

-- why an operation is refused: the first reason in this order
abbrev pub refusal_of : Limits → List TreeEntry → Op → Option Refusal
refusal_of limits tree (Create path) = refuse_new limits tree path
refusal_of limits tree (MakeDir path) = refuse_new limits tree path
refusal_of limits tree (Write path offset bytes) =
    refuse_unless_file tree path
    (refuse_resize limits tree path (new_length offset (length bytes) (length_at path tree)))
refusal_of limits tree (Truncate path len) =
    refuse_unless_file tree path
    (refuse_resize limits tree path len)
refusal_of limits tree (Rename source target) =
    refuse (is_root source || is_root target) RootFixed
    (refuse_missing tree source
    (allow (same_path source target)
    (refuse_move tree source target)))
refusal_of limits tree (Remove path) =
    refuse (is_root path) RootFixed
    (refuse_unless_file tree path None)
refusal_of limits tree (RemoveDir path) =
    refuse (is_root path) RootFixed
    (refuse_unless_folder tree path
    (refuse (has_entries path tree) NotEmpty None))
refusal_of limits tree (Read path offset len) = refuse_unless_file tree path None
refusal_of limits tree (Listing path) = refuse_unless_folder tree path None
refusal_of limits tree (Stat path) = refuse_missing tree path None
