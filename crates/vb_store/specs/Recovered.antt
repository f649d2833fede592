-- Recovered trees: what the pages of a store hold, as one who reads the whole disk finds it.
use Rattle.std.specs.Prelude.{ℕ, ◌-◌, ◌==◌, if◌then◌else◌, Bool, not, ◌||◌, List, [], ◌∷◌, ◌++◌, take, drop, map, Option, Some, None, Result, Ok, Err}
use Rattle.std.specs.Ordering.{is_lt}
use Rattle.std.specs.Str.{bytes_eq}
use Rattle.sha2.specs.Sha256.{sha256}
use Rattle.vb_block.specs.declared.digest.Ref.{Ref}
use Rattle.vb_head.specs.Layout.{are_zeros}
use Rattle.vb_path.specs.Paths.{path_cmp}
use Rattle.vb_tree.specs.declared.tree.TreeEntry.{TreeEntry}
use Rattle.vb_index.specs.declared.held.Held.{Held}
use Rattle.vb_index.specs.Nodes.{kind_of}
use Rattle.vb_inode.specs.declared.node.Node.{Node}
use Rattle.vb_nodes.specs.Paths.{free_node, path_in}
use Rattle.vb_store.specs.Metadata.{Metadata, and_then, metadata_of, refuse}
use Rattle.vb_journal.specs.declared.recover_error.RecoverError.{RecoverError}

-- ---- the nodes of a tree, in path order

-- the node in a slot, and a free one where there is none
abbrev pub node_in : Option Held → Node
node_in None = free_node
node_in (Some held) = held.node

-- the path of a slot, by following its parents
abbrev pub path_of : List (Option Held) → ℕ → List (List ℕ)
path_of table slot = path_in (map node_in table) slot

-- a node, and its path
pub record Placed : Type 0 where
  pub path : List (List ℕ)
  pub held : Held

-- nodes in path order, with one more: before the first that comes after it
abbrev pub insert_placed : Placed → List Placed → List Placed
insert_placed new [] = new ∷ []
insert_placed new (p ∷ ps) = if is_lt (path_cmp new.path p.path) then new ∷ p ∷ ps else p ∷ insert_placed new ps

-- the nodes of these slots but the root, in path order, by the paths of a table
abbrev pub placed_by : List (Option Held) → List (Option Held) → List Placed
placed_by table [] = []
placed_by table (None ∷ slots) = placed_by table slots
placed_by table (Some held ∷ slots) =
    if held.node.slot == 0 then placed_by table slots
    else insert_placed (record { path = path_of table held.node.slot; held = held }) (placed_by table slots)

-- the nodes of a table but the root, in path order
abbrev pub placed_in : List (Option Held) → List Placed
placed_in table = placed_by table table

-- ---- their pages

-- whether a page of which so many bytes are a file's is the one that a reference names: it has the digest, and is zero
-- past those bytes
abbrev pub is_page_of : ℕ → Ref → List ℕ → Bool
is_page_of left r page = not (not (bytes_eq r.digest (sha256 page)) || not (are_zeros (drop left page)))

-- the bytes of a file of which so many are left, or the first place whose page isn't the one that is named
abbrev pub bytes_read : (ℕ → List ℕ) → ℕ → List Ref → Result (List ℕ) ℕ
bytes_read reads left [] = Ok []
bytes_read reads left (r ∷ rs) =
    refuse (not (is_page_of left r (reads r.place))) r.place (
    and_then (bytes_read reads (left - 4096) rs) (λ more. Ok (take left (reads r.place) ++ more)))

-- the entries of these nodes, or the first such place
abbrev pub entries_read : (ℕ → List ℕ) → List Placed → Result (List TreeEntry) ℕ
entries_read reads [] = Ok []
entries_read reads (p ∷ ps) =
    and_then (bytes_read reads p.held.node.length p.held.refs) (λ bytes.
    and_then (entries_read reads ps) (λ more.
    Ok (record { path = p.path; kind = kind_of p.held.node; bytes = bytes } ∷ more)))

-- ---- the whole

-- what is recovered: nothing, since the metadata is refused; nothing, since the page at a place can't be read; or an
-- epoch and a tree
pub data Recovery : Type 0 where
  Refused : (error : RecoverError) → Recovery
  Unreadable : (place : ℕ) → Recovery
  Recovers : (epoch : ℕ) (tree : List TreeEntry) → Recovery

-- the entries at an epoch
abbrev pub recovered_at : ℕ → Result (List TreeEntry) ℕ → Recovery
recovered_at epoch (Ok tree) = Recovers epoch tree
recovered_at epoch (Err place) = Unreadable place

-- what the pages that metadata names hold
abbrev pub recovered_from : (ℕ → List ℕ) → Result Metadata RecoverError → Recovery
recovered_from reads (Err error) = Refused error
recovered_from reads (Ok m) = recovered_at m.head.epoch (entries_read reads (placed_in m.held))

-- what is recovered from a disk of this size, where reads give these pages
unfoldable pub recovered : ℕ → (ℕ → List ℕ) → Recovery
recovered size reads = recovered_from reads (metadata_of size reads)
