-- Orders: the entries of a tree in path order, each with its slot and the references of its pages.
use Rattle.std.specs.Prelude.{◌≡◌, ◌≢◌, ℕ, ◌+◌, ◌≤◌, ◌==◌, if◌then◌else◌, List, [], ◌∷◌, ◌++◌, length, map, slice_set, Option, Some, None, unwrap_or}
use Rattle.std.specs.Option.{option_map}
use Rattle.std.specs.List.{find, All}
use Rattle.std.specs.Ordering.{nat_cmp}
use Rattle.std.specs.BTreeMap.{BTreeMap, get}
use Rattle.vb_block.specs.declared.digest.Ref.{Ref}
use Rattle.vb_inode.specs.declared.node.Node.{Node}
use Rattle.vb_tree.specs.declared.tree.TreeEntry.{TreeEntry}
use Rattle.vb_tree.specs.Trees.{parent_of}
use Rattle.vb_index.specs.declared.held.Held.{Held}
use Rattle.vb_index.specs.Nodes.{kind_of, refs_at, slot_at}
use Rattle.vb_frozen.specs.declared.entry.FrozenEntry.{FrozenEntry}

-- the slot to which a path leads, and the root's where it leads nowhere
abbrev pub slot_of : List (Option Held) → List (List ℕ) → ℕ
slot_of nodes path = unwrap_or (slot_at nodes path) 0

-- what an order has of a tree's entry: what the tree says of it, and by the nodes its slot, its folder's, and its references
abbrev pub entry_for : List (Option Held) → TreeEntry → FrozenEntry
entry_for nodes e = record {
  path = e.path;
  kind = e.kind;
  len = length e.bytes;
  slot = slot_of nodes e.path;
  parent = slot_of nodes (parent_of e.path);
  refs = unwrap_or (refs_at nodes (slot_of nodes e.path)) [];
}

-- a tree's entries as an order has them
abbrev pub order_of : List (Option Held) → List TreeEntry → List FrozenEntry
order_of nodes tree = map (entry_for nodes) tree

-- the first entry of a slot
abbrev pub entry_in : List FrozenEntry → ℕ → Option FrozenEntry
entry_in order slot = find (λ e. e.slot == slot) order

-- the path of the entry of a slot, and the root's where there is none
abbrev pub path_in : List FrozenEntry → ℕ → List (List ℕ)
path_in order slot = unwrap_or (option_map (λ e. e.path) (entry_in order slot)) []

-- the references of the entry of a slot, none where there is no such entry
abbrev pub refs_in : List FrozenEntry → ℕ → List Ref
refs_in order slot = unwrap_or (option_map (λ e. e.refs) (entry_in order slot)) []

-- the entry of a node whose folder is in the order
abbrev pub entry_below : List FrozenEntry → Node → List Ref → FrozenEntry
entry_below order node refs = record {
  path = path_in order node.parent ++ node.name ∷ [];
  kind = kind_of node;
  len = node.length;
  slot = node.slot;
  parent = node.parent;
  refs = refs;
}

-- an entry with another reference of a page
abbrev pub with_ref : ℕ → Ref → FrozenEntry → FrozenEntry
with_ref page reference e = record e { refs = slice_set e.refs page reference }

-- the order in which the first entry of a slot has another reference of a page
abbrev pub with_reference : ℕ → ℕ → Ref → List FrozenEntry → List FrozenEntry
with_reference slot page reference [] = []
with_reference slot page reference (e ∷ es) = if e.slot == slot then with_ref page reference e ∷ es else e ∷ with_reference slot page reference es

-- no two entries have one slot
abbrev pub AreApart : List FrozenEntry → Type 0
AreApart [] = Unit {0}
AreApart (e ∷ es) = All (λ other. other.slot ≢ e.slot) es × AreApart es

-- where the first entry of a slot stands
abbrev pub place_in : ℕ → List FrozenEntry → Option ℕ
place_in slot [] = None
place_in slot (e ∷ es) = if e.slot == slot then Some 0 else option_map (λ i. i + 1) (place_in slot es)

-- no entry has more references than the longest file has pages
abbrev pub AreShort : List FrozenEntry → Type 0
AreShort order = All (λ e. length e.refs ≤ 10848) order

-- an order's entries are short, and a map has the place of the first entry of each slot
pub record IsOrder (order : List FrozenEntry) (places : BTreeMap ℕ ℕ) : Type 0 where
  pub short : AreShort order
  pub found : (slot : ℕ) → get nat_cmp places slot ≡ place_in slot order
