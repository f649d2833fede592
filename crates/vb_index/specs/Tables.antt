-- What a table keeps beside its nodes: how it finds children and free slots, and the totals.
use Rattle.std.specs.Prelude.{◌≡◌, ℕ, ◌<◌, nat_lt, ◌&&◌, ◌==◌, if◌then◌else◌, is_none, List, length, vec_len, get_or, Option}
use Rattle.std.specs.Global.{Vec}
use Rattle.std.specs.Ordering.{nat_cmp}
use Rattle.std.specs.Cmp.Lexicographic.{slice_cmp}
use Rattle.std.specs.BTreeMap as tree
use Rattle.std.specs.BTreeSet as sorted
use Rattle.vb_index.specs.declared.table.Table.TheInside.{Inside}
use Rattle.vb_index.specs.Heights.{IsRooted}
use Rattle.vb_index.specs.Nodes.{held_at, same_name, child_of, nodes_in, pages_in, IsTable}

-- the slot that the map of a folder has under a name
abbrev pub entry_in : Vec (tree.BTreeMap (List ℕ) ℕ) → ℕ → List ℕ → tree.BTreeMap (List ℕ) ℕ → Option ℕ
entry_in maps folder name d = tree.get (slice_cmp nat_cmp) (get_or maps.items folder d) name

-- the maps have this under one name in one folder, and all else as before
abbrev pub ChangesEntry : Vec (tree.BTreeMap (List ℕ) ℕ) → Vec (tree.BTreeMap (List ℕ) ℕ) → ℕ → List ℕ → Option ℕ → Type 0
ChangesEntry before after parent name entry = (folder : ℕ) (key : List ℕ) (d : tree.BTreeMap (List ℕ) ℕ) → folder < vec_len before
    → entry_in after folder key d ≡ (if parent == folder && same_name name key then entry else entry_in before folder key d)

-- the maps have the same under every name
abbrev pub KeepsEntries : Vec (tree.BTreeMap (List ℕ) ℕ) → Vec (tree.BTreeMap (List ℕ) ℕ) → Type 0
KeepsEntries before after = (folder : ℕ) (key : List ℕ) (d : tree.BTreeMap (List ℕ) ℕ) → folder < vec_len before
    → entry_in after folder key d ≡ entry_in before folder key d

-- the maps, sets and totals are those of the nodes
pub record IsKept (a : Inside) : Type 0 where
  pub table : IsTable a.nodes.items
  pub rooted : IsRooted a.nodes.items
  pub maps : vec_len a.children ≡ length a.nodes.items
  pub found : (parent : ℕ) (name : List ℕ) (d : tree.BTreeMap (List ℕ) ℕ) → parent < length a.nodes.items → tree.get (slice_cmp nat_cmp) (get_or a.children.items parent d) name ≡ child_of a.nodes.items parent name
  pub free : (slot : ℕ) → sorted.contains nat_cmp a.free slot ≡ (nat_lt slot (length a.nodes.items) && is_none (held_at a.nodes.items slot))
  pub count : a.count ≡ nodes_in a.nodes.items
  pub pages : a.pages ≡ pages_in a.nodes.items
