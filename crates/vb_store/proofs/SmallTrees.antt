-- Small lists of nodes that a view can be followed by, in a store of 16 nodes.
use Rattle.std.proofs.Common.{rules, ◌≡◌, ℕ, zero, suc, ◌+◌, ◌<◌, ◌≤◌, ◌==◌, ◌++◌, Bool, true, false, not, cond, List, [], ◌∷◌, length, Option, Some, None, unwrap_or, refl, sym, ap, subst, ◌∙◌, arith}
use Rattle.std.specs.Prelude.{IsTrue, Contains}
use Rattle.std.specs.Fn.{iterate}
use Rattle.std.specs.List.{flat_map, slice_get}
use Rattle.std.specs.Option.{option_and_then, option_map, option_or}
use Rattle.std.proofs.lemmas.Bool.{eq-eqb, eqb-true, le-leb}
use Rattle.std.proofs.lemmas.List.Elements.{All-cons, All-nil, Contains-append_left, Contains-append_right}
use Rattle.std.proofs.lemmas.Option.{slice_get_within, unwrap_or-slice_get}
use Rattle.vb_block.specs.declared.digest.Ref.{Ref}
use Rattle.vb_block.specs.declared.why.Why.{Why}
use Rattle.vb_block.specs.declared.why.Why.TheVariants.{Parent, Cycle, SameName, Deep}
use Rattle.vb_index.specs.declared.held.Held.{Held}
use Rattle.vb_index.specs.Indexes.{IndexState}
use Rattle.vb_index.specs.Nodes.{is_folder_node, refs_at, refs_of}
use Rattle.vb_inode.specs.declared.next_view.NextNode.{NextNode}
use Rattle.vb_inode.specs.declared.next_view.PageSource.{PageSource}
use Rattle.vb_inode.specs.declared.next_view.PageSource.TheVariants.{Fresh, Kept}
use Rattle.vb_inode.specs.declared.node.Node.{Node}
use Rattle.vb_inode.specs.Nodes.{may_be_named}
use Rattle.vb_nodes.specs.Faults.{Fault, fault_below, fault_of_entry, fault_of_slot, has_lower_twin, refuse, table_fault}
use Rattle.vb_nodes.specs.Paths.{ancestor, enough_steps, leads_to_root, node_at, own_part, parent_in, path_in, path_up}
use Rattle.vb_nodes.proofs.TreeFacts.{enough-suc, path-of-root}
use Rattle.vb_path.specs.Parts.{is_part}
use Rattle.vb_plan.specs.Conditions.{IsNextNode, refs_held}
use Rattle.vb_plan.specs.Following.{CanFollow, IsNextTree, nodes_by_slot}
use Rattle.vb_plan.specs.Worked.{file_next, folder_next, root_next}
use Rattle.vb_geometry.specs.Layout.{page_limit}
use Rattle.vb_store.specs.SmallViews.{IsSmallView}
use Rattle.vb_store.specs.Views.{ViewState}
use Rattle.vb_tree.specs.declared.tree.Limits.{Limits}
use Rattle.vb_tree.specs.Renames.{is_deep}
use Rattle.vb_tree.specs.Trees.{data_pages_of, longest_file}

-- ---- entries right below the root

stays : (nodes : List Node) (steps : ℕ) → parent_in nodes 0 ≡ 0 → ancestor nodes steps 0 ≡ 0
stays nodes zero root = refl
stays nodes (suc steps) root = ap (iterate (parent_in nodes) steps) root ∙ stays nodes steps root

climbs : (nodes : List Node) (slot : ℕ) → parent_in nodes 0 ≡ 0 → parent_in nodes slot ≡ 0 → leads_to_root nodes slot ≡ true
climbs nodes slot root below =
    let up : ancestor nodes enough_steps slot ≡ 0 = ap (λ (n : ℕ). ancestor nodes n slot) enough-suc.1 ∙ ap (iterate (parent_in nodes) enough-suc.0) below ∙ stays nodes enough-suc.0 root in
    eq-eqb (ancestor nodes enough_steps slot) 0 up

path_of : (nodes : List Node) (slot : ℕ) → parent_in nodes 0 ≡ 0 → parent_in nodes slot ≡ 0 → path_in nodes slot ≡ own_part nodes slot
path_of nodes slot root below =
    ap (λ (n : ℕ). path_up nodes n slot) enough-suc.1
    ∙ ap (λ (p : ℕ). path_up nodes enough-suc.0 p ++ own_part nodes slot) below
    ∙ ap (λ (l : List (List ℕ)). l ++ own_part nodes slot) (path-of-root nodes enough-suc.0 root)

all_pass : (a b c d : Bool) → a ≡ true → b ≡ true → c ≡ false → d ≡ false → refuse (not a) Parent (refuse (not b) Cycle (refuse c SameName (refuse d Deep None))) ≡ None
all_pass a b c d ea eb ec ed =
    ap (λ (x : Bool). refuse (not x) Parent (refuse (not b) Cycle (refuse c SameName (refuse d Deep None)))) ea
    ∙ ap (λ (x : Bool). refuse (not x) Cycle (refuse c SameName (refuse d Deep None))) eb
    ∙ ap (λ (x : Bool). refuse x SameName (refuse d Deep None)) ec
    ∙ ap (λ (x : Bool). refuse x Deep None) ed

entry_clear : (nodes : List Node) (slot : ℕ) → parent_in nodes 0 ≡ 0 → is_folder_node (node_at nodes 0).kind ≡ true → parent_in nodes slot ≡ 0 → has_lower_twin nodes slot ≡ false → is_deep (own_part nodes slot) ≡ false → fault_of_entry nodes slot ≡ None
entry_clear nodes slot root folder below twin shallow =
    all_pass (is_folder_node (node_at nodes (parent_in nodes slot)).kind) (leads_to_root nodes slot) (has_lower_twin nodes slot) (is_deep (path_in nodes slot))
    (ap (λ (p : ℕ). is_folder_node (node_at nodes p).kind) below ∙ folder) (climbs nodes slot root below) twin (ap is_deep (path_of nodes slot root below) ∙ shallow)

clear : (nodes : List Node) (slot : ℕ) → fault_below nodes slot ≡ None → fault_of_slot nodes slot ≡ None → fault_below nodes (suc slot) ≡ None
clear nodes slot before here =
    let fault = λ (o : Option Why). (let f : Option Fault = option_map (λ (why : Why). record { slot = slot; why = why }) o in f) in
    ap (λ (o : Option Fault). option_or o (fault (fault_of_slot nodes slot))) before ∙ ap (λ (o : Option Why). option_or None (fault o)) here

-- ---- the lists

-- a root, and a file of one page
abbrev pub one_file : ℕ → ℕ → PageSource → List NextNode
one_file name len source = root_next ∷ file_next 1 (name ∷ []) len (source ∷ []) ∷ []

-- a root, and a folder
abbrev pub one_folder : List NextNode
one_folder = root_next ∷ folder_next 2 (100 ∷ []) ∷ []

-- a root, and two files of a byte, of which the one in slot 2 has the first path
abbrev pub two_files : List ℕ → List ℕ → List NextNode
two_files first second =
    root_next ∷ file_next 2 (97 ∷ []) 1 (Fresh first ∷ []) ∷ file_next 1 (98 ∷ []) 1 (Fresh second ∷ []) ∷ []

file_clear : (name len : ℕ) (source : PageSource) → table_fault (nodes_by_slot 16 (one_file name len source)) ≡ None
file_clear name len source =
    let nodes = nodes_by_slot 16 (one_file name len source) in
    let file : fault_of_slot nodes 1 ≡ None = entry_clear nodes 1 refl refl refl refl refl in
    clear nodes 15 (clear nodes 14 (clear nodes 13 (clear nodes 12 (clear nodes 11 (clear nodes 10 (clear nodes 9 (clear nodes 8 (clear nodes 7 (clear nodes 6 (clear nodes 5 (clear nodes 4 (clear nodes 3 (clear nodes 2 (clear nodes 1 (clear nodes 0 refl refl) file) refl) refl) refl) refl) refl) refl) refl) refl) refl) refl) refl) refl) refl) refl

folder_clear : table_fault (nodes_by_slot 16 one_folder) ≡ None
folder_clear =
    let nodes = nodes_by_slot 16 one_folder in
    let folder : fault_of_slot nodes 2 ≡ None = entry_clear nodes 2 refl refl refl refl refl in
    clear nodes 15 (clear nodes 14 (clear nodes 13 (clear nodes 12 (clear nodes 11 (clear nodes 10 (clear nodes 9 (clear nodes 8 (clear nodes 7 (clear nodes 6 (clear nodes 5 (clear nodes 4 (clear nodes 3 (clear nodes 2 (clear nodes 1 (clear nodes 0 refl refl) refl) folder) refl) refl) refl) refl) refl) refl) refl) refl) refl) refl) refl) refl) refl

two_clear : (first second : List ℕ) → table_fault (nodes_by_slot 16 (two_files first second)) ≡ None
two_clear first second =
    let nodes = nodes_by_slot 16 (two_files first second) in
    let one : fault_of_slot nodes 1 ≡ None = entry_clear nodes 1 refl refl refl refl refl in
    let two : fault_of_slot nodes 2 ≡ None = entry_clear nodes 2 refl refl refl refl refl in
    clear nodes 15 (clear nodes 14 (clear nodes 13 (clear nodes 12 (clear nodes 11 (clear nodes 10 (clear nodes 9 (clear nodes 8 (clear nodes 7 (clear nodes 6 (clear nodes 5 (clear nodes 4 (clear nodes 3 (clear nodes 2 (clear nodes 1 (clear nodes 0 refl refl) one) two) refl) refl) refl) refl) refl) refl) refl) refl) refl) refl) refl) refl) refl

one_of_two : (slot other : ℕ) (a b : Bool) → 0 < other → (0 == slot) ≡ a → (other == slot) ≡ b → cond a 1 0 + cond b 1 0 ≤ 1
one_of_two slot other true true some ea eb = absurd (omega (arith, some, eqb-true 0 slot ea, eqb-true other slot eb))
one_of_two slot other true false some ea eb = omega arith
one_of_two slot other false true some ea eb = omega arith
one_of_two slot other false false some ea eb = omega arith

one_of_three : (slot : ℕ) (a b c : Bool) → (0 == slot) ≡ a → (2 == slot) ≡ b → (1 == slot) ≡ c → cond a 1 0 + (cond b 1 0 + cond c 1 0) ≤ 1
one_of_three slot true true c ea eb ec = absurd (omega (arith, eqb-true 0 slot ea, eqb-true 2 slot eb))
one_of_three slot true false true ea eb ec = absurd (omega (arith, eqb-true 0 slot ea, eqb-true 1 slot ec))
one_of_three slot true false false ea eb ec = omega arith
one_of_three slot false true true ea eb ec = absurd (omega (arith, eqb-true 2 slot eb, eqb-true 1 slot ec))
one_of_three slot false true false ea eb ec = omega arith
one_of_three slot false false true ea eb ec = omega arith
one_of_three slot false false false ea eb ec = omega arith

root_is : IsNextNode 16 root_next
unfolding may_be_named
root_is = record { slot = omega arith; used = refl; named = search rules; parented = search rules; measured = search rules; unplanned = refl; each_page = refl }

file_is : (name len : ℕ) (source : PageSource) → IsTrue (is_part (name ∷ [])) → data_pages_of len ≡ 1 → IsNextNode 16 (file_next 1 (name ∷ []) len (source ∷ []))
unfolding may_be_named
file_is name len source part one = record {
  slot = omega arith;
  used = refl;
  named = part;
  parented = search rules;
  measured = le-leb len longest_file (omega (arith, one));
  unplanned = refl;
  each_page = sym one;
}

second_is : (digest : List ℕ) → IsTrue (is_part (97 ∷ [])) → IsNextNode 16 (file_next 2 (97 ∷ []) 1 (Fresh digest ∷ []))
unfolding may_be_named
second_is digest part = record { slot = omega arith; used = refl; named = part; parented = search rules; measured = search rules; unplanned = refl; each_page = refl }

folder_is : IsTrue (is_part (100 ∷ [])) → IsNextNode 16 (folder_next 2 (100 ∷ []))
unfolding may_be_named
folder_is part = record { slot = omega arith; used = refl; named = part; parented = search rules; measured = search rules; unplanned = refl; each_page = refl }

file_tree : (name len : ℕ) (source : PageSource) → IsTrue (is_part (name ∷ [])) → data_pages_of len ≡ 1 → IsNextTree 16 (one_file name len source)
file_tree name len source part one = record {
  nodes = All-cons (IsNextNode 16) root_next (file_next 1 (name ∷ []) len (source ∷ []) ∷ []) root_is (All-cons (IsNextNode 16) (file_next 1 (name ∷ []) len (source ∷ [])) [] (file_is name len source part one) (All-nil (IsNextNode 16)));
  root = refl;
  own_slot = λ slot. omega (arith, one_of_two slot 1 (0 == slot) (1 == slot) (omega arith) refl refl);
  no_fault = file_clear name len source;
}

folder_tree : IsTrue (is_part (100 ∷ [])) → IsNextTree 16 one_folder
folder_tree part = record {
  nodes = All-cons (IsNextNode 16) root_next (folder_next 2 (100 ∷ []) ∷ []) root_is (All-cons (IsNextNode 16) (folder_next 2 (100 ∷ [])) [] (folder_is part) (All-nil (IsNextNode 16)));
  root = refl;
  own_slot = λ slot. omega (arith, one_of_two slot 2 (0 == slot) (2 == slot) (omega arith) refl refl);
  no_fault = folder_clear;
}

two_tree : (first second : List ℕ) → IsTrue (is_part (97 ∷ [])) → IsTrue (is_part (98 ∷ [])) → IsNextTree 16 (two_files first second)
two_tree first second a b = record {
  nodes = All-cons (IsNextNode 16) root_next (file_next 2 (97 ∷ []) 1 (Fresh first ∷ []) ∷ file_next 1 (98 ∷ []) 1 (Fresh second ∷ []) ∷ []) root_is
      (All-cons (IsNextNode 16) (file_next 2 (97 ∷ []) 1 (Fresh first ∷ [])) (file_next 1 (98 ∷ []) 1 (Fresh second ∷ []) ∷ []) (second_is first a)
      (All-cons (IsNextNode 16) (file_next 1 (98 ∷ []) 1 (Fresh second ∷ [])) [] (file_is 98 1 (Fresh second) b refl) (All-nil (IsNextNode 16))));
  root = refl;
  own_slot = λ slot. omega (arith, one_of_three slot (0 == slot) (2 == slot) (1 == slot) refl refl refl);
  no_fault = two_clear first second;
}

-- ---- they can follow

tree_of : (index : IndexState) (next : List NextNode) → length index.nodes ≡ 16 → IsNextTree 16 next → IsNextTree (length index.nodes) next
tree_of index next many tree = subst (λ (n : ℕ). IsNextTree n next) (sym many) tree

pub fresh_follows : (index : IndexState) (name len : ℕ) (digest : List ℕ) → length index.nodes ≡ 16 → index.limits.pages ≡ 15 → IsTrue (is_part (name ∷ [])) → data_pages_of len ≡ 1 → CanFollow index (one_file name len (Fresh digest))
fresh_follows index name len digest many pages part one = record {
  tree = tree_of index (one_file name len (Fresh digest)) many (file_tree name len (Fresh digest) part one);
  pages = omega (arith, pages, one);
  kept = All-nil _;
  kept_once = λ place. omega arith;
}

pub kept_follows : (index : IndexState) (name len : ℕ) (r : Ref) → length index.nodes ≡ 16 → index.limits.pages ≡ 15 → IsTrue (is_part (name ∷ [])) → data_pages_of len ≡ 1 → Contains (flat_map refs_held index.nodes) r → CanFollow index (one_file name len (Kept r))
kept_follows index name len r many pages part one there = record {
  tree = tree_of index (one_file name len (Kept r)) many (file_tree name len (Kept r) part one);
  pages = omega (arith, pages, one);
  kept = All-cons (λ (q : Ref). Contains (flat_map refs_held index.nodes) q) r [] there (All-nil _);
  kept_once = λ place. omega (arith, at_most (r.place == place));
}
  where
    at_most : (b : Bool) → cond b 1 0 ≤ 1
    at_most true = omega arith
    at_most false = omega arith

pub folder_follows : (index : IndexState) → length index.nodes ≡ 16 → index.limits.pages ≡ 15 → IsTrue (is_part (100 ∷ [])) → CanFollow index one_folder
folder_follows index many pages part = record {
  tree = tree_of index one_folder many (folder_tree part);
  pages = omega (arith, pages);
  kept = All-nil _;
  kept_once = λ place. omega arith;
}

pub two_follow : (index : IndexState) (first second : List ℕ) → length index.nodes ≡ 16 → index.limits.pages ≡ 15 → IsTrue (is_part (97 ∷ [])) → IsTrue (is_part (98 ∷ [])) → CanFollow index (two_files first second)
two_follow index first second many pages a b = record {
  tree = tree_of index (two_files first second) many (two_tree first second a b);
  pages = omega (arith, pages);
  kept = All-nil _;
  kept_once = λ place. omega arith;
}

-- ---- beside a small view

slots_of : (v : ViewState) → IsSmallView v → length v.index.nodes ≡ 16
slots_of v is = is.view.slots ∙ is.nodes

pages_of : (v : ViewState) → IsSmallView v → v.index.limits.pages ≡ 15
pages_of v is =
    ap (λ (l : Limits). l.pages) is.view.can.limits ∙ ap (λ (b : ℕ). page_limit b v.head.nodes) is.blocks ∙ ap (λ (n : ℕ). page_limit 64 n) is.nodes

pub small_fresh : (v : ViewState) (name len : ℕ) (digest : List ℕ) (next : List NextNode) → IsSmallView v → IsTrue (is_part (name ∷ [])) → data_pages_of len ≡ 1 → next ≡ one_file name len (Fresh digest) → CanFollow v.index next
small_fresh v name len digest next is part one made = subst (CanFollow v.index) (sym made) (fresh_follows v.index name len digest (slots_of v is) (pages_of v is) part one)

pub small_kept : (v : ViewState) (name len : ℕ) (r : Ref) (next : List NextNode) → IsSmallView v → IsTrue (is_part (name ∷ [])) → data_pages_of len ≡ 1 → Contains (flat_map refs_held v.index.nodes) r → next ≡ one_file name len (Kept r) → CanFollow v.index next
small_kept v name len r next is part one there made = subst (CanFollow v.index) (sym made) (kept_follows v.index name len r (slots_of v is) (pages_of v is) part one there)

pub small_folder : (v : ViewState) (next : List NextNode) → IsSmallView v → IsTrue (is_part (100 ∷ [])) → next ≡ one_folder → CanFollow v.index next
small_folder v next is part made = subst (CanFollow v.index) (sym made) (folder_follows v.index (slots_of v is) (pages_of v is) part)

pub small_two : (v : ViewState) (first second : List ℕ) (next : List NextNode) → IsSmallView v → IsTrue (is_part (97 ∷ [])) → IsTrue (is_part (98 ∷ [])) → next ≡ two_files first second → CanFollow v.index next
small_two v first second next is a b made = subst (CanFollow v.index) (sym made) (two_follow v.index first second (slots_of v is) (pages_of v is) a b)

-- ---- references of pages that are held

read_there : (refs : List Ref) (k : ℕ) (r : Ref) → slice_get refs k ≡ Some r → Contains refs r
read_there refs k r is =
    (k, slice_get_within refs k r is, sym (unwrap_or-slice_get refs k r) ∙ ap (λ (o : Option Ref). unwrap_or o r) is)

held_by : (o : Option Held) (refs : List Ref) (r : Ref) → option_and_then refs_of o ≡ Some refs → Contains refs r → Contains (refs_held o) r
held_by None refs r is there = absurd (cc is)
held_by (Some h) refs r is there =
    let same : unwrap_or (refs_of h) [] ≡ refs = ap (λ (o : Option (List Ref)). unwrap_or o []) is in
    subst (λ (l : List Ref). Contains l r) (sym same) there

held_there : (nodes : List (Option Held)) (slot : ℕ) (refs : List Ref) (r : Ref) → refs_at nodes slot ≡ Some refs → Contains refs r → Contains (flat_map refs_held nodes) r
held_there [] slot refs r is there = absurd (cc is)
held_there (o ∷ nodes) zero refs r is there = Contains-append_left (refs_held o) (flat_map refs_held nodes) r (held_by o refs r is there)
held_there (o ∷ nodes) (suc slot) refs r is there = Contains-append_right (refs_held o) (flat_map refs_held nodes) r (held_there nodes slot refs r is there)

pub page_held : (nodes : List (Option Held)) (slot : ℕ) (refs : List Ref) (k : ℕ) (r : Ref) → refs_at nodes slot ≡ Some refs → slice_get refs k ≡ Some r → Contains (flat_map refs_held nodes) r
page_held nodes slot refs k r is at = held_there nodes slot refs r is (read_there refs k r at)
