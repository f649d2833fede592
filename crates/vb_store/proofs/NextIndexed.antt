-- The index of the view that a commit makes, as it is built.
use Rattle.std.proofs.Common.{◌≡◌, ℕ, zero, suc, ◌+◌, ◌<◌, ◌≤◌, Bool, true, false, cond, eqb, List, [], ◌∷◌, ◌++◌, length, get_or, set, take, map, replicate, Option, Some, None, unwrap_or, refl, sym, ap, subst, ◌∙◌, inl, inr, arith, length-append}
use Rattle.std.specs.Prelude.{count_by}
use Rattle.std.specs.List.{All, range_with_len}
use Rattle.std.proofs.lemmas.Bool.{cases_eq, cases_lt, eq-eqb, eqb-true, leb-true, ne_eqb}
use Rattle.std.proofs.lemmas.List.{ext_get_or, get_or-map, get_or-set_other, get_or-set_same, length-map, length-replicate, length-set, append_assoc, get_or_past, set-get_or, set-set}
use Rattle.std.proofs.Math.Seq.{set-append_seam}
use Rattle.std.proofs.lemmas.List.FromFn.{get_or-map-range_with_len, length-map-range_with_len, map-range_with_len_more}
use Rattle.std.proofs.lemmas.List.Sums.{sum_by-cons}
use Rattle.std.specs.Option.{option_and_then, option_map}
use Rattle.vb_block.specs.declared.digest.Ref.{Ref}
use Rattle.vb_head.specs.declared.head.Head.{Head}
use Rattle.vb_index.specs.declared.held.Held.{Held}
use Rattle.vb_index.specs.Indexes.{IndexState}
use Rattle.vb_tree.specs.declared.tree.Limits.{Limits}
use Rattle.vb_index.specs.Changes.{blank_ref, with_ref}
use Rattle.vb_index.specs.Nodes.{held_at, is_file_node, refs_at, refs_of}
use Rattle.vb_inode.specs.declared.node.Node.{Node}
use Rattle.vb_inode.specs.declared.node.NodeKind.{NodeKind}
use Rattle.vb_inode.specs.declared.node.NodeKind.TheVariants.{Free, Folder, File}
use Rattle.vb_inode.specs.Nodes.{is_free, may_have_length}
use Rattle.vb_inode.specs.Reading.{IsNodeOf}
use Rattle.vb_tree.specs.Trees.{data_pages_of, longest_file}
use Rattle.vb_nodes.specs.Holdings.{held_from, held_of}
use Rattle.vb_nodes.specs.Paths.{free_node}
use Rattle.vb_nodes.specs.Paths.{node_at as node_of_list}
use Rattle.vb_plan.specs.Plans.{by_slot, node_at, node_in, with_held}
use Rattle.vb_plan.proofs.Slots.{length-by_slot}
use Rattle.vb_store.specs.Metadata.{with_ref_at, with_refs_at}
use Rattle.vb_store.specs.NextIndexes.{CanIndex, Fits, nodes_held, nodes_of_table}

-- ---- the nodes by slot

none_in : (n k : ℕ) → get_or (replicate {A = Option Held} n None) k None ≡ None
none_in zero k = refl
none_in (suc n) zero = refl
none_in (suc n) (suc k) = none_in n k

pub length-nodes_held : (slots : ℕ) (held : List Held) → length (nodes_held slots held) ≡ slots
length-nodes_held slots held = length-map-range_with_len (λ (slot : ℕ). node_in slot (node_at (by_slot slots held) slot)) 0 slots

-- one more node is written to its slot
pub node_written : (slots : ℕ) (table : List (Option Held)) (h : Held) → length table ≡ slots → h.node.slot < slots → set (nodes_of_table slots table) h.node.slot h.node ≡ nodes_of_table slots (set table h.node.slot (Some h))
node_written slots table h as_many below =
    let now = λ (slot : ℕ). node_in slot (node_at table slot) in
    let then = λ (slot : ℕ). node_in slot (node_at (set table h.node.slot (Some h)) slot) in
    let many : length (set (nodes_of_table slots table) h.node.slot h.node) ≡ slots = length-set (nodes_of_table slots table) h.node.slot h.node ∙ length-map-range_with_len now 0 slots in
    ext_get_or free_node (set (nodes_of_table slots table) h.node.slot h.node) (nodes_of_table slots (set table h.node.slot (Some h))) (many ∙ sym (length-map-range_with_len then 0 slots))
    (λ i within. (
    let inside : i < slots = omega (arith, within, many) in
    let right : get_or (nodes_of_table slots (set table h.node.slot (Some h))) i free_node ≡ then i = get_or-map-range_with_len then 0 slots i i free_node inside (omega arith) in
    elim (cases_eq i h.node.slot) [
      | inl same ↦
          let held : held_at (set table h.node.slot (Some h)) h.node.slot ≡ Some h = get_or-set_same table h.node.slot (Some h) None (omega (arith, below, as_many)) in
          let at : then h.node.slot ≡ h.node = ap (λ (o : Option Held). node_in h.node.slot (option_map (λ (x : Held). x.node) o)) held in
          ap (λ (n : ℕ). get_or (set (nodes_of_table slots table) h.node.slot h.node) n free_node) same
          ∙ get_or-set_same (nodes_of_table slots table) h.node.slot h.node free_node (omega (arith, below, length-map-range_with_len now 0 slots))
          ∙ sym at ∙ ap then (sym same) ∙ sym right
      | inr apart ↦
          get_or-set_other (nodes_of_table slots table) h.node.slot i h.node free_node apart
          ∙ get_or-map-range_with_len now 0 slots i i free_node inside (omega arith)
          ∙ ap (λ (o : Option Held). node_in i (option_map (λ (x : Held). x.node) o)) (sym (get_or-set_other table h.node.slot i (Some h) None apart))
          ∙ sym right
    ]))

with_more : (table : List (Option Held)) (xs : List Held) (h : Held) → with_held table (xs ++ h ∷ []) ≡ set (with_held table xs) h.node.slot (Some h)
with_more table [] h = refl
with_more table (x ∷ xs) h = with_more (set table x.node.slot (Some x)) xs h

-- so for the next of some
pub next_written : (slots i : ℕ) (held : List Held) (h : Held) → take (i + 1) held ≡ take i held ++ h ∷ [] → h.node.slot < slots → set (nodes_held slots (take i held)) h.node.slot h.node ≡ nodes_held slots (take (i + 1) held)
next_written slots i held h more below =
    node_written slots (by_slot slots (take i held)) h (length-by_slot slots (take i held)) below
    ∙ ap (nodes_of_table slots) (sym (with_more (replicate slots None) (take i held) h))
    ∙ ap (λ (hs : List Held). nodes_of_table slots (by_slot slots hs)) (sym more)

-- one more free node
pub free_more : (slot : ℕ) (nodes more : List Node) (name : List ℕ) (maps : List Ref) → nodes ≡ map (λ n. node_in n None) (range_with_len 0 slot) → name ≡ [] → maps ≡ [] → more ≡ nodes ++ (record { slot = slot; kind = Free; parent = 0; name = name; length = 0; maps = maps }) ∷ [] → more ≡ map (λ n. node_in n None) (range_with_len 0 (slot + 1))
free_more slot nodes more name maps so_far no_name no_maps is =
    let free = λ (n : ℕ). node_in n None in
    let made = λ (b : List ℕ) (m : List Ref). (let x : Node = record { slot = slot; kind = Free; parent = 0; name = b; length = 0; maps = m } in x) in
    let node : made name maps ≡ free slot = ap (λ (b : List ℕ). made b maps) no_name ∙ ap (made []) no_maps in
    is ∙ ap (λ (l : List Node). l ++ made name maps ∷ []) so_far ∙ ap (λ (x : Node). map free (range_with_len 0 slot) ++ x ∷ []) node ∙ sym (map-range_with_len_more free 0 slot slot (omega arith))

-- none is written yet
pub none_written : (slots : ℕ) → map (λ slot. node_in slot None) (range_with_len 0 slots) ≡ nodes_held slots []
none_written slots =
    let free = λ (slot : ℕ). node_in slot None in
    let table : List (Option Held) = replicate slots None in
    let now = λ (slot : ℕ). node_in slot (node_at table slot) in
    ext_get_or free_node (map free (range_with_len 0 slots)) (nodes_of_table slots table) (length-map-range_with_len free 0 slots ∙ sym (length-map-range_with_len now 0 slots))
    (λ i within. (
    let inside : i < slots = omega (arith, within, length-map-range_with_len free 0 slots) in
    get_or-map-range_with_len free 0 slots i i free_node inside (omega arith)
    ∙ ap (λ (o : Option Held). node_in i (option_map (λ (x : Held). x.node) o)) (sym (none_in slots i))
    ∙ sym (get_or-map-range_with_len now 0 slots i i free_node inside (omega arith))))

-- ---- what slots hold, each in a slot of its own

-- 1 where something is held in this slot
abbrev one_at : ℕ → Held → ℕ
one_at slot h = cond (eqb h.node.slot slot) 1 0

untouched : (held : List Held) (table : List (Option Held)) (slot : ℕ) → count_by (λ h. eqb h.node.slot slot) held ≡ 0 → held_at (with_held table held) slot ≡ held_at table slot
untouched [] table slot none = refl
untouched (x ∷ held) table slot none =
    let sum = sum_by-cons (one_at slot) x held in
    untouched held (set table x.node.slot (Some x)) slot (omega (arith, none, sum))
    ∙ get_or-set_other table x.node.slot slot (Some x) None (λ same. (
    let here : one_at slot x ≡ 1 = ap {B = ℕ} (λ (b : Bool). cond b 1 0) (eq-eqb x.node.slot slot (sym same)) in
    omega (arith, none, sum, here)))

-- each is there in the end
pub held_there : (held : List Held) (table : List (Option Held)) (k : ℕ) (d : Held) → k < length held → ((slot : ℕ) → count_by (λ h. eqb h.node.slot slot) held ≤ 1) → All (λ h. h.node.slot < length table) held → held_at (with_held table held) (get_or held k d).node.slot ≡ Some (get_or held k d)
held_there [] table k d within own below = absurd (omega arith)
held_there (x ∷ held) table zero d within own below =
    let sum = sum_by-cons (one_at x.node.slot) x held in
    let here : one_at x.node.slot x ≡ 1 = ap {B = ℕ} (λ (b : Bool). cond b 1 0) (eq-eqb x.node.slot x.node.slot refl) in
    untouched held (set table x.node.slot (Some x)) x.node.slot (omega (arith, own x.node.slot, sum, here))
    ∙ get_or-set_same table x.node.slot (Some x) None (below 0 d within)
held_there (x ∷ held) table (suc k) d within own below =
    let many = length-set table x.node.slot (Some x) in
    held_there held (set table x.node.slot (Some x)) k d (omega arith) (λ slot. omega (arith, own slot, sum_by-cons (one_at slot) x held))
    (λ j e lt. (let under = below (suc j) e (omega arith) in omega (arith, under, many)))

-- tables that differ only where something is to be held become one
same_held : (held : List Held) (a b : List (Option Held)) → length a ≡ length b → All (λ h. h.node.slot < length a) held → ((slot : ℕ) → count_by (λ h. eqb h.node.slot slot) held ≡ 0 → held_at a slot ≡ held_at b slot) → with_held a held ≡ with_held b held
same_held [] a b as_many below same = ext_get_or None a b as_many (λ i within. same i refl)
same_held (x ∷ held) a b as_many below same =
    let many_a = length-set a x.node.slot (Some x) in
    let many_b = length-set b x.node.slot (Some x) in
    let under : x.node.slot < length a = below 0 x (omega arith) in
    same_held held (set a x.node.slot (Some x)) (set b x.node.slot (Some x)) (many_a ∙ as_many ∙ sym many_b)
    (λ j e lt. (let at = below (suc j) e (omega arith) in omega (arith, at, many_a)))
    (λ slot none. elim (cases_eq slot x.node.slot) [
      | inl here ↦
          let Same : ℕ → Type 0 = λ n. held_at (set a x.node.slot (Some x)) n ≡ held_at (set b x.node.slot (Some x)) n in
          subst Same (sym here) (get_or-set_same a x.node.slot (Some x) None under ∙ sym (get_or-set_same b x.node.slot (Some x) None (omega (arith, under, as_many))))
      | inr apart ↦
          let not : one_at slot x ≡ 0 = ap {B = ℕ} (λ (t : Bool). cond t 1 0) (ne_eqb x.node.slot slot (λ e. apart (sym e))) in
          get_or-set_other a x.node.slot slot (Some x) None apart
          ∙ same slot (omega (arith, none, not, sum_by-cons (one_at slot) x held))
          ∙ sym (get_or-set_other b x.node.slot slot (Some x) None apart)
    ])

-- ---- the index without references

-- what it holds of a slot
bare_at : (slots : ℕ) (table : List (Option Held)) (slot : ℕ) → slot < slots → held_at (held_of (nodes_of_table slots table)) slot ≡ held_from (node_in slot (node_at table slot))
bare_at slots table slot within =
    let now = λ (n : ℕ). node_in n (node_at table n) in
    get_or-map held_from (nodes_of_table slots table) slot free_node None (omega (arith, within, length-map-range_with_len now 0 slots))
    ∙ ap held_from (get_or-map-range_with_len now 0 slots slot slot free_node within (omega arith))

many_bare : (slots : ℕ) (table : List (Option Held)) → length (held_of (nodes_of_table slots table)) ≡ slots
many_bare slots table =
    length-map (nodes_of_table slots table) held_from ∙ length-map-range_with_len (λ (n : ℕ). node_in n (node_at table n)) 0 slots

-- ---- references

pub there_below : (table : List (Option Held)) (slot : ℕ) (h : Held) → held_at table slot ≡ Some h → slot < length table
there_below table slot h is = elim (cases_lt slot (length table)) [
  | inl below ↦ below
  | inr past ↦ absurd (let none : None ≡ Some h = sym (get_or_past table slot None past) ∙ is in cc none)
]

-- what is held, with these references
abbrev with_list : Held → List Ref → Held
with_list h refs = record h { refs = refs }

refs_written : (rs tail front : List Ref) (table : List (Option Held)) (slot first : ℕ) (h : Held) → held_at table slot ≡ Some (with_list h (front ++ tail)) → length front ≡ first → length tail ≡ length rs → with_refs_at table slot first rs ≡ set table slot (Some (with_list h (front ++ rs)))
refs_written [] [] front table slot first h was at many = sym (set-get_or table slot None) ∙ ap (set table slot) was
refs_written [] (t ∷ tail) front table slot first h was at many = absurd (omega (arith, many))
refs_written (r ∷ rs) [] front table slot first h was at many = absurd (omega (arith, many))
refs_written (r ∷ rs) (t ∷ tail) front table slot first h was at many =
    let Now : List Ref → List (Option Held) = λ l. set table slot (Some (with_list h l)) in
    let seam : set (front ++ t ∷ tail) first r ≡ front ++ r ∷ [] ++ tail = ap (λ (n : ℕ). set (front ++ t ∷ tail) n r) (sym at) ∙ set-append_seam front t tail r ∙ sym (append_assoc front (r ∷ []) tail) in
    let one : with_ref_at table slot first r ≡ Now (front ++ r ∷ [] ++ tail) = ap (λ (o : Option Held). set table slot (option_map (with_ref first r) o)) was ∙ ap Now seam in
    let there : held_at (Now (front ++ r ∷ [] ++ tail)) slot ≡ Some (with_list h (front ++ r ∷ [] ++ tail)) = get_or-set_same table slot (Some (with_list h (front ++ r ∷ [] ++ tail))) None (there_below table slot (with_list h (front ++ t ∷ tail)) was) in
    ap (λ (l : List (Option Held)). with_refs_at l slot (first + 1) rs) one
    ∙ refs_written rs tail (front ++ r ∷ []) (Now (front ++ r ∷ [] ++ tail)) slot (first + 1) h there (length-append front (r ∷ []) ∙ ap (λ (n : ℕ). n + 1) at) (omega (arith, many))
    ∙ set-set table slot (Some (with_list h (front ++ r ∷ [] ++ tail))) (Some (with_list h (front ++ r ∷ [] ++ rs)))
    ∙ ap Now (append_assoc front (r ∷ []) rs)

-- all references of a slot are written
pub slot_written : (table : List (Option Held)) (h : Held) → Fits table h → with_refs_at table h.node.slot 0 h.refs ≡ set table h.node.slot (Some h)
slot_written table h fits =
    let made = λ (n : Node). (let x : Held = record { node = n; refs = h.refs } in set table h.node.slot (Some x)) in
    refs_written h.refs fits.before.refs [] table h.node.slot 0 fits.before fits.was refl fits.as_many ∙ ap made fits.same

file_many : (b : Bool) (refs old : List Ref) → length old ≡ length refs → (b ≡ false → refs ≡ []) → length refs ≤ length (unwrap_or (cond b (Some old) None) [])
file_many true refs old many bare = omega (arith, many)
file_many false refs old many bare = omega (arith, ap length (bare refl))

-- there is room for them
pub slot_room : (table : List (Option Held)) (h : Held) → Fits table h → length h.refs ≤ length (unwrap_or (refs_at table h.node.slot) [])
slot_room table h fits =
    let Many : Option Held → Type 0 = λ o. length h.refs ≤ length (unwrap_or (option_and_then refs_of o) []) in
    let kind : is_file_node fits.before.node.kind ≡ is_file_node h.node.kind = ap (λ (n : Node). is_file_node n.kind) fits.same in
    subst Many (sym fits.was) (file_many (is_file_node fits.before.node.kind) h.refs fits.before.refs fits.as_many (λ no. fits.bare (sym kind ∙ no)))

-- what fits stays so once another slot is written
pub fits_after : (table : List (Option Held)) (x h : Held) → Fits table x → Fits table h → Fits (set table x.node.slot (Some x)) h
fits_after table x h of_x of_h = elim (cases_eq h.node.slot x.node.slot) [
  | inl same ↦
      let both : (let o : Option Held = Some of_h.before in o ≡ Some of_x.before) = sym of_h.was ∙ ap (held_at table) same ∙ of_x.was in
      let one : of_h.before ≡ of_x.before = cc both in
      record {
        before = x;
        was = ap (held_at (set table x.node.slot (Some x))) same ∙ get_or-set_same table x.node.slot (Some x) None (there_below table x.node.slot of_x.before of_x.was);
        same = sym of_x.same ∙ sym (ap (λ (y : Held). y.node) one) ∙ of_h.same;
        as_many = sym of_x.as_many ∙ sym (ap (λ (y : Held). length y.refs) one) ∙ of_h.as_many;
        bare = of_h.bare;
        few = of_h.few;
      }
  | inr apart ↦ record {
    before = of_h.before;
    was = get_or-set_other table x.node.slot h.node.slot (Some x) None apart ∙ of_h.was;
    same = of_h.same;
    as_many = of_h.as_many;
    bare = of_h.bare;
    few = of_h.few;
  }
]

-- ---- what is to be held fits the index without references

bare_by : (kind : NodeKind) (len : ℕ) (refs : List Ref) → is_free kind ≡ false → is_file_node kind ≡ false → may_have_length kind len ≡ true → length refs ≡ data_pages_of len → refs ≡ []
bare_by Free len refs used other may many = absurd (cc used)
bare_by Folder len [] used other may many = refl
bare_by Folder len (r ∷ refs) used other may many =
    let none : length (r ∷ refs) ≡ data_pages_of 0 = many ∙ ap data_pages_of (eqb-true len 0 may) in
    absurd (omega (arith, none))
bare_by File len refs used other may many = absurd (cc other)

few_by : (kind : NodeKind) (len : ℕ) → may_have_length kind len ≡ true → data_pages_of len ≤ 10848
few_by Free len may = omega (arith, ap data_pages_of (eqb-true len 0 may))
few_by Folder len may = omega (arith, ap data_pages_of (eqb-true len 0 may))
few_by File len may = omega (arith, leb-true len longest_file may)

pub held_fits : (head : Head) (held : List Held) → CanIndex head held → All (Fits (held_of (nodes_held head.nodes held))) held
held_fits head held can k d within =
    let h : Held = get_or held k d in
    let below : h.node.slot < head.nodes = can.below k d within in
    let table = by_slot head.nodes held in
    let there : held_at table h.node.slot ≡ Some h = held_there held (replicate head.nodes None) k d within can.own (λ j e lt. (let at = can.below j e lt in omega (arith, at, length-replicate {A = Option Held} head.nodes None))) in
    let node : node_in h.node.slot (node_at table h.node.slot) ≡ h.node = ap (λ (o : Option Held). node_in h.node.slot (option_map (λ (x : Held). x.node) o)) there in
    let used : is_free h.node.kind ≡ false = can.used k d within in
    let bare : Held = record { node = h.node; refs = replicate (data_pages_of h.node.length) blank_ref } in
    let listed : node_of_list (nodes_held head.nodes held) h.node.slot ≡ h.node = get_or-map-range_with_len (λ (n : ℕ). node_in n (node_at table n)) 0 head.nodes h.node.slot h.node.slot free_node below (omega arith) ∙ node in
    let many : h.node.slot < length (nodes_held head.nodes held) = omega (arith, below, length-map-range_with_len (λ (n : ℕ). node_in n (node_at table n)) 0 head.nodes) in
    let is : IsNodeOf (length (nodes_held head.nodes held)) h.node = subst (IsNodeOf (length (nodes_held head.nodes held))) listed (can.tree.by_slot.of_store h.node.slot free_node many) in
    let may : may_have_length h.node.kind h.node.length ≡ true = is.in_range.measured in
    record {
      before = bare;
      was = bare_at head.nodes table h.node.slot below ∙ ap held_from node ∙ ap (λ (b : Bool). cond b None (Some bare)) used;
      same = refl;
      as_many = length-replicate (data_pages_of h.node.length) blank_ref ∙ sym (can.each_page k d within);
      bare = λ other. bare_by h.node.kind h.node.length h.refs used other may (can.each_page k d within);
      few = omega (arith, can.each_page k d within, few_by h.node.kind h.node.length may);
    }

-- a slot in which nothing is to be held is free
pub all_written : (head : Head) (held : List Held) → CanIndex head held → with_held (held_of (nodes_held head.nodes held)) held ≡ by_slot head.nodes held
all_written head held can =
    let table = by_slot head.nodes held in
    let bare = held_of (nodes_held head.nodes held) in
    let many : length bare ≡ head.nodes = many_bare head.nodes table in
    let none : length (replicate {A = Option Held} head.nodes None) ≡ head.nodes = length-replicate head.nodes None in
    same_held held bare (replicate head.nodes None) (many ∙ sym none) (λ j e lt. (let at = can.below j e lt in omega (arith, at, many)))
    (λ slot away. elim (cases_lt slot head.nodes) [
      | inl below ↦
          bare_at head.nodes table slot below
          ∙ ap (λ (o : Option Held). held_from (node_in slot (option_map (λ (x : Held). x.node) o))) (untouched held (replicate head.nodes None) slot away ∙ none_in head.nodes slot)
          ∙ sym (none_in head.nodes slot)
      | inr past ↦ get_or_past bare slot None (omega (arith, past, many)) ∙ sym (none_in head.nodes slot)
    ])

-- an index by its two parts
pub index_by : (index : IndexState) (limits : Limits) (nodes : List (Option Held)) → index.limits ≡ limits → index.nodes ≡ nodes → index ≡ record { limits = limits; nodes = nodes }
index_by index limits nodes same_limits same_nodes =
    let made = λ (l : Limits) (n : List (Option Held)). (let x : IndexState = record { limits = l; nodes = n } in x) in
    ap (λ (l : Limits). made l index.nodes) same_limits ∙ ap (made limits) same_nodes
