-- What a table keeps beside its nodes, after a slot was filled or emptied.
use Rattle.std.proofs.Common.{◌≡◌, ℕ, ◌+◌, ◌<◌, ◌≤◌, Bool, true, false, not, cond, ◌&&◌, ◌==◌, nat_lt, is_none, is_some, vec_len, List, [], ◌∷◌, length, get_or, set, replicate, Option, Some, None, inl, inr, refl, sym, ap, ◌∙◌, subst, arith}
use Rattle.std.specs.BTreeMap as tree
use Rattle.std.specs.BTreeSet as sorted
use Rattle.std.specs.Ordering.{nat_cmp, is_eq, is_gt}
use Rattle.std.specs.List.{list_any}
use Rattle.std.specs.declared.cmp.Ordering.{Ordering}
use Rattle.std.specs.declared.cmp.Ordering.TheVariants.{Less, Equal, Greater}
use Rattle.std.specs.Cmp.{nat_cmp_is}
use Rattle.std.specs.Cmp.Lexicographic.{slice_cmp}
use Rattle.std.proofs.lemmas.Map.Lookups.{exact_unsigned}
use Rattle.std.proofs.lemmas.Bool.{cases_Bool, false≢true, and_parts}
use Rattle.std.proofs.Math.Bool.{and-true}
use Rattle.std.proofs.lemmas.Bool.Decides.{Decides-eqb, Decides-ltb}
use Rattle.std.proofs.lemmas.List.{length-set, length-replicate}
use Rattle.vb_tree.specs.Trees.{pages_of_length}
use Rattle.vb_index.specs.declared.held.Held.{Held}
use Rattle.vb_index.specs.declared.table.Table.TheInside.{Inside}
use Rattle.vb_index.specs.Heights.{IsRooted}
use Rattle.vb_index.specs.Nodes.{root_held, held_at, same_name, child_of, nodes_of_slot, nodes_in, pages_of_slot, pages_in, IsTable}
use Rattle.vb_index.specs.Tables.{IsKept}
use Rattle.vb_index.specs.Indexes.{IsLeastFree}
use Rattle.vb_index.proofs.ChildLaws.{child_of-fill, child_of-empty}
use Rattle.vb_index.proofs.Tables.{own_places, at_same, at_other, IsTable-fill, IsTable-empty, nodes_in-set, pages_in-set, some_free}
use Rattle.vb_index.proofs.Beginnings.{fresh-table, fresh-child, fresh-count, fresh-pages, fresh-free}
use Rattle.vb_index.proofs.Growth.{Fills}
use Rattle.vb_index.proofs.Shrinking.{Leaves}

same_at : (a b : ℕ) → is_eq (nat_cmp a b) ≡ true → b ≡ a
same_at a b h = by (nat_cmp a b) refl where
  by : (o : Ordering) → nat_cmp a b ≡ o → b ≡ a
  by Less e = absurd (false≢true (sym (ap is_eq e) ∙ h))
  by Equal e = sym (exact_unsigned a b e)
  by Greater e = absurd (false≢true (sym (ap is_eq e) ∙ h))

at_same_slot : (a b : ℕ) → b ≡ a → is_eq (nat_cmp a b) ≡ true
at_same_slot a b e = sym (ap is_eq (nat_cmp_is a b Equal (sym e)))

-- a query for one number finds it alone
pub is_eq-number : (a b : ℕ) → is_eq (nat_cmp a b) ≡ (b == a)
is_eq-number a b = elim (cases_Bool (b == a)) [
  | inl h ↦ at_same_slot a b ((Decides-eqb b a).0 h) ∙ sym h
  | inr h ↦ (elim (cases_Bool (is_eq (nat_cmp a b))) [
    | inr g ↦ g ∙ sym h
    | inl g ↦ absurd (false≢true (sym h ∙ (Decides-eqb b a).1 (same_at a b g)))
  ])
]

-- the fields after a node was put into its slot
pub record IsFilled (a b : Inside) (slot : ℕ) (held : Held) : Type 0 where
  pub nodes : b.nodes.items ≡ set a.nodes.items slot (Some held)
  pub maps : vec_len b.children ≡ vec_len a.children
  pub found : (folder : ℕ) (name : List ℕ) (d : tree.BTreeMap (List ℕ) ℕ) → folder < vec_len a.children → tree.get (slice_cmp nat_cmp) (get_or b.children.items folder d) name ≡ cond (held.node.parent == folder && same_name held.node.name name) (Some slot) (tree.get (slice_cmp nat_cmp) (get_or a.children.items folder d) name)
  pub free : (q : ℕ) → sorted.contains nat_cmp b.free q ≡ cond (is_eq (nat_cmp slot q)) false (sorted.contains nat_cmp a.free q)
  pub count : b.count ≡ a.count + 1
  pub pages : b.pages ≡ a.pages + pages_of_length held.node.length

no_and : (b : Bool) → (b && false) ≡ false
no_and true = refl
no_and false = refl

pub kept-fill : (a b : Inside) (slot : ℕ) (held : Held) → IsKept a → Fills a.nodes.items slot held → IsRooted (set a.nodes.items slot (Some held)) → IsFilled a b slot held → IsKept b
kept-fill a b slot held k f r s =
    record {
      table = subst IsTable (sym s.nodes) (IsTable-fill a.nodes.items slot held k.table f.there f.above_root f.free f.in_folder f.new_name f.fits);
      rooted = subst IsRooted (sym s.nodes) r;
      maps = s.maps ∙ k.maps ∙ sym len;
      found = found;
      free = free;
      count = (let sums = nodes_in-set a.nodes.items slot (Some held) f.there in let old = ap nodes_of_slot f.free in let new = ap nodes_in s.nodes in omega (arith, sums, old, new, s.count, k.count));
      pages = (let sums = pages_in-set a.nodes.items slot (Some held) f.there in let old = ap pages_of_slot f.free in let new = ap pages_in s.nodes in omega (arith, sums, old, new, s.pages, k.pages));
    } where
      len : length b.nodes.items ≡ length a.nodes.items
      len = ap length s.nodes ∙ length-set a.nodes.items slot (Some held)

      above : not (held.node.slot == 0) ≡ true
      above = elim (cases_Bool (held.node.slot == 0)) [ inr h ↦ ap not h | inl h ↦ absurd (let zero = (Decides-eqb held.node.slot 0).0 h in omega (arith, zero, f.fits.at_slot, f.above_root)) ]

      found : (parent : ℕ) (name : List ℕ) (d : tree.BTreeMap (List ℕ) ℕ) → parent < length b.nodes.items → tree.get (slice_cmp nat_cmp) (get_or b.children.items parent d) name ≡ child_of b.nodes.items parent name
      found parent name d l =
          s.found parent name d (omega (arith, len, k.maps))
          ∙ ap (cond (held.node.parent == parent && same_name held.node.name name) (Some slot)) (k.found parent name d (omega (arith, len)))
          ∙ sym (ap (λ v. cond (v && (held.node.parent == parent && same_name held.node.name name)) (Some slot) (child_of a.nodes.items parent name)) above)
          ∙ sym (child_of-fill a.nodes.items slot held f.there f.free f.new_name parent name)
          ∙ sym (ap (λ ns. child_of ns parent name) s.nodes)

      free : (q : ℕ) → sorted.contains nat_cmp b.free q ≡ (nat_lt q (length b.nodes.items) && is_none (held_at b.nodes.items q))
      free q = s.free q ∙ ap (λ v. cond v false (sorted.contains nat_cmp a.free q)) (is_eq-number slot q) ∙ (elim (cases_Bool (q == slot)) [
        | inl h ↦ ap (λ v. cond v false (sorted.contains nat_cmp a.free q)) h ∙ sym (ap (λ o. nat_lt q (length b.nodes.items) && is_none o) (ap (λ ns. held_at ns q) s.nodes ∙ at_same a.nodes.items slot q (Some held) f.there ((Decides-eqb q slot).0 h)) ∙ no_and (nat_lt q (length b.nodes.items)))
        | inr h ↦ ap (λ v. cond v false (sorted.contains nat_cmp a.free q)) h ∙ k.free q ∙ sym (ap (λ n. nat_lt q n && is_none (held_at b.nodes.items q)) len ∙ ap (λ o. nat_lt q (length a.nodes.items) && is_none o) (ap (λ ns. held_at ns q) s.nodes ∙ at_other a.nodes.items slot q (Some held) h))
      ])

-- the fields after a node left its slot
pub record IsEmptied (a b : Inside) (slot : ℕ) (held : Held) : Type 0 where
  pub nodes : b.nodes.items ≡ set a.nodes.items slot None
  pub maps : vec_len b.children ≡ vec_len a.children
  pub found : (folder : ℕ) (name : List ℕ) (d : tree.BTreeMap (List ℕ) ℕ) → folder < vec_len a.children → tree.get (slice_cmp nat_cmp) (get_or b.children.items folder d) name ≡ cond (held.node.parent == folder && same_name held.node.name name) None (tree.get (slice_cmp nat_cmp) (get_or a.children.items folder d) name)
  pub free : (q : ℕ) → sorted.contains nat_cmp b.free q ≡ cond (is_eq (nat_cmp slot q)) true (sorted.contains nat_cmp a.free q)
  pub count : b.count + 1 ≡ a.count
  pub pages : b.pages + pages_of_length held.node.length ≡ a.pages

pub kept-empty : (a b : Inside) (slot : ℕ) (held : Held) → IsKept a → Leaves a.nodes.items slot held → IsRooted (set a.nodes.items slot None) → IsEmptied a b slot held → IsKept b
kept-empty a b slot held k f r s =
    record {
      table = subst IsTable (sym s.nodes) (IsTable-empty a.nodes.items slot held k.table f.there f.above_root f.holds f.bare);
      rooted = subst IsRooted (sym s.nodes) r;
      maps = s.maps ∙ k.maps ∙ sym len;
      found = found;
      free = free;
      count = (let sums = nodes_in-set a.nodes.items slot None f.there in let old = ap nodes_of_slot f.holds in let new = ap nodes_in s.nodes in omega (arith, sums, old, new, s.count, k.count));
      pages = (let sums = pages_in-set a.nodes.items slot None f.there in let old = ap pages_of_slot f.holds in let new = ap pages_in s.nodes in omega (arith, sums, old, new, s.pages, k.pages));
    } where
      len : length b.nodes.items ≡ length a.nodes.items
      len = ap length s.nodes ∙ length-set a.nodes.items slot None

      above : not (held.node.slot == 0) ≡ true
      above = elim (cases_Bool (held.node.slot == 0)) [ inr h ↦ ap not h | inl h ↦ absurd (let zero = (Decides-eqb held.node.slot 0).0 h in let at = (k.table.fits slot held f.holds).at_slot in omega (arith, zero, at, f.above_root)) ]

      found : (parent : ℕ) (name : List ℕ) (d : tree.BTreeMap (List ℕ) ℕ) → parent < length b.nodes.items → tree.get (slice_cmp nat_cmp) (get_or b.children.items parent d) name ≡ child_of b.nodes.items parent name
      found parent name d l =
          s.found parent name d (omega (arith, len, k.maps))
          ∙ ap (cond (held.node.parent == parent && same_name held.node.name name) None) (k.found parent name d (omega (arith, len)))
          ∙ sym (ap (λ v. cond (v && (held.node.parent == parent && same_name held.node.name name)) None (child_of a.nodes.items parent name)) above)
          ∙ sym (child_of-empty a.nodes.items slot held f.there f.holds f.above_root (own_places a.nodes.items k.table) parent name)
          ∙ sym (ap (λ ns. child_of ns parent name) s.nodes)

      inside : nat_lt slot (length a.nodes.items) ≡ true
      inside = (Decides-ltb slot (length a.nodes.items)).1 f.there

      free : (q : ℕ) → sorted.contains nat_cmp b.free q ≡ (nat_lt q (length b.nodes.items) && is_none (held_at b.nodes.items q))
      free q = s.free q ∙ ap (λ v. cond v true (sorted.contains nat_cmp a.free q)) (is_eq-number slot q) ∙ (elim (cases_Bool (q == slot)) [
        | inl h ↦ ap (λ v. cond v true (sorted.contains nat_cmp a.free q)) h ∙ sym (ap (λ o. nat_lt q (length b.nodes.items) && is_none o) (ap (λ ns. held_at ns q) s.nodes ∙ at_same a.nodes.items slot q None f.there ((Decides-eqb q slot).0 h)) ∙ and-true (nat_lt q (length b.nodes.items)) ∙ ap (nat_lt q) len ∙ ap (λ j. nat_lt j (length a.nodes.items)) ((Decides-eqb q slot).0 h) ∙ inside)
        | inr h ↦ ap (λ v. cond v true (sorted.contains nat_cmp a.free q)) h ∙ k.free q ∙ sym (ap (λ n. nat_lt q n && is_none (held_at b.nodes.items q)) len ∙ ap (λ o. nat_lt q (length a.nodes.items) && is_none o) (ap (λ ns. held_at ns q) s.nodes ∙ at_other a.nodes.items slot q None h))
      ])

-- ---- free slots

none_is : {A : Type 0} (o : Option A) → is_none o ≡ true → o ≡ None
none_is None h = refl
none_is (Some x) h = absurd (false≢true h)

-- where there are fewer nodes than slots, the set of free slots isn't empty
pub free_some : (a : Inside) → IsKept a → nodes_in a.nodes.items < length a.nodes.items → 0 < length a.free.keys
free_some a k h = by a.free.keys refl where
  by : (keys : List ℕ) → a.free.keys ≡ keys → 0 < length a.free.keys
  by [] e = absurd (some_free a.nodes.items h (λ q l none.
      let missing : sorted.contains nat_cmp a.free q ≡ false = ap (list_any (λ x. is_eq (nat_cmp q x))) e in
      let there : sorted.contains nat_cmp a.free q ≡ true = k.free q ∙ ap (λ b. b && is_none (held_at a.nodes.items q)) ((Decides-ltb q (length a.nodes.items)).1 l) ∙ ap is_none none in
      false≢true (sym missing ∙ there)))
  by (x ∷ xs) e = omega (arith, ap length e)

-- the least of the set of free slots is the least free slot
pub least-free : (a : Inside) (slot : ℕ) → IsKept a → sorted.contains nat_cmp a.free slot ≡ true → ((q : ℕ) → sorted.contains nat_cmp a.free q ≡ true → is_gt (nat_cmp slot q) ≡ false) → IsLeastFree a.nodes.items slot
least-free a slot k h least =
    let both = and_parts (nat_lt slot (length a.nodes.items)) (is_none (held_at a.nodes.items slot)) (sym (k.free slot) ∙ h) in
    let there : slot < length a.nodes.items = (Decides-ltb slot (length a.nodes.items)).0 both.0 in
    record {
      there = there;
      free = none_is (held_at a.nodes.items slot) both.1;
      least = λ q below. by q below there (held_at a.nodes.items q) refl;
    } where
      by : (q : ℕ) → q < slot → slot < length a.nodes.items → (o : Option Held) → held_at a.nodes.items q ≡ o → is_some (held_at a.nodes.items q) ≡ true
      by q below there (Some held) e = ap is_some e
      by q below there None e = absurd (
          let member : sorted.contains nat_cmp a.free q ≡ true = k.free q ∙ ap (λ b. b && is_none (held_at a.nodes.items q)) ((Decides-ltb q (length a.nodes.items)).1 (omega arith)) ∙ ap is_none e in
          let greater : Greater ≡ nat_cmp slot q = nat_cmp_is slot q Greater below in
          false≢true (sym (least q member) ∙ sym (ap is_gt greater)))

-- ---- fields that say the same

-- the map of each slot finds what it found
pub kept-same : (a b : Inside) → IsKept a → b.nodes ≡ a.nodes → vec_len b.children ≡ vec_len a.children → ((folder : ℕ) (name : List ℕ) (d : tree.BTreeMap (List ℕ) ℕ) → folder < vec_len a.children → tree.get (slice_cmp nat_cmp) (get_or b.children.items folder d) name ≡ tree.get (slice_cmp nat_cmp) (get_or a.children.items folder d) name) → b.free ≡ a.free → b.count ≡ a.count → b.pages ≡ a.pages → IsKept b
kept-same a b k nodes maps found free count pages =
    let items : b.nodes.items ≡ a.nodes.items = ap (λ v. v.items) nodes in
    record {
      table = subst IsTable (sym items) k.table;
      rooted = subst IsRooted (sym items) k.rooted;
      maps = maps ∙ k.maps ∙ sym (ap length items);
      found = λ parent name d l. found parent name d (omega (arith, k.maps, ap length items)) ∙ k.found parent name d (omega (arith, ap length items)) ∙ sym (ap (λ ns. child_of ns parent name) items);
      free = λ q. ap (λ s. sorted.contains nat_cmp s q) free ∙ k.free q ∙ sym (ap (λ ns. nat_lt q (length ns) && is_none (held_at ns q)) items);
      count = count ∙ k.count ∙ sym (ap nodes_in items);
      pages = pages ∙ k.pages ∙ sym (ap pages_in items);
    }

-- a root and nothing else
pub kept-fresh : (a : Inside) (n : ℕ) → a.nodes.items ≡ Some root_held ∷ replicate n None → n + 1 ≤ 65536 → IsRooted (Some root_held ∷ replicate n None) → vec_len a.children ≡ n + 1 → ((folder : ℕ) (name : List ℕ) (d : tree.BTreeMap (List ℕ) ℕ) → folder < n + 1 → tree.get (slice_cmp nat_cmp) (get_or a.children.items folder d) name ≡ None) → ((q : ℕ) → sorted.contains nat_cmp a.free q ≡ (nat_lt 0 q && nat_lt q (n + 1))) → a.count ≡ 1 → a.pages ≡ 0 → IsKept a
kept-fresh a n items few rooted maps found free count pages =
    record {
      table = subst IsTable (sym items) (fresh-table n few);
      rooted = subst IsRooted (sym items) rooted;
      maps = maps ∙ sym len;
      found = λ parent name d l. found parent name d (omega (arith, len)) ∙ sym (ap (λ ns. child_of ns parent name) items ∙ fresh-child n parent name);
      free = λ q. free q ∙ fresh-free n q ∙ sym (ap (λ ns. nat_lt q (length ns) && is_none (held_at ns q)) items);
      count = count ∙ sym (ap nodes_in items ∙ fresh-count n);
      pages = pages ∙ sym (ap pages_in items ∙ fresh-pages n);
    } where
      len : length a.nodes.items ≡ n + 1
      len = ap length items ∙ omega (arith, length-replicate {A = Option Held} n None)
