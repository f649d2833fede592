-- A node at another place: which slot is the child of which, and that a table stays one.
use Rattle.std.proofs.Common.{◌≡◌, ℕ, ◌+◌, ◌<◌, Bool, true, false, cond, not, ◌&&◌, ◌==◌, nat_lt, is_none, vec_len, List, length, get_or, set, Option, Some, None, inl, inr, refl, sym, ap, ◌∙◌, subst, arith}
use Rattle.std.specs.Option.{IsSome}
use Rattle.std.specs.BTreeMap as tree
use Rattle.std.specs.BTreeSet as sorted
use Rattle.std.specs.Ordering.{nat_cmp, is_eq}
use Rattle.std.specs.Cmp.Lexicographic.{slice_cmp}
use Rattle.std.proofs.lemmas.Bool.{cases_Bool, false≢true}
use Rattle.std.proofs.Math.Bool.{and-true}
use Rattle.std.proofs.lemmas.Bool.Decides.{Decides-eqb, Decides-ltb}
use Rattle.std.proofs.lemmas.List.{length-set, set-set}
use Rattle.vb_tree.specs.Trees.{pages_of_length}
use Rattle.vb_index.specs.declared.held.Held.{Held}
use Rattle.vb_index.specs.declared.table.Table.TheInside.{Inside}
use Rattle.vb_index.specs.Heights.{IsRooted}
use Rattle.vb_index.specs.Nodes.{held_at, holds_folder, same_name, is_child, child_of, nodes_of_slot, nodes_in, pages_of_slot, pages_in, IsHeld, IsTable}
use Rattle.vb_index.specs.Moves.{placed_in, MayPlace, MayReplace}
use Rattle.vb_index.specs.Tables.{IsKept}
use Rattle.vb_index.proofs.ChildLaws.{is_child-parts, is_child-own, child_of-Some, child_of-fill, child_of-empty}
use Rattle.vb_index.proofs.Tables.{own_places, at_same, at_other, zero_apart, IsTable-empty, nodes_in-set, pages_in-set, folder_in, held_in_table}
use Rattle.vb_index.proofs.Kept.{is_eq-number}

-- a node that gets a place
pub record Moves (nodes : List (Option Held)) (slot : ℕ) (held : Held) (folder : ℕ) (name : List ℕ) : Type 0 where
  pub there : slot < length nodes
  pub above_root : 0 < slot
  pub holds : held_at nodes slot ≡ Some held
  pub in_folder : holds_folder (held_at nodes folder) ≡ true
  pub new_name : child_of nodes folder name ≡ None

none_either : (b : Bool) (o : Option ℕ) → o ≡ None → cond b None o ≡ None
none_either true o h = refl
none_either false o h = h

-- the child of the new name is the slot, that of the old name is gone, and no other changes
pub child_of-place : (nodes : List (Option Held)) (slot : ℕ) (held : Held) (folder : ℕ) (name : List ℕ) → IsTable nodes → Moves nodes slot held folder name → (t : ℕ) (y : List ℕ) → child_of (set nodes slot (Some (placed_in folder name held))) t y ≡ cond (is_child t y (Some (placed_in folder name held))) (Some slot) (cond (is_child t y (Some held)) None (child_of nodes t y))
child_of-place nodes slot held folder name table m t y =
    ap (λ ns. child_of ns t y) (sym (set-set nodes slot None (Some (placed_in folder name held))))
    ∙ child_of-fill (set nodes slot None) slot (placed_in folder name held) (rw length-set m.there) (at_same nodes slot slot None m.there refl) (emptied folder name ∙ none_either (is_child folder name (Some held)) (child_of nodes folder name) m.new_name) t y
    ∙ ap (cond (is_child t y (Some (placed_in folder name held))) (Some slot)) (emptied t y)
  where
    emptied : (t : ℕ) (y : List ℕ) → child_of (set nodes slot None) t y ≡ cond (is_child t y (Some held)) None (child_of nodes t y)
    emptied = child_of-empty nodes slot held m.there m.holds m.above_root (own_places nodes table)

-- a table stays one when a node gets another place
pub IsTable-place : (nodes : List (Option Held)) (slot : ℕ) (held : Held) (folder : ℕ) (name : List ℕ) → IsTable nodes → Moves nodes slot held folder name → IsTable (set nodes slot (Some (placed_in folder name held)))
IsTable-place nodes slot held folder name table m =
    record {
      few = rw length-set table.few;
      root = ap holds_folder (at_other nodes slot 0 (Some new) (zero_apart slot m.above_root)) ∙ table.root;
      fits = fits_all;
      in_folder = λ k one e up. keeps one.node.parent (below k one e up);
      one_name = names;
    } where
      new : Held
      new = placed_in folder name held

      is_new : (k : ℕ) (one : Held) → held_at (set nodes slot (Some (placed_in folder name held))) k ≡ Some one → (k == slot) ≡ true → one ≡ placed_in folder name held
      is_new k one e h = let both : Some one ≡ Some (placed_in folder name held) = sym e ∙ at_same nodes slot k (Some (placed_in folder name held)) m.there ((Decides-eqb k slot).0 h) in cc

      new_fits : IsHeld slot (placed_in folder name held)
      new_fits = let f = table.fits slot held m.holds in record { at_slot = f.at_slot; either = f.either; folder_empty = f.folder_empty; short = f.short; each_page = f.each_page }

      fits_all : (k : ℕ) (one : Held) → held_at (set nodes slot (Some (placed_in folder name held))) k ≡ Some one → IsHeld k one
      fits_all k one e = elim (cases_Bool (k == slot)) [
        | inl h ↦ (let P : Held → Type 0 = λ x. IsHeld k x in let Q : ℕ → Type 0 = λ j. IsHeld j (placed_in folder name held) in subst P (sym (is_new k one e h)) (subst Q (sym ((Decides-eqb k slot).0 h)) new_fits))
        | inr h ↦ table.fits k one (sym (at_other nodes slot k (Some (placed_in folder name held)) h) ∙ e)
      ]

      keeps : (p : ℕ) → holds_folder (held_at nodes p) ≡ true → holds_folder (held_at (set nodes slot (Some (placed_in folder name held))) p) ≡ true
      keeps p f = elim (cases_Bool (p == slot)) [
        | inl h ↦ ap holds_folder (at_same nodes slot p (Some (placed_in folder name held)) m.there ((Decides-eqb p slot).0 h)) ∙ sym (ap holds_folder m.holds) ∙ sym (ap (λ j. holds_folder (held_at nodes j)) ((Decides-eqb p slot).0 h)) ∙ f
        | inr h ↦ ap holds_folder (at_other nodes slot p (Some (placed_in folder name held)) h) ∙ f
      ]

      below : (k : ℕ) (one : Held) → held_at (set nodes slot (Some (placed_in folder name held))) k ≡ Some one → 0 < k → holds_folder (held_at nodes one.node.parent) ≡ true
      below k one e up = elim (cases_Bool (k == slot)) [
        | inl h ↦ ap (λ (x : Held). holds_folder (held_at nodes x.node.parent)) (is_new k one e h) ∙ m.in_folder
        | inr h ↦ table.in_folder k one (sym (at_other nodes slot k (Some (placed_in folder name held)) h) ∙ e) up
      ]

      -- a node of another slot keeps its name to itself
      other_name : (k : ℕ) (one : Held) → held_at nodes k ≡ Some one → 0 < k → (k == slot) ≡ false → cond (is_child one.node.parent one.node.name (Some (placed_in folder name held))) (Some slot) (cond (is_child one.node.parent one.node.name (Some held)) None (child_of nodes one.node.parent one.node.name)) ≡ Some k
      other_name k one e up apart = let old = table.one_name k one e up in elim (cases_Bool (is_child one.node.parent one.node.name (Some (placed_in folder name held)))) [
        | inl g ↦ absurd (let parts = is_child-parts one.node.parent one.node.name (placed_in folder name held) g in
            let nothing : child_of nodes one.node.parent one.node.name ≡ None = ap (λ n. child_of nodes one.node.parent n) (sym parts.2) ∙ ap (λ p. child_of nodes p name) (sym parts.1) ∙ m.new_name in
            let both : Some k ≡ None = sym old ∙ nothing in cc)
        | inr g ↦ ap (λ v. cond v (Some slot) (cond (is_child one.node.parent one.node.name (Some held)) None (child_of nodes one.node.parent one.node.name))) g ∙ (elim (cases_Bool (is_child one.node.parent one.node.name (Some held))) [
          | inr f ↦ ap (λ v. cond v None (child_of nodes one.node.parent one.node.name)) f ∙ old
          | inl f ↦ absurd (let parts = is_child-parts one.node.parent one.node.name held f in
              let found : child_of nodes one.node.parent one.node.name ≡ Some slot = ap (λ n. child_of nodes one.node.parent n) (sym parts.2) ∙ ap (λ p. child_of nodes p held.node.name) (sym parts.1) ∙ table.one_name slot held m.holds m.above_root in
              let both : Some k ≡ Some slot = sym old ∙ found in
              let is : k ≡ slot = cc in
              false≢true (sym apart ∙ (Decides-eqb k slot).1 is))
        ])
      ]

      names : (k : ℕ) (one : Held) → held_at (set nodes slot (Some (placed_in folder name held))) k ≡ Some one → 0 < k → child_of (set nodes slot (Some (placed_in folder name held))) one.node.parent one.node.name ≡ Some k
      names k one e up = child_of-place nodes slot held folder name table m one.node.parent one.node.name ∙ (elim (cases_Bool (k == slot)) [
        | inl h ↦ (let same = is_new k one e h in let at = new_fits.at_slot in
            let own : is_child one.node.parent one.node.name (Some (placed_in folder name held)) ≡ true = ap (λ (x : Held). is_child x.node.parent x.node.name (Some (placed_in folder name held))) same ∙ is_child-own (placed_in folder name held) (omega (arith, at, m.above_root)) in
            ap (λ v. cond v (Some slot) (cond (is_child one.node.parent one.node.name (Some held)) None (child_of nodes one.node.parent one.node.name))) own ∙ ap (λ j. Some j) (sym ((Decides-eqb k slot).0 h)))
        | inr h ↦ other_name k one (sym (at_other nodes slot k (Some (placed_in folder name held)) h) ∙ e) up h
      ])

-- ---- what a table keeps

-- of a new and an old name that are two, it doesn't matter which is looked at first
either_first : (old new : Bool) (slot : ℕ) (x : Option ℕ) → (old ≡ true → new ≡ true → ⊥) → cond old None (cond new (Some slot) x) ≡ cond new (Some slot) (cond old None x)
either_first true true slot x apart = absurd (apart refl refl)
either_first true false slot x apart = refl
either_first false true slot x apart = refl
either_first false false slot x apart = refl

-- the test of a child of a slot that isn't the root's
child_test : (nodes : List (Option Held)) (slot : ℕ) (held : Held) (t : ℕ) (y : List ℕ) → held.node.slot ≡ slot → 0 < slot → is_child t y (Some held) ≡ (held.node.parent == t && same_name held.node.name y)
child_test nodes slot held t y at up = ap (λ v. v && (held.node.parent == t && same_name held.node.name y)) above where
  above : not (held.node.slot == 0) ≡ true
  above = elim (cases_Bool (held.node.slot == 0)) [ inr h ↦ ap not h | inl h ↦ absurd (let zero = (Decides-eqb held.node.slot 0).0 h in omega (arith, zero, at, up)) ]

-- the old and the new place are two
places_apart : (nodes : List (Option Held)) (slot : ℕ) (held : Held) (folder : ℕ) (name : List ℕ) (t : ℕ) (y : List ℕ) → (child_of nodes folder name ≡ Some slot → ⊥) → child_of nodes held.node.parent held.node.name ≡ Some slot → (child : Held) → child.node.parent ≡ folder → child.node.name ≡ name → is_child t y (Some held) ≡ true → is_child t y (Some child) ≡ true → ⊥
places_apart nodes slot held folder name t y other own child is_folder is_name h g =
    let old = is_child-parts t y held h in
    let new = is_child-parts t y child g in
    other (ap (λ n. child_of nodes folder n) (sym is_name ∙ new.2 ∙ sym old.2) ∙ ap (λ p. child_of nodes p held.node.name) (sym is_folder ∙ new.1 ∙ sym old.1) ∙ own)

-- the fields after a node got another place
pub record IsPlaced (a b : Inside) (slot : ℕ) (held : Held) (folder : ℕ) (name : List ℕ) : Type 0 where
  pub nodes : b.nodes.items ≡ set a.nodes.items slot (Some (placed_in folder name held))
  pub maps : vec_len b.children ≡ vec_len a.children
  pub found : (t : ℕ) (y : List ℕ) (d : tree.BTreeMap (List ℕ) ℕ) → t < vec_len a.children → tree.get (slice_cmp nat_cmp) (get_or b.children.items t d) y ≡ cond (held.node.parent == t && same_name held.node.name y) None (cond (folder == t && same_name name y) (Some slot) (tree.get (slice_cmp nat_cmp) (get_or a.children.items t d) y))
  pub free : b.free ≡ a.free
  pub count : b.count ≡ a.count
  pub pages : b.pages ≡ a.pages

-- a slot is free as before
none_same : (nodes : List (Option Held)) (slot : ℕ) (held : Held) (folder : ℕ) (name : List ℕ) (q : ℕ) → slot < length nodes → held_at nodes slot ≡ Some held → is_none (held_at (set nodes slot (Some (placed_in folder name held))) q) ≡ is_none (held_at nodes q)
none_same nodes slot held folder name q l holds = elim (cases_Bool (q == slot)) [
  | inr h ↦ ap is_none (at_other nodes slot q (Some (placed_in folder name held)) h)
  | inl h ↦ ap is_none (at_same nodes slot q (Some (placed_in folder name held)) l ((Decides-eqb q slot).0 h)) ∙ sym (ap is_none (ap (held_at nodes) ((Decides-eqb q slot).0 h) ∙ holds))
]

-- the totals as before
pub sums_same : (nodes : List (Option Held)) (slot : ℕ) (held : Held) (folder : ℕ) (name : List ℕ) → slot < length nodes → held_at nodes slot ≡ Some held → (nodes_in (set nodes slot (Some (placed_in folder name held))) ≡ nodes_in nodes) × (pages_in (set nodes slot (Some (placed_in folder name held))) ≡ pages_in nodes)
sums_same nodes slot held folder name l holds =
    let n = nodes_in-set nodes slot (Some (placed_in folder name held)) l in
    let p = pages_in-set nodes slot (Some (placed_in folder name held)) l in
    (omega (arith, n, ap nodes_of_slot holds), omega (arith, p, ap pages_of_slot holds))

pub kept-place : (a b : Inside) (slot : ℕ) (held : Held) (folder : ℕ) (name : List ℕ) → IsKept a → Moves a.nodes.items slot held folder name → IsRooted (set a.nodes.items slot (Some (placed_in folder name held))) → IsPlaced a b slot held folder name → IsKept b
kept-place a b slot held folder name k m r s =
    record {
      table = subst IsTable (sym s.nodes) (IsTable-place a.nodes.items slot held folder name k.table m);
      rooted = subst IsRooted (sym s.nodes) r;
      maps = s.maps ∙ k.maps ∙ sym len;
      found = found;
      free = free;
      count = s.count ∙ k.count ∙ sym (ap nodes_in s.nodes ∙ sums.0);
      pages = s.pages ∙ k.pages ∙ sym (ap pages_in s.nodes ∙ sums.1);
    } where
      len : length b.nodes.items ≡ length a.nodes.items
      len = ap length s.nodes ∙ length-set a.nodes.items slot (Some (placed_in folder name held))

      sums : (nodes_in (set a.nodes.items slot (Some (placed_in folder name held))) ≡ nodes_in a.nodes.items) × (pages_in (set a.nodes.items slot (Some (placed_in folder name held))) ≡ pages_in a.nodes.items)
      sums = sums_same a.nodes.items slot held folder name m.there m.holds

      at : held.node.slot ≡ slot
      at = (k.table.fits slot held m.holds).at_slot

      other : child_of a.nodes.items folder name ≡ Some slot → ⊥
      other e = let both : None ≡ Some slot = sym m.new_name ∙ e in cc

      found : (t : ℕ) (y : List ℕ) (d : tree.BTreeMap (List ℕ) ℕ) → t < length b.nodes.items → tree.get (slice_cmp nat_cmp) (get_or b.children.items t d) y ≡ child_of b.nodes.items t y
      found t y d l =
          s.found t y d (omega (arith, len, k.maps))
          ∙ ap (λ o. cond (held.node.parent == t && same_name held.node.name y) None (cond (folder == t && same_name name y) (Some slot) o)) (k.found t y d (omega (arith, len)))
          ∙ sym (ap (λ v. cond v None (cond (folder == t && same_name name y) (Some slot) (child_of a.nodes.items t y))) (child_test a.nodes.items slot held t y at m.above_root))
          ∙ sym (ap (λ v. cond (is_child t y (Some held)) None (cond v (Some slot) (child_of a.nodes.items t y))) (child_test a.nodes.items slot (placed_in folder name held) t y at m.above_root))
          ∙ either_first (is_child t y (Some held)) (is_child t y (Some (placed_in folder name held))) slot (child_of a.nodes.items t y) (places_apart a.nodes.items slot held folder name t y other (k.table.one_name slot held m.holds m.above_root) (placed_in folder name held) refl refl)
          ∙ sym (child_of-place a.nodes.items slot held folder name k.table m t y)
          ∙ sym (ap (λ ns. child_of ns t y) s.nodes)

      free : (q : ℕ) → sorted.contains nat_cmp b.free q ≡ (nat_lt q (length b.nodes.items) && is_none (held_at b.nodes.items q))
      free q = ap (λ f. sorted.contains nat_cmp f q) s.free ∙ k.free q ∙ sym (ap (λ n. nat_lt q n && is_none (held_at b.nodes.items q)) len ∙ ap (λ v. nat_lt q (length a.nodes.items) && v) (ap (λ ns. is_none (held_at ns q)) s.nodes ∙ none_same a.nodes.items slot held folder name q m.there m.holds))

-- ---- a node in the place of another

-- a node that replaces another
pub record Replaces (nodes : List (Option Held)) (slot : ℕ) (held : Held) (other : ℕ) (gone : Held) (folder : ℕ) (name : List ℕ) : Type 0 where
  pub there : slot < length nodes
  pub above_root : 0 < slot
  pub holds : held_at nodes slot ≡ Some held
  pub other_there : other < length nodes
  pub other_above : 0 < other
  pub other_holds : held_at nodes other ≡ Some gone
  pub apart : slot ≡ other → ⊥
  pub taken : child_of nodes folder name ≡ Some other
  pub bare : (entry : List ℕ) → child_of nodes other entry ≡ None

-- the place of a child
pub child-place : (nodes : List (Option Held)) (folder : ℕ) (name : List ℕ) (other : ℕ) (gone : Held) → IsTable nodes → child_of nodes folder name ≡ Some other → held_at nodes other ≡ Some gone → (0 < other) × (gone.node.parent ≡ folder) × (gone.node.name ≡ name)
child-place nodes folder name other gone table taken holds =
    let parts = is_child-parts folder name gone (sym (ap (is_child folder name) holds) ∙ (child_of-Some nodes folder name other taken).1) in
    (omega (arith, parts.0, (table.fits other gone holds).at_slot), parts.1, parts.2)

-- the folder of a child is in the table
pub taken-in : (nodes : List (Option Held)) (folder : ℕ) (name : List ℕ) (other : ℕ) → IsTable nodes → child_of nodes folder name ≡ Some other → folder < length nodes
taken-in nodes folder name other table taken = by (held_at nodes other) refl where
  by : (o : Option Held) → held_at nodes other ≡ o → folder < length nodes
  by None e = absurd (false≢true (sym (ap (is_child folder name) e) ∙ (child_of-Some nodes folder name other taken).1))
  by (Some gone) e = let place = child-place nodes folder name other gone table taken e in
      folder_in nodes folder (ap (λ p. holds_folder (held_at nodes p)) (sym place.1) ∙ table.in_folder other gone e place.0)

-- the node gets its place once the other is gone
pub replaces-moves : (nodes : List (Option Held)) (slot : ℕ) (held : Held) (other : ℕ) (gone : Held) (folder : ℕ) (name : List ℕ) → IsTable nodes → Replaces nodes slot held other gone folder name → Moves (set nodes other None) slot held folder name
replaces-moves nodes slot held other gone folder name table r =
    record {
      there = rw length-set r.there;
      above_root = r.above_root;
      holds = at_other nodes other slot None (apart_test slot r.apart) ∙ r.holds;
      in_folder = ap holds_folder (at_other nodes other folder None (apart_test folder outside)) ∙ ap (λ p. holds_folder (held_at nodes p)) (sym place.1) ∙ table.in_folder other gone r.other_holds r.other_above;
      new_name = child_of-empty nodes other gone r.other_there r.other_holds r.other_above (own_places nodes table) folder name ∙ ap (λ v. cond v None (child_of nodes folder name)) own;
    } where
      place : (0 < other) × (gone.node.parent ≡ folder) × (gone.node.name ≡ name)
      place = child-place nodes folder name other gone table r.taken r.other_holds

      own : is_child folder name (Some gone) ≡ true
      own = sym (ap (is_child folder name) r.other_holds) ∙ (child_of-Some nodes folder name other r.taken).1

      apart_test : (k : ℕ) → (k ≡ other → ⊥) → (k == other) ≡ false
      apart_test k h = elim (cases_Bool (k == other)) [ inr e ↦ e | inl e ↦ absurd (h ((Decides-eqb k other).0 e)) ]

      outside : folder ≡ other → ⊥
      outside e = let both : Some other ≡ None = sym r.taken ∙ ap (λ p. child_of nodes p name) e ∙ r.bare name in cc

-- the fields after a node replaced another
pub record IsReplaced (a b : Inside) (slot : ℕ) (held : Held) (other : ℕ) (gone : Held) (folder : ℕ) (name : List ℕ) : Type 0 where
  pub nodes : b.nodes.items ≡ set (set a.nodes.items other None) slot (Some (placed_in folder name held))
  pub maps : vec_len b.children ≡ vec_len a.children
  pub found : (t : ℕ) (y : List ℕ) (d : tree.BTreeMap (List ℕ) ℕ) → t < vec_len a.children → tree.get (slice_cmp nat_cmp) (get_or b.children.items t d) y ≡ cond (held.node.parent == t && same_name held.node.name y) None (cond (folder == t && same_name name y) (Some slot) (tree.get (slice_cmp nat_cmp) (get_or a.children.items t d) y))
  pub free : (q : ℕ) → sorted.contains nat_cmp b.free q ≡ cond (is_eq (nat_cmp other q)) true (sorted.contains nat_cmp a.free q)
  pub count : b.count + 1 ≡ a.count
  pub pages : b.pages + pages_of_length gone.node.length ≡ a.pages

-- what stood in the place before doesn't matter
over_old : (old new : Bool) (slot : ℕ) (x : Option ℕ) → cond new (Some slot) (cond old None x) ≡ cond new (Some slot) (cond old None (cond new None x))
over_old old true slot x = refl
over_old true false slot x = refl
over_old false false slot x = refl

pub kept-replace : (a b : Inside) (slot : ℕ) (held : Held) (other : ℕ) (gone : Held) (folder : ℕ) (name : List ℕ) → IsKept a → Replaces a.nodes.items slot held other gone folder name → IsRooted (set (set a.nodes.items other None) slot (Some (placed_in folder name held))) → IsReplaced a b slot held other gone folder name → IsKept b
kept-replace a b slot held other gone folder name k r rooted s =
    record {
      table = subst IsTable (sym s.nodes) (IsTable-place (set a.nodes.items other None) slot held folder name less m);
      rooted = subst IsRooted (sym s.nodes) rooted;
      maps = s.maps ∙ k.maps ∙ sym len;
      found = found;
      free = free;
      count = (let cut = nodes_in-set a.nodes.items other None r.other_there in omega (arith, cut, ap nodes_of_slot r.other_holds, ap nodes_in s.nodes ∙ sums.0, s.count, k.count));
      pages = (let cut = pages_in-set a.nodes.items other None r.other_there in omega (arith, cut, ap pages_of_slot r.other_holds, ap pages_in s.nodes ∙ sums.1, s.pages, k.pages));
    } where
      less : IsTable (set a.nodes.items other None)
      less = IsTable-empty a.nodes.items other gone k.table r.other_there r.other_above r.other_holds r.bare

      m : Moves (set a.nodes.items other None) slot held folder name
      m = replaces-moves a.nodes.items slot held other gone folder name k.table r

      cut_len : length (set a.nodes.items other None) ≡ length a.nodes.items
      cut_len = length-set a.nodes.items other None

      len : length b.nodes.items ≡ length a.nodes.items
      len = ap length s.nodes ∙ length-set (set a.nodes.items other None) slot (Some (placed_in folder name held)) ∙ cut_len

      sums : (nodes_in (set (set a.nodes.items other None) slot (Some (placed_in folder name held))) ≡ nodes_in (set a.nodes.items other None)) × (pages_in (set (set a.nodes.items other None) slot (Some (placed_in folder name held))) ≡ pages_in (set a.nodes.items other None))
      sums = sums_same (set a.nodes.items other None) slot held folder name m.there m.holds

      at : held.node.slot ≡ slot
      at = (k.table.fits slot held r.holds).at_slot

      place : (0 < other) × (gone.node.parent ≡ folder) × (gone.node.name ≡ name)
      place = child-place a.nodes.items folder name other gone k.table r.taken r.other_holds

      theirs : child_of a.nodes.items folder name ≡ Some slot → ⊥
      theirs e = r.apart (let both : Some slot ≡ Some other = sym e ∙ r.taken in cc)

      -- the test of the place is that of the node that was there
      same_test : (t : ℕ) (y : List ℕ) → is_child t y (Some gone) ≡ is_child t y (Some (placed_in folder name held))
      same_test t y =
          child_test a.nodes.items other gone t y (k.table.fits other gone r.other_holds).at_slot r.other_above
          ∙ ap (λ p. p == t && same_name gone.node.name y) place.1
          ∙ ap (λ n. folder == t && same_name n y) place.2
          ∙ sym (child_test a.nodes.items slot (placed_in folder name held) t y at r.above_root)

      found : (t : ℕ) (y : List ℕ) (d : tree.BTreeMap (List ℕ) ℕ) → t < length b.nodes.items → tree.get (slice_cmp nat_cmp) (get_or b.children.items t d) y ≡ child_of b.nodes.items t y
      found t y d l =
          s.found t y d (omega (arith, len, k.maps))
          ∙ ap (λ o. cond (held.node.parent == t && same_name held.node.name y) None (cond (folder == t && same_name name y) (Some slot) o)) (k.found t y d (omega (arith, len)))
          ∙ sym (ap (λ v. cond v None (cond (folder == t && same_name name y) (Some slot) (child_of a.nodes.items t y))) (child_test a.nodes.items slot held t y at r.above_root))
          ∙ sym (ap (λ v. cond (is_child t y (Some held)) None (cond v (Some slot) (child_of a.nodes.items t y))) (child_test a.nodes.items slot (placed_in folder name held) t y at r.above_root))
          ∙ either_first (is_child t y (Some held)) (is_child t y (Some (placed_in folder name held))) slot (child_of a.nodes.items t y) (places_apart a.nodes.items slot held folder name t y theirs (k.table.one_name slot held r.holds r.above_root) (placed_in folder name held) refl refl)
          ∙ over_old (is_child t y (Some held)) (is_child t y (Some (placed_in folder name held))) slot (child_of a.nodes.items t y)
          ∙ sym (ap (λ v. cond (is_child t y (Some (placed_in folder name held))) (Some slot) (cond (is_child t y (Some held)) None (cond v None (child_of a.nodes.items t y)))) (same_test t y))
          ∙ sym (ap (λ o. cond (is_child t y (Some (placed_in folder name held))) (Some slot) (cond (is_child t y (Some held)) None o)) (child_of-empty a.nodes.items other gone r.other_there r.other_holds r.other_above (own_places a.nodes.items k.table) t y))
          ∙ sym (child_of-place (set a.nodes.items other None) slot held folder name less m t y)
          ∙ sym (ap (λ ns. child_of ns t y) s.nodes)

      inside : nat_lt other (length a.nodes.items) ≡ true
      inside = (Decides-ltb other (length a.nodes.items)).1 r.other_there

      still : (q : ℕ) → (nat_lt q (length b.nodes.items) && is_none (held_at b.nodes.items q)) ≡ (nat_lt q (length a.nodes.items) && is_none (held_at (set a.nodes.items other None) q))
      still q = ap (λ n. nat_lt q n && is_none (held_at b.nodes.items q)) len ∙ ap (λ v. nat_lt q (length a.nodes.items) && v) (ap (λ ns. is_none (held_at ns q)) s.nodes ∙ none_same (set a.nodes.items other None) slot held folder name q m.there m.holds)

      free : (q : ℕ) → sorted.contains nat_cmp b.free q ≡ (nat_lt q (length b.nodes.items) && is_none (held_at b.nodes.items q))
      free q = s.free q ∙ ap (λ v. cond v true (sorted.contains nat_cmp a.free q)) (is_eq-number other q) ∙ (elim (cases_Bool (q == other)) [
        | inl h ↦ ap (λ v. cond v true (sorted.contains nat_cmp a.free q)) h ∙ sym (still q ∙ ap (λ o. nat_lt q (length a.nodes.items) && is_none o) (at_same a.nodes.items other q None r.other_there ((Decides-eqb q other).0 h)) ∙ and-true (nat_lt q (length a.nodes.items)) ∙ ap (λ j. nat_lt j (length a.nodes.items)) ((Decides-eqb q other).0 h) ∙ inside)
        | inr h ↦ ap (λ v. cond v true (sorted.contains nat_cmp a.free q)) h ∙ k.free q ∙ sym (still q ∙ ap (λ o. nat_lt q (length a.nodes.items) && is_none o) (at_other a.nodes.items other q None h))
      ])

-- ---- what is given

-- what a slot holds, where it holds something
pub held_there : (o : Option Held) → IsSome o → (held : Held) × (o ≡ Some held)
held_there (Some held) h = (held, refl)
held_there None h = absurd (false≢true h)

pub may-moves : (nodes : List (Option Held)) (slot folder : ℕ) (name : List ℕ) (held : Held) → IsTable nodes → MayPlace nodes slot folder name → held_at nodes slot ≡ Some held → Moves nodes slot held folder name
may-moves nodes slot folder name held table may holds = record { there = held_in_table nodes slot held holds; above_root = may.above_root; holds = holds; in_folder = may.in_folder; new_name = may.new_name }

pub may-replaces : (nodes : List (Option Held)) (slot other folder : ℕ) (name : List ℕ) (held gone : Held) → IsTable nodes → MayReplace nodes slot other folder name → held_at nodes slot ≡ Some held → held_at nodes other ≡ Some gone → Replaces nodes slot held other gone folder name
may-replaces nodes slot other folder name held gone table may holds goes =
    let place = child-place nodes folder name other gone table may.taken goes in
    record {
      there = held_in_table nodes slot held holds;
      above_root = may.above_root;
      holds = holds;
      other_there = held_in_table nodes other gone goes;
      other_above = place.0;
      other_holds = goes;
      apart = may.apart;
      taken = may.taken;
      bare = may.bare;
    }
