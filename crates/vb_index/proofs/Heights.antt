-- The path of each slot: the nodes hang on the root at the begin and after each change.
use Rattle.std.proofs.Common.{◌≡◌, ℕ, zero, suc, ◌+◌, ◌<◌, ◌≤◌, true, false, cond, ◌||◌, ◌==◌, nat_lt, List, [], ◌∷◌, ◌++◌, length, drop, set, replicate, Option, Some, None, ◌⊎◌, inl, inr, refl, sym, ap, ◌∙◌, subst, arith, length-append}
use Rattle.std.specs.List.{AllByRecursion}
use Rattle.std.specs.Option.{option_and_then}
use Rattle.std.proofs.lemmas.Bool.{cases_Bool, false≢true, le-ltb}
use Rattle.std.proofs.lemmas.Bool.Decides.{Decides-eqb}
use Rattle.vb_path.specs.Parts.{IsPart}
use Rattle.vb_path.specs.Paths.{text_of_path, IsPath}
use Rattle.vb_path.proofs.PartLaws.{parts_are_parts, path_makes_parts}
use Rattle.vb_tree.specs.Trees.{is_root, parent_of, name_of}
use Rattle.vb_tree.specs.Renames.{is_deep, is_within, moved_path, path_after}
use Rattle.vb_tree.proofs.Within.{within-parts}
use Rattle.vb_index.specs.declared.held.Held.{Held}
use Rattle.vb_index.specs.Heights.{parent_in, parent_at, path_up, path_to, IsRooted, FitsBelow, StaysShallow, MayStand}
use Rattle.vb_index.specs.Indexes.{IsPlace}
use Rattle.vb_index.specs.Listings.{name_in, name_at}
use Rattle.vb_index.specs.Moves.{placed_in, IsMove}
use Rattle.vb_index.specs.Nodes.{root_held, held_at, holds_folder, child_of, slot_at, slot_below, IsTable}
use Rattle.vb_index.proofs.Beginnings.{none_at, fresh-table}
use Rattle.vb_index.proofs.ChildLaws.{is_child-own, child_of-fill}
use Rattle.vb_index.proofs.Depths.{few-parts, walk-append}
use Rattle.vb_index.proofs.Growth.{path-split, slot_holds, Fills, fill-differs}
use Rattle.vb_index.proofs.MovedShapes.{root_is, walk-emptied, gone-emptied, placed-walk, folder-outside}
use Rattle.vb_index.proofs.MovedTrees.{path-back, after-in, after-out}
use Rattle.vb_index.proofs.Newness.{has_parts}
use Rattle.vb_index.proofs.Places.{Moves, Replaces, child-place, replaces-moves, IsTable-place}
use Rattle.vb_index.proofs.Resizing.{Changes, IsTable-changed, slot_at-kept}
use Rattle.vb_index.proofs.Shrinking.{Leaves}
use Rattle.vb_index.proofs.Tables.{table-forest, at_same, at_other, zero_apart, held_in_table, IsTable-fill, IsTable-empty}
use Rattle.vb_index.proofs.Walks.{snoc-ind, last_step, walk-snoc, walk-alone, walk-changed, DifferInLeaf}

-- ---- the path of a slot

not_zero : (slot : ℕ) → 0 < slot → (slot == 0) ≡ false
not_zero slot h = elim (cases_Bool (slot == 0)) [ inr e ↦ e | inl e ↦ absurd (let is = (Decides-eqb slot 0).0 e in omega arith) ]

abbrev Led : List (Option Held) → List (List ℕ) → Type 0
Led nodes path = (steps slot : ℕ) → slot_at nodes path ≡ Some slot → length path ≤ steps → path_up nodes steps slot ≡ path

-- where a path leads, the parents make that path
path_up-led : (nodes : List (Option Held)) → IsTable nodes → (path : List (List ℕ)) → Led nodes path
path_up-led nodes table = snoc-ind (Led nodes) root more where
  root : Led nodes []
  root zero slot at le = refl
  root (suc n) slot at le = let zero : 0 ≡ slot = (let both : Some 0 ≡ Some slot = at in cc) in ap (path_up nodes (suc n)) (sym zero)

  more : (q : List (List ℕ)) (y : List ℕ) → Led nodes q → Led nodes (q ++ y ∷ [])
  more q y ih zero slot at le = absurd (omega (arith, length-append q (y ∷ [])))
  more q y ih (suc n) slot at le =
      let last = last_step (child_of nodes) q y slot at in
      let held = slot_holds nodes table (q ++ y ∷ []) slot at in
      let place = child-place nodes last.0 y slot held.0 table last.2 held.1 in
      ap (λ b. cond b [] (path_up nodes n (parent_at nodes slot) ++ name_at nodes slot ∷ [])) (not_zero slot place.0)
      ∙ ap (λ o. path_up nodes n (parent_in o) ++ name_in o ∷ []) held.1
      ∙ ap (λ p. path_up nodes n p ++ held.0.node.name ∷ []) place.1
      ∙ ap (λ x. path_up nodes n last.0 ++ x ∷ []) place.2
      ∙ ap (λ p. p ++ y ∷ []) (ih n last.0 last.1 (omega (arith, length-append q (y ∷ []))))

-- a path that leads to a slot and isn't too deep is that slot's
path_to-by : (nodes : List (Option Held)) (path : List (List ℕ)) (slot : ℕ) → IsTable nodes → slot_at nodes path ≡ Some slot → is_deep path ≡ false → path_to nodes slot ≡ path
unfolding path_to
path_to-by nodes path slot table at fits = path_up-led nodes table path 32 slot at (few-parts (length (text_of_path path)) (length path) fits)

-- of nodes that hang on the root, every path that leads to a slot is that slot's
pub path_to-is : (nodes : List (Option Held)) (path : List (List ℕ)) (slot : ℕ) → IsTable nodes → IsRooted nodes → slot_at nodes path ≡ Some slot → path_to nodes slot ≡ path
path_to-is nodes path slot table rooted at =
    let held = slot_holds nodes table path slot at in
    walk-alone (child_of nodes) (table-forest nodes table) (path_to nodes slot) path slot (rooted.leads slot held.0 held.1) at

-- a path leads to a slot, and isn't too deep
record IsReached (nodes : List (Option Held)) (slot : ℕ) : Type 0 where
  path : List (List ℕ)
  at : slot_at nodes path ≡ Some slot
  fits : is_deep path ≡ false

-- nodes hang on the root where a path leads to each
rooted-by : (nodes : List (Option Held)) → IsTable nodes → parent_at nodes 0 ≡ 0 → name_at nodes 0 ≡ [] → ((slot : ℕ) (held : Held) → held_at nodes slot ≡ Some held → 0 < slot → IsPart held.node.name) → ((slot : ℕ) (held : Held) → held_at nodes slot ≡ Some held → IsReached nodes slot) → IsRooted nodes
rooted-by nodes table own none valid reach = record {
  own_parent = own;
  no_name = none;
  valid = valid;
  leads = λ slot held e. (let r = reach slot held e in ap (slot_at nodes) (path_to-by nodes r.path slot table r.at r.fits) ∙ r.at);
  shallow = λ slot held e. (let r = reach slot held e in ap is_deep (path_to-by nodes r.path slot table r.at r.fits) ∙ r.fits);
}

-- ---- what a slot held before a change

abbrev Was : List (Option Held) → ℕ → Held → ℕ → Held → Type 0
Was nodes slot new k one = ((k ≡ slot) × (one ≡ new)) ⊎ ((k ≡ slot → ⊥) × (held_at nodes k ≡ Some one))

was : (nodes : List (Option Held)) (slot : ℕ) (new : Held) (k : ℕ) (one : Held) → slot < length nodes → held_at (set nodes slot (Some new)) k ≡ Some one → Was nodes slot new k one
was nodes slot new k one l e = elim (cases_Bool (k == slot)) [
  | inl h ↦ (let is : k ≡ slot = (Decides-eqb k slot).0 h in
      let both : Some one ≡ Some new = sym e ∙ at_same nodes slot k (Some new) l is in
      let same : one ≡ new = cc in
      inl (is, same))
  | inr h ↦ inr ((λ is. false≢true (sym h ∙ (Decides-eqb k slot).1 is)), sym (at_other nodes slot k (Some new) h) ∙ e)
]

-- what holds a folder holds something
folder-held : (o : Option Held) → holds_folder o ≡ true → (held : Held) × (o ≡ Some held)
folder-held None h = absurd (false≢true h)
folder-held (Some held) h = (held, refl)

-- the path of a folder leads there
folder-leads : (nodes : List (Option Held)) (folder : ℕ) → IsRooted nodes → holds_folder (held_at nodes folder) ≡ true → slot_at nodes (path_to nodes folder) ≡ Some folder
folder-leads nodes folder rooted h = let held = folder-held (held_at nodes folder) h in rooted.leads folder held.0 held.1

-- ---- changes

-- a root and nothing else
pub rooted-fresh : (n : ℕ) → n + 1 ≤ 65536 → IsRooted (Some root_held ∷ replicate n None)
rooted-fresh n few = rooted-by (Some root_held ∷ replicate n None) (fresh-table n few) refl refl (λ k one e up. absurd (none k one e up)) reach where
  none : (k : ℕ) (one : Held) → held_at (Some root_held ∷ replicate n None) k ≡ Some one → 0 < k → ⊥
  none zero one e up = omega arith
  none (suc k) one e up = let both : None ≡ Some one = sym (none_at n k) ∙ e in cc

  reach : (k : ℕ) (one : Held) → held_at (Some root_held ∷ replicate n None) k ≡ Some one → IsReached (Some root_held ∷ replicate n None) k
  reach zero one e = record { path = []; at = refl; fits = refl }
  reach (suc k) one e = absurd (none (suc k) one e (omega arith))

-- a new node under a valid name, at a path that isn't too deep
pub rooted-fill : (nodes : List (Option Held)) (slot : ℕ) (held : Held) → IsTable nodes → IsRooted nodes → Fills nodes slot held → IsPart held.node.name → is_deep (path_to nodes held.node.parent ++ held.node.name ∷ []) ≡ false → IsRooted (set nodes slot (Some held))
rooted-fill nodes slot held table rooted f valid fits =
    rooted-by (set nodes slot (Some held)) (IsTable-fill nodes slot held table f.there f.above_root f.free f.in_folder f.new_name f.fits)
    (ap parent_in root ∙ rooted.own_parent) (ap name_in root ∙ rooted.no_name) names reach
  where
    root : held_at (set nodes slot (Some held)) 0 ≡ held_at nodes 0
    root = at_other nodes slot 0 (Some held) (zero_apart slot f.above_root)

    names : (k : ℕ) (one : Held) → held_at (set nodes slot (Some held)) k ≡ Some one → 0 < k → IsPart one.node.name
    names k one e up = elim (was nodes slot held k one f.there e) [
      | inl h ↦ subst (λ (x : Held). IsPart x.node.name) (sym h.1) valid
      | inr h ↦ rooted.valid k one h.1 up
    ]

    there : slot_at nodes (path_to nodes held.node.parent) ≡ Some held.node.parent
    there = folder-leads nodes held.node.parent rooted f.in_folder

    differs : DifferInLeaf (child_of nodes) (child_of (set nodes slot (Some held))) held.node.parent held.node.name
    differs = fill-differs nodes slot held table f

    child : child_of (set nodes slot (Some held)) held.node.parent held.node.name ≡ Some slot
    child = child_of-fill nodes slot held f.there f.free f.new_name held.node.parent held.node.name ∙ ap (λ v. cond v (Some slot) (child_of nodes held.node.parent held.node.name)) (is_child-own held (omega (arith, f.fits.at_slot, f.above_root)))

    new : slot_at (set nodes slot (Some held)) (path_to nodes held.node.parent ++ held.node.name ∷ []) ≡ Some slot
    new = elim (walk-changed (child_of nodes) (child_of (set nodes slot (Some held))) held.node.parent held.node.name (path_to nodes held.node.parent) differs there (path_to nodes held.node.parent ++ held.node.name ∷ [])) [
      | inl w ↦ w.1 ∙ child
      | inr w ↦ absurd (w.0 refl)
    ]

    old : (k : ℕ) (one : Held) → held_at nodes k ≡ Some one → slot_at (set nodes slot (Some held)) (path_to nodes k) ≡ Some k
    old k one e = elim (walk-changed (child_of nodes) (child_of (set nodes slot (Some held))) held.node.parent held.node.name (path_to nodes held.node.parent) differs there (path_to nodes k)) [
      | inl w ↦ absurd (let both : Some k ≡ None = sym (rooted.leads k one e) ∙ ap (slot_at nodes) w.0 ∙ walk-snoc (child_of nodes) 0 (path_to nodes held.node.parent) held.node.name ∙ ap (option_and_then (λ t. child_of nodes t held.node.name)) there ∙ f.new_name in cc)
      | inr w ↦ w.1 ∙ rooted.leads k one e
    ]

    reach : (k : ℕ) (one : Held) → held_at (set nodes slot (Some held)) k ≡ Some one → IsReached (set nodes slot (Some held)) k
    reach k one e = elim (was nodes slot held k one f.there e) [
      | inl h ↦ record { path = path_to nodes held.node.parent ++ held.node.name ∷ []; at = new ∙ ap (λ j. Some j) (sym h.0); fits = fits }
      | inr h ↦ record { path = path_to nodes k; at = old k one h.1; fits = rooted.shallow k one h.1 }
    ]

-- a node without children leaves
pub rooted-empty : (nodes : List (Option Held)) (slot : ℕ) (held : Held) → IsTable nodes → IsRooted nodes → Leaves nodes slot held → IsRooted (set nodes slot None)
rooted-empty nodes slot held table rooted l =
    rooted-by (set nodes slot None) (IsTable-empty nodes slot held table l.there l.above_root l.holds l.bare)
    (ap parent_in root ∙ rooted.own_parent) (ap name_in root ∙ rooted.no_name) (λ k one e up. rooted.valid k one (old k one e).1 up) reach
  where
    root : held_at (set nodes slot None) 0 ≡ held_at nodes 0
    root = at_other nodes slot 0 None (zero_apart slot l.above_root)

    old : (k : ℕ) (one : Held) → held_at (set nodes slot None) k ≡ Some one → (k ≡ slot → ⊥) × (held_at nodes k ≡ Some one)
    old k one e = elim (cases_Bool (k == slot)) [
      | inl h ↦ absurd (let both : None ≡ Some one = sym (at_same nodes slot k None l.there ((Decides-eqb k slot).0 h)) ∙ e in cc)
      | inr h ↦ ((λ is. false≢true (sym h ∙ (Decides-eqb k slot).1 is)), sym (at_other nodes slot k None h) ∙ e)
    ]

    there : slot_at nodes (path_to nodes held.node.parent) ≡ Some held.node.parent
    there = folder-leads nodes held.node.parent rooted (table.in_folder slot held l.holds l.above_root)

    own : slot_at nodes (path_to nodes held.node.parent ++ held.node.name ∷ []) ≡ Some slot
    own = walk-snoc (child_of nodes) 0 (path_to nodes held.node.parent) held.node.name ∙ ap (option_and_then (λ t. child_of nodes t held.node.name)) there ∙ table.one_name slot held l.holds l.above_root

    reach : (k : ℕ) (one : Held) → held_at (set nodes slot None) k ≡ Some one → IsReached (set nodes slot None) k
    reach k one e =
        let b = old k one e in
        let leads = rooted.leads k one b.1 in
        record {
          path = path_to nodes k;
          at = walk-emptied nodes slot held (path_to nodes held.node.parent) (path_to nodes k) table l.there l.above_root l.holds l.bare there (λ is.
              let both : Some k ≡ Some slot = sym leads ∙ ap (slot_at nodes) is ∙ own in
              let same : k ≡ slot = cc in
              b.0 same) ∙ leads;
          fits = rooted.shallow k one b.1;
        }

-- what a slot holds changes in neither parent nor name
pub rooted-changed : (nodes : List (Option Held)) (slot : ℕ) (old new : Held) → IsTable nodes → IsRooted nodes → Changes nodes slot old new → IsRooted (set nodes slot (Some new))
rooted-changed nodes slot old new table rooted c =
    rooted-by (set nodes slot (Some new)) (IsTable-changed nodes slot old new table c)
    (parent 0 ∙ rooted.own_parent) (name 0 ∙ rooted.no_name) names reach
  where
    l : slot < length nodes
    l = held_in_table nodes slot old c.holds

    parent : (k : ℕ) → parent_at (set nodes slot (Some new)) k ≡ parent_at nodes k
    parent k = elim (cases_Bool (k == slot)) [
      | inr h ↦ ap parent_in (at_other nodes slot k (Some new) h)
      | inl h ↦ ap parent_in (at_same nodes slot k (Some new) l ((Decides-eqb k slot).0 h)) ∙ c.same_parent ∙ sym (ap parent_in (ap (held_at nodes) ((Decides-eqb k slot).0 h) ∙ c.holds))
    ]

    name : (k : ℕ) → name_at (set nodes slot (Some new)) k ≡ name_at nodes k
    name k = elim (cases_Bool (k == slot)) [
      | inr h ↦ ap name_in (at_other nodes slot k (Some new) h)
      | inl h ↦ ap name_in (at_same nodes slot k (Some new) l ((Decides-eqb k slot).0 h)) ∙ c.same_name ∙ sym (ap name_in (ap (held_at nodes) ((Decides-eqb k slot).0 h) ∙ c.holds))
    ]

    names : (k : ℕ) (one : Held) → held_at (set nodes slot (Some new)) k ≡ Some one → 0 < k → IsPart one.node.name
    names k one e up = elim (was nodes slot new k one l e) [
      | inl h ↦ subst IsPart (sym (ap (λ (x : Held). x.node.name) h.1 ∙ c.same_name)) (rooted.valid slot old c.holds (omega (arith, h.0)))
      | inr h ↦ rooted.valid k one h.1 up
    ]

    stays : (k : ℕ) (one : Held) → held_at nodes k ≡ Some one → IsReached (set nodes slot (Some new)) k
    stays k one e = record { path = path_to nodes k; at = slot_at-kept nodes slot old new c (path_to nodes k) ∙ rooted.leads k one e; fits = rooted.shallow k one e }

    reach : (k : ℕ) (one : Held) → held_at (set nodes slot (Some new)) k ≡ Some one → IsReached (set nodes slot (Some new)) k
    reach k one e = elim (was nodes slot new k one l e) [
      | inl h ↦ stays k old (ap (held_at nodes) h.0 ∙ c.holds)
      | inr h ↦ stays k one h.1
    ]

-- ---- moves

-- a node at another place, by the paths of the node and of its new folder
placed : (nodes : List (Option Held)) (slot : ℕ) (held : Held) (folder : ℕ) (name : List ℕ) (source at : List (List ℕ)) → IsTable nodes → IsRooted nodes → Moves nodes slot held folder name → IsPart name → slot_at nodes source ≡ Some slot → slot_at nodes at ≡ Some folder → is_within source at ≡ false → StaysShallow nodes source (at ++ name ∷ []) → IsRooted (set nodes slot (Some (placed_in folder name held)))
placed nodes slot held folder name source at table rooted m valid source_at there outside stays =
    rooted-by (set nodes slot (Some (placed_in folder name held))) (IsTable-place nodes slot held folder name table m)
    (ap parent_in root ∙ rooted.own_parent) (ap name_in root ∙ rooted.no_name) names reach
  where
    root : held_at (set nodes slot (Some (placed_in folder name held))) 0 ≡ held_at nodes 0
    root = at_other nodes slot 0 (Some (placed_in folder name held)) (zero_apart slot m.above_root)

    names : (k : ℕ) (one : Held) → held_at (set nodes slot (Some (placed_in folder name held))) k ≡ Some one → 0 < k → IsPart one.node.name
    names k one e up = elim (was nodes slot (placed_in folder name held) k one m.there e) [
      | inl h ↦ subst (λ (x : Held). IsPart x.node.name) (sym h.1) valid
      | inr h ↦ rooted.valid k one h.1 up
    ]

    below : is_root source ≡ false
    below = elim (cases_Bool (is_root source)) [
      | inr h ↦ h
      | inl h ↦ absurd (let both : Some 0 ≡ Some slot = ap (slot_at nodes) (sym (root_is source h)) ∙ source_at in
          let zero : 0 ≡ slot = cc in
          omega (arith, zero, m.above_root))
    ]

    free : (rest : List (List ℕ)) → slot_at nodes ((at ++ name ∷ []) ++ rest) ≡ None
    free rest =
        walk-append (child_of nodes) 0 (at ++ name ∷ []) rest
        ∙ ap (option_and_then (λ t. slot_below (child_of nodes) t rest)) (walk-snoc (child_of nodes) 0 at name ∙ ap (option_and_then (λ t. child_of nodes t name)) there ∙ m.new_name)

    moves : (k : ℕ) (one : Held) → held_at nodes k ≡ Some one → IsReached (set nodes slot (Some (placed_in folder name held))) k
    moves k one e =
        let leads = rooted.leads k one e in
        let out : is_within (at ++ name ∷ []) (path_to nodes k) ≡ false = (elim (cases_Bool (is_within (at ++ name ∷ []) (path_to nodes k))) [
          | inr h ↦ h
          | inl h ↦ absurd (let both : Some k ≡ None = sym leads ∙ ap (slot_at nodes) (within-parts (at ++ name ∷ []) (path_to nodes k) h) ∙ free (drop (length (at ++ name ∷ [])) (path_to nodes k)) in cc)
        ]) in
        record {
          path = path_after source (at ++ name ∷ []) (path_to nodes k);
          at = placed-walk nodes slot held folder name source at (path_after source (at ++ name ∷ []) (path_to nodes k)) table m below source_at there outside
              ∙ ap (option_and_then (slot_at nodes)) (path-back source (at ++ name ∷ []) (path_to nodes k) out)
              ∙ leads;
          fits = elim (cases_Bool (is_within source (path_to nodes k))) [
            | inl h ↦ ap is_deep (after-in source (at ++ name ∷ []) (path_to nodes k) h) ∙ stays (path_to nodes k) k leads h
            | inr h ↦ ap is_deep (after-out source (at ++ name ∷ []) (path_to nodes k) h) ∙ rooted.shallow k one e
          ];
        }

    reach : (k : ℕ) (one : Held) → held_at (set nodes slot (Some (placed_in folder name held))) k ≡ Some one → IsReached (set nodes slot (Some (placed_in folder name held))) k
    reach k one e = elim (was nodes slot (placed_in folder name held) k one m.there e) [
      | inl h ↦ moves k held (ap (held_at nodes) h.0 ∙ m.holds)
      | inr h ↦ moves k one h.1
    ]

-- a node moves under a name that is new
pub rooted-place : (nodes : List (Option Held)) (slot : ℕ) (held : Held) (folder : ℕ) (name : List ℕ) → IsTable nodes → IsRooted nodes → Moves nodes slot held folder name → MayStand nodes slot folder name → IsRooted (set nodes slot (Some (placed_in folder name held)))
rooted-place nodes slot held folder name table rooted m s =
    placed nodes slot held folder name (path_to nodes slot) (path_to nodes folder) table rooted m s.valid (rooted.leads slot held m.holds) (folder-leads nodes folder rooted m.in_folder) s.outside s.shallow

-- a node moves to the place of another
pub rooted-replace : (nodes : List (Option Held)) (slot : ℕ) (held : Held) (other : ℕ) (gone : Held) (folder : ℕ) (name : List ℕ) → IsTable nodes → IsRooted nodes → Replaces nodes slot held other gone folder name → MayStand nodes slot folder name → IsRooted (set (set nodes other None) slot (Some (placed_in folder name held)))
rooted-replace nodes slot held other gone folder name table rooted r s =
    placed (set nodes other None) slot held folder name (path_to nodes slot) (path_to nodes folder)
    (IsTable-empty nodes other gone table r.other_there r.other_above r.other_holds r.bare)
    (rooted-empty nodes other gone table rooted (record { there = r.other_there; above_root = r.other_above; holds = r.other_holds; bare = r.bare }))
    (replaces-moves nodes slot held other gone folder name table r) s.valid
    (still (path_to nodes slot) (λ e. r.apart (let both : Some slot ≡ Some other = sym source_at ∙ ap (slot_at nodes) e ∙ own in cc)) ∙ source_at)
    (still (path_to nodes folder) (λ e. omega (arith, ap length e, length-append (path_to nodes folder) (gone.node.name ∷ []))) ∙ there)
    s.outside
    (λ path k leads within. s.shallow path k (sym (still path (λ e. let both : Some k ≡ None = sym leads ∙ ap (slot_at (set nodes other None)) e ∙ gone-emptied nodes other gone (path_to nodes folder) table r.other_there r.other_above r.other_holds r.bare parent in cc)) ∙ leads) within)
  where
    place : (0 < other) × (gone.node.parent ≡ folder) × (gone.node.name ≡ name)
    place = child-place nodes folder name other gone table r.taken r.other_holds

    source_at : slot_at nodes (path_to nodes slot) ≡ Some slot
    source_at = rooted.leads slot held r.holds

    there : slot_at nodes (path_to nodes folder) ≡ Some folder
    there = folder-leads nodes folder rooted (ap (λ p. holds_folder (held_at nodes p)) (sym place.1) ∙ table.in_folder other gone r.other_holds r.other_above)

    parent : slot_at nodes (path_to nodes folder) ≡ Some gone.node.parent
    parent = there ∙ ap (λ p. Some p) (sym place.1)

    own : slot_at nodes (path_to nodes folder ++ gone.node.name ∷ []) ≡ Some other
    own = walk-snoc (child_of nodes) 0 (path_to nodes folder) gone.node.name ∙ ap (option_and_then (λ t. child_of nodes t gone.node.name)) parent ∙ table.one_name other gone r.other_holds r.other_above

    still : (q : List (List ℕ)) → (q ≡ path_to nodes folder ++ gone.node.name ∷ [] → ⊥) → slot_at (set nodes other None) q ≡ slot_at nodes q
    still q apart = walk-emptied nodes other gone (path_to nodes folder) q table r.other_there r.other_above r.other_holds r.bare parent apart

-- ---- what the checks of a path and of a move give

last-of-all : (P : List ℕ → Type 0) (xs : List (List ℕ)) (y : List ℕ) → AllByRecursion P (xs ++ y ∷ []) → P y
last-of-all P [] y all = all.0
last-of-all P (x ∷ xs) y all = last-of-all P xs y all.1

-- the last part of a path may be a part
pub last-part : (path : List (List ℕ)) → IsPath path → is_root path ≡ false → IsPart (name_of path)
last-part path valid below = last-of-all IsPart (parent_of path) (name_of path) (subst (AllByRecursion IsPart) (path-split path (has_parts path below)) (parts_are_parts path valid))

-- what is below a slot that moves isn't too deep where the slot's node isn't
pub shallow-moves : (nodes : List (Option Held)) (source target : List (List ℕ)) (slot bytes parts : ℕ) → slot_at nodes source ≡ Some slot → is_root target ≡ false → length (text_of_path target) ≡ bytes → length target ≡ parts → FitsBelow nodes slot bytes parts → StaysShallow nodes source target
shallow-moves nodes source target slot bytes parts at to b p fits = λ path k leads within.
    let rest = drop (length source) path in
    fits target rest k to b p (
    sym (walk-append (child_of nodes) 0 source rest ∙ ap (option_and_then (λ t. slot_below (child_of nodes) t rest)) at)
    ∙ ap (slot_at nodes) (sym (within-parts source path within)) ∙ leads)

-- a node that may move to a path may stand there
pub may-stand : (nodes : List (Option Held)) (source target : List (List ℕ)) (slot folder : ℕ) (replaced : Option ℕ) → IsPath target → is_root target ≡ false → slot_at nodes source ≡ Some slot → IsMove nodes source target slot folder replaced → StaysShallow nodes source target → MayStand nodes slot folder (name_of target)
may-stand nodes source target slot folder replaced valid below at m stays =
    let mine : path_to nodes slot ≡ source = path_to-is nodes source slot m.table m.rooted at in
    let theirs : path_to nodes folder ≡ parent_of target = path_to-is nodes (parent_of target) folder m.table m.rooted m.folder_at in
    let whole : path_to nodes folder ++ name_of target ∷ [] ≡ target = ap (λ p. p ++ name_of target ∷ []) theirs ∙ sym (path-split target (has_parts target below)) in
    record {
      valid = last-part target valid below;
      outside = ap (λ p. is_within p (path_to nodes folder)) mine ∙ ap (is_within source) theirs ∙ folder-outside nodes source target slot folder replaced at m;
      shallow = λ path k leads within.
          ap (λ t. is_deep (moved_path (path_to nodes slot) t path)) whole
          ∙ ap (λ p. is_deep (moved_path p target path)) mine
          ∙ stays path k leads (ap (λ p. is_within p path) (sym mine) ∙ within);
    }

-- a path isn't too deep
path-shallow : (path : List (List ℕ)) → IsPath path → is_deep path ≡ false
path-shallow path valid =
    let made = path_makes_parts path valid in
    ap (λ b. b || nat_lt 32 (length path)) (le-ltb 1024 (length (text_of_path path)) made.short) ∙ le-ltb 32 (length path) made.few

-- a new entry at a path isn't too deep
pub new-shallow : (nodes : List (Option Held)) (path : List (List ℕ)) (folder : ℕ) → IsPath path → IsPlace nodes path folder → is_deep (path_to nodes folder ++ name_of path ∷ []) ≡ false
new-shallow nodes path folder valid p =
    ap (λ q. is_deep (q ++ name_of path ∷ [])) (path_to-is nodes (parent_of path) folder p.table p.rooted p.at)
    ∙ ap is_deep (sym (path-split path p.below_root))
    ∙ path-shallow path valid
