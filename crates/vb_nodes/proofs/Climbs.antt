-- Steps up: so many steps and then so many more, and what the passes that double them come to.
use Rattle.std.proofs.Common.{◌≡◌, ℕ, zero, suc, ◌+◌, ◌*◌, ◌^◌, ◌<◌, ◌≤◌, ◌==◌, Bool, true, false, cond, List, [], ◌∷◌, ◌++◌, length, get_or, map, refl, sym, ap, subst, ◌∙◌, append_assoc, arith}
use Rattle.std.specs.Fn.{iterate}
use Rattle.std.specs.List.{flat_map}
use Rattle.std.proofs.lemmas.List.{append-nil, get_or-map, length-append, length-map}
use Rattle.std.proofs.lemmas.Grind.{flat_map-append}
use Rattle.std.proofs.Math.Nat.{pow-suc}
use Rattle.std.proofs.Math.Pow.{pow_mono}
use Rattle.vb_inode.specs.declared.node.Node.{Node}
use Rattle.vb_nodes.specs.declared.ascents.Ascent.{Ascent}
use Rattle.vb_nodes.specs.Paths.{ancestor, enough_steps, free_node, node_at, own_part, parent_in, path_up, AreBySlot}
use Rattle.vb_nodes.specs.Ascents.{ascent_of, doubled, followed_by, no_ascent, step_of, text_bytes, AreAscents, AreFollowable}
use Rattle.vb_nodes.proofs.NodeLaws.{name-short, parent-below}

-- ---- steps, and then more steps

pub iterate-add : {A : Type 0} (h : A → A) (a b : ℕ) (x : A) → iterate h (a + b) x ≡ iterate h b (iterate h a x)
iterate-add h zero b x = let e : zero + b ≡ b = omega arith in ap (λ (n : ℕ). iterate h n x) e
iterate-add h (suc a) b x = let e : suc a + b ≡ suc (a + b) = omega arith in ap (λ (n : ℕ). iterate h n x) e ∙ iterate-add h a b (h x)

pub path_up-add : (nodes : List Node) (a b slot : ℕ) → path_up nodes (a + b) slot ≡ path_up nodes b (ancestor nodes a slot) ++ path_up nodes a slot
path_up-add nodes zero b slot =
    let e : zero + b ≡ b = omega arith in
    ap (λ (n : ℕ). path_up nodes n slot) e ∙ sym (append-nil (path_up nodes b slot))
path_up-add nodes (suc a) b slot =
    let e : suc a + b ≡ suc (a + b) = omega arith in
    let up = parent_in nodes slot in
    ap (λ (n : ℕ). path_up nodes n slot) e
    ∙ ap (λ (p : List (List ℕ)). p ++ own_part nodes slot) (path_up-add nodes a b up)
    ∙ append_assoc (path_up nodes b (ancestor nodes a up)) (path_up nodes a up) (own_part nodes slot)

text_bytes-append : (p q : List (List ℕ)) → text_bytes (p ++ q) ≡ text_bytes p + text_bytes q
text_bytes-append p q =
    ap length (flat_map-append (λ (part : List ℕ). 47 ∷ part) p q) ∙ length-append (flat_map (λ (part : List ℕ). 47 ∷ part) p) (flat_map (λ (part : List ℕ). 47 ∷ part) q)

same_ascent : (to parts bytes to' parts' bytes' : ℕ) → to ≡ to' → parts ≡ parts' → bytes ≡ bytes' → (let a : Ascent = record { to = to; parts = parts; bytes = bytes } in a) ≡ (let b : Ascent = record { to = to'; parts = parts'; bytes = bytes' } in b)
same_ascent to parts bytes to' parts' bytes' e f g = cc

-- twice as many steps are those steps and then those of the slot which they lead to
ascent_of-double : (nodes : List Node) (k slot : ℕ) → followed_by (ascent_of nodes k slot) (ascent_of nodes k (ancestor nodes k slot)) ≡ ascent_of nodes (k + k) slot
ascent_of-double nodes k slot =
    let first = path_up nodes k slot in
    let second = path_up nodes k (ancestor nodes k slot) in
    let whole = path_up-add nodes k k slot in
    same_ascent _ _ _ _ _ _
    (sym (iterate-add (parent_in nodes) k k slot))
    (let e = ap length whole in omega (arith, e, length-append second first))
    (let e = ap text_bytes whole in omega (arith, e, text_bytes-append second first))

-- ---- bounds

pub ancestor-below : (nodes : List Node) (steps slot : ℕ) → AreBySlot nodes → slot < length nodes → ancestor nodes steps slot < length nodes
ancestor-below nodes zero slot are lt = lt
ancestor-below nodes (suc n) slot are lt = ancestor-below nodes n (parent_in nodes slot) are (parent-below nodes slot are (omega arith))

own_part-few : (nodes : List Node) (slot : ℕ) → AreBySlot nodes → (length (own_part nodes slot) ≤ 1) × (text_bytes (own_part nodes slot) ≤ 256)
own_part-few nodes slot are = by (slot == 0) where
  name : List ℕ
  name = (node_at nodes slot).name

  by : (b : Bool) → (length (cond b [] ((node_at nodes slot).name ∷ [])) ≤ 1) × (text_bytes (cond b [] ((node_at nodes slot).name ∷ [])) ≤ 256)
  by true = (omega arith, omega arith)
  by false = (omega arith, omega (arith, name-short nodes slot are, length-append (47 ∷ (node_at nodes slot).name) []))

path_up-few : (nodes : List Node) (steps slot : ℕ) → AreBySlot nodes → (length (path_up nodes steps slot) ≤ steps) × (text_bytes (path_up nodes steps slot) ≤ 256 * steps)
path_up-few nodes zero slot are = (omega arith, omega arith)
path_up-few nodes (suc n) slot are =
    let up = path_up-few nodes n (parent_in nodes slot) are in
    let own = own_part-few nodes slot are in (
      omega (arith, up.0, own.0, length-append (path_up nodes n (parent_in nodes slot)) (own_part nodes slot)),
      omega (arith, up.1, own.1, text_bytes-append (path_up nodes n (parent_in nodes slot)) (own_part nodes slot)),
    )

-- ---- the ascents of all slots

ascent_at : (nodes : List Node) (steps slot : ℕ) (ascents : List Ascent) → AreAscents nodes steps ascents → slot < length ascents → get_or ascents slot no_ascent ≡ ascent_of nodes steps slot
ascent_at nodes steps slot ascents are lt = are.each slot no_ascent (omega (arith, are.as_many))

pub AreFollowable-ascents : (nodes : List Node) (steps : ℕ) (ascents : List Ascent) → AreBySlot nodes → AreAscents nodes steps ascents → steps ≤ 65536 → AreFollowable ascents
AreFollowable-ascents nodes steps ascents by_slot are few = record {
  leads = λ slot lt. (let below = ancestor-below nodes steps slot by_slot (omega (arith, are.as_many)) in omega (arith, below, are.as_many, ap (λ (a : Ascent). a.to) (ascent_at nodes steps slot ascents are lt)));
  few_parts = λ slot lt. omega (arith, (path_up-few nodes steps slot by_slot).0, ap (λ (a : Ascent). a.parts) (ascent_at nodes steps slot ascents are lt));
  few_bytes = λ slot lt. omega (arith, (path_up-few nodes steps slot by_slot).1, ap (λ (a : Ascent). a.bytes) (ascent_at nodes steps slot ascents are lt));
}

single : (nodes : List Node) (slot : ℕ) → (node_at nodes slot).slot ≡ slot → step_of (node_at nodes slot) ≡ ascent_of nodes 1 slot
single nodes slot own =
    ap (λ (s : ℕ). let a : Ascent = record { to = (node_at nodes slot).parent; parts = cond (s == 0) 0 1; bytes = cond (s == 0) 0 (1 + length (node_at nodes slot).name) } in a) own ∙ by (slot == 0) where
      by : (b : Bool) → (let a : Ascent = record { to = (node_at nodes slot).parent; parts = cond b 0 1; bytes = cond b 0 (1 + length (node_at nodes slot).name) } in a) ≡ (let a : Ascent = record { to = parent_in nodes slot; parts = length ([] ++ cond b [] ((node_at nodes slot).name ∷ [])); bytes = text_bytes ([] ++ cond b [] ((node_at nodes slot).name ∷ [])) } in a)
      by true = refl
      by false = same_ascent _ _ _ _ _ _ refl refl (omega (arith, length-append (47 ∷ (node_at nodes slot).name) []))

pub AreAscents-single : (nodes : List Node) → AreBySlot nodes → AreAscents nodes 1 (map step_of nodes)
AreAscents-single nodes by_slot = record {
  as_many = length-map nodes step_of;
  each = λ slot d lt. get_or-map step_of nodes slot free_node d lt ∙ single nodes slot (by_slot.own_slots slot lt);
}

pub AreAscents-doubled : (nodes : List Node) (steps : ℕ) (ascents : List Ascent) → AreBySlot nodes → AreAscents nodes steps ascents → AreAscents nodes (steps + steps) (doubled ascents)
AreAscents-doubled nodes steps ascents by_slot are =
    let f : Ascent → Ascent = λ ascent. followed_by ascent (get_or ascents ascent.to no_ascent) in
    record {
      as_many = length-map ascents f ∙ are.as_many;
      each = λ slot d lt.
          get_or-map f ascents slot no_ascent d (omega (arith, are.as_many))
          ∙ ap f (are.each slot no_ascent lt)
          ∙ ap (λ (a : Ascent). followed_by (ascent_of nodes steps slot) a) (are.each (ancestor nodes steps slot) no_ascent (ancestor-below nodes steps slot by_slot lt))
          ∙ ascent_of-double nodes steps slot;
    }

-- ---- the passes

pub pow-double : (n : ℕ) → 2 ^ n + 2 ^ n ≡ 2 ^ suc n
pow-double n = omega (arith, pow-suc 2 n)

-- one pass more
pub AreAscents-pass : (nodes : List Node) (pass : ℕ) (ascents : List Ascent) → AreBySlot nodes → AreAscents nodes (2 ^ pass) ascents → AreAscents nodes (2 ^ (pass + 1)) (doubled ascents)
AreAscents-pass nodes pass ascents by_slot are =
    let e : suc pass ≡ pass + 1 = omega arith in
    subst (λ (n : ℕ). AreAscents nodes n (doubled ascents)) (pow-double pass ∙ ap (λ (n : ℕ). 2 ^ n) e) (AreAscents-doubled nodes (2 ^ pass) ascents by_slot are)

pub few_steps : (pass : ℕ) → pass < 17 → 2 ^ pass ≤ 65536
few_steps pass lt = pow_mono {i = pass} {j = 16} (omega arith)

-- after all of them there are enough steps
pub AreAscents-enough : (nodes : List Node) (pass : ℕ) (ascents : List Ascent) → pass ≡ 17 → AreAscents nodes (2 ^ pass) ascents → AreAscents nodes enough_steps ascents
unfolding enough_steps
AreAscents-enough nodes pass ascents e are = subst (λ (n : ℕ). AreAscents nodes (2 ^ n) ascents) e are
