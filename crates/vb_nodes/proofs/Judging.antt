-- What the checks of all slots come to: whether a name was taken, and the first fault.
use Rattle.std.proofs.Common.{◌≡◌, ℕ, zero, suc, ◌+◌, ◌<◌, Bool, List, [], length, get_or, Option, Some, None, inl, inr, refl, ap, subst, ◌∙◌, arith}
use Rattle.std.specs.Option.{option_map, option_or}
use Rattle.std.specs.Ordering.{nat_cmp}
use Rattle.std.specs.Cmp.Lexicographic.{slice_cmp}
use Rattle.std.specs.BTreeSet as sorted
use Rattle.std.proofs.lemmas.Bool.{cases_lt}
use Rattle.vb_block.specs.declared.why.Why.{Why}
use Rattle.vb_inode.specs.declared.node.Node.{Node}
use Rattle.vb_nodes.specs.Paths.{node_at, parent_in}
use Rattle.vb_nodes.specs.Naming.{AreNamesBelow}
use Rattle.vb_nodes.specs.Faults.{fault_below, fault_of_slot, has_lower_twin, Fault}

-- ---- names

-- whether the name was taken is whether a lower slot has it
pub twin-found : (nodes : List Node) (slot : ℕ) (names : List (sorted.BTreeSet (List ℕ))) (taken : Bool) → parent_in nodes slot < length nodes → AreNamesBelow nodes slot names → ((d : sorted.BTreeSet (List ℕ)) → taken ≡ sorted.contains (slice_cmp nat_cmp) (get_or names (parent_in nodes slot) d) (node_at nodes slot).name) → taken ≡ has_lower_twin nodes slot
twin-found nodes slot names taken below are found =
    let none : sorted.BTreeSet (List ℕ) = record { keys = [] } in
    found none ∙ are.each (parent_in nodes slot) (node_at nodes slot).name none below

-- ---- the first fault

abbrev pub fault_at : ℕ → Why → Fault
fault_at slot why = record { slot = slot; why = why }

or_none : {X : Type 0} (a b : Option X) → option_or a b ≡ None → (a ≡ None) × (b ≡ None)
or_none None b e = (refl, e)
or_none (Some x) b e = absurd cc

map_none : {X Y : Type 0} (f : X → Y) (a : Option X) → option_map f a ≡ None → a ≡ None
map_none f None e = refl
map_none f (Some x) e = absurd cc

-- one slot more without a fault
pub fault-none-next : (nodes : List Node) (slot : ℕ) → fault_below nodes slot ≡ None → fault_of_slot nodes slot ≡ None → fault_below nodes (slot + 1) ≡ None
fault-none-next nodes slot none fine =
    let e : slot + 1 ≡ suc slot = omega arith in
    ap (fault_below nodes) e
    ∙ ap (λ (a : Option Fault). option_or a (option_map (fault_at slot) (fault_of_slot nodes slot))) none
    ∙ ap (option_map (fault_at slot)) fine

-- a slot without a fault, where there is none below another
pub fault-none-at : (nodes : List Node) (n slot : ℕ) → fault_below nodes n ≡ None → slot < n → fault_of_slot nodes slot ≡ None
fault-none-at nodes zero slot none lt = absurd (omega arith)
fault-none-at nodes (suc m) slot none lt =
    let parts = or_none (fault_below nodes m) (option_map (fault_at m) (fault_of_slot nodes m)) none in
    elim (cases_lt slot m) [
      | inl below ↦ fault-none-at nodes m slot parts.0 below
      | inr le ↦ (let e : m ≡ slot = omega arith in subst (λ (k : ℕ). fault_of_slot nodes k ≡ None) e (map_none (fault_at m) (fault_of_slot nodes m) parts.1))
    ]

-- the first fault stays the first
pub fault-first : (nodes : List Node) (n slot : ℕ) (why : Why) → fault_below nodes slot ≡ None → fault_of_slot nodes slot ≡ Some why → slot < n → fault_below nodes n ≡ Some (record { slot = slot; why = why })
fault-first nodes zero slot why none wrong lt = absurd (omega arith)
fault-first nodes (suc m) slot why none wrong lt = elim (cases_lt slot m) [
  | inl below ↦ ap (λ (a : Option Fault). option_or a (option_map (fault_at m) (fault_of_slot nodes m))) (fault-first nodes m slot why none wrong below)
  | inr le ↦ (let e : slot ≡ m = omega arith in
      subst (λ (k : ℕ). fault_below nodes (suc k) ≡ Some (fault_at slot why)) e
      (ap (λ (a : Option Fault). option_or a (option_map (fault_at slot) (fault_of_slot nodes slot))) none ∙ ap (option_map (fault_at slot)) wrong))
]
