-- What holds of a table's nodes at the begin: a root, and nothing else.
use Rattle.std.proofs.Common.{◌≡◌, ℕ, zero, suc, ◌+◌, ◌-◌, ◌<◌, ◌≤◌, Bool, true, false, ◌&&◌, nat_lt, is_none, List, [], ◌∷◌, ◌++◌, length, get_or, replicate, Option, Some, None, refl, sym, ap, ◌∙◌, subst, sum_by, arith}
use Rattle.std.proofs.Math.Bool.{and-true}
use Rattle.std.proofs.lemmas.Bool.Decides.{Decides-ltb}
use Rattle.std.proofs.lemmas.List.{length-replicate, replicate-append-replicate}
use Rattle.std.proofs.lemmas.List.Sums.{sum_by-cons}
use Rattle.vb_index.specs.declared.held.Held.{Held}
use Rattle.vb_index.specs.Nodes.{root_held, held_at, is_child, child_of, nodes_of_slot, nodes_in, pages_of_slot, pages_in, IsHeld, IsTable}
use Rattle.vb_index.proofs.Positions.{position-nowhere}

abbrev pub fresh_list : ℕ → List (Option Held)
fresh_list n = Some root_held ∷ replicate n None

pub none_at : (n k : ℕ) → get_or (replicate {A = Option Held} n None) k None ≡ None
none_at zero k = refl
none_at (suc n) zero = refl
none_at (suc n) (suc k) = none_at n k

root_fits : IsHeld 0 root_held
root_fits = record { at_slot = refl; either = refl; folder_empty = λ h. refl; short = omega arith; each_page = refl }

pub fresh-table : (n : ℕ) → n + 1 ≤ 65536 → IsTable (Some root_held ∷ replicate n None)
fresh-table n few = record { few = omega (arith, length-replicate {A = Option Held} n None); root = refl; fits = fits; in_folder = λ k one e up. absurd (none k one e up); one_name = λ k one e up. absurd (none k one e up) } where
  none : (k : ℕ) (one : Held) → held_at (fresh_list n) k ≡ Some one → 0 < k → ⊥
  none zero one e up = omega arith
  none (suc k) one e up = let both : None ≡ Some one = sym (none_at n k) ∙ e in cc

  fits : (k : ℕ) (one : Held) → held_at (fresh_list n) k ≡ Some one → IsHeld k one
  fits zero one e = let same : root_held ≡ one = cc in let P : Held → Type 0 = λ x. IsHeld 0 x in subst P same root_fits
  fits (suc k) one e = absurd (none (suc k) one e (omega arith))

pub fresh-child : (n parent : ℕ) (name : List ℕ) → child_of (Some root_held ∷ replicate n None) parent name ≡ None
unfolding child_of
fresh-child n parent name = position-nowhere (is_child parent name) (fresh_list n) None by where
  by : (k : ℕ) → k < length (fresh_list n) → is_child parent name (get_or (fresh_list n) k None) ≡ false
  by zero h = refl
  by (suc k) h = ap (is_child parent name) (none_at n k)

sum_none : (f : Option Held → ℕ) (n : ℕ) → f None ≡ 0 → sum_by f (replicate n None) ≡ 0
sum_none f zero h = refl
sum_none f (suc n) h = sum_by-cons f None (replicate n None) ∙ omega (arith, h, sum_none f n h)

pub fresh-count : (n : ℕ) → nodes_in (Some root_held ∷ replicate n None) ≡ 1
fresh-count n = sum_by-cons nodes_of_slot (Some root_held) (replicate n None) ∙ omega (arith, sum_none nodes_of_slot n refl)

pub fresh-pages : (n : ℕ) → pages_in (Some root_held ∷ replicate n None) ≡ 0
fresh-pages n = sum_by-cons pages_of_slot (Some root_held) (replicate n None) ∙ omega (arith, sum_none pages_of_slot n refl)

pub fresh-free : (n slot : ℕ) → (nat_lt 0 slot && nat_lt slot (n + 1)) ≡ (nat_lt slot (length (fresh_list n)) && is_none (held_at (fresh_list n) slot))
fresh-free n zero = sym (and_false (nat_lt 0 (length (fresh_list n)))) where
  and_false : (b : Bool) → (b && false) ≡ false
  and_false true = refl
  and_false false = refl
fresh-free n (suc k) = ap (λ b. b && nat_lt (suc k) (n + 1)) positive ∙ ap (λ m. nat_lt (suc k) m) size ∙ sym (ap (λ o. nat_lt (suc k) (length (fresh_list n)) && is_none o) (none_at n k) ∙ and-true (nat_lt (suc k) (length (fresh_list n)))) where
  positive : nat_lt 0 (suc k) ≡ true
  positive = (Decides-ltb 0 (suc k)).1 (omega arith)

  size : n + 1 ≡ length (fresh_list n)
  size = omega (arith, length-replicate {A = Option Held} n None)

-- one free slot more
pub one_more : (slot : ℕ) → 1 ≤ slot → (Some root_held ∷ replicate (slot - 1) None) ++ None ∷ [] ≡ Some root_held ∷ replicate (slot + 1 - 1) None
one_more slot h =
    let n : slot - 1 + 1 ≡ slot + 1 - 1 = omega arith in
    ap (λ t. Some root_held ∷ t) (replicate-append-replicate (slot - 1) 1 None ∙ ap (λ k. replicate k None) n)

-- how many slots there are
pub fresh-len : (n : ℕ) → length (Some root_held ∷ replicate {A = Option Held} n None) ≡ n + 1
fresh-len n = omega (arith, length-replicate {A = Option Held} n None)

pub ruleset fresh = (fresh-table, fresh-child, fresh-count, fresh-pages, fresh-free)
