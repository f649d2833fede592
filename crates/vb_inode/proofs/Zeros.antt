-- Bytes that are zero, and bytes that are filled with zeros.
use Rattle.std.proofs.Common.{◌≡◌, ℕ, zero, suc, ◌-◌, ◌≤◌, Bool, true, false, ◌&&◌, ◌==◌, List, [], ◌∷◌, ◌++◌, length, take, drop, replicate, inl, inr, refl, sym, ap, ◌∙◌, arith}
use Rattle.std.proofs.lemmas.Bool.{false≢true}
use Rattle.std.proofs.lemmas.Bool.Decides.{eqb_tells}
use Rattle.std.proofs.lemmas.List.{take-append-drop, length-take, length-drop, length-append, length-replicate, drop_at, take_at}
use Rattle.vb_inode.specs.Layout.{padded}
use Rattle.vb_inode.specs.Checks.{are_zeros}

-- both of two tests hold
pub and_parts : (a b : Bool) → (a && b) ≡ true → (a ≡ true) × (b ≡ true)
and_parts true b e = (refl, e)
and_parts false b e = absurd (false≢true e)

pub are_zeros-replicate : (n : ℕ) → are_zeros (replicate n 0) ≡ true
are_zeros-replicate zero = refl
are_zeros-replicate (suc n) = are_zeros-replicate n

-- bytes that are all zero are so many zeros
pub replicate-from_zeros : (xs : List ℕ) → are_zeros xs ≡ true → xs ≡ replicate (length xs) 0
replicate-from_zeros [] e = refl
replicate-from_zeros (x ∷ xs) e =
    let both = and_parts (x == 0) (are_zeros xs) e in
    elim (eqb_tells x 0) [
      | inl w ↦ ap (λ (b : ℕ). b ∷ xs) w.1 ∙ ap (λ (bs : List ℕ). 0 ∷ bs) (replicate-from_zeros xs both.1)
      | inr w ↦ absurd (false≢true (sym w.0 ∙ both.0))
    ]

-- bytes with zeros from a place on are those before it, filled up
pub padded-from_zeros : (n k : ℕ) (xs : List ℕ) → length xs ≡ n → are_zeros (drop k xs) ≡ true → padded n (take k xs) ≡ xs
padded-from_zeros n k xs len e =
    let many : n - length (take k xs) ≡ length (drop k xs) = omega (arith, length-take k xs, length-drop k xs) in
    ap (λ (m : ℕ). take k xs ++ replicate m 0) many ∙ ap (λ (bs : List ℕ). take k xs ++ bs) (sym (replicate-from_zeros (drop k xs) e)) ∙ take-append-drop k xs

-- past what was filled up stand zeros
pub are_zeros-padded : (n k : ℕ) (xs : List ℕ) → length xs ≡ k → are_zeros (drop k (padded n xs)) ≡ true
are_zeros-padded n k xs len =
    ap are_zeros (drop_at xs (replicate (n - length xs) 0) k len) ∙ are_zeros-replicate (n - length xs)

pub length-padded : (n : ℕ) (xs : List ℕ) → length xs ≤ n → length (padded n xs) ≡ n
length-padded n xs le = omega (arith, length-append xs (replicate (n - length xs) 0), length-replicate {A = ℕ} (n - length xs) 0)

-- what was filled up stands in front
pub take-padded : (n k : ℕ) (xs : List ℕ) → length xs ≡ k → take k (padded n xs) ≡ xs
take-padded n k xs len = take_at xs (replicate (n - length xs) 0) k len
