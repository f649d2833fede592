-- The pieces between the separators of a text.
use Rattle.std.proofs.Common.{◌≡◌, ℕ, suc, ◌+◌, ◌<◌, true, false, cond, not, ◌==◌, List, [], ◌∷◌, length, take, drop, position, MatchOption, Err, ◌⊎◌, inl, inr, refl, sym, ap, subst, one-add, add-one, arith}
use Rattle.std.specs.List.{position_or_len, slice_split, onto_first}
use Rattle.std.proofs.lemmas.Bool.Decides.{nat_tests}
use Rattle.vb_script.specs.declared.error.LineKind.TheVariants.{Words}
use Rattle.vb_script.specs.Steps.{Wrong}
use Rattle.vb_script.specs.Words.{words_of, no_word}

-- the first separator ends the first piece, and without one there is one piece
pieces_at : (s : ℕ) (text : List ℕ) → ((length text ≡ position_or_len (λ b. b == s) text) × (slice_split (λ b. b == s) text ≡ text ∷ [])) ⊎ ((position_or_len (λ b. b == s) text < length text) × (slice_split (λ b. b == s) text ≡ take (position_or_len (λ b. b == s) text) text ∷ slice_split (λ b. b == s) (drop (suc (position_or_len (λ b. b == s) text)) text)))
pieces_at s [] = inl (refl, refl)
pieces_at s (b ∷ bs) =
    let split : List ℕ → List (List ℕ) = slice_split (λ b. b == s) in
    let n = position_or_len (λ b. b == s) bs in
    let P : ℕ → List (List ℕ) → Type 0 = λ k ps. ((length (b ∷ bs) ≡ k) × (ps ≡ (b ∷ bs) ∷ [])) ⊎ ((k < length (b ∷ bs)) × (ps ≡ take k (b ∷ bs) ∷ split (drop (suc k) (b ∷ bs)))) in
    elim (b == s) as (λ v. P (cond (not v) (1 + n) 0) (cond v ([] ∷ split bs) (onto_first b (split bs)))) [
      | true ↦ inr (omega arith, refl)
      | false ↦ subst (λ k. P k (onto_first b (split bs))) (sym (one-add n)) (elim (pieces_at s bs) [
        | inl w ↦ inl (omega arith, ap (onto_first b) w.1)
        | inr w ↦ inr (omega arith, ap (onto_first b) w.1)
      ])
    ]

-- what the place of the first separator says of the pieces
pub pieces-position : (s : ℕ) (text : List ℕ) → MatchOption (position (λ b. b == s) text) (slice_split (λ b. b == s) text ≡ text ∷ []) (λ i. (i < length text) × (slice_split (λ b. b == s) text ≡ take i text ∷ slice_split (λ b. b == s) (drop (i + 1) text)))
pieces-position s text =
    elim (pieces_at s text) [
      | inl w ↦ grind (arith, nat_tests, w.0, w.1)
      | inr w ↦ grind (arith, nat_tests, w.0, w.1, add-one)
    ]

-- there is at least one word
pub no_word-words_of : (text : List ℕ) → no_word (words_of text) ≡ Err (Wrong Words)
no_word-words_of [] = refl
no_word-words_of (b ∷ bs) =
    let P : List (List ℕ) → Type 0 = λ ps. no_word ps ≡ Err (Wrong Words) in
    elim (b == 32) as (λ v. P (cond v ([] ∷ words_of bs) (onto_first b (words_of bs)))) [
      | true ↦ refl
      | false ↦ elim (words_of bs) as (λ ps. P (onto_first b ps)) [ [] ↦ refl | p ∷ ps ↦ refl ]
    ]

pub ruleset some_words = (no_word-words_of)
