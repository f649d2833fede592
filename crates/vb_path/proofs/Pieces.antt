-- The pieces between the slashes of a text.
use Rattle.std.proofs.Common.{◌≡◌, ℕ, suc, ◌+◌, ◌<◌, Bool, true, false, cond, not, ◌==◌, List, [], ◌∷◌, length, take, drop, position, count_by, MatchOption, ◌⊎◌, inl, inr, refl, sym, ap, ◌∙◌, subst, one-add, add-one, arith}
use Rattle.std.specs.List.{position_or_len, flat_map}
use Rattle.std.proofs.lemmas.Bool.Decides.{nat_tests, eqb_tells}
use Rattle.std.proofs.lemmas.List.Sums.{sum_by-cons, count_by-le-length}
use Rattle.vb_path.specs.Paths.{pieces_of, with_byte, text_of_path}

abbrev is_slash : ℕ → Bool
is_slash b = b == 47

-- the first slash ends the first piece, and without one there is one piece
pieces_at : (text : List ℕ) → ((length text ≡ position_or_len is_slash text) × (pieces_of text ≡ text ∷ [])) ⊎ ((position_or_len is_slash text < length text) × (pieces_of text ≡ take (position_or_len is_slash text) text ∷ pieces_of (drop (suc (position_or_len is_slash text)) text)))
pieces_at [] = inl (refl, refl)
pieces_at (b ∷ bs) =
    let n = position_or_len is_slash bs in
    let P : ℕ → List (List ℕ) → Type 0 = λ k ps. ((length (b ∷ bs) ≡ k) × (ps ≡ (b ∷ bs) ∷ [])) ⊎ ((k < length (b ∷ bs)) × (ps ≡ take k (b ∷ bs) ∷ pieces_of (drop (suc k) (b ∷ bs)))) in
    elim (b == 47) as (λ v. P (cond (not v) (1 + n) 0) (cond v ([] ∷ pieces_of bs) (with_byte b (pieces_of bs)))) [
      | true ↦ inr (omega arith, refl)
      | false ↦ subst (λ k. P k (with_byte b (pieces_of bs))) (sym (one-add n)) (elim (pieces_at bs) [
        | inl w ↦ inl (omega arith, ap (with_byte b) w.1)
        | inr w ↦ inr (omega arith, ap (with_byte b) w.1)
      ])
    ]

-- what the place of the first slash says of the pieces
pub pieces-position : (text : List ℕ) → MatchOption (position (λ b. b == 47) text) (pieces_of text ≡ text ∷ []) (λ i. (i < length text) × (pieces_of text ≡ take i text ∷ pieces_of (drop (i + 1) text)))
pieces-position text =
    elim (pieces_at text) [
      | inl w ↦ grind (arith, nat_tests, w.0, w.1)
      | inr w ↦ grind (arith, nat_tests, w.0, w.1, add-one)
    ]

-- there is at least one piece
pub pieces_of-some : (text : List ℕ) → 0 < length (pieces_of text)
pieces_of-some [] = omega arith
pieces_of-some (b ∷ bs) =
    let P : List (List ℕ) → Type 0 = λ ps. 0 < length ps in
    elim (b == 47) as (λ v. P (cond v ([] ∷ pieces_of bs) (with_byte b (pieces_of bs)))) [
      | true ↦ omega arith
      | false ↦ elim (pieces_of bs) as (λ ps. P (with_byte b ps)) [ [] ↦ omega arith | p ∷ ps ↦ omega arith ]
    ]

length-with_byte : (b : ℕ) (ps : List (List ℕ)) → 0 < length ps → length (with_byte b ps) ≡ length ps
length-with_byte b [] h = absurd (omega arith)
length-with_byte b (p ∷ ps) h = refl

-- one piece more than there are slashes
pub length-pieces_of : (text : List ℕ) → length (pieces_of text) ≡ count_by (λ b. b == 47) text + 1
length-pieces_of [] = refl
length-pieces_of (b ∷ bs) =
    rw sum_by-cons
    (elim (b == 47) as (λ v. length (cond v ([] ∷ pieces_of bs) (with_byte b (pieces_of bs))) ≡ cond v 1 0 + count_by (λ c. c == 47) bs + 1) [
      | true ↦ omega (arith, length-pieces_of bs)
      | false ↦ omega (arith, length-pieces_of bs, length-with_byte b (pieces_of bs) (pieces_of-some bs))
    ])

joined-with_byte : (b : ℕ) (ps : List (List ℕ)) (bs : List ℕ) → 0 < length ps → flat_map (λ p. 47 ∷ p) ps ≡ 47 ∷ bs → flat_map (λ p. 47 ∷ p) (with_byte b ps) ≡ 47 ∷ (b ∷ bs)
joined-with_byte b [] bs h e = absurd (omega arith)
joined-with_byte b (p ∷ ps) bs h e = cc

-- the pieces, each behind a slash, are the text behind a slash
pub flat_map-pieces_of : (text : List ℕ) → flat_map (λ p. 47 ∷ p) (pieces_of text) ≡ 47 ∷ text
flat_map-pieces_of [] = refl
flat_map-pieces_of (b ∷ bs) =
    elim (eqb_tells b 47) [
      | inl w ↦ rw w.0 (ap (λ cs. 47 ∷ cs) (flat_map-pieces_of bs ∙ ap (λ c. c ∷ bs) (sym w.1)))
      | inr w ↦ rw w.0 (joined-with_byte b (pieces_of bs) bs (pieces_of-some bs) (flat_map-pieces_of bs))
    ]

-- the text of the pieces is the text behind a slash
pub text_of_path-pieces_of : (text : List ℕ) → text_of_path (pieces_of text) ≡ 47 ∷ text
text_of_path-pieces_of text = of_some (pieces_of text) (pieces_of-some text) ∙ flat_map-pieces_of text where
  of_some : (ps : List (List ℕ)) → 0 < length ps → text_of_path ps ≡ flat_map (λ p. 47 ∷ p) ps
  of_some [] h = absurd (omega arith)
  of_some (p ∷ ps) h = refl

pub ruleset piece_counts = (length-pieces_of, count_by-le-length)

pub ruleset first_pieces = (pieces-position)
