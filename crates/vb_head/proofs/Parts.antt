-- Parts one after the other: each is found again at its place, and the numbers among them are those that were written.
use Rattle.std.proofs.Common.{◌≡◌, ℕ, ◌+◌, ◌^◌, ◌<◌, ◌≤◌, List, [], ◌∷◌, ◌++◌, length, get_or, take, drop, refl, sym, ap, ◌∙◌, append_assoc, arith, inl, inr}
use Rattle.std.proofs.lemmas.Bool.{cases_lt}
use Rattle.std.proofs.lemmas.List.{drop-drop, drop_at, get_or-drop, get_or-take, get_or_past, length-drop, length-take, take-append-drop}
use Rattle.std.proofs.lemmas.Nat.{from_le_bytes-to_le_bytes_4, from_le_bytes-to_le_bytes_8, le_bytes_4, le_bytes_8}
use Rattle.byteorder.specs.Endian.{little_bytes, little_number}
use Rattle.vb_head.specs.Layout.{in_order, number4_at, number8_at}

abbrev pub IsBytes : List ℕ → Type 0
IsBytes bytes = (i : ℕ) → get_or bytes i 0 < 256

pub IsBytes-drop : (n : ℕ) (bytes : List ℕ) → IsBytes bytes → IsBytes (drop n bytes)
IsBytes-drop n bytes h i = rw get_or-drop (h (n + i))

pub IsBytes-take : (n : ℕ) (bytes : List ℕ) → IsBytes bytes → IsBytes (take n bytes)
IsBytes-take n bytes h i =
    elim (cases_lt i n) [
      | inl lt ↦ rw (get_or-take n bytes i 0 lt) (h i)
      | inr le ↦ rw (get_or_past (take n bytes) i 0 (omega (arith, length-take n bytes))) (omega arith)
    ]

-- parts in their order, from the left as from the right
pub in_order-from_right : (a b c d e f g h i j s : List ℕ) → in_order a b c d e f g h i j ++ s ≡ a ++ (b ++ (c ++ (d ++ (e ++ (f ++ (g ++ (h ++ (i ++ (j ++ s)))))))))
in_order-from_right a b c d e f g h i j s = simp append_assoc

-- what follows a part
pub after_part : (page x rest : List ℕ) (at n : ℕ) → length x ≡ n → drop at page ≡ x ++ rest → drop (at + n) page ≡ rest
after_part page x rest at n long is = sym (drop-drop n at page) ∙ ap (drop n) is ∙ drop_at x rest n long

-- ---- numbers

pub number4_again : (v : ℕ) (rest : List ℕ) → v < 2 ^ 32 → little_number 4 (little_bytes 4 v ++ rest) ≡ v
number4_again v rest fits = omega (arith, from_le_bytes-to_le_bytes_4 v fits)

pub number8_again : (v : ℕ) (rest : List ℕ) → v < 2 ^ 64 → little_number 8 (little_bytes 8 v ++ rest) ≡ v
number8_again v rest fits = omega (arith, from_le_bytes-to_le_bytes_8 v fits)

front4 : (xs : List ℕ) → 4 ≤ length xs → IsBytes xs → little_bytes 4 (little_number 4 xs) ++ drop 4 xs ≡ xs
front4 (a ∷ b ∷ c ∷ d ∷ rest) long are =
    let four : List ℕ = a ∷ b ∷ c ∷ d ∷ [] in
    ap (λ (t : List ℕ). t ++ rest) (le_bytes_4 (a ∷ b ∷ c ∷ d ∷ []) (little_number 4 (a ∷ b ∷ c ∷ d ∷ rest)) refl (IsBytes-take 4 (a ∷ b ∷ c ∷ d ∷ rest) are) (omega arith))
front4 (a ∷ b ∷ c ∷ []) long are = absurd (omega arith)
front4 (a ∷ b ∷ []) long are = absurd (omega arith)
front4 (a ∷ []) long are = absurd (omega arith)
front4 [] long are = absurd (omega arith)

front8 : (xs : List ℕ) → 8 ≤ length xs → IsBytes xs → little_bytes 8 (little_number 8 xs) ++ drop 8 xs ≡ xs
front8 (a ∷ b ∷ c ∷ d ∷ e ∷ f ∷ g ∷ h ∷ rest) long are =
    ap (λ (t : List ℕ). t ++ rest) (le_bytes_8 (a ∷ b ∷ c ∷ d ∷ e ∷ f ∷ g ∷ h ∷ []) (little_number 8 (a ∷ b ∷ c ∷ d ∷ e ∷ f ∷ g ∷ h ∷ rest)) refl (IsBytes-take 8 (a ∷ b ∷ c ∷ d ∷ e ∷ f ∷ g ∷ h ∷ rest) are) (omega arith))
front8 (a ∷ b ∷ c ∷ d ∷ e ∷ f ∷ g ∷ []) long are = absurd (omega arith)
front8 (a ∷ b ∷ c ∷ d ∷ e ∷ f ∷ []) long are = absurd (omega arith)
front8 (a ∷ b ∷ c ∷ d ∷ e ∷ []) long are = absurd (omega arith)
front8 (a ∷ b ∷ c ∷ d ∷ []) long are = absurd (omega arith)
front8 (a ∷ b ∷ c ∷ []) long are = absurd (omega arith)
front8 (a ∷ b ∷ []) long are = absurd (omega arith)
front8 (a ∷ []) long are = absurd (omega arith)
front8 [] long are = absurd (omega arith)

-- from a place on stands the spelling of the number that is read there
pub piece4 : (page : List ℕ) (at : ℕ) → at + 4 ≤ length page → IsBytes page → drop at page ≡ little_bytes 4 (number4_at at page) ++ drop (at + 4) page
piece4 page at fits are =
    sym (front4 (drop at page) (omega (arith, length-drop at page)) (IsBytes-drop at page are)) ∙ ap (λ (t : List ℕ). little_bytes 4 (number4_at at page) ++ t) (drop-drop 4 at page)

pub piece8 : (page : List ℕ) (at : ℕ) → at + 8 ≤ length page → IsBytes page → drop at page ≡ little_bytes 8 (number8_at at page) ++ drop (at + 8) page
piece8 page at fits are =
    sym (front8 (drop at page) (omega (arith, length-drop at page)) (IsBytes-drop at page are)) ∙ ap (λ (t : List ℕ). little_bytes 8 (number8_at at page) ++ t) (drop-drop 8 at page)

-- the same for bytes that are taken as they are
pub piece : (page : List ℕ) (at n : ℕ) → drop at page ≡ take n (drop at page) ++ drop (at + n) page
piece page at n = sym (take-append-drop n (drop at page)) ∙ ap (λ (t : List ℕ). take n (drop at page) ++ t) (drop-drop n at page)
