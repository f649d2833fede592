-- The digests of the pages of a content that grows.
use Rattle.std.proofs.Common.{◌≡◌, ℕ, zero, suc, ◌+◌, ◌-◌, ◌*◌, ◌/◌, ◌<◌, ◌≤◌, ◌⊎◌, List, [], ◌∷◌, ◌++◌, length, take, drop, replicate, refl, sym, ap, ◌∙◌, subst, inl, inr, arith, length-append, length-drop}
use Rattle.std.proofs.lemmas.List.{drop-replicate, take-append-le, drop-append-le, take_all}
use Rattle.std.specs.Prelude.{nat_lt}
use Rattle.std.proofs.lemmas.Bool.{cases_Bool}
use Rattle.std.proofs.lemmas.Bool.Decides.{nat_tests}
use Rattle.sha2.specs.Sha256.{sha256}
use Rattle.vb_block.specs.Pages.{filled_page, zero_page, overwritten}
use Rattle.vb_tree.specs.Trees.{data_pages_of}
use Rattle.vb_cloud.specs.Pages.{filled_up, page_at, first_digests, digests_of}

-- bytes over a page of zeros are the bytes filled up
pub overwritten-filled : (bytes : List ℕ) → overwritten zero_page 0 bytes ≡ filled_up bytes
unfolding filled_page filled_up
overwritten-filled bytes =
    let e : length bytes ≡ 0 + length bytes = omega arith in
    ap (λ z. bytes ++ z) (subst (λ n. drop {A = ℕ} n (replicate 4096 0) ≡ replicate (4096 - length bytes) 0) e (drop-replicate (length bytes) 4096 0))

-- bytes that are written over a page of zeros
pub page_written : (bytes page : List ℕ) (number : ℕ) → page ≡ zero_page → overwritten page 0 (take 4096 (drop (4096 * number) bytes)) ≡ page_at number bytes
page_written bytes page number zeros =
    ap (λ z. overwritten z 0 (take 4096 (drop (4096 * number) bytes))) zeros
    ∙ overwritten-filled (take 4096 (drop (4096 * number) bytes))

-- a full page stays when bytes are added
page_at-append : (n : ℕ) (bytes more : List ℕ) → 4096 * (n + 1) ≤ length bytes → page_at n (bytes ++ more) ≡ page_at n bytes
page_at-append n bytes more h =
    ap (λ rest. filled_up (take 4096 rest)) (drop-append-le (4096 * n) bytes more (omega arith))
    ∙ ap filled_up (take-append-le 4096 (drop (4096 * n) bytes) more (omega (arith, length-drop {A = ℕ})))

-- so do the digests of full pages
pub first_digests-append : (n : ℕ) (bytes more : List ℕ) → 4096 * n ≤ length bytes → first_digests n (bytes ++ more) ≡ first_digests n bytes
first_digests-append zero bytes more h = refl
first_digests-append (suc n) bytes more h =
    ap (λ ds. ds ++ sha256 (page_at n (bytes ++ more)) ∷ []) (first_digests-append n bytes more (omega arith))
    ∙ ap (λ page. first_digests n bytes ++ sha256 page ∷ []) (page_at-append n bytes more (omega arith))

pub length-first_digests : (n : ℕ) (bytes : List ℕ) → length (first_digests n bytes) ≡ n
length-first_digests zero bytes = refl
length-first_digests (suc n) bytes = let before = length-first_digests n bytes in omega (arith, length-append {A = List ℕ})

le-cases : (m n : ℕ) → m ≤ suc n → (m ≤ n) ⊎ (m ≡ suc n)
le-cases m n h = elim (cases_Bool (nat_lt n m)) [
  | inl w ↦ inr (grind (arith, nat_tests))
  | inr w ↦ inl (grind (arith, nat_tests))
]

-- the first of the digests are those of the first pages
pub take-first_digests : (m n : ℕ) (bytes : List ℕ) → m ≤ n → take m (first_digests n bytes) ≡ first_digests m bytes
take-first_digests m zero bytes h =
    let e : 0 ≡ m = omega arith in
    subst (λ k. take k (first_digests zero bytes) ≡ first_digests k bytes) e refl
take-first_digests m (suc n) bytes h = by_case (λ below. take-first_digests m n bytes below) (le-cases m n h) where
  by_case : (m ≤ n → take m (first_digests n bytes) ≡ first_digests m bytes) → (m ≤ n) ⊎ (m ≡ suc n) → take m (first_digests (suc n) bytes) ≡ first_digests m bytes
  by_case rest (inl below) =
      take-append-le m (first_digests n bytes) (sha256 (page_at n bytes) ∷ []) (omega (arith, length-first_digests n bytes))
      ∙ rest below
  by_case rest (inr is) =
      subst (λ k. take k (first_digests (suc n) bytes) ≡ first_digests k bytes) (sym is) (take_all (suc n) (first_digests (suc n) bytes) (omega (arith, length-first_digests (suc n) bytes)))

-- one more digest
pub one_more : (digests : List (List ℕ)) (bytes page : List ℕ) (pages : ℕ) → digests ≡ first_digests (length digests) bytes → page ≡ page_at (length digests) bytes → length digests < pages → pages ≤ length digests + 1 → digests ++ sha256 page ∷ [] ≡ first_digests pages bytes
one_more digests bytes page pages are is below above =
    let n = length digests in
    let count : suc n ≡ pages = omega arith in
    subst (λ p. digests ++ sha256 page ∷ [] ≡ first_digests p bytes) count
    (ap (λ q. digests ++ sha256 q ∷ []) is ∙ ap (λ ds. ds ++ sha256 (page_at n bytes) ∷ []) are)

-- what is noted of the full pages before bytes are added is still what is noted after
pub still_noted : (digests : List (List ℕ)) (bytes more : List ℕ) → digests ≡ first_digests (length bytes / 4096) bytes → digests ≡ first_digests (length digests) (bytes ++ more)
still_noted digests bytes more are =
    let n = length bytes / 4096 in
    let count : length digests ≡ n = ap length are ∙ length-first_digests n bytes in
    subst (λ k. digests ≡ first_digests k (bytes ++ more)) (sym count) (are ∙ sym (first_digests-append n bytes more (omega arith)))

pub noted : (digests : List (List ℕ)) (bytes : List ℕ) → digests ≡ first_digests (length bytes / 4096) bytes → (digests ≡ first_digests (length digests) bytes) × (length digests ≡ length bytes / 4096)
noted digests bytes are =
    let n = length bytes / 4096 in
    let count : length digests ≡ n = ap length are ∙ length-first_digests n bytes in
    (subst (λ k. digests ≡ first_digests k bytes) (sym count) are, count)

-- nothing is noted of a page that isn't full, once it is forgotten
pub forgotten : (digests : List (List ℕ)) (bytes : List ℕ) → digests ≡ digests_of bytes → take (length bytes / 4096) digests ≡ first_digests (length bytes / 4096) bytes
forgotten digests bytes are =
    ap (take (length bytes / 4096)) are ∙ take-first_digests (length bytes / 4096) (data_pages_of (length bytes)) bytes (omega arith)

pub ruleset filling = page_written

pub ruleset noting = one_more

pub ruleset forgetting = forgotten

pub ruleset adding = still_noted
