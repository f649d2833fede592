-- What sealing a page leaves, and what the test of a seal says.
use Rattle.std.proofs.Common.{◌≡◌, ℕ, ◌+◌, Bool, IsTrue, Decides, List, ◌++◌, length, take, drop, sym, ap, ◌∙◌, arith}
use Rattle.std.proofs.lemmas.List.{append-nil, drop_all, take_at, drop_at, length-take}
use Rattle.sha2.specs.Sha256.{sha256}
use Rattle.vb_block.specs.Pages.{IsPage, IsSealed, overwritten, seal_of, sealed_page, sealed_part}

-- what a seal covers has 4,064 bytes
pub length-sealed_part : (page : List ℕ) → IsPage page → length (sealed_part page) ≡ 4064
unfolding sealed_part
length-sealed_part page is = omega (arith, length-take 4064 page)

-- 32 bytes at the place of the seal stand after what it covers
pub overwritten-seal : (page digest : List ℕ) → IsPage page → length digest ≡ 32 → overwritten page 4064 digest ≡ sealed_part page ++ digest
unfolding sealed_part
overwritten-seal page digest is long =
    ap (λ (rest : List ℕ). take 4064 page ++ digest ++ rest) (drop_all (4064 + length digest) page (omega arith)) ∙ append-nil (take 4064 page ++ digest)

-- what covers and what seals stand where a sealed page has them
pub sealed_part-append : (page digest : List ℕ) → IsPage page → sealed_part (sealed_part page ++ digest) ≡ sealed_part page
unfolding sealed_part
sealed_part-append page digest is = take_at (take 4064 page) digest 4064 (omega (arith, length-take 4064 page))

pub seal_of-append : (page digest : List ℕ) → IsPage page → seal_of (sealed_part page ++ digest) ≡ digest
unfolding sealed_part seal_of
seal_of-append page digest is = drop_at (take 4064 page) digest 4064 (omega (arith, length-take 4064 page))

-- a page that was given its seal is sealed
pub IsSealed-sealed_page : (page : List ℕ) → IsPage page → IsSealed (sealed_page page)
IsSealed-sealed_page page is =
    seal_of-append page (sha256 (sealed_part page)) is ∙ ap sha256 (sym (sealed_part-append page (sha256 (sealed_part page)) is))

-- the comparison of the two parts decides whether a page is sealed
pub IsSealed-from_parts : (page front last digest : List ℕ) (test : Bool) → front ≡ take 4064 page → last ≡ drop 4064 page → digest ≡ sha256 front → Decides test (digest ≡ last) → (IsTrue test → IsSealed page) × (IsSealed page → IsTrue test)
unfolding sealed_part seal_of
IsSealed-from_parts page front last digest test is_front is_last is_digest decides = (
  λ holds. let same = decides.0 holds in sym is_last ∙ sym same ∙ is_digest ∙ ap sha256 is_front,
  λ sealed. decides.1 (is_digest ∙ ap sha256 is_front ∙ sym sealed ∙ sym is_last),
)

-- the page after its digest was written at the place of the seal
pub sealed_page-from_written : (page seen digest new : List ℕ) → IsPage seen → seen ≡ page → digest ≡ sha256 (take 4064 seen) → length digest ≡ 32 → new ≡ overwritten page 4064 digest → new ≡ sealed_page page
unfolding sealed_part
sealed_page-from_written page seen digest new is same of_front long written =
    let page_is : IsPage page = sym (ap length same) ∙ is in
    written ∙ overwritten-seal page digest page_is long ∙ ap (λ (bytes : List ℕ). take 4064 page ++ bytes) (of_front ∙ ap (λ (bytes : List ℕ). sha256 (take 4064 bytes)) same)
