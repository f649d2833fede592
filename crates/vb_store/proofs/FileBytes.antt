-- The bytes that are read of a file are those that its pages hold.
use Rattle.std.proofs.Common.{◌≡◌, ℕ, zero, suc, ◌+◌, ◌-◌, ◌<◌, ◌≤◌, List, [], ◌∷◌, ◌++◌, length, take, map, not, Result, Ok, refl, sym, ap, ◌∙◌, arith, append-nil, inl, inr}
use Rattle.std.proofs.lemmas.Bool.{cases_lt}
use Rattle.std.proofs.lemmas.List.{take-append-le}
use Rattle.std.proofs.Math.Seq.{take-append-add}
use Rattle.std.specs.List.{flat_map}
use Rattle.vb_block.specs.declared.digest.Ref.{Ref}
use Rattle.vb_block.specs.Pages.{IsPage}
use Rattle.vb_store.specs.Recovered.{bytes_read, is_page_of}
use Rattle.vb_store.proofs.Chains.{and_then-ok, refuse-ok}
use Rattle.vb_tree.specs.Contents.{bytes_held}

-- nothing is taken of no bytes
take-none : (n : ℕ) → take {A = ℕ} n [] ≡ []
take-none zero = refl
take-none (suc n) = refl

-- the first bytes of a page and more are those of the page where it has so many
short : (len : ℕ) (page more : List ℕ) → IsPage page → len < 4096 → take len (page ++ more) ≡ take len page ++ take (len - 4096) more
short len page more is less =
    let none : len - 4096 ≡ 0 = omega arith in
    take-append-le len page more (omega (arith, is, less)) ∙ sym (ap (λ (n : ℕ). take len page ++ take n more) none ∙ append-nil (take len page))

-- and else all of it, and then as many of the rest as are left
long : (len : ℕ) (page more : List ℕ) → IsPage page → 4096 ≤ len → take len (page ++ more) ≡ take len page ++ take (len - 4096) more
long len page more is fits =
    let sum : len ≡ length page + (len - 4096) = omega (arith, is) in
    let all : take len page ≡ page = ap (take len) (sym (append-nil page)) ∙ ap (λ (n : ℕ). take n (page ++ [])) sum ∙ take-append-add page [] (len - 4096)
    ∙ ap (λ (t : List ℕ). page ++ t) (take-none (len - 4096)) ∙ append-nil page in
    ap (λ (n : ℕ). take n (page ++ more)) sum ∙ take-append-add page more (len - 4096) ∙ ap (λ (t : List ℕ). t ++ take (len - 4096) more) (sym all)

split : (len : ℕ) (page more : List ℕ) → IsPage page → take len (page ++ more) ≡ take len page ++ take (len - 4096) more
split len page more is = elim (cases_lt len 4096) [ inl less ↦ short len page more is less | inr fits ↦ long len page more is fits ]

-- what was read
abbrev read : List ℕ → Result (List ℕ) ℕ
read bytes = Ok bytes

read_same : (a b : List ℕ) → read a ≡ read b → a ≡ b
read_same a b e = cc

pub read-held : (reads : ℕ → List ℕ) (len : ℕ) (refs : List Ref) (bytes : List ℕ) → ((place : ℕ) → IsPage (reads place)) → bytes_read reads len refs ≡ Ok bytes → bytes ≡ bytes_held len (map (λ r. reads r.place) refs)
read-held reads len [] bytes are is = sym (read_same [] bytes is) ∙ sym (take-none len)
read-held reads len (r ∷ rs) bytes are is =
    let passed = refuse-ok (not (is_page_of len r (reads r.place))) r.place _ bytes is in
    let more = and_then-ok (bytes_read reads (len - 4096) rs) (λ later. read (take len (reads r.place) ++ later)) bytes passed.then in
    let later = read-held reads (len - 4096) rs more.value are more.is in
    sym (read_same _ bytes more.then) ∙ ap (λ (t : List ℕ). take len (reads r.place) ++ t) later
    ∙ sym (split len (reads r.place) (flat_map (λ page. page) (map (λ x. reads x.place) rs)) (are r.place))

pub ruleset bytes_held_by_pages = (read-held)
