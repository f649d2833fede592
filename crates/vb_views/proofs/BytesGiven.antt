-- A file whose references have the pages of some bytes reads as these bytes.
use Rattle.std.proofs.Common.{◌≡◌, ℕ, suc, ◌+◌, ◌-◌, ◌*◌, Bool, true, not, ◌||◌, List, [], ◌∷◌, ◌++◌, length, take, drop, replicate, slice_get, Some, Result, Ok, refl, sym, ap, ◌∙◌, inl, inr, append-nil, length-drop, arith}
use Rattle.std.proofs.lemmas.Bool.{cases_lt}
use Rattle.std.proofs.lemmas.List.{drop-drop, drop_all, length-take, take-append-drop, take_all}
use Rattle.std.proofs.lemmas.Slice.Eq.{bytes_eq-Decides}
use Rattle.std.proofs.Math.Seq.{drop-append_seam, take-append_seam}
use Rattle.sha2.specs.Sha256.{sha256}
use Rattle.vb_block.specs.declared.digest.Ref.{Ref}
use Rattle.vb_head.specs.Layout.{are_zeros}
use Rattle.vb_inode.proofs.Zeros.{are_zeros-replicate}
use Rattle.vb_store.specs.Metadata.{and_then}
use Rattle.vb_store.specs.Recovered.{bytes_read, is_page_of}
use Rattle.vb_store.proofs.Chains.{refuse-passed}
use Rattle.vb_tree.specs.Contents.{page_of, truncated_to}
use Rattle.vb_tree.specs.Trees.{data_pages_of}

-- bytes that are cut or filled up with zeros
abbrev pub filled : ℕ → List ℕ → List ℕ
filled n bytes = take n bytes ++ replicate (n - length bytes) 0

-- what is past the bytes is zero
zeros_past : (n : ℕ) (bytes : List ℕ) → are_zeros (drop (length bytes) (filled n bytes)) ≡ true
zeros_past n bytes = elim (cases_lt (length bytes) n) [
  | inl less ↦
      ap (λ (l : List ℕ). are_zeros (drop (length bytes) (l ++ replicate (n - length bytes) 0))) (take_all n bytes (omega (arith, less)))
      ∙ ap are_zeros (drop-append_seam bytes (replicate (n - length bytes) 0))
      ∙ are_zeros-replicate (n - length bytes)
  | inr full ↦
      ap (λ (k : ℕ). are_zeros (drop (length bytes) (take n bytes ++ replicate k 0))) (let e : n - length bytes ≡ 0 = omega (arith, full) in e)
      ∙ ap (λ (l : List ℕ). are_zeros (drop (length bytes) l)) (append-nil (take n bytes))
      ∙ ap are_zeros (drop_all (length bytes) (take n bytes) (omega (arith, length-take n bytes)))
]

-- and what is below their end is theirs
front_of : (n : ℕ) (bytes : List ℕ) → take (length bytes) (filled n bytes) ≡ take n bytes
front_of n bytes = elim (cases_lt (length bytes) n) [
  | inl less ↦
      let all : take n bytes ≡ bytes = take_all n bytes (omega (arith, less)) in
      ap (λ (l : List ℕ). take (length bytes) (l ++ replicate (n - length bytes) 0)) all
      ∙ take-append_seam bytes (replicate (n - length bytes) 0) ∙ sym all
  | inr full ↦
      ap (λ (k : ℕ). take (length bytes) (take n bytes ++ replicate k 0)) (let e : n - length bytes ≡ 0 = omega (arith, full) in e)
      ∙ ap (take (length bytes)) (append-nil (take n bytes))
      ∙ take_all (length bytes) (take n bytes) (omega (arith, length-take n bytes))
]

pub first_page : (bytes : List ℕ) → page_of bytes 0 ≡ filled 4096 bytes
first_page bytes = ap (λ (n : ℕ). truncated_to 4096 (drop n bytes)) (let e : 4096 * 0 ≡ 0 = omega arith in e)

pub page_later : (bytes : List ℕ) (k : ℕ) → page_of bytes (suc k) ≡ page_of (drop 4096 bytes) k
page_later bytes k =
    ap (λ (n : ℕ). truncated_to 4096 (drop n bytes)) (let e : 4096 * suc k ≡ 4096 + 4096 * k = omega arith in e)
    ∙ ap (truncated_to 4096) (sym (drop-drop (4096 * k) 4096 bytes))

tested : (r : Ref) (page : List ℕ) (left : ℕ) → sha256 page ≡ r.digest → are_zeros (drop left page) ≡ true → is_page_of left r page ≡ true
tested r page left due zeros =
    ap (λ (b : Bool). not (not b || not (are_zeros (drop left page)))) ((bytes_eq-Decides r.digest (sha256 page)).1 (sym due))
    ∙ ap (λ (b : Bool). not (not b)) zeros

none_left : (bytes : List ℕ) → 0 ≡ data_pages_of (length bytes) → [] ≡ bytes
none_left [] none = refl
none_left (b ∷ bs) none = absurd (omega (arith, none))

-- the pages of a file are those of its bytes, with the digests of its references
abbrev pub HasFilePages : (ℕ → List ℕ) → List ℕ → List Ref → Type 0
HasFilePages reads bytes refs = (k : ℕ) (r : Ref) → slice_get refs k ≡ Some r → (reads r.place ≡ page_of bytes k) × (sha256 (reads r.place) ≡ r.digest)

pub bytes-given : (reads : ℕ → List ℕ) (bytes : List ℕ) (refs : List Ref) → length refs ≡ data_pages_of (length bytes) → HasFilePages reads bytes refs → bytes_read reads (length bytes) refs ≡ Ok bytes
bytes-given reads bytes [] long each = ap Ok (none_left bytes long)
bytes-given reads bytes (r ∷ rs) long each =
    let page : List ℕ = reads r.place in
    let rest : List ℕ = drop 4096 bytes in
    let first : page ≡ filled 4096 bytes = (each 0 r refl).0 ∙ first_page bytes in
    let zeros : are_zeros (drop (length bytes) page) ≡ true = ap (λ (p : List ℕ). are_zeros (drop (length bytes) p)) first ∙ zeros_past 4096 bytes in
    let left : length bytes - 4096 ≡ length rest = sym (length-drop 4096 bytes) in
    let later = bytes-given reads rest rs (omega (arith, long, left)) (λ k x at. ((each (suc k) x at).0 ∙ page_later bytes k, (each (suc k) x at).1)) in
    let whole : take (length bytes) page ++ rest ≡ bytes = ap (λ (p : List ℕ). take (length bytes) p ++ rest) first ∙ ap (λ (l : List ℕ). l ++ rest) (front_of 4096 bytes) ∙ take-append-drop 4096 bytes in
    refuse-passed (not (is_page_of (length bytes) r page)) r.place (and_then (bytes_read reads (length bytes - 4096) rs) (λ more. Ok (take (length bytes) page ++ more))) bytes
    (ap not (tested r page (length bytes) (each 0 r refl).1 zeros))
    (ap (λ (n : ℕ). and_then (bytes_read reads n rs) (λ more. let a : Result (List ℕ) ℕ = Ok (take (length bytes) page ++ more) in a)) left
    ∙ ap (λ (x : Result (List ℕ) ℕ). and_then x (λ more. let a : Result (List ℕ) ℕ = Ok (take (length bytes) page ++ more) in a)) later
    ∙ ap Ok whole)
