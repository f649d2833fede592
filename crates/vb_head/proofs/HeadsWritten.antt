-- What has been written so far stands in front of zeros.
use Rattle.std.proofs.Common.{◌≡◌, ℕ, ◌+◌, ◌-◌, ◌≤◌, List, [], ◌++◌, length, take, drop, replicate, refl, sym, ap, ◌∙◌, arith}
use Rattle.std.proofs.lemmas.List.{drop-drop, drop_at, drop-replicate, take_at, take-replicate, length-append}
use Rattle.std.proofs.Math.Seq.{take-append-add}
use Rattle.sha2.specs.Sha256.{sha256}
use Rattle.vb_block.specs.Pages.{overwritten, sealed_page, sealed_part, zero_page, filled_page}
use Rattle.vb_head.specs.declared.head.Head.{Head}
use Rattle.vb_head.specs.Layout.{no_rest, spelled}
use Rattle.vb_head.specs.Heads.{fields_from, head_page}

-- the page begins so, and has zeros from the place on
pub record BeginsWith (page front : List ℕ) (at : ℕ) : Type 0 where
  pub parts : page ≡ front ++ replicate (4096 - at) 0
  pub long : length front ≡ at

pub BeginsWith-zero_page : (page : List ℕ) → page ≡ zero_page → BeginsWith page [] 0
unfolding filled_page
BeginsWith-zero_page page is = record { parts = is; long = refl }

pub BeginsWith-overwritten : (page new front bytes : List ℕ) (at n : ℕ) → BeginsWith page front at → length bytes ≡ n → at + n ≤ 4096 → new ≡ overwritten page at bytes → BeginsWith new (front ++ bytes) (at + n)
BeginsWith-overwritten page new front bytes at n begins long fits is =
    let same : at + length bytes ≡ at + n = omega arith in
    let left : 4096 - at - n ≡ 4096 - (at + n) = omega arith in
    let head : take at page ≡ front = ap (take at) begins.parts ∙ take_at front (replicate (4096 - at) 0) at begins.long in
    let tail : drop (at + length bytes) page ≡ replicate (4096 - (at + n)) 0 =
    ap (λ (k : ℕ). drop k page) same ∙ sym (drop-drop n at page) ∙ ap (λ (l : List ℕ). drop n (drop at l)) begins.parts
    ∙ ap (drop n) (drop_at front (replicate (4096 - at) 0) at begins.long) ∙ drop-replicate n (4096 - at) 0 ∙ ap (λ (k : ℕ). replicate k 0) left in
    record {
      parts = is ∙ ap (λ (l : List ℕ). l ++ bytes ++ drop (at + length bytes) page) head ∙ ap (λ (l : List ℕ). front ++ bytes ++ l) tail;
      long = omega (arith, length-append front bytes);
    }

pub take-BeginsWith : (page front : List ℕ) (at k : ℕ) → BeginsWith page front at → at + k ≤ 4096 → take (at + k) page ≡ front ++ replicate k 0
take-BeginsWith page front at k begins fits =
    let same : at + k ≡ length front + k = omega (arith, begins.long) in
    ap (λ (n : ℕ). take n page) same ∙ ap (take (length front + k)) begins.parts ∙ take-append-add front (replicate (4096 - at) 0) k
    ∙ ap (λ (l : List ℕ). front ++ l) (take-replicate k (4096 - at) 0 (omega arith))

-- the page that is sealed last is the head's
pub head_page-from_sealed : (h : Head) (page new front : List ℕ) → BeginsWith page front 60 → front ++ no_rest ≡ spelled (fields_from h) → new ≡ sealed_page page → new ≡ head_page h
unfolding head_page sealed_part no_rest
head_page-from_sealed h page new front begins is sealed =
    let covered : take 4064 page ≡ spelled (fields_from h) = take-BeginsWith page front 60 4004 begins (omega arith) ∙ is in
    sealed ∙ ap (λ (l : List ℕ). l ++ sha256 l) covered
