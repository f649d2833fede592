-- The bytes that were read of a file have the pages that its references name.
use Rattle.std.proofs.Common.{◌≡◌, ℕ, zero, suc, ◌-◌, Bool, true, false, not, ◌||◌, List, [], ◌∷◌, ◌++◌, length, take, drop, replicate, Ok, refl, sym, ap, subst, ◌∙◌, inl, inr, append-nil, length-append, length-drop, arith}
use Rattle.std.proofs.lemmas.Bool.{cases_lt}
use Rattle.std.proofs.lemmas.List.{drop_all, drop_at, length-take, take-append-drop, take_all, take_at}
use Rattle.std.proofs.lemmas.List.Elements.{All-cons, All-nil}
use Rattle.std.proofs.lemmas.Slice.Eq.{bytes_eq-Decides}
use Rattle.std.specs.List.{All}
use Rattle.std.specs.Str.{bytes_eq}
use Rattle.sha2.specs.Sha256.{sha256}
use Rattle.vb_block.specs.Pages.{IsPage}
use Rattle.vb_block.specs.declared.digest.Ref.{Ref}
use Rattle.vb_head.specs.Layout.{are_zeros}
use Rattle.vb_inode.proofs.Zeros.{replicate-from_zeros}
use Rattle.vb_store.specs.Metadata.{and_then}
use Rattle.vb_store.specs.Recovered.{bytes_read, is_page_of}
use Rattle.vb_store.proofs.Chains.{and_then-ok, refuse-ok}
use Rattle.vb_tree.specs.Contents.{page_of}
use Rattle.vb_tree.specs.Trees.{data_pages_of}
use Rattle.vb_views.specs.Reads.{GivesRef}
use Rattle.vb_views.proofs.BytesGiven.{HasFilePages, filled, first_page, page_later}

-- ---- one page

nothing : (xs : List ℕ) → length xs ≡ 0 → xs ≡ []
nothing [] none = refl
nothing (x ∷ xs) none = absurd (omega (arith, none))

-- a page and more, of which so many bytes are a file's, is its first page; and the rest is what follows
pub record IsFirstOf (page more bytes : List ℕ) : Type 0 where
  pub page_is : page ≡ filled 4096 bytes
  pub rest : drop 4096 bytes ≡ more

first_of : (left : ℕ) (page more : List ℕ) → length page ≡ 4096 → length more ≡ left - 4096 → are_zeros (drop left page) ≡ true → IsFirstOf page more (take left page ++ more)
first_of left page more is long zeros = elim (cases_lt left 4096) [
  | inl short ↦
      let none : more ≡ [] = nothing more (omega (arith, long, short)) in
      let bytes : take left page ++ more ≡ take left page = ap (λ (l : List ℕ). take left page ++ l) none ∙ append-nil (take left page) in
      let count : length (take left page) ≡ left = omega (arith, length-take left page, is, short) in
      let blank : drop left page ≡ replicate (4096 - left) 0 = replicate-from_zeros (drop left page) zeros ∙ ap (λ (n : ℕ). replicate n 0) (omega (arith, length-drop left page, is)) in
      let whole : page ≡ filled 4096 (take left page) =
      sym (take-append-drop left page)
      ∙ ap (λ (l : List ℕ). take left page ++ l) blank
      ∙ ap (λ (l : List ℕ). l ++ replicate (4096 - left) 0) (sym (take_all 4096 (take left page) (omega (arith, count, short))))
      ∙ ap (λ (n : ℕ). take 4096 (take left page) ++ replicate (4096 - n) 0) (sym count) in
      record {
        page_is = whole ∙ ap (λ (l : List ℕ). filled 4096 l) (sym bytes);
        rest = ap (drop 4096) bytes ∙ drop_all 4096 (take left page) (omega (arith, count, short)) ∙ sym none;
      }
  | inr full ↦
      let all : take left page ≡ page = take_all left page (omega (arith, is, full)) in
      let bytes : take left page ++ more ≡ page ++ more = ap (λ (l : List ℕ). l ++ more) all in
      let cut : 4096 - length (page ++ more) ≡ 0 = omega (arith, is, length-append page more) in
      record {
        page_is = sym (ap (λ (l : List ℕ). filled 4096 l) bytes
            ∙ ap (λ (n : ℕ). take 4096 (page ++ more) ++ replicate n 0) cut
            ∙ append-nil (take 4096 (page ++ more)) ∙ take_at page more 4096 is);
        rest = ap (drop 4096) bytes ∙ drop_at page more 4096 is;
      }
]

passed : (a b : Bool) → not (not (not a || not b)) ≡ false → (a ≡ true) × (b ≡ true)
passed true true is = (refl, refl)
passed true false is = absurd (cc is)
passed false true is = absurd (cc is)
passed false false is = absurd (cc is)

-- ---- all pages

-- bytes that were read have their length, and their pages and digests are those of the references
pub record AreBytesRead (reads : ℕ → List ℕ) (len : ℕ) (refs : List Ref) (bytes : List ℕ) : Type 0 where
  pub long : length bytes ≡ len
  pub pages : HasFilePages reads bytes refs
  pub gives : All (GivesRef reads) refs

pub bytes-were : (reads : ℕ → List ℕ) (len : ℕ) (refs : List Ref) (bytes : List ℕ) → ((place : ℕ) → IsPage (reads place)) → length refs ≡ data_pages_of len → bytes_read reads len refs ≡ Ok bytes → AreBytesRead reads len refs bytes
bytes-were reads len [] bytes are many is =
    let same : [] ≡ bytes = cc is in
    record { long = omega (arith, many, ap length (sym same)); pages = λ k r at. absurd (cc at); gives = All-nil (GivesRef reads) }
bytes-were reads len (r ∷ rs) bytes are many is =
    let page : List ℕ = reads r.place in
    let first = refuse-ok (not (is_page_of len r page)) r.place (and_then (bytes_read reads (len - 4096) rs) (λ more. Ok (take len page ++ more))) bytes is in
    let rest = and_then-ok (bytes_read reads (len - 4096) rs) (λ more. Ok (take len page ++ more)) bytes first.then in
    let more : List ℕ = rest.value in
    let whole : take len page ++ more ≡ bytes = cc rest.then in
    let later = bytes-were reads (len - 4096) rs more are (omega (arith, many)) rest.is in
    let tests = passed (bytes_eq r.digest (sha256 page)) (are_zeros (drop len page)) first.test_is in
    let due : sha256 page ≡ r.digest = sym ((bytes_eq-Decides r.digest (sha256 page)).0 tests.0) in
    let at_front : IsFirstOf page more bytes = subst (IsFirstOf page more) whole (first_of len page more (are r.place) later.long tests.1) in
    record {
      long = omega (arith, ap length (sym whole), length-append (take len page) more, length-take len page, are r.place, later.long);
      pages = each at_front due later.pages;
      gives = All-cons (GivesRef reads) r rs due later.gives;
    }
  where
    each : {more : List ℕ} → IsFirstOf (reads r.place) more bytes → sha256 (reads r.place) ≡ r.digest → HasFilePages reads more rs → HasFilePages reads bytes (r ∷ rs)
    each at_front due later zero x at =
        let same : r ≡ x = cc at in
        subst (λ (y : Ref). (reads y.place ≡ page_of bytes 0) × (sha256 (reads y.place) ≡ y.digest)) same (at_front.page_is ∙ sym (first_page bytes), due)
    each at_front due later (suc k) x at =
        let both = later k x at in
        (both.0 ∙ ap (λ (l : List ℕ). page_of l k) (sym at_front.rest) ∙ sym (page_later bytes k), both.1)
