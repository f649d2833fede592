-- What a cloud holds at a place.
use Rattle.std.proofs.Common.{◌≡◌, ℕ, zero, suc, ◌+◌, ◌*◌, ◌<◌, ◌≤◌, ◌⊎◌, Bool, true, false, cond, List, [], ◌∷◌, ◌++◌, length, get_or, Option, Some, None, refl, sym, ap, ◌∙◌, subst, inl, inr, arith, length-append}
use Rattle.std.specs.Prelude.{nat_lt}
use Rattle.std.specs.List.{slice_get}
use Rattle.std.specs.Option.{option_map, option_and_then}
use Rattle.std.proofs.lemmas.Option.{slice_get-map, slice_get_past, slice_get-get_or, get_or_from_slice_get}
use Rattle.std.proofs.lemmas.List.{get_or_append_left}
use Rattle.std.proofs.Math.Seq.{get_or-append_seam}
use Rattle.std.proofs.lemmas.Bool.{cases_Bool}
use Rattle.std.proofs.lemmas.Bool.Decides.{nat_tests}
use Rattle.sha2.specs.Sha256.{sha256}
use Rattle.vb_tree.specs.declared.tree.Kind.{Kind}
use Rattle.vb_tree.specs.declared.tree.TreeEntry.{TreeEntry}
use Rattle.vb_tree.specs.Trees.{data_pages_of}
use Rattle.vb_cloud.specs.Machine.{CloudState}
use Rattle.vb_cloud.specs.Pages.{page_at, first_digests, digests_of}
use Rattle.vb_cloud.proofs.Digests.{length-first_digests}
use Rattle.vb_link.specs.declared.view.ViewEntry.{ViewEntry}
use Rattle.vb_link.specs.Views.{told_entry, view_of, entry_in, digest_in, page_among, page_in}

-- what is told of the entry at a place
pub told_there : (k : CloudState) (i : ℕ) (e : TreeEntry) → slice_get k.tree i ≡ Some e → entry_in i (view_of k) ≡ Some (told_entry e)
told_there k i e at = slice_get-map told_entry k.tree i ∙ ap (option_map told_entry) at

-- nothing is told past the end
pub none_told : (k : CloudState) (i : ℕ) → length k.tree ≤ i → entry_in i (view_of k) ≡ None
none_told k i past = slice_get-map told_entry k.tree i ∙ ap (option_map told_entry) (slice_get_past k.tree i past)

-- ---- pages and their digests

-- each of the first digests is that of its page
digest_at : (n p : ℕ) (bytes : List ℕ) → p < n → slice_get (first_digests n bytes) p ≡ Some (sha256 (page_at p bytes))
digest_at n p bytes within =
    let count = length-first_digests n bytes in
    slice_get-get_or (first_digests n bytes) p [] (omega (arith, count)) ∙ ap Some (among n within) where
      among : (m : ℕ) → p < m → get_or (first_digests m bytes) p [] ≡ sha256 (page_at p bytes)
      among zero h = absurd (omega arith)
      among (suc m) h = by_case (among m) (cases_Bool (nat_lt p m)) where
        before : length (first_digests m bytes) ≡ m
        before = length-first_digests m bytes

        by_case : (p < m → get_or (first_digests m bytes) p [] ≡ sha256 (page_at p bytes)) → (nat_lt p m ≡ true) ⊎ (nat_lt p m ≡ false) → get_or (first_digests (suc m) bytes) p [] ≡ sha256 (page_at p bytes)
        by_case rest (inl w) =
            let less : p < m = grind (arith, nat_tests) in
            get_or_append_left (first_digests m bytes) (sha256 (page_at m bytes) ∷ []) [] p (omega (arith, before)) ∙ rest less
        by_case rest (inr w) =
            let is : m ≡ p = grind (arith, nat_tests) in
            let last : length (first_digests m bytes) ≡ p = before ∙ is in
            subst (λ k. get_or (first_digests (suc m) bytes) k [] ≡ sha256 (page_at m bytes)) last (get_or-append_seam (first_digests m bytes) (sha256 (page_at m bytes)) [] [])
            ∙ ap (λ k. sha256 (page_at k bytes)) is

-- the digest at a place is that of the page there
pub digests_are : (bytes : List ℕ) (p : ℕ) → slice_get (digests_of bytes) p ≡ option_map sha256 (page_among p bytes)
digests_are bytes p = by_case (cases_Bool (nat_lt p (data_pages_of (length bytes)))) where
  by_case : (nat_lt p (data_pages_of (length bytes)) ≡ true) ⊎ (nat_lt p (data_pages_of (length bytes)) ≡ false) → slice_get (digests_of bytes) p ≡ option_map sha256 (page_among p bytes)
  by_case (inl w) =
      let within : p < data_pages_of (length bytes) = grind (arith, nat_tests) in
      digest_at (data_pages_of (length bytes)) p bytes within
      ∙ ap (λ v. option_map sha256 (cond v (Some (page_at p bytes)) None)) (sym w)
  by_case (inr w) =
      let past : data_pages_of (length bytes) ≤ p = grind (arith, nat_tests) in
      let count = length-first_digests (data_pages_of (length bytes)) bytes in
      slice_get_past (digests_of bytes) p (omega (arith, count))
      ∙ ap (λ v. option_map sha256 (cond v (Some (page_at p bytes)) None)) (sym w)

digests_in : (k : CloudState) (i p : ℕ) → digest_in i p (view_of k) ≡ option_map sha256 (page_in i p k)
digests_in k i p =
    ap (option_and_then (λ (e : ViewEntry). slice_get e.digests p)) (slice_get-map told_entry k.tree i) ∙ by_case (slice_get k.tree i) where
      by_case : (o : Option TreeEntry) → option_and_then (λ (e : ViewEntry). slice_get e.digests p) (option_map told_entry o) ≡ option_map sha256 (option_and_then (λ (e : TreeEntry). page_among p e.bytes) o)
      by_case None = refl
      by_case (Some e) = digests_are e.bytes p

-- a page that is there has its digest in the view, and where none is there no digest is
pub page_told : (k : CloudState) (i p : ℕ) (page digest : List ℕ) → page_in i p k ≡ Some page → sha256 page ≡ digest → digest_in i p (view_of k) ≡ Some digest
page_told k i p page digest there is = digests_in k i p ∙ ap (option_map sha256) there ∙ ap Some is

pub no_page_told : (k : CloudState) (i p : ℕ) → page_in i p k ≡ None → digest_in i p (view_of k) ≡ None
no_page_told k i p none = digests_in k i p ∙ ap (option_map sha256) none

-- what a digest that is found says of its page
pub record IsHeld (bytes : List ℕ) (p : ℕ) (found : List ℕ) : Type 0 where
  pub within : 4096 * p ≤ length bytes
  pub page : page_among p bytes ≡ Some (page_at p bytes)
  pub digest : sha256 (page_at p bytes) ≡ found

pub held : (bytes : List ℕ) (p : ℕ) (digests : List (List ℕ)) (found : List ℕ) → digests ≡ digests_of bytes → p < length digests → get_or digests p found ≡ found → IsHeld bytes p found
held bytes p digests found are inside at =
    let count : length digests ≡ data_pages_of (length bytes) = ap length are ∙ length-first_digests (data_pages_of (length bytes)) bytes in
    let within : p < data_pages_of (length bytes) = omega (arith, count, inside) in
    let test : nat_lt p (data_pages_of (length bytes)) ≡ true = grind (arith, nat_tests) in
    record {
      within = omega (arith, within);
      page = ap (λ v. cond v (Some (page_at p bytes)) None) test;
      digest = sym (get_or_from_slice_get (digests_of bytes) p (sha256 (page_at p bytes)) found (digest_at (data_pages_of (length bytes)) p bytes within)) ∙ ap (λ ds. get_or ds p found) (sym are) ∙ at;
    }

pub not_held : (bytes : List ℕ) (p : ℕ) (digests : List (List ℕ)) → digests ≡ digests_of bytes → length digests ≤ p → page_among p bytes ≡ None
not_held bytes p digests are past =
    let count : length digests ≡ data_pages_of (length bytes) = ap length are ∙ length-first_digests (data_pages_of (length bytes)) bytes in
    let beyond : data_pages_of (length bytes) ≤ p = omega (arith, count, past) in
    let test : nat_lt p (data_pages_of (length bytes)) ≡ false = grind (arith, nat_tests) in
    ap (λ v. cond v (Some (page_at p bytes)) None) test

-- the page of an entry
pub page_there : (k : CloudState) (i p : ℕ) (e : TreeEntry) → slice_get k.tree i ≡ Some e → page_in i p k ≡ page_among p e.bytes
page_there k i p e at = ap (option_and_then (λ (e : TreeEntry). page_among p e.bytes)) at

pub ruleset telling = (told_there, none_told)

pub ruleset holding = told_there

pub ruleset fetching = (page_told, no_page_told)
