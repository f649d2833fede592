-- A listing's maps find what its entries have, also after one more entry.
use Rattle.std.proofs.Common.{◌≡◌, ℕ, zero, suc, ◌+◌, ◌<◌, ◌≤◌, ◌⊎◌, Bool, true, false, cond, ◌&&◌, List, [], ◌∷◌, ◌++◌, length, take, get_or, slice_get, Option, Some, None, refl, sym, ap, ◌∙◌, subst, inl, inr, true≢false, arith, eqb, length-append}
use Rattle.std.specs.Prelude.{if◌then◌else◌}
use Rattle.std.specs.Option.{option_map, option_or}
use Rattle.std.specs.List.{position_from}
use Rattle.std.specs.Map.{lookup}
use Rattle.std.specs.Str.{bytes_eq}
use Rattle.std.specs.Global.{Vec}
use Rattle.vb_block.specs.declared.digest.Digest.{Digest}
use Rattle.std.specs.Cmp.Lexicographic.{pointwise_decides, bytes_decides}
use Rattle.std.proofs.lemmas.List.{take_more, length-take-le}
use Rattle.std.proofs.lemmas.Bool.{cases_Bool}
use Rattle.std.proofs.lemmas.Bool.Decides.{nat_tests}
use Rattle.vb_link.specs.declared.view.ViewEntry.{ViewEntry}
use Rattle.vb_sync.specs.declared.published_page.PublishedPage.{PublishedPage}
use Rattle.vb_sync.specs.Published.{page_of, place_in, first_page_from, first_page, digest_at, is_file_kind, same_digests, has_digests, has_contents, first_with_digests, first_file, same_key}
use Rattle.vb_sync.specs.Indexes.{file_key, IsIndex, Pages, Contents, Files, NotesPages, NotesContents, NotesFile}
use Rattle.vb_sync.proofs.Finding.{or_none, or_or, map_or, map_cond, no_some, of_some, position-push, position-narrow, position-within, position-both}

-- equal digests, and equal lists of them
pub same_digest-is : (a b : List ℕ) → bytes_eq a b ≡ true → a ≡ b
same_digest-is a b h = (bytes_decides a b).0 h

pub same_digests-is : (a b : List (List ℕ)) → same_digests a b ≡ true → a ≡ b
same_digests-is a b h = (pointwise_decides bytes_decides a b).0 h

pub same_digests-self : (a : List (List ℕ)) → same_digests a a ≡ true
same_digests-self a = (pointwise_decides bytes_decides a a).1 refl

-- ---- pages

pub place-snoc : (i : ℕ) (digest : List ℕ) (digests : List (List ℕ)) (x : List ℕ) → place_in i digest (digests ++ x ∷ []) ≡ option_or (place_in i digest digests) (cond (bytes_eq digest x) (Some (page_of i (length digests))) None)
place-snoc i digest digests x =
    ap (option_map (page_of i)) (position-push (bytes_eq digest) digests x)
    ∙ map_or (page_of i) (position_from (bytes_eq digest) 0 digests) (cond (bytes_eq digest x) (Some (length digests)) None)
    ∙ ap (option_or (place_in i digest digests)) (map_cond (page_of i) (bytes_eq digest x) (length digests))

page-snoc : (i : ℕ) (digest : List ℕ) (es : List ViewEntry) (e : ViewEntry) → first_page_from i digest (es ++ e ∷ []) ≡ option_or (first_page_from i digest es) (place_in (i + length es) digest e.digests)
page-snoc i digest [] e =
    or_none (place_in i digest e.digests) ∙ ap (λ n. place_in n digest e.digests) (omega arith)
page-snoc i digest (x ∷ es) e =
    let place : (i + 1) + length es ≡ i + length (x ∷ es) = omega arith in
    ap (option_or (place_in i digest x.digests)) (page-snoc (i + 1) digest es e ∙ ap (λ n. option_or (first_page_from (i + 1) digest es) (place_in n digest e.digests)) place)
    ∙ or_or (place_in i digest x.digests) (first_page_from (i + 1) digest es) (place_in (i + length (x ∷ es)) digest e.digests)

page-push : (digest : List ℕ) (es : List ViewEntry) (e : ViewEntry) → first_page digest (es ++ e ∷ []) ≡ option_or (first_page digest es) (place_in (length es) digest e.digests)
page-push digest es e = page-snoc 0 digest es e ∙ ap (λ n. option_or (first_page digest es) (place_in n digest e.digests)) (omega arith)

-- ---- one more entry

pages-added : (es : List ViewEntry) (e : ViewEntry) (old new : Pages) → ((digest : List ℕ) → lookup (bytes_eq digest) old ≡ first_page digest es) → NotesPages old new (length es) e.digests → (digest : List ℕ) → lookup (bytes_eq digest) new ≡ first_page digest (es ++ e ∷ [])
pages-added es e old new found noted digest =
    noted digest ∙ ap (λ o. option_or o (place_in (length es) digest e.digests)) (found digest) ∙ sym (page-push digest es e)

-- a folder is no file
digests-folder : (digests : List (List ℕ)) (es : List ViewEntry) (e : ViewEntry) → is_file_kind e.kind ≡ false → first_with_digests digests (es ++ e ∷ []) ≡ first_with_digests digests es
digests-folder digests es e folder =
    position-push (has_digests digests) es e
    ∙ ap (λ b. option_or (first_with_digests digests es) (cond (b && same_digests digests e.digests) (Some (length es)) None)) folder
    ∙ or_none (first_with_digests digests es)

file-folder : (size : ℕ) (digests : List (List ℕ)) (es : List ViewEntry) (e : ViewEntry) → is_file_kind e.kind ≡ false → first_file size digests (es ++ e ∷ []) ≡ first_file size digests es
file-folder size digests es e folder =
    position-push (has_contents size digests) es e
    ∙ ap (λ b. option_or (first_file size digests es) (cond ((b && same_digests digests e.digests) && eqb size e.length) (Some (length es)) None)) folder
    ∙ or_none (first_file size digests es)

pub folder-added : (es : List ViewEntry) (e : ViewEntry) (pages : Pages) (contents : Contents) (files : Files) (noted : Pages)
    → IsIndex es pages contents files → is_file_kind e.kind ≡ false → NotesPages pages noted (length es) e.digests → IsIndex (es ++ e ∷ []) noted contents files
folder-added es e pages contents files noted is folder more = record {
  pages_found = pages-added es e pages noted is.pages_found more;
  contents_found = λ digests. is.contents_found digests ∙ sym (digests-folder digests es e folder);
  files_found = λ digests first size there. is.files_found digests first size (sym (digests-folder digests es e folder) ∙ there) ∙ sym (file-folder size digests es e folder);
  fresh = λ first size past. is.fresh first size (let count = length-append es (e ∷ []) in omega (arith, count, past));
}

-- ---- one more file

module _ (es : List ViewEntry) (e : ViewEntry) (file : is_file_kind e.kind ≡ true) where
  digests-file : (digests : List (List ℕ)) → first_with_digests digests (es ++ e ∷ []) ≡ option_or (first_with_digests digests es) (cond (same_digests digests e.digests) (Some (length es)) None)
  digests-file digests =
      position-push (has_digests digests) es e
      ∙ ap (λ b. option_or (first_with_digests digests es) (cond (b && same_digests digests e.digests) (Some (length es)) None)) file

  contents-file : (size : ℕ) (digests : List (List ℕ)) → first_file size digests (es ++ e ∷ []) ≡ option_or (first_file size digests es) (cond (same_digests digests e.digests && eqb size e.length) (Some (length es)) None)
  contents-file size digests =
      position-push (has_contents size digests) es e
      ∙ ap (λ b. option_or (first_file size digests es) (cond ((b && same_digests digests e.digests) && eqb size e.length) (Some (length es)) None)) file

narrow_test : (size : ℕ) (digests : List (List ℕ)) (e : ViewEntry) → has_digests digests e ≡ false → has_contents size digests e ≡ false
narrow_test size digests e fails = ap (λ b. b && eqb size e.length) fails

-- where no file has these digests, none has them and a length
pub no_file : (size : ℕ) (digests : List (List ℕ)) (es : List ViewEntry) → first_with_digests digests es ≡ None → first_file size digests es ≡ None
no_file size digests es none = position-narrow (has_digests digests) (has_contents size digests) (narrow_test size digests) 0 es none

its_digests : (digests : List (List ℕ)) (e : ViewEntry) → has_digests digests e ≡ true → digests ≡ e.digests
its_digests digests e has = by_kind (cases_Bool (is_file_kind e.kind)) where
  by_kind : (is_file_kind e.kind ≡ true) ⊎ (is_file_kind e.kind ≡ false) → digests ≡ e.digests
  by_kind (inl w) = same_digests-is digests e.digests (sym (ap (λ b. b && same_digests digests e.digests) w) ∙ has)
  by_kind (inr w) = absurd (true≢false (sym has ∙ ap (λ b. b && same_digests digests e.digests) w))

-- the first files of two lists of digests are one exactly where the lists are equal
firsts_apart : (a b : List (List ℕ)) (es : List ViewEntry) (i j : ℕ) → first_with_digests a es ≡ Some i → first_with_digests b es ≡ Some j → eqb i j ≡ same_digests a b
firsts_apart a b es i j at there = by_case (cases_Bool (same_digests a b)) where
  apart : same_digests a b ≡ false → i ≡ j → ⊥
  apart w is =
      let both = position-both (has_digests a) (has_digests b) 0 es i at (there ∙ ap Some (sym is)) in
      let one : a ≡ b = its_digests a both.0 both.1 ∙ sym (its_digests b both.0 both.2) in
      true≢false (sym (same_digests-self a) ∙ ap (same_digests a) one ∙ w)

  by_case : (same_digests a b ≡ true) ⊎ (same_digests a b ≡ false) → eqb i j ≡ same_digests a b
  by_case (inl w) =
      let is : i ≡ j = of_some i j (sym at ∙ ap (λ ds. first_with_digests ds es) (same_digests-is a b w) ∙ there) in
      let same : eqb i j ≡ true = grind (arith, nat_tests) in
      same ∙ sym w
  by_case (inr w) =
      let other : i ≡ j → ⊥ = apart w in
      let differ : eqb i j ≡ false = grind (arith, nat_tests) in
      differ ∙ sym w

pub file-added : (es : List ViewEntry) (e : ViewEntry) (pages : Pages) (contents : Contents) (files : Files) (pages_noted : Pages) (contents_noted : Contents) (files_noted : Files) (first : ℕ)
    → IsIndex es pages contents files → is_file_kind e.kind ≡ true
    → NotesPages pages pages_noted (length es) e.digests
    → NotesContents contents contents_noted (length es) e.digests
    → lookup (λ (key : Vec Digest). same_digests e.digests key.items) contents_noted ≡ Some first
    → NotesFile files files_noted (length es) (file_key first e.length)
    → IsIndex (es ++ e ∷ []) pages_noted contents_noted files_noted
file-added es e pages contents files pages_noted contents_noted files_noted first is file noted_pages noted_contents first_is noted_file = record {
  pages_found = pages-added es e pages pages_noted is.pages_found noted_pages;
  contents_found = found;
  files_found = by_first;
  fresh = fresh;
} where
  found : (digests : List (List ℕ)) → lookup (λ (key : Vec Digest). same_digests digests key.items) contents_noted ≡ first_with_digests digests (es ++ e ∷ [])
  found digests =
      noted_contents digests ∙ ap (λ o. option_or o (cond (same_digests digests e.digests) (Some (length es)) None)) (is.contents_found digests) ∙ sym (digests-file es e file digests)

  its_first : first_with_digests e.digests (es ++ e ∷ []) ≡ Some first
  its_first = sym (found e.digests) ∙ first_is

  before : (digests : List (List ℕ)) (at size : ℕ) → first_with_digests digests (es ++ e ∷ []) ≡ Some at → lookup (same_key (file_key at size)) files ≡ first_file size digests es
  before digests at size there = by_old (first_with_digests digests es) refl (sym (digests-file es e file digests) ∙ there) where
    by_old : (o : Option ℕ) → first_with_digests digests es ≡ o → option_or o (cond (same_digests digests e.digests) (Some (length es)) None) ≡ Some at → lookup (same_key (file_key at size)) files ≡ first_file size digests es
    by_old (Some c) was h =
        let one : c ≡ at = of_some c at h in
        is.files_found digests at size (was ∙ ap Some one)
    by_old None was h = by_new (same_digests digests e.digests) h where
      by_new : (b : Bool) → cond b (Some (length es)) None ≡ Some at → lookup (same_key (file_key at size)) files ≡ first_file size digests es
      by_new true g =
          let new : length es ≡ at = of_some (length es) at g in
          is.fresh at size (omega (arith, new)) ∙ sym (no_file size digests es was)
      by_new false g = absurd (no_some at g)

  by_first : (digests : List (List ℕ)) (at size : ℕ) → first_with_digests digests (es ++ e ∷ []) ≡ Some at → lookup (same_key (file_key at size)) files_noted ≡ first_file size digests (es ++ e ∷ [])
  by_first digests at size there =
      noted_file (file_key at size)
      ∙ ap (λ o. option_or o (cond (eqb at first && eqb size e.length) (Some (length es)) None)) (before digests at size there)
      ∙ ap (λ b. option_or (first_file size digests es) (cond (b && eqb size e.length) (Some (length es)) None)) (firsts_apart digests e.digests (es ++ e ∷ []) at first there its_first)
      ∙ sym (contents-file es e file size digests)

  fresh : (at size : ℕ) → length (es ++ e ∷ []) ≤ at → lookup (same_key (file_key at size)) files_noted ≡ None
  fresh at size past =
      let inside = (position-within (has_digests e.digests) 0 (es ++ e ∷ []) first its_first).to in
      let differ : eqb at first ≡ false = grind (arith, nat_tests) in
      let count = length-append es (e ∷ []) in
      let old : length es ≤ at = omega (arith, count, past) in
      noted_file (file_key at size)
      ∙ ap (λ b. option_or (lookup (same_key (file_key at size)) files) (cond (b && eqb size e.length) (Some (length es)) None)) differ
      ∙ or_none (lookup (same_key (file_key at size)) files)
      ∙ is.fresh at size old

-- the same where the entry's place is another name of the length
pub folder-noted : (i : ℕ) (es : List ViewEntry) (e : ViewEntry) (pages : Pages) (contents : Contents) (files : Files) (noted : Pages)
    → length es ≡ i → IsIndex es pages contents files → is_file_kind e.kind ≡ false → NotesPages pages noted i e.digests → IsIndex (es ++ e ∷ []) noted contents files
folder-noted i es e pages contents files noted count is folder more =
    folder-added es e pages contents files noted is folder (subst (λ n. NotesPages pages noted n e.digests) (sym count) more)

pub file-noted : (i : ℕ) (es : List ViewEntry) (e : ViewEntry) (pages : Pages) (contents : Contents) (files : Files) (pages_noted : Pages) (contents_noted : Contents) (files_noted : Files) (first : ℕ)
    → length es ≡ i → IsIndex es pages contents files → is_file_kind e.kind ≡ true
    → NotesPages pages pages_noted i e.digests
    → NotesContents contents contents_noted i e.digests
    → lookup (λ (key : Vec Digest). same_digests e.digests key.items) contents_noted ≡ Some first
    → NotesFile files files_noted i (file_key first e.length)
    → IsIndex (es ++ e ∷ []) pages_noted contents_noted files_noted
file-noted i es e pages contents files pages_noted contents_noted files_noted first count is file noted_pages noted_contents first_is noted_file =
    file-added es e pages contents files pages_noted contents_noted files_noted first is file
    (subst (λ n. NotesPages pages pages_noted n e.digests) (sym count) noted_pages)
    (subst (λ n. NotesContents contents contents_noted n e.digests) (sym count) noted_contents)
    first_is
    (subst (λ n. NotesFile files files_noted n (file_key first e.length)) (sym count) noted_file)

-- ---- the pages of one more entry

noted-more : (before now after : Option PublishedPage) (i n : ℕ) (digest : List ℕ) (digests : List (List ℕ)) (d : List ℕ) → n < length digests → now ≡ option_or before (place_in i digest (take n digests)) → after ≡ option_or now (cond (bytes_eq digest (get_or digests n d)) (Some (page_of i n)) None) → after ≡ option_or before (place_in i digest (take (n + 1) digests))
noted-more before now after i n digest digests d within was noted =
    let x = get_or digests n d in
    let count : length (take n digests) ≡ n = length-take-le n digests (omega (arith, within)) in
    noted
    ∙ ap (λ o. option_or o (cond (bytes_eq digest x) (Some (page_of i n)) None)) was
    ∙ sym (or_or before (place_in i digest (take n digests)) (cond (bytes_eq digest x) (Some (page_of i n)) None))
    ∙ ap (λ m. option_or before (option_or (place_in i digest (take n digests)) (cond (bytes_eq digest x) (Some (page_of i m)) None))) (sym count)
    ∙ ap (option_or before) (sym (ap (place_in i digest) (take_more digests n d within) ∙ place-snoc i digest (take n digests) x))

pub noted_next : (old now after : Pages) (i n : ℕ) (digests : List (List ℕ)) (x : List ℕ) → n < length digests → x ≡ get_or digests n x → NotesPages old now i (take n digests) → ((digest : List ℕ) → lookup (bytes_eq digest) after ≡ option_or (lookup (bytes_eq digest) now) (if bytes_eq digest x then Some (page_of i n) else None)) → NotesPages old after i (take (n + 1) digests)
noted_next old now after i n digests x within at was noted = λ digest.
    noted-more (lookup (bytes_eq digest) old) (lookup (bytes_eq digest) now) (lookup (bytes_eq digest) after) i n digest digests x within (was digest)
    (noted digest ∙ ap (λ (y : List ℕ). option_or (lookup (bytes_eq digest) now) (cond (bytes_eq digest y) (Some (page_of i n)) None)) at)

-- ---- what a look-up of a digest says

place-at : (digest : List ℕ) (digests : List (List ℕ)) (first j : ℕ) → position_from (bytes_eq digest) first digests ≡ Some (first + j) → slice_get digests j ≡ Some digest
place-at digest [] first j h = absurd (no_some (first + j) h)
place-at digest (x ∷ xs) first j h = by_case (place-at digest xs (first + 1)) (cases_Bool (bytes_eq digest x)) j h where
  by_case : ((j : ℕ) → position_from (bytes_eq digest) (first + 1) xs ≡ Some ((first + 1) + j) → slice_get xs j ≡ Some digest) → (bytes_eq digest x ≡ true) ⊎ (bytes_eq digest x ≡ false) → (j : ℕ) → position_from (bytes_eq digest) first (x ∷ xs) ≡ Some (first + j) → slice_get (x ∷ xs) j ≡ Some digest
  by_case rest (inl w) zero g = ap Some (sym (same_digest-is digest x w))
  by_case rest (inl w) (suc j) g =
      let is : first ≡ first + suc j = of_some first (first + suc j) (sym (ap (λ b. cond b (Some first) (position_from (bytes_eq digest) (first + 1) xs)) w) ∙ g) in
      absurd (omega (arith, is))
  by_case rest (inr w) zero g =
      let low = (position-within (bytes_eq digest) (first + 1) xs (first + 0) (sym (ap (λ b. cond b (Some first) (position_from (bytes_eq digest) (first + 1) xs)) w) ∙ g)).from in
      absurd (omega (arith, low))
  by_case rest (inr w) (suc j) g =
      let next : first + suc j ≡ (first + 1) + j = omega arith in
      rest j (sym (ap (λ b. cond b (Some first) (position_from (bytes_eq digest) (first + 1) xs)) w) ∙ g ∙ ap Some next)

none-at : (test : List ℕ → Bool) (i : ℕ) (xs : List (List ℕ)) → position_from test i xs ≡ None → (n : ℕ) (x : List ℕ) → slice_get xs n ≡ Some x → test x ≡ false
none-at test i [] none n x at = absurd (no_some x at)
none-at test i (y ∷ xs) none n x at = by_case (none-at test (i + 1) xs) (cases_Bool (test y)) n at where
  by_case : (position_from test (i + 1) xs ≡ None → (n : ℕ) (x : List ℕ) → slice_get xs n ≡ Some x → test x ≡ false) → (test y ≡ true) ⊎ (test y ≡ false) → (n : ℕ) → slice_get (y ∷ xs) n ≡ Some x → test x ≡ false
  by_case rest (inl w) n at = absurd (no_some i (sym none ∙ ap (λ b. cond b (Some i) (position_from test (i + 1) xs)) w))
  by_case rest (inr w) zero at = subst (λ z. test z ≡ false) (of_some y x at) w
  by_case rest (inr w) (suc n) at = rest (sym (ap (λ b. cond b (Some i) (position_from test (i + 1) xs)) w) ∙ none) n x at

-- a place that is found: the page of an entry has the digest
pub record IsThere (i : ℕ) (digest : List ℕ) (es : List ViewEntry) (at : PublishedPage) : Type 0 where
  pub steps : ℕ
  pub entry : at.entry ≡ i + steps
  pub has : digest_at steps at.page es ≡ Some digest

first-there : (i : ℕ) (digest : List ℕ) (es : List ViewEntry) (at : PublishedPage) → first_page_from i digest es ≡ Some at → IsThere i digest es at
first-there i digest [] at h = absurd (no_some at h)
first-there i digest (e ∷ es) at h = by_case (first-there (i + 1) digest es at) (position_from (bytes_eq digest) 0 e.digests) refl h where
  by_case : (first_page_from (i + 1) digest es ≡ Some at → IsThere (i + 1) digest es at) → (o : Option ℕ) → position_from (bytes_eq digest) 0 e.digests ≡ o → option_or (option_map (page_of i) o) (first_page_from (i + 1) digest es) ≡ Some at → IsThere i digest (e ∷ es) at
  by_case later (Some n) was g =
      let is : page_of i n ≡ at = of_some (page_of i n) at g in
      record {
        steps = 0;
        entry = sym (ap (λ (a : PublishedPage). a.entry) is) ∙ omega arith;
        has = ap (λ (a : PublishedPage). slice_get e.digests a.page) (sym is) ∙ place-at digest e.digests 0 n (was ∙ ap Some (omega arith));
      }
  by_case later None was g =
      let rest = later g in
      let entry = rest.entry in
      record { steps = suc rest.steps; entry = omega (arith, entry); has = rest.has }

pub page-there : (digest : List ℕ) (es : List ViewEntry) (at : PublishedPage) → first_page digest es ≡ Some at → digest_at at.entry at.page es ≡ Some digest
page-there digest es at h =
    let found = first-there 0 digest es at h in
    let entry = found.entry in
    let place : found.steps ≡ at.entry = omega (arith, entry) in
    ap (λ n. digest_at n at.page es) (sym place) ∙ found.has

first-nowhere : (i : ℕ) (digest : List ℕ) (es : List ViewEntry) → first_page_from i digest es ≡ None → (k n : ℕ) → digest_at k n es ≡ Some digest → ⊥
first-nowhere i digest [] h k n at = no_some digest at
first-nowhere i digest (e ∷ es) h k n at = by_case (first-nowhere (i + 1) digest es) (position_from (bytes_eq digest) 0 e.digests) refl h k at where
  by_case : (first_page_from (i + 1) digest es ≡ None → (k n : ℕ) → digest_at k n es ≡ Some digest → ⊥) → (o : Option ℕ) → position_from (bytes_eq digest) 0 e.digests ≡ o → option_or (option_map (page_of i) o) (first_page_from (i + 1) digest es) ≡ None → (k : ℕ) → digest_at k n (e ∷ es) ≡ Some digest → ⊥
  by_case rest (Some m) was g k at = no_some (page_of i m) (sym g)
  by_case rest None was g zero at = true≢false (sym ((bytes_decides digest digest).1 refl) ∙ none-at (bytes_eq digest) 0 e.digests was n digest at)
  by_case rest None was g (suc k) at = rest g k n at

pub page-nowhere : (digest : List ℕ) (es : List ViewEntry) → first_page digest es ≡ None → (k n : ℕ) → digest_at k n es ≡ Some digest → ⊥
page-nowhere digest es h k n at = first-nowhere 0 digest es h k n at
