-- Pages after a write.
use Rattle.std.proofs.Common.{◌≡◌, ◌⊎◌, ℕ, ◌<◌, ◌≤◌, ◌+◌, ◌-◌, ◌*◌, max, min, false, cond, List, [], ◌∷◌, ◌++◌, length, take, drop, replicate, get_or, Option, Some, Result, Ok, Err, refl, sym, ap, ◌∙◌, inl, inr, arith, append-nil, length-take, length-drop, length-append}
use Rattle.std.specs.Prelude.{IfErr, IfOk, ◌==◌}
use Rattle.std.proofs.lemmas.Bool.{cases_lt, ne_eqb}
use Rattle.std.proofs.lemmas.Grind.{same_number_lists}
use Rattle.std.proofs.lemmas.List.{get_or-drop, get_or_append_left, get_or_past, get_or_push, get_or-replicate, length-replicate, take_all, drop_all}
use Rattle.std.proofs.lemmas.Option.{slice_get-get_or}
use Rattle.vb_block.specs.Pages.{filled_page, overwritten, zero_page}
use Rattle.vb_disk.specs.States.{DiskState}
use Rattle.vb_index.specs.Contents.{HasPages}
use Rattle.vb_pages.specs.declared.page_error.PageError.{PageError}
use Rattle.vb_pages.specs.declared.page_error.PageError.TheVariants.{Damaged, DiskFault, Memory}
use Rattle.vb_tree.specs.Contents.{page_of, written_over}
use Rattle.vb_tree.specs.Trees.{data_pages_of}
use Rattle.vb_tree.proofs.Pages.{byte-page, length-page, page-apart, page-past, page-written, piece_on}
use Rattle.vb_active.specs.Needs.{HasUntouched, IsErrorAt, IsErrorUnder}
use Rattle.vb_active.specs.Replacing.{ArePagesFrom, IsBase}
use Rattle.vb_active.specs.Views.{ActiveState, due_page}

-- ---- which pages are needed

pub untouched-before : (offset end len page : ℕ) → 4096 * page < offset → 4096 * page < len → offset < 4096 * page + 4096 → offset < end → HasUntouched offset (end - offset) len page
untouched-before offset end len page low there near order =
    record { byte = 4096 * page; here = omega arith; in_file = there; stays = inl low; written = offset; also_here = omega arith; from = omega arith; to = omega arith }

pub untouched-after : (offset end len page : ℕ) → end < len → end < 4096 * page + 4096 → 4096 * page < end → offset < end → HasUntouched offset (end - offset) len page
untouched-after offset end len page there near low order =
    record { byte = end; here = omega arith; in_file = there; stays = inr (omega arith); written = end - 1; also_here = omega arith; from = omega arith; to = omega arith }

pub under-error : (told : Option DiskState) (view : ActiveState) (slot page offset count len : ℕ) (r : Result (List ℕ) PageError) → HasUntouched offset count len page → IfErr r (IsErrorAt told view slot page) → IfErr r (IsErrorUnder told view slot offset count len)
under-error told view slot page offset count len (Ok p) needed error = tt
under-error told view slot page offset count len (Err (Damaged place kept found)) needed error = record { page = page; needed = needed; damage = error }
under-error told view slot page offset count len (Err DiskFault) needed error = tt
under-error told view slot page offset count len (Err Memory) needed error = tt

pub base-kept : (d : DiskState) (view : ActiveState) (slot page offset end : ℕ) (old : List ℕ) (r : Result (List ℕ) PageError) → HasPages (due_page view d) slot old → page < data_pages_of (length old) → IfOk r (λ p. p ≡ due_page view d slot page) → IfOk r (IsBase offset end page old)
base-kept d view slot page offset end old (Ok p) has there copied = inl (copied ∙ has page there)
base-kept d view slot page offset end old (Err e) has there copied = tt

-- ---- a page of a gap

pub zero-is : zero_page ≡ replicate 4096 0
unfolding filled_page
zero-is = refl

pub gap-page : (offset k : ℕ) (bytes old : List ℕ) → 0 < length bytes → 4096 * k + 4096 ≤ offset → length old ≤ 4096 * k → zero_page ≡ page_of (written_over offset bytes old) k
gap-page offset k bytes old some gap past = sym (page-apart offset k bytes old some (inl gap) ∙ page-past old k past ∙ sym zero-is)

-- ---- a page with a piece

-- what is put over the old page in a write
put-over : (at : ℕ) (piece page : List ℕ) → length page ≡ 4096 → at ≤ 4096 → 0 < length piece → overwritten page at piece ≡ written_over at piece page
put-over at piece page size low some =
    let none : at - length page ≡ 0 = omega arith in
    let not_none : (length piece == 0) ≡ false = ne_eqb (length piece) 0 (λ e. absurd (omega (arith, e, some))) in
    sym (ap (λ b. cond b page (take at page ++ replicate (at - length page) 0 ++ piece ++ drop (at + length piece) page)) not_none
    ∙ ap (λ m. take at page ++ replicate m 0 ++ piece ++ drop (at + length piece) page) none
    ∙ ap (λ t. t ++ piece ++ drop (at + length piece) page) (append-nil (take at page)))

-- the front of a page before which nothing stays
front-zero : (k at offset : ℕ) (old : List ℕ) → at ≡ offset - 4096 * k → (offset ≤ 4096 * k) ⊎ (length old ≤ 4096 * k) → take at zero_page ≡ take at (page_of old k)
front-zero k at offset old is (inl before) = let none : at ≡ 0 = omega arith in ap (λ n. take n zero_page) none ∙ sym (ap (λ n. take n (page_of old k)) none)
front-zero k at offset old is (inr past) = ap (take at) (zero-is ∙ sym (page-past old k past))

zero-length : length zero_page ≡ 4096
zero-length = ap length zero-is ∙ length-replicate {A = ℕ} 4096 0

-- and its end behind which nothing stays
rest-whole : (k m : ℕ) (old : List ℕ) → m ≡ 4096 → drop m zero_page ≡ drop m (page_of old k)
rest-whole k m old all = drop_all m zero_page (omega (arith, all, zero-length)) ∙ sym (drop_all m (page_of old k) (omega (arith, all, length-page old k)))

rest-zero : (k m end : ℕ) (old : List ℕ) → m ≡ min end (4096 * k + 4096) - 4096 * k → 4096 * k < end → (length old ≤ end) ⊎ (4096 * k + 4096 ≤ end) → drop m zero_page ≡ drop m (page_of old k)
rest-zero k m end old is low (inr whole) = rest-whole k m old (omega arith)
rest-zero k m end old is low (inl past) = elim (cases_lt end (4096 * k + 4096)) [
  | inr whole ↦ rest-whole k m old (omega arith)
  | inl within ↦
      same_number_lists (drop m zero_page) (drop m (page_of old k)) (length-drop m zero_page ∙ ap (λ n. n - m) (zero-length ∙ sym (length-page old k)) ∙ sym (length-drop m (page_of old k))) (λ i h.
      let small : m + i < 4096 = omega (arith, h, length-drop m zero_page, zero-length) in
      let beyond : length old ≤ 4096 * k + (m + i) = omega arith in
      get_or-drop m zero_page i 0 ∙ ap (λ p. get_or p (m + i) 0) zero-is ∙ get_or-replicate 4096 (m + i) 0 0 small
      ∙ sym (get_or-drop m (page_of old k) i 0 ∙ byte-page old k (m + i) small ∙ get_or_past old (4096 * k + (m + i)) 0 beyond))
]

-- the piece that a write puts into a page
piece-is : (offset k from to : ℕ) (bytes : List ℕ) → 4096 * k < offset + length bytes → offset < 4096 * k + 4096 → from ≡ max offset (4096 * k) → to ≡ min (offset + length bytes) (4096 * k + 4096) → take (to - offset - (from - offset)) (drop (from - offset) bytes) ≡ piece_on k offset bytes
piece-is offset k from to bytes low near from_is to_is =
    let skipped : from - offset ≡ 4096 * k - offset = omega arith in
    let room = 4096 * k + 4096 - max offset (4096 * k) in
    let rest = drop (4096 * k - offset) bytes in
    ap (λ n. take (to - offset - n) (drop n bytes)) skipped
    ∙ elim (cases_lt (offset + length bytes) (4096 * k + 4096)) [
      | inl inside ↦
          take_all (to - offset - (4096 * k - offset)) rest (omega (arith, length-drop (4096 * k - offset) bytes))
          ∙ sym (take_all room rest (omega (arith, length-drop (4096 * k - offset) bytes)))
      | inr across ↦ (let same : to - offset - (4096 * k - offset) ≡ room = omega arith in ap (λ n. take n rest) same)
    ]

piece-long : (offset k to from : ℕ) (bytes : List ℕ) → 0 < length bytes → 4096 * k < offset + length bytes → offset < 4096 * k + 4096 → from ≡ max offset (4096 * k) → to ≡ min (offset + length bytes) (4096 * k + 4096) → length (piece_on k offset bytes) ≡ to - from
piece-long offset k to from bytes some low near from_is to_is =
    let room = 4096 * k + 4096 - max offset (4096 * k) in
    omega (arith, length-take room (drop (4096 * k - offset) bytes), length-drop (4096 * k - offset) bytes)

pub patched-page : (offset k from to : ℕ) (bytes old base new : List ℕ) → 0 < length bytes → offset < 4096 * k + 4096 → 4096 * k < offset + length bytes → from ≡ max offset (4096 * k) → to ≡ min (offset + length bytes) (4096 * k + 4096) → IsBase offset (offset + length bytes) k old base
    → new ≡ overwritten base (from - 4096 * k) (take (to - offset - (from - offset)) (drop (from - offset) bytes)) → new ≡ page_of (written_over offset bytes old) k
patched-page offset k from to bytes old base new some near low from_is to_is is made =
    let piece = piece_on k offset bytes in
    let at = offset - 4096 * k in
    let place : from - 4096 * k ≡ at = omega arith in
    let long : length piece ≡ to - from = piece-long offset k to from bytes some low near from_is to_is in
    let whole : overwritten (page_of old k) at piece ≡ page_of (written_over offset bytes old) k =
    put-over at piece (page_of old k) (length-page old k) (omega arith) (omega (arith, long)) ∙ sym (page-written offset k bytes old near low some) in
    made
    ∙ ap (overwritten base (from - 4096 * k)) (piece-is offset k from to bytes low near from_is to_is)
    ∙ ap (λ n. overwritten base n piece) place
    ∙ elim is [
      | inl kept ↦ ap (λ p. overwritten p at piece) kept ∙ whole
      | inr zero ↦ (
          let front : take at base ≡ take at (page_of old k) = ap (take at) zero.0 ∙ front-zero k at offset old refl zero.1 in
          let size : at + length piece ≡ min (offset + length bytes) (4096 * k + 4096) - 4096 * k = omega (arith, long) in
          let rest : drop (at + length piece) base ≡ drop (at + length piece) (page_of old k) = ap (drop (at + length piece)) zero.0 ∙ rest-zero k (at + length piece) (offset + length bytes) old size low zero.2 in
          ap (λ t. t ++ piece ++ drop (at + length piece) base) front
          ∙ ap (λ t. take at (page_of old k) ++ piece ++ t) rest
          ∙ whole)
    ]

-- ---- pages in a row

pub row-none : (first : ℕ) (bytes : List ℕ) (run : List (List ℕ)) → run ≡ [] → ArePagesFrom first bytes run
row-none first bytes run e i h = absurd (omega (arith, h, ap length e))

pub row-push : (first : ℕ) (bytes new : List ℕ) (run : List (List ℕ)) → ArePagesFrom first bytes run → new ≡ page_of bytes (first + length run) → ArePagesFrom first bytes (run ++ new ∷ [])
row-push first bytes new run row is i h = elim (cases_lt i (length run)) [
  | inl before ↦
      slice_get-get_or (run ++ new ∷ []) i [] h
      ∙ ap (λ p. Some p) (get_or_append_left run (new ∷ []) [] i before)
      ∙ sym (slice_get-get_or run i [] before)
      ∙ row i before
  | inr after ↦ (
      let last : length run ≡ i = omega (arith, h, after, length-append run (new ∷ [])) in
      slice_get-get_or (run ++ new ∷ []) i [] h
      ∙ ap (λ p. Some p) (get_or_push run new [] i last ∙ is ∙ ap (λ n. page_of bytes (first + n)) last))
]
