-- The pages of bytes: what each byte of a page is, that pages tell the bytes, and what a truncate and a write leave of a page.
use Rattle.std.proofs.Common.{◌≡◌, ◌⊎◌, ℕ, zero, suc, ◌+◌, ◌-◌, ◌*◌, ◌/◌, ◌<◌, ◌≤◌, max, false, cond, ◌==◌, List, [], ◌++◌, length, take, drop, replicate, get_or, map, inl, inr, refl, sym, ap, ◌∙◌, arith, append_assoc, append-nil, length-take, length-drop}
use Rattle.std.specs.List.{flat_map, range_with_len}
use Rattle.std.proofs.lemmas.Bool.{cases_lt}
use Rattle.std.proofs.lemmas.Bool.Decides.{eqb_tells}
use Rattle.std.proofs.lemmas.Grind.{same_number_lists}
use Rattle.std.proofs.lemmas.List.{get_or-take, get_or-drop, get_or_append_left, get_or-append_right, get_or-replicate, get_or_past, length-replicate, take_all, drop_all, drop-drop, take-append-drop, take-append-le}
use Rattle.std.proofs.lemmas.List.FromFn.{length-map-range_with_len, get_or-map-range_with_len}
use Rattle.std.proofs.Math.Seq.{take-append-add, take-append_seam}
use Rattle.vb_tree.specs.Trees.{data_pages_of}
use Rattle.vb_tree.specs.Contents.{written_over, new_length, truncated_to, page_of, pages_of, bytes_held}
use Rattle.vb_tree.proofs.Sizes.{length-written_over, length-truncated_to}

-- ---- a byte at a time

-- bytes cut or extended to a length have the old bytes below it, and zeros past their end
byte-truncated : (len : ℕ) (old : List ℕ) (i : ℕ) → i < len → get_or (truncated_to len old) i 0 ≡ get_or old i 0
byte-truncated len old i h =
    elim (cases_lt i (length old)) [
      | inl in_old ↦
          get_or_append_left (take len old) (replicate (len - length old) 0) 0 i (omega (arith, length-take len old))
          ∙ get_or-take len old i 0 h
      | inr past ↦
          get_or-append_right (take len old) (replicate (len - length old) 0) (length old) i 0 (omega (arith, length-take len old)) past
          ∙ get_or-replicate (len - length old) (i - length old) 0 0 (omega arith)
          ∙ sym (get_or_past old i 0 past)
    ]

-- a page has 4,096 bytes
pub length-page : (bytes : List ℕ) (k : ℕ) → length (page_of bytes k) ≡ 4096
length-page bytes k = length-truncated_to 4096 (drop (4096 * k) bytes)

-- the bytes of a page are those from its place on, and zeros past the end
pub byte-page : (bytes : List ℕ) (k i : ℕ) → i < 4096 → get_or (page_of bytes k) i 0 ≡ get_or bytes (4096 * k + i) 0
byte-page bytes k i h =
    byte-truncated 4096 (drop (4096 * k) bytes) i h ∙ get_or-drop (4096 * k) bytes i 0

-- pages whose bytes are the same are one
same_page : (a b : List ℕ) (j k : ℕ) → ((i : ℕ) → i < 4096 → get_or a (4096 * j + i) 0 ≡ get_or b (4096 * k + i) 0) → page_of a j ≡ page_of b k
same_page a b j k same =
    same_number_lists (page_of a j) (page_of b k) (length-page a j ∙ sym (length-page b k)) (λ i h.
    let low : i < 4096 = omega (arith, h, length-page a j) in
    byte-page a j i low ∙ same i low ∙ sym (byte-page b k i low))

-- a page past the end is zeros
pub page-past : (bytes : List ℕ) (k : ℕ) → length bytes ≤ 4096 * k → page_of bytes k ≡ replicate 4096 0
page-past bytes k h =
    same_number_lists (page_of bytes k) (replicate 4096 0) (length-page bytes k ∙ sym (length-replicate {A = ℕ} 4096 0)) (λ i below.
    let low : i < 4096 = omega (arith, below, length-page bytes k) in
    byte-page bytes k i low ∙ get_or_past bytes (4096 * k + i) 0 (omega arith) ∙ sym (get_or-replicate 4096 i 0 0 low))

-- the page in which a byte stands
place_of_byte : (n i : ℕ) → i < n → (i / 4096 < data_pages_of n) × (i - 4096 * (i / 4096) < 4096) × (4096 * (i / 4096) + (i - 4096 * (i / 4096)) ≡ i)
place_of_byte n i h = (omega arith, omega arith, omega arith)

-- bytes of one length with the same pages are the same
pub bytes-by-pages : (a b : List ℕ) → length a ≡ length b → ((k : ℕ) → k < data_pages_of (length a) → page_of a k ≡ page_of b k) → a ≡ b
bytes-by-pages a b len same =
    same_number_lists a b len (λ i h.
    let k = i / 4096 in
    let at = place_of_byte (length a) i h in
    let rest = i - 4096 * k in
    ap (λ n. get_or a n 0) (sym at.2) ∙ sym (byte-page a k rest at.1)
    ∙ ap (λ p. get_or p rest 0) (same k at.0)
    ∙ byte-page b k rest at.1 ∙ ap (λ n. get_or b n 0) at.2)

-- ---- a truncate

-- bytes that are cut keep their whole pages
pub page-truncated : (len k : ℕ) (old : List ℕ) → 4096 * k + 4096 ≤ len → page_of (truncated_to len old) k ≡ page_of old k
page-truncated len k old h = same_page (truncated_to len old) old k k (λ i low. byte-truncated len old (4096 * k + i) (omega arith))

byte-extended : (len : ℕ) (old : List ℕ) (i : ℕ) → length old ≤ len → get_or (truncated_to len old) i 0 ≡ get_or old i 0
byte-extended len old i h =
    elim (cases_lt i len) [
      | inl below ↦ byte-truncated len old i below
      | inr past ↦ get_or_past (truncated_to len old) i 0 (omega (arith, length-truncated_to len old)) ∙ sym (get_or_past old i 0 (omega arith))
    ]

-- bytes that are extended keep every page
pub page-extended : (len k : ℕ) (old : List ℕ) → length old ≤ len → page_of (truncated_to len old) k ≡ page_of old k
page-extended len k old h = same_page (truncated_to len old) old k k (λ i low. byte-extended len old (4096 * k + i) h)

-- the last page of bytes that are cut within it is the old one with zeros in place of what was cut
pub page-cut : (len k : ℕ) (old : List ℕ) → 4096 * k ≤ len → len < 4096 * k + 4096 → len ≤ length old → page_of (truncated_to len old) k ≡ truncated_to 4096 (take (len - 4096 * k) (page_of old k))
page-cut len k old from to within =
    let kept = len - 4096 * k in
    let front = take kept (page_of old k) in
    let few : length front ≡ kept = omega (arith, length-take kept (page_of old k), length-page old k) in
    same_number_lists (page_of (truncated_to len old) k) (truncated_to 4096 front) (length-page (truncated_to len old) k ∙ sym (length-truncated_to 4096 front)) (λ i h.
    let low : i < 4096 = omega (arith, h, length-page (truncated_to len old) k) in
    byte-page (truncated_to len old) k i low
    ∙ elim (cases_lt i kept) [
      | inl in_kept ↦
          byte-truncated len old (4096 * k + i) (omega arith)
          ∙ sym (byte-truncated 4096 front i low ∙ get_or-take kept (page_of old k) i 0 in_kept ∙ byte-page old k i low)
      | inr past ↦
          get_or_past (truncated_to len old) (4096 * k + i) 0 (omega (arith, length-truncated_to len old))
          ∙ sym (byte-truncated 4096 front i low ∙ get_or_past front i 0 (omega arith))
    ])

-- ---- a write

-- the bytes that a write puts into a page
abbrev pub piece_on : ℕ → ℕ → List ℕ → List ℕ
piece_on k offset bytes = take (4096 * k + 4096 - max offset (4096 * k)) (drop (4096 * k - offset) bytes)

-- bytes written over, as the old ones up to there, the new ones, and what follows
written-some : (offset : ℕ) (bytes old : List ℕ) → 0 < length bytes → written_over offset bytes old ≡ truncated_to offset old ++ (bytes ++ drop (offset + length bytes) old)
written-some offset bytes old h =
    let some : (length bytes == 0) ≡ false = elim (eqb_tells (length bytes) 0) [ inl w ↦ absurd (omega (arith, w.1)) | inr w ↦ w.0 ] in
    ap (λ v. cond v old (take offset old ++ replicate (offset - length old) 0 ++ bytes ++ drop (offset + length bytes) old)) some
    ∙ append_assoc (truncated_to offset old) bytes (drop (offset + length bytes) old)

-- below a write the old bytes stand, or zeros
byte-before : (offset : ℕ) (bytes old : List ℕ) (i : ℕ) → 0 < length bytes → i < offset → get_or (written_over offset bytes old) i 0 ≡ get_or old i 0
byte-before offset bytes old i some h =
    ap (λ t. get_or t i 0) (written-some offset bytes old some)
    ∙ get_or_append_left (truncated_to offset old) (bytes ++ drop (offset + length bytes) old) 0 i (omega (arith, length-truncated_to offset old))
    ∙ byte-truncated offset old i h

-- within a write the new ones stand
byte-within : (offset : ℕ) (bytes old : List ℕ) (i : ℕ) → offset ≤ i → i < offset + length bytes → get_or (written_over offset bytes old) i 0 ≡ get_or bytes (i - offset) 0
byte-within offset bytes old i from to =
    ap (λ t. get_or t i 0) (written-some offset bytes old (omega arith))
    ∙ get_or-append_right (truncated_to offset old) (bytes ++ drop (offset + length bytes) old) offset i 0 (length-truncated_to offset old) from
    ∙ get_or_append_left bytes (drop (offset + length bytes) old) 0 (i - offset) (omega arith)

-- past a write the old ones stand
byte-behind : (offset : ℕ) (bytes old : List ℕ) (i : ℕ) → 0 < length bytes → offset + length bytes ≤ i → get_or (written_over offset bytes old) i 0 ≡ get_or old i 0
byte-behind offset bytes old i some h =
    let n = offset + length bytes in
    let back : n + (i - offset - length bytes) ≡ i = omega arith in
    ap (λ t. get_or t i 0) (written-some offset bytes old some)
    ∙ get_or-append_right (truncated_to offset old) (bytes ++ drop n old) offset i 0 (length-truncated_to offset old) (omega arith)
    ∙ get_or-append_right bytes (drop n old) (length bytes) (i - offset) 0 refl (omega arith)
    ∙ get_or-drop n old (i - offset - length bytes) 0
    ∙ ap (λ m. get_or old m 0) back

-- a page apart from a write stays: also one in its gap, and the one in which the old bytes end
pub page-apart : (offset k : ℕ) (bytes old : List ℕ) → 0 < length bytes → (4096 * k + 4096 ≤ offset) ⊎ (offset + length bytes ≤ 4096 * k) → page_of (written_over offset bytes old) k ≡ page_of old k
page-apart offset k bytes old some (inl below) = same_page (written_over offset bytes old) old k k (λ i low. byte-before offset bytes old (4096 * k + i) some (omega arith))
page-apart offset k bytes old some (inr above) = same_page (written_over offset bytes old) old k k (λ i low. byte-behind offset bytes old (4096 * k + i) some (omega arith))

-- a write puts its piece into each page that it meets
pub page-written : (offset k : ℕ) (bytes old : List ℕ) → offset < 4096 * k + 4096 → 4096 * k < offset + length bytes → 0 < length bytes → page_of (written_over offset bytes old) k ≡ written_over (offset - 4096 * k) (piece_on k offset bytes) (page_of old k)
page-written offset k bytes old from to some =
    let at = offset - 4096 * k in
    let skipped = 4096 * k - offset in
    let piece = piece_on k offset bytes in
    let room = 4096 * k + 4096 - max offset (4096 * k) in
    let size : length piece ≤ room = omega (arith, length-take room (drop skipped bytes)) in
    let short : length piece ≤ length bytes - skipped = omega (arith, length-take room (drop skipped bytes), length-drop skipped bytes) in
    let full : (length piece ≡ room) ⊎ (length piece ≡ length bytes - skipped) = elim (cases_lt room (length bytes - skipped)) [
      | inl more ↦ inl (omega (arith, length-take room (drop skipped bytes), length-drop skipped bytes))
      | inr fits ↦ inr (omega (arith, length-take room (drop skipped bytes), length-drop skipped bytes))
    ] in
    let piece_some : 0 < length piece = elim full [ inl e ↦ omega arith | inr e ↦ omega arith ] in
    let long : length (written_over at piece (page_of old k)) ≡ 4096 = length-written_over at piece (page_of old k) ∙ sizes at (length piece) (length (page_of old k)) piece_some (omega arith) (length-page old k) in
    same_number_lists (page_of (written_over offset bytes old) k) (written_over at piece (page_of old k)) (length-page (written_over offset bytes old) k ∙ sym long) (λ i h.
    let low : i < 4096 = omega (arith, h, length-page (written_over offset bytes old) k) in
    byte-page (written_over offset bytes old) k i low
    ∙ elim (cases_lt i at) [
      | inl before ↦
          byte-before offset bytes old (4096 * k + i) some (omega arith)
          ∙ sym (byte-before at piece (page_of old k) i piece_some before ∙ byte-page old k i low)
      | inr after ↦ elim (cases_lt i (at + length piece)) [
        | inl within ↦ (
            let same : skipped + (i - at) ≡ 4096 * k + i - offset = omega arith in
            byte-within offset bytes old (4096 * k + i) (omega arith) (omega arith)
            ∙ sym (byte-within at piece (page_of old k) i after within
            ∙ get_or-take room (drop skipped bytes) (i - at) 0 (omega arith)
            ∙ get_or-drop skipped bytes (i - at) 0
            ∙ ap (λ n. get_or bytes n 0) same))
        | inr behind ↦
            byte-behind offset bytes old (4096 * k + i) some (elim full [ inl e ↦ absurd (omega arith) | inr e ↦ omega arith ])
            ∙ sym (byte-behind at piece (page_of old k) i piece_some behind ∙ byte-page old k i low)
      ]
    ]) where
      sizes : (at n old : ℕ) → 0 < n → at + n ≤ 4096 → old ≡ 4096 → new_length at n old ≡ 4096
      sizes at n old some fits is = elim (eqb_tells n 0) [
        | inl w ↦ absurd (omega (arith, w.1))
        | inr w ↦ ap (λ v. cond v old (max old (at + n))) w.0 ∙ omega arith
      ]

-- ---- pages in a list

-- how many pages bytes have
pub length-pages : (bytes : List ℕ) → length (pages_of bytes) ≡ data_pages_of (length bytes)
length-pages bytes = length-map-range_with_len (page_of bytes) 0 (data_pages_of (length bytes))

-- the k-th of them
pub page-in : (bytes : List ℕ) (k : ℕ) (d : List ℕ) → k < data_pages_of (length bytes) → get_or (pages_of bytes) k d ≡ page_of bytes k
page-in bytes k d h = get_or-map-range_with_len (page_of bytes) 0 (data_pages_of (length bytes)) k k d h (omega arith)

-- pages one after the other, from one of the bytes on
held_from : (bytes : List ℕ) (n k : ℕ) → length bytes ≤ 4096 * (k + n) → take (length bytes - 4096 * k) (flat_map (λ page. page) (map (page_of bytes) (range_with_len k n))) ≡ drop (4096 * k) bytes
held_from bytes zero k h =
    take_all {A = ℕ} (length bytes - 4096 * k) [] (omega arith) ∙ sym (drop_all (4096 * k) bytes (omega arith))
held_from bytes (suc n) k h =
    let rest = flat_map (λ (page : List ℕ). page) (map (page_of bytes) (range_with_len (k + 1) n)) in
    let all = drop (4096 * k) bytes in
    let size : length all ≡ length bytes - 4096 * k = length-drop (4096 * k) bytes in
    elim (cases_lt 4096 (length all)) [
      | inl more ↦ (
          let sum : length bytes - 4096 * k ≡ length (page_of bytes k) + (length bytes - 4096 * (k + 1)) = omega (arith, length-page bytes k) in
          let none : 4096 - length all ≡ 0 = omega arith in
          let whole : page_of bytes k ≡ take 4096 all = ap (λ m. take 4096 all ++ replicate {A = ℕ} m 0) none ∙ append-nil (take 4096 all) in
          let next : 4096 * (k + 1) ≡ 4096 * k + 4096 = omega arith in
          let on : drop (4096 * (k + 1)) bytes ≡ drop 4096 all = ap (λ m. drop m bytes) next ∙ sym (drop-drop 4096 (4096 * k) bytes) in
          ap (λ m. take m (page_of bytes k ++ rest)) sum
          ∙ take-append-add (page_of bytes k) rest (length bytes - 4096 * (k + 1))
          ∙ ap (λ t. page_of bytes k ++ t) (held_from bytes n (k + 1) (omega arith) ∙ on)
          ∙ ap (λ t. t ++ drop 4096 all) whole
          ∙ take-append-drop 4096 all)
      | inr last ↦
          take-append-le (length bytes - 4096 * k) (page_of bytes k) rest (omega (arith, length-page bytes k))
          ∙ ap (λ m. take m (page_of bytes k)) (sym size)
          ∙ ap (take (length all)) (ap (λ t. t ++ replicate (4096 - length all) 0) (take_all 4096 all last))
          ∙ take-append_seam all (replicate (4096 - length all) 0)
    ]

-- the pages of bytes hold them
pub bytes-held : (bytes : List ℕ) → bytes_held (length bytes) (pages_of bytes) ≡ bytes
bytes-held bytes =
    let all : length bytes ≡ length bytes - 4096 * 0 = omega arith in
    ap (λ n. take n (flat_map (λ (page : List ℕ). page) (pages_of bytes))) all ∙ held_from bytes (data_pages_of (length bytes)) 0 (omega arith)

pub ruleset pages = (length-page, page-in, bytes-held, bytes-by-pages)
