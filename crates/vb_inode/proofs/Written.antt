-- Pages that are being written, call by call.
use Rattle.std.proofs.Common.{◌≡◌, ℕ, zero, suc, ◌+◌, ◌≤◌, true, ◌==◌, List, [], ◌∷◌, ◌++◌, length, take, drop, replicate, refl, sym, ap, ◌∙◌, arith}
use Rattle.std.proofs.Math.Seq.{take-add}
use Rattle.std.proofs.lemmas.List.{drop-drop, drop_at, length-append, length-drop, length-replicate, length-take, take_at, take-replicate}
use Rattle.vb_block.specs.Pages.{IsPage, filled_page, overwritten, zero_page}
use Rattle.vb_inode.specs.Checks.{are_zeros}
use Rattle.vb_inode.specs.Layout.{padded}
use Rattle.vb_inode.specs.Writing.{IsWrittenTo}
use Rattle.vb_inode.proofs.Zeros.{and_parts, are_zeros-replicate, padded-from_zeros, replicate-from_zeros}

are_zeros-drop : (k : ℕ) (xs : List ℕ) → are_zeros xs ≡ true → are_zeros (drop k xs) ≡ true
are_zeros-drop zero xs e = e
are_zeros-drop (suc k) [] e = refl
are_zeros-drop (suc k) (x ∷ xs) e = are_zeros-drop k xs (and_parts (x == 0) (are_zeros xs) e).1

filled_zeros : (n : ℕ) (page : List ℕ) → page ≡ replicate n 0 → are_zeros page ≡ true
filled_zeros n page e = ap are_zeros e ∙ are_zeros-replicate n

filled_length : (n : ℕ) (page : List ℕ) → page ≡ replicate n 0 → length page ≡ n
filled_length n page e = ap length e ∙ length-replicate {A = ℕ} n 0

-- nothing was written to a page of zeros
pub nothing_written : (page : List ℕ) → page ≡ zero_page → IsWrittenTo 0 page
unfolding filled_page
nothing_written page e = record { within = omega arith; is_page = filled_length 4096 page e; zeros = filled_zeros 4096 page e }

pub length_written : (at : ℕ) (page : List ℕ) → IsWrittenTo at page → length (take at page) ≡ at
length_written at page h = omega (arith, h.within, h.is_page, length-take at page)

-- bytes put at the place up to which a page is written
pub put_written : (at end : ℕ) (page bytes new : List ℕ) → IsWrittenTo at page → end ≡ at + length bytes → end ≤ 4096 → new ≡ overwritten page at bytes → IsPage new → IsWrittenTo end new × (take end new ≡ take at page ++ bytes)
put_written at end page bytes new h is_end within written long =
    let front = take at page ++ bytes in
    let rest = drop (at + length bytes) page in
    let reach : length front ≡ end = omega (arith, length_written at page h, length-append (take at page) bytes) in
    let later : drop end new ≡ rest = ap (drop end) written ∙ drop_at front rest end reach in
    let again : rest ≡ drop (length bytes) (drop at page) = sym (drop-drop (length bytes) at page) in (
      record {
        within = within;
        is_page = long;
        zeros = ap are_zeros (later ∙ again) ∙ are_zeros-drop (length bytes) (drop at page) h.zeros;
      },
      ap (take end) written ∙ take_at front rest end reach,
    )

-- zeros left at the place up to which a page is written
pub skip_written : (at count : ℕ) (page : List ℕ) → IsWrittenTo at page → at + count ≤ 4096 → IsWrittenTo (at + count) page × (take (at + count) page ≡ take at page ++ replicate count 0)
skip_written at count page h within =
    let rest = drop at page in
    let zeros : take count rest ≡ replicate count 0 = ap (take count) (replicate-from_zeros rest h.zeros) ∙ take-replicate count (length rest) 0 (omega (arith, h.is_page, length-drop at page)) in (
      record {
        within = within;
        is_page = h.is_page;
        zeros = ap are_zeros (sym (drop-drop count at page)) ∙ are_zeros-drop count rest h.zeros;
      },
      take-add at count page ∙ ap (λ (bytes : List ℕ). take at page ++ bytes) zeros,
    )

-- a page is what was written to it, and then zeros
pub all_written : (at : ℕ) (page : List ℕ) → IsWrittenTo at page → page ≡ padded 4096 (take at page)
all_written at page h = sym (padded-from_zeros 4096 at page h.is_page h.zeros)
