-- Bytes of a file, put together from pieces of its pages.
use Rattle.std.proofs.Common.{◌≡◌, ℕ, ◌+◌, ◌-◌, ◌*◌, ◌/◌, ◌<◌, ◌≤◌, min, List, [], ◌++◌, length, take, drop, get_or, sym, ap, ◌∙◌, arith, inl, inr, length-take, length-drop, length-append}
use Rattle.std.proofs.lemmas.Bool.{cases_lt}
use Rattle.std.proofs.lemmas.Grind.{same_number_lists}
use Rattle.std.proofs.lemmas.List.{get_or-take, get_or-drop, get_or_append_left, get_or-append_right}
use Rattle.vb_disk.specs.States.{DiskState}
use Rattle.vb_index.specs.Contents.{HasPages}
use Rattle.vb_tree.specs.Trees.{data_pages_of}
use Rattle.vb_tree.specs.Contents.{page_of}
use Rattle.vb_tree.proofs.Pages.{byte-page, length-page}
use Rattle.vb_active.specs.Views.{ActiveState, due_page}

-- a piece of a page is those bytes of the file
pub page-piece : (file : List ℕ) (k at next : ℕ) → 4096 * k ≤ at → at ≤ next → next ≤ 4096 * k + 4096 → next ≤ length file → take (next - at) (drop (at - 4096 * k) (page_of file k)) ≡ take (next - at) (drop at file)
page-piece file k at next from order to within =
    let left : length (take (next - at) (drop (at - 4096 * k) (page_of file k))) ≡ next - at = omega (arith, length-take (next - at) (drop (at - 4096 * k) (page_of file k)), length-drop (at - 4096 * k) (page_of file k), length-page file k) in
    let right : length (take (next - at) (drop at file)) ≡ next - at = omega (arith, length-take (next - at) (drop at file), length-drop at file) in
    same_number_lists (take (next - at) (drop (at - 4096 * k) (page_of file k))) (take (next - at) (drop at file)) (left ∙ sym right) (λ i h.
    let low : i < next - at = omega (arith, h, left) in
    let place : 4096 * k + (at - 4096 * k + i) ≡ at + i = omega arith in
    get_or-take (next - at) (drop (at - 4096 * k) (page_of file k)) i 0 low
    ∙ get_or-drop (at - 4096 * k) (page_of file k) i 0
    ∙ byte-page file k (at - 4096 * k + i) (omega arith)
    ∙ ap (λ n. get_or file n 0) place
    ∙ sym (get_or-take (next - at) (drop at file) i 0 low ∙ get_or-drop at file i 0))

-- what follows a front
pub take-next : (file : List ℕ) (start at next : ℕ) → start ≤ at → at ≤ next → next ≤ length file → take (at - start) (drop start file) ++ take (next - at) (drop at file) ≡ take (next - start) (drop start file)
take-next file start at next low high within =
    let front = take (at - start) (drop start file) in
    let piece = take (next - at) (drop at file) in
    let a : length front ≡ at - start = omega (arith, length-take (at - start) (drop start file), length-drop start file) in
    let b : length piece ≡ next - at = omega (arith, length-take (next - at) (drop at file), length-drop at file) in
    let c : length (take (next - start) (drop start file)) ≡ next - start = omega (arith, length-take (next - start) (drop start file), length-drop start file) in
    same_number_lists (front ++ piece) (take (next - start) (drop start file)) (omega (arith, length-append front piece, a, b, c)) (λ i h.
    let small : i < next - start = omega (arith, h, length-append front piece, a, b) in
    elim (cases_lt i (at - start)) [
      | inl before ↦
          get_or_append_left front piece 0 i (omega (arith, a, before))
          ∙ get_or-take (at - start) (drop start file) i 0 before
          ∙ sym (get_or-take (next - start) (drop start file) i 0 small)
      | inr after ↦ (
          let rest = i - (at - start) in
          let place : at + rest ≡ start + i = omega arith in
          get_or-append_right front piece (at - start) i 0 a after
          ∙ get_or-take (next - at) (drop at file) rest 0 (omega arith)
          ∙ get_or-drop at file rest 0
          ∙ ap (λ n. get_or file n 0) place
          ∙ sym (get_or-take (next - start) (drop start file) i 0 small ∙ get_or-drop start file i 0))
    ])

-- what was read of a file whose pages are due
abbrev pub ReadSoFar : DiskState → ActiveState → ℕ → ℕ → ℕ → ℕ → List ℕ → Type 0
ReadSoFar d view slot start at end bytes = (file : List ℕ) → HasPages (due_page view d) slot file → end ≤ length file → bytes ≡ take (at - start) (drop start file)

pub read-none : (d : DiskState) (view : ActiveState) (slot start end : ℕ) (bytes : List ℕ) → bytes ≡ [] → ReadSoFar d view slot start start end bytes
read-none d view slot start end bytes e file has within =
    let none : start - start ≡ 0 = omega arith in
    e ∙ sym (ap (λ n. take n (drop start file)) none)

-- one more piece
pub read-step : (d : DiskState) (view : ActiveState) (slot start at end page from to next : ℕ) (bytes more : List ℕ) → ReadSoFar d view slot start at end bytes → start ≤ at → at < end → page ≡ at / 4096 → from ≡ at - 4096 * page → to ≡ next - 4096 * page → next ≡ min end (4096 * page + 4096) → more ≡ bytes ++ take (to - from) (drop from (due_page view d slot page)) → ReadSoFar d view slot start next end more
read-step d view slot start at end page from to next bytes more so_far low high is from_is to_is next_is e file has within =
    let in_file : page < data_pages_of (length file) = omega arith in
    let size : to - from ≡ next - at = omega arith in
    let front : 4096 * page ≤ at = omega arith in
    let order : at ≤ next = omega arith in
    let back : next ≤ 4096 * page + 4096 = omega arith in
    let all : next ≤ length file = omega arith in
    e
    ∙ ap (λ p. bytes ++ take (to - from) (drop from p)) (has page in_file)
    ∙ ap (λ n. bytes ++ take n (drop from (page_of file page))) size
    ∙ ap (λ n. bytes ++ take (next - at) (drop n (page_of file page))) from_is
    ∙ ap (λ t. bytes ++ t) (page-piece file page at next front order back all)
    ∙ ap (λ b. b ++ take (next - at) (drop at file)) (so_far file has within)
    ∙ take-next file start at next low order all
