-- A page cut where its file ends is the part of the file's bytes.
use Rattle.std.proofs.Common.{◌≡◌, ℕ, ◌-◌, ◌*◌, ◌<◌, ◌≤◌, List, ◌++◌, length, take, drop, replicate, sym, ap, ◌∙◌, arith, append-nil}
use Rattle.std.proofs.lemmas.List.{length-drop, take_all}
use Rattle.std.proofs.Math.Seq.{take-append_seam}
use Rattle.vb_tree.specs.Contents.{page_of, part_of}

-- where a page of the bytes ends within them, it is their part
pub part-whole : (bytes given : List ℕ) (k : ℕ) → given ≡ page_of bytes k → 4096 ≤ length bytes - 4096 * k → given ≡ part_of (4096 * k) 4096 bytes
part-whole bytes given k is long =
    let rest = drop (4096 * k) bytes in
    let len = length-drop (4096 * k) bytes in
    let none : 4096 - length rest ≡ 0 = omega arith in
    is ∙ ap (λ (n : ℕ). take 4096 rest ++ replicate n 0) none ∙ append-nil (take 4096 rest)

-- and where it ends behind them, what of it is theirs is their part
pub part-cut : (bytes given : List ℕ) (k n : ℕ) → given ≡ page_of bytes k → n ≡ length bytes - 4096 * k → n < 4096 → take n given ≡ part_of (4096 * k) 4096 bytes
part-cut bytes given k n is rest_is short =
    let rest = drop (4096 * k) bytes in
    let len = length-drop (4096 * k) bytes in
    let all : take 4096 rest ≡ rest = take_all 4096 rest (omega arith) in
    let count : n ≡ length rest = omega arith in
    ap (take n) is
    ∙ ap (λ (xs : List ℕ). take n (xs ++ replicate (4096 - length rest) 0)) all
    ∙ ap (λ (m : ℕ). take m (rest ++ replicate (4096 - length rest) 0)) count
    ∙ take-append_seam rest (replicate (4096 - length rest) 0)
    ∙ sym all

pub ruleset cuts = (part-whole, part-cut)
