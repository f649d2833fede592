-- The front of some bytes, by the tests in their order.
use Rattle.std.proofs.Common.{◌≡◌, ℕ, ◌<◌, ◌≤◌, ◌^◌, ◌+◌, Bool, true, false, not, ◌==◌, ◌&&◌, nat_lt, nat_le, cond, List, [], ◌∷◌, ◌++◌, length, get_or, Option, Some, None, Result, Ok, Err, refl, sym, ap, ◌∙◌, arith, inl, inr}
use Rattle.std.proofs.lemmas.Bool.{le-ltb, lt-ltb, ltb-false, ltb-true}
use Rattle.vb_msg.specs.declared.frame_error.FrameError.{FrameError}
use Rattle.vb_msg.specs.declared.frame_error.FrameError.TheVariants.{BadFrame, Short, Memory}
use Rattle.vb_msg.specs.Frames.{body_length, front_of, has_length, number_in}

-- the chain of tests of a front
abbrev chain : Bool → Bool → Bool → Bool → Bool → ℕ → Result ℕ FrameError
chain a b c d e len = cond a (Err Short) (cond b (Err BadFrame) (cond c (Err Short) (cond (not d) (Err BadFrame) (cond e (Err Short) (Ok len)))))

pub front-none : (bytes : List ℕ) → length bytes < 4 → front_of bytes ≡ Err Short
front-none bytes few = rw (lt-ltb (length bytes) 4 few) refl

pub front-long : (bytes : List ℕ) → 4 ≤ length bytes → 4096 < body_length bytes → front_of bytes ≡ Err BadFrame
front-long bytes four long = rw (le-ltb (length bytes) 4 four, lt-ltb 4096 (body_length bytes) long) refl

pub front-four : (bytes : List ℕ) → 4 ≤ length bytes → body_length bytes ≤ 4096 → length bytes < 5 → front_of bytes ≡ Err Short
front-four bytes four fits few = rw (le-ltb (length bytes) 4 four, le-ltb 4096 (body_length bytes) fits, lt-ltb (length bytes) 5 few) refl

pub front-kind : (bytes : List ℕ) → 5 ≤ length bytes → body_length bytes ≤ 4096 → has_length (number_in bytes) (body_length bytes) ≡ false → front_of bytes ≡ Err BadFrame
front-kind bytes five fits other = rw (le-ltb (length bytes) 4 (omega arith), le-ltb 4096 (body_length bytes) fits, le-ltb (length bytes) 5 five, other) refl

pub front-cut : (bytes : List ℕ) → 5 ≤ length bytes → body_length bytes ≤ 4096 → has_length (number_in bytes) (body_length bytes) ≡ true → length bytes < body_length bytes + 37 → front_of bytes ≡ Err Short
front-cut bytes five fits kind few = rw (le-ltb (length bytes) 4 (omega arith), le-ltb 4096 (body_length bytes) fits, le-ltb (length bytes) 5 five, kind, lt-ltb (length bytes) (body_length bytes + 37) few) refl

pub front-whole : (bytes : List ℕ) → body_length bytes ≤ 4096 → has_length (number_in bytes) (body_length bytes) ≡ true → body_length bytes + 37 ≤ length bytes → front_of bytes ≡ Ok (body_length bytes)
front-whole bytes fits kind whole = rw (le-ltb (length bytes) 4 (omega arith), le-ltb 4096 (body_length bytes) fits, le-ltb (length bytes) 5 (omega arith), kind, le-ltb (length bytes) (body_length bytes + 37) whole) refl

-- what is known where a whole frame is there
pub record IsWholeFront (bytes : List ℕ) (len : ℕ) : Type 0 where
  pub length_is : body_length bytes ≡ len
  pub few : len ≤ 4096
  pub kind : has_length (number_in bytes) len ≡ true
  pub there : len + 37 ≤ length bytes

chain-ok : (bytes : List ℕ) (a b c d e : Bool) (n len : ℕ) → chain a b c d e n ≡ Ok len → (b ≡ false) × (d ≡ true) × (e ≡ false) × (n ≡ len)
chain-ok bytes false false false true false n len is = (refl, refl, refl, cc)
chain-ok bytes true b c d e n len is = absurd cc
chain-ok bytes false true c d e n len is = absurd cc
chain-ok bytes false false true d e n len is = absurd cc
chain-ok bytes false false false false e n len is = absurd cc
chain-ok bytes false false false true true n len is = absurd cc

pub whole-front : (bytes : List ℕ) (len : ℕ) → front_of bytes ≡ Ok len → IsWholeFront bytes len
whole-front bytes len is =
    let tests = chain-ok bytes (nat_lt (length bytes) 4) (nat_lt 4096 (body_length bytes)) (nat_lt (length bytes) 5) (has_length (number_in bytes) (body_length bytes)) (nat_lt (length bytes) (body_length bytes + 37)) (body_length bytes) len is in
    let few = ltb-false 4096 (body_length bytes) tests.0 in
    let there = ltb-false (length bytes) (body_length bytes + 37) tests.2 in
    record {
      length_is = tests.3;
      few = omega (arith, few, tests.3);
      kind = sym (ap (has_length (number_in bytes)) tests.3) ∙ tests.1;
      there = omega (arith, there, tests.3);
    }
