-- Laws of numbers in bytes: how many bytes they take, and that the bytes tell them apart.
use Rattle.std.proofs.Common.{◌≡◌, ℕ, ◌<◌, ◌^◌, List, [], ◌++◌, length, take, drop, refl, sym, ap, ◌∙◌}
use Rattle.std.proofs.lemmas.List.{take_at, drop_at, take-append-drop}
use Rattle.byteorder.specs.Endian.{little_number}
use Rattle.byteorder.specs.Numbers.{little_number-reads_back}
use Rattle.vb_block.specs.Numbers.{two_bytes, four_bytes, eight_bytes}

pub length-two_bytes : (n : ℕ) → length (two_bytes n) ≡ 2
unfolding two_bytes
length-two_bytes n = refl

pub length-four_bytes : (n : ℕ) → length (four_bytes n) ≡ 4
unfolding four_bytes
length-four_bytes n = refl

pub length-eight_bytes : (n : ℕ) → length (eight_bytes n) ≡ 8
unfolding eight_bytes
length-eight_bytes n = refl

-- equally long fronts of the same bytes are one
pub fronts_same : (a b xs ys : List ℕ) → length a ≡ length b → a ++ xs ≡ b ++ ys → (a ≡ b) × (xs ≡ ys)
fronts_same a b xs ys len e = (
  sym (take_at a xs (length a) refl) ∙ ap (take (length a)) e ∙ take_at b ys (length a) (sym len),
  sym (drop_at a xs (length a) refl) ∙ ap (drop (length a)) e ∙ drop_at b ys (length a) (sym len),
)

-- two parts of a list make it up
pub parts_whole : (n : ℕ) (xs a b : List ℕ) → a ≡ take n xs → b ≡ drop n xs → xs ≡ a ++ b
parts_whole n xs a b front back = sym (take-append-drop n xs) ∙ ap (λ (t : List ℕ). t ++ drop n xs) (sym front) ∙ ap (λ (t : List ℕ). a ++ t) (sym back)

pub four_bytes_tell : (m n : ℕ) → m < 2 ^ 32 → n < 2 ^ 32 → four_bytes m ≡ four_bytes n → m ≡ n
unfolding four_bytes
four_bytes_tell m n lm ln e =
    sym (little_number-reads_back 4 m [] lm) ∙ ap (λ (bs : List ℕ). little_number 4 (bs ++ [])) e ∙ little_number-reads_back 4 n [] ln

pub eight_bytes_tell : (m n : ℕ) → m < 2 ^ 64 → n < 2 ^ 64 → eight_bytes m ≡ eight_bytes n → m ≡ n
unfolding eight_bytes
eight_bytes_tell m n lm ln e =
    sym (little_number-reads_back 8 m [] lm) ∙ ap (λ (bs : List ℕ). little_number 8 (bs ++ [])) e ∙ little_number-reads_back 8 n [] ln

-- the same bytes begin with one number
pub two_bytes_same : (m n : ℕ) (xs ys : List ℕ) → m < 2 ^ 16 → n < 2 ^ 16 → two_bytes m ++ xs ≡ two_bytes n ++ ys → (m ≡ n) × (xs ≡ ys)
unfolding two_bytes
two_bytes_same m n xs ys lm ln e =
    let p = fronts_same (two_bytes m) (two_bytes n) xs ys refl e in
    (sym (little_number-reads_back 2 m [] lm) ∙ ap (λ (bs : List ℕ). little_number 2 (bs ++ [])) p.0 ∙ little_number-reads_back 2 n [] ln, p.1)

pub four_bytes_same : (m n : ℕ) (xs ys : List ℕ) → m < 2 ^ 32 → n < 2 ^ 32 → four_bytes m ++ xs ≡ four_bytes n ++ ys → (m ≡ n) × (xs ≡ ys)
four_bytes_same m n xs ys lm ln e =
    let p = fronts_same (four_bytes m) (four_bytes n) xs ys (length-four_bytes m ∙ sym (length-four_bytes n)) e in (four_bytes_tell m n lm ln p.0, p.1)

pub eight_bytes_same : (m n : ℕ) (xs ys : List ℕ) → m < 2 ^ 64 → n < 2 ^ 64 → eight_bytes m ++ xs ≡ eight_bytes n ++ ys → (m ≡ n) × (xs ≡ ys)
eight_bytes_same m n xs ys lm ln e =
    let p = fronts_same (eight_bytes m) (eight_bytes n) xs ys (length-eight_bytes m ∙ sym (length-eight_bytes n)) e in (eight_bytes_tell m n lm ln p.0, p.1)
