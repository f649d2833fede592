-- What `parse` gives for a word that is spelled as a number.
use Rattle.std.proofs.Common.{◌≡◌, ℕ, ◌<◌, ◌^◌, Bool, true, false, ◌&&◌, nat_le, nat_lt, List, length, Some, None, Result, Ok, Err, refl, inl, inr, arith, rules, if◌then◌else◌}
use Rattle.std.specs.Char.{is_ascii_digit}
use Rattle.std.specs.List.{list_all}
use Rattle.std.specs.Result.{result_ok, OkIff}
use Rattle.std.specs.Str.{IsUtf8}
use Rattle.std.specs.Str.Parse.{digits_value, ParsesUnsigned}
use Rattle.std.proofs.lemmas.Bool.{cases_lt}
use Rattle.std.proofs.lemmas.Bool.Decides.{nat_tests}
use Rattle.std.proofs.lemmas.Fmt.{IsAscii-from_digits}
use Rattle.std.proofs.lemmas.Str.{IsUtf8-from_ascii}
use Rattle.std.proofs.lemmas.Str.Parse.{IsDigitsTest, IsNumeralModel, numerals_by_value, parse_digits}
use Rattle.vb_script.specs.Words.{is_numeral, number_of}

tells : IsDigitsTest (λ ds. list_all is_ascii_digit ds ≡ true)
tells = search rules

own : IsNumeralModel (λ ds. list_all is_ascii_digit ds ≡ true) (digits_value 10)
own = numerals_by_value (λ ds. list_all is_ascii_digit ds ≡ true) tells

and_true : (a b : Bool) → (a && b) ≡ true → (a ≡ true) × (b ≡ true)
and_true true b h = (refl, h)
and_true false b h = cc

are_digits : (word : List ℕ) → is_numeral word ≡ true → list_all is_ascii_digit word ≡ true
are_digits word h = (and_true _ _ (and_true _ _ h).0).1

is_some : (word : List ℕ) → is_numeral word ≡ true → nat_le 1 (length word) ≡ true
is_some word h = (and_true _ _ (and_true _ _ (and_true _ _ h).0).0).0

-- digits are text
pub IsUtf8-numeral : (word : List ℕ) → is_numeral word ≡ true → IsUtf8 word
IsUtf8-numeral word h = IsUtf8-from_ascii word (IsAscii-from_digits word (own.to word (are_digits word h)))

of_parsed : {E : Type 0} (word : List ℕ) (r : Result ℕ E) → is_numeral word ≡ true → 0 < length word → OkIff r ((0 < length word) × (digits_value 10 word < 2 ^ 64)) (digits_value 10 word) → result_ok r ≡ (if is_numeral word && nat_lt (digits_value 10 word) (2 ^ 64) then Some (digits_value 10 word) else None)
of_parsed word (Ok x) numeral some h = rw numeral (grind (arith, nat_tests, h.0.1, h.1))
of_parsed word (Err e) numeral some h = rw numeral (elim (cases_lt (digits_value 10 word) (2 ^ 64)) [ inl w ↦ absurd (h (some, w)) | inr w ↦ grind (arith, nat_tests, w) ])

-- the number that digits parse as
pub number_of-parsed : {E : Type 0} (word : List ℕ) (r : Result ℕ E) → is_numeral word ≡ true → ParsesUnsigned 64 10 word r → result_ok r ≡ number_of word
unfolding number_of
number_of-parsed word r numeral h =
    let one = is_some word numeral in
    of_parsed word r numeral (grind (arith, nat_tests)) (parse_digits own 64 word r h (are_digits word numeral))
