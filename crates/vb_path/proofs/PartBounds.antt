-- What a part of a path is.
use Rattle.std.proofs.Common.{◌≡◌, ℕ, ◌≤◌, Bool, true, false, ◌&&◌, ◌==◌, List, length, Option, Some, None, refl}
use Rattle.std.specs.Prelude.{is_none, nat_lt}
use Rattle.std.proofs.lemmas.Bool.{false≢true, ltb-false}
use Rattle.vb_path.specs.declared.path.PathError.{PathError}
use Rattle.vb_path.specs.declared.path.PathError.TheVariants.{EmptyPart, DotPart, LongPart}
use Rattle.vb_path.specs.Paths.{bad_utf8_in, fault_if, is_dots, part_fault_of, zero_byte_in}
use Rattle.vb_path.specs.Parts.{is_part, slash_place_in, IsPart}
use Rattle.vb_path.proofs.ReadText.{fault_if-none}

first : (a b : Bool) → (a && b) ≡ true → a ≡ true
first true b e = refl
first false b e = absurd (false≢true e)

none_from_test : (o : Option PathError) → is_none o ≡ true → o ≡ None
none_from_test None e = refl
none_from_test (Some fault) e = absurd (false≢true e)

abbrev long_fault : List ℕ → Option PathError
long_fault bytes = fault_if (nat_lt 255 (length bytes)) (LongPart (length bytes)) None

abbrev dot_fault : List ℕ → Option PathError
dot_fault bytes = fault_if (is_dots bytes) DotPart (long_fault bytes)

-- a part has at most 255 bytes
pub length-part : (bytes : List ℕ) → IsPart bytes → length bytes ≤ 255
unfolding is_part
length-part bytes e =
    let form = is_none (part_fault_of bytes) in
    let utf8 = is_none (bad_utf8_in bytes) in
    let zeros = is_none (zero_byte_in bytes) in
    let slash = is_none (slash_place_in bytes) in
    let formed : form ≡ true = first form utf8 (first (form && utf8) zeros (first (form && utf8 && zeros) slash e)) in
    let none : part_fault_of bytes ≡ None = none_from_test (part_fault_of bytes) formed in
    let some = fault_if-none (length bytes == 0) EmptyPart (dot_fault bytes) none in
    let plain = fault_if-none (is_dots bytes) DotPart (long_fault bytes) some.1 in
    let short = fault_if-none (nat_lt 255 (length bytes)) (LongPart (length bytes)) None plain.1 in
    ltb-false 255 (length bytes) short.0
